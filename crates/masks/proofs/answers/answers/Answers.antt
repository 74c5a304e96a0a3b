-- Each call fills one more byte, at the next position of the order, by the box over it. Behind the last there is no turn.
-- Assumes nothing.
use mathlib.Core.Path.{◌≡◌, refl, ap, ◌∙◌}
use Prim.Native.Nat.{ℕ, ◌+◌}
use native.Mathlib.Omega.{arith}
use Rattle.std.specs.Prelude.{Option, Some, None, MatchOption}
use Rattle.aes.specs.State.{at}
use Rattle.aes.proofs.Undo.{state-at}
use Rattle.masks.specs.declared.order.Turn.{Turn}
use Rattle.masks.specs.Order.{boxed_by, places_at}
use Rattle.masks.proofs.Ordered.{Called, called_more, called_all}
use Rattle.masks.proofs.answers.answers.Invariants.{before}
use Rattle.masks.proofs.answers.answers.Goals as goal

one_more : (next : Option Turn) (k : ℕ) → MatchOption next (k ≡ 15) (λ turn. turn.called ≡ k + 1) → before next ≡ k + 1
one_more None k last = omega (arith, last)
one_more (Some turn) k counted = counted

all_called : (turn : Option Turn) → ((t : Turn) → turn ≡ Some t → ⊥) → before turn ≡ 16
all_called None none = refl
all_called (Some t) none = absurd (none t refl)

pub loop-turn-preserved : goal.loop-turn-preserved
loop-turn-preserved c =
    let turn = c.in-Some.next in
    let a = c.args in
    let held : Called (at (boxed_by a.boxes.now (places_at a.places.now a.l.0) a.s)) turn.called c.loop-turn.t = rw (ap before c.in-Some.is) at c.loop-turn.invariant in
    rw (c.call-turn.ensures.answered, one_more c.call-turn.result turn.called c.call-turn.ensures.followed) (called_more held turn.in_list _ _ refl refl)

pub returns : goal.returns
unfolding boxed_by
returns c = called_all c.loop-turn.invariant (omega (arith, all_called c.loop-turn.turn c.in_default.not-Some)) ∙ state-at _ refl
