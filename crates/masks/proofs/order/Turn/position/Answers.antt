-- An entry of the list is a position in a state.
-- Assumes nothing.
use mathlib.Core.Path.{◌≡◌, ap, ◌∙◌}
use mathlib.Core.List.{List}
use Prim.Native.Nat.{ℕ}
use Rattle.aes.specs.State.{at}
use Rattle.masks.specs.Order.{box_order}
use Rattle.masks.proofs.Ordered.{order_below}
use Rattle.masks.proofs.order.Turn.position.Goals as goal

pub returns : goal.returns
returns c =
    let turn = c.args.self.now in
    let e : c.listed.result.0 ≡ at box_order turn.called = c.listed.ensures ∙ ap (λ (l : List ℕ). at l turn.called) turn.as_listed in
    (e, rw e (order_below turn.called turn.in_list))
