-- After each turn one round more is whole.
-- Assumes nothing.
use mathlib.Core.Path.{◌≡◌, refl, ap, ◌∙◌}
use Prim.Native.Nat.{ℕ, ◌+◌, ◌≤◌, ◌<◌}
use native.Mathlib.Omega.{arith}
use Rattle.lent.proofs.Owned.{field_bytes}
use Rattle.runs.proofs.Rounds.{begun, round_more, run_is}
use Rattle.runs.proofs.run.unrecorded.Goals as goal

pub loop-init : goal.loop-init
loop-init c = rw c.cover-s.ensures (refl, begun c.args.w.now c.args.t.now _ refl)

pub loop-preserved : goal.loop-preserved
loop-preserved c =
    let l = c.loop in
    rw (c.rest-s.ensures, c.half-u.ensures) (ap (λ (r : ℕ). r + 1) l.invariant.0, round_more c.args.w.now c.args.t.now c.cover-s.result l.s l.invariant.1)

-- the loop leaves one round
one_left : (r : ℕ) {k e n : ℕ} → r + 1 ≡ k → (1 ≤ e → k ≤ e) → e ≤ k → e ≡ n → 0 < n → r + 1 ≡ n
one_left r h le ge e some = omega (arith, h, le, ge, e, some)

pub returns : goal.returns
returns c =
    let a = c.args in
    let l = c.loop in
    let over = one_left l.s.round.0 l.invariant.0 l.auto.counter-end c.loop-test.false c.rounds-end.ensures a.w.now.some in
    rw (c.add_key-v.ensures, c.half-u-2.ensures) at c.uncover.ensures
    ∙ run_is a.w.now a.t.now (field_bytes {xs = a.block.0} c.well_formed.0.1.1.0) a.first c.cover-s.result l.s c.cover-s.ensures l.invariant.1 over
