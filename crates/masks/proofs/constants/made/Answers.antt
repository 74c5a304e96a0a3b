-- After the first four each turn fills one row more.
-- Assumes nothing.
use mathlib.Core.Path.{◌≡◌, sym, ◌∙◌}
use Prim.Native.Nat.{ℕ, ◌+◌, ◌-◌, ◌*◌, ◌%◌, ◌≤◌}
use native.Mathlib.Omega.{arith}
use lib.Dec.{lit≤}
use Rattle.aes.specs.Byte.{table}
use Rattle.aes.proofs.Fill.{filled_all}
use Rattle.masks.specs.Mask.{one}
use Rattle.masks.proofs.Columns.{first_four, all_sixteen, twelve, four}
use Rattle.masks.proofs.Copied.{filled_within}
use Rattle.masks.proofs.Turned.{holds_filled}
use Rattle.masks.proofs.constants.made.Goals as goal

pub loop-n-init : goal.loop-n-init
loop-n-init c = let a = c.args in holds_filled (lit≤ tt) (rw (first_four a.kind a.masks (one 0)) at c.first_four.ensures)

pub loop-n-preserved : goal.loop-n-preserved
loop-n-preserved c =
    let a = c.args in
    let y : ℕ = 16 * c.loop-n.n in
    let least : 64 ≤ y = omega (arith, c.loop-n.auto.n) in
    let room : y + 16 ≤ 256 = omega (arith, c.loop-n-test.true) in
    let row : y % 16 ≡ 0 = omega arith in
    let next : y + 12 + 4 ≡ 16 * (c.loop-n.n + 1) = omega arith in
    rw next at (filled_within (y + 12) (y - 64) (y - 60) 4
    (filled_within y (y - 60) (y - 48) 12 c.loop-n.invariant c.copy_within.ensures.after (omega (arith, least)) (omega arith) (omega (arith, room)) (λ i. twelve a.kind a.masks y i least row))
    c.copy_within-in-loop-n.ensures.after (omega (arith, least)) (omega arith) (omega (arith, room)) (λ i. four a.kind a.masks y i least row))

pub returns : goal.returns
unfolding table
returns c =
    let a = c.args in
    filled_all c.loop-n.invariant (omega (arith, c.loop-n-test.false)) ∙ sym (all_sixteen a.kind a.masks (one 0))
