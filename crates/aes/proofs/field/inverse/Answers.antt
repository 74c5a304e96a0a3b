-- 00 for 00; else the power at the logarithm taken from 255.
-- Assumes nothing.
use mathlib.Core.Path.{sym, ◌∙◌}
use native.Mathlib.Nat.{pos_of_ne-zero}
use native.Mathlib.Omega.{arith}
use Rattle.aes.proofs.Powers.{logarithm-below}
use Rattle.aes.proofs.Inverses.{inverse_zero, inverse_by_logarithm}
use Rattle.aes.proofs.field.inverse.Goals as goal

pub returns-then-b-eq0 : goal.returns-then-b-eq0
returns-then-b-eq0 c = rw c.if-b-eq0.true (sym inverse_zero)

pub overflow_sub-i : goal.overflow_sub-i
overflow_sub-i c =
    omega (arith, logarithm-below c.args.b (pos_of_ne-zero c.if-b-eq0.false) c.ranges.b.fits)

pub returns : goal.returns
returns c =
    c.power_at.ensures ∙ rw c.logarithm_in-i.ensures (inverse_by_logarithm c.args.b (pos_of_ne-zero c.if-b-eq0.false) c.ranges.b.fits)
