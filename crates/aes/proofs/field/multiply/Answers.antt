-- 00 where a factor is 00; else the power at the sum of the logarithms modulo 255.
-- Assumes nothing.
use mathlib.Core.Path.{sym, ◌∙◌}
use native.Mathlib.Nat.{pos_of_ne-zero}
use native.Mathlib.Omega.{arith}
use Rattle.aes.proofs.FieldLaws.{product_zero_left, product_zero_right}
use Rattle.aes.proofs.Powers.{logarithm-below, product_by_logarithms}
use Rattle.aes.proofs.field.multiply.Goals as goal

pub returns-then-a-eq0 : goal.returns-then-a-eq0
returns-then-a-eq0 c = rw c.if-a-eq0.true (sym (product_zero_left _))

pub returns-then-b-eq0 : goal.returns-then-b-eq0
returns-then-b-eq0 c = rw c.if-b-eq0.true (sym (product_zero_right _))

pub overflow_add-i : goal.overflow_add-i
overflow_add-i c =
    let a-below = logarithm-below c.args.a (pos_of_ne-zero c.if-a-eq0.false) c.ranges.a.fits in
    let b-below = logarithm-below c.args.b (pos_of_ne-zero c.if-b-eq0.false) c.ranges.b.fits in
    omega (arith, a-below, b-below)

pub returns : goal.returns
returns c =
    c.power_at.ensures
    ∙ rw (c.logarithm_in-i.ensures, c.logarithm_in-j.ensures)
    (product_by_logarithms c.args.a c.args.b (pos_of_ne-zero c.if-a-eq0.false) c.ranges.a.fits (pos_of_ne-zero c.if-b-eq0.false)
    c.ranges.b.fits)
