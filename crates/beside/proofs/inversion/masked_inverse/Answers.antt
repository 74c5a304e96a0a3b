-- The three places first, and past them the quotients.
-- Assumes nothing.
use mathlib.Core.Path.{◌∙◌}
use native.Mathlib.Nat.{pos_of_ne-zero}
use Rattle.beside.proofs.MaskedInversion.{mask_zero, bare_zero, covered_zero, by_quotients}
use Rattle.beside.proofs.inversion.masked_inverse.Goals as goal

pub returns-then-r-eq0 : goal.returns-then-r-eq0
returns-then-r-eq0 c = c.inverse.ensures ∙ rw c.if-r-eq0.true (mask_zero _)

pub returns-then-x-r : goal.returns-then-x-r
returns-then-x-r c = rw c.if-x-r.true (bare_zero _)

pub returns-then-x-eq0 : goal.returns-then-x-eq0
returns-then-x-eq0 c = rw (c.inverse-then-x-eq0.ensures, c.if-x-eq0.true) (covered_zero _)

pub returns : goal.returns
returns c =
    c.quotient.ensures
    ∙ rw (c.multiply.ensures, c.inverse-mask_over_bare.ensures, c.quotient-bare_over_mask.ensures)
    (by_quotients c.args.x c.args.r (pos_of_ne-zero c.if-x-eq0.false) c.ranges.x.fits
    (pos_of_ne-zero c.if-r-eq0.false) c.ranges.r.fits c.if-x-r.false)
