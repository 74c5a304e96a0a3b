-- Each turn passes one more triple of bits.
-- Assumes nothing.
use mathlib.Core.Path.{◌≡◌, sym, ◌∙◌}
use native.Mathlib.Omega.{arith}
use Rattle.beside.specs.Fitness.{balanced}
use Rattle.beside.proofs.Walk.{first, next_x, next_y, next_z, failed}
use Rattle.beside.proofs.fit.balanced.Goals as goal

pub loop-z-init : goal.loop-z-init
loop-z-init c = first _

pub returns-then-not-even : goal.returns-then-not-even
unfolding balanced
returns-then-not-even c =
    sym (failed _ _ _ _ c.loop-x-test.true c.loop-y-test.true c.loop-z-test.true (sym c.even.ensures ∙ c.if-not-even.true))

pub loop-x-preserved : goal.loop-x-preserved
loop-x-preserved c = next_x c.loop-x.invariant (sym c.even.ensures ∙ c.if-not-even.false)

pub loop-y-preserved : goal.loop-y-preserved
loop-y-preserved c =
    let end : c.loop-x.x ≡ c.loop-y.y = omega (arith, c.loop-x.auto.x-end, c.loop-x-test.false) in
    next_y c.loop-x.invariant end

pub loop-z-preserved : goal.loop-z-preserved
loop-z-preserved c =
    let end : c.loop-y.y ≡ c.loop-z.z = omega (arith, c.loop-y.auto.y-end, c.loop-y-test.false) in
    next_z c.loop-y.invariant end

pub returns : goal.returns
unfolding balanced
returns c =
    let same : c.loop-z.z ≡ 8 = omega (arith, c.loop-z.auto.z-end, c.loop-z-test.false) in
    sym (rw same at c.loop-z.invariant.lower_z)
