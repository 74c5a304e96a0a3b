-- Each turn passes one offset more that is in range.
-- Assumes nothing.
use mathlib.Core.Path.{refl}
use borrow.Author.Rules.{rules}
use borrow.Author.Tests.{le-leb, lt-leb}
use lib.Dec.{leb}
use lib.ListN.{length}
use Rattle.aes.specs.Byte.{below}
use Rattle.aes.specs.State.{at}
use Rattle.aes.proofs.Below.{below_more, below_not}
use Rattle.masked.proofs.calls.chosen.check.Goals as goal

pub loop-offset-init : goal.loop-offset-init
unfolding below
loop-offset-init c = refl

pub returns-then-offset-gt15 : goal.returns-then-offset-gt15
returns-then-offset-gt15 c =
    let a = c.args in
    simp (below_not (λ j. leb (at a.offsets.now j) 15) (length a.offsets.now) c.loop-offset.offset-index c.loop-offset-test.true (lt-leb _ 15 (search rules)))

pub loop-offset-preserved : goal.loop-offset-preserved
loop-offset-preserved c = below_more _ c.loop-offset.offset-index c.loop-offset.invariant (le-leb _ 15 (search rules))
