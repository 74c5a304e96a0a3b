-- Each turn copies one more byte.
-- Assumes nothing.
use mathlib.Core.Path.{refl}
use borrow.Author.Rules.{rules}
use Rattle.aes.proofs.Fill.{filled_none, filled_more, filled_copy}
use Rattle.cbc.proofs.chain.copy.Goals as goal

pub loop-i-init : goal.loop-i-init
loop-i-init c = filled_none c.requires

pub loop-i-preserved : goal.loop-i-preserved
loop-i-preserved c = filled_more c.loop-i.invariant (search rules) refl

pub returns : goal.returns
returns c = filled_copy c.loop-i.invariant (search rules)
