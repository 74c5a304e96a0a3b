-- Each turn fills one more byte.
-- Assumes nothing.
use mathlib.Core.Path.{refl, ◌∙◌}
use borrow.Author.Rules.{rules}
use Rattle.aes.proofs.Undo.{state-at}
use Rattle.aes.proofs.Fill.{filled_none, filled_more, filled_all}
use Rattle.masks.proofs.constants.laid.Goals as goal

pub loop-i-init : goal.loop-i-init
loop-i-init c = filled_none (search rules)

pub loop-i-preserved : goal.loop-i-preserved
loop-i-preserved c = filled_more c.loop-i.invariant (search rules) refl

pub returns : goal.returns
returns c = filled_all c.loop-i.invariant (search rules) ∙ state-at _ (search rules)
