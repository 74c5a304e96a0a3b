-- Each turn fills one more byte.
-- Assumes nothing.
use mathlib.Core.Path.{refl}
use borrow.Author.Rules.{rules}
use Rattle.aes.specs.Key.{round_key}
use Rattle.aes.proofs.Fill.{filled_none, filled_more, filled_all}
use Rattle.masks.proofs.constants.cover.Goals as goal

pub loop-i-init : goal.loop-i-init
unfolding round_key
loop-i-init c =
    filled_none refl

pub loop-i-preserved : goal.loop-i-preserved
unfolding round_key
loop-i-preserved c =
    filled_more c.loop-i.invariant (search rules) refl

pub returns : goal.returns
unfolding round_key
returns c =
    filled_all c.loop-i.invariant (search rules)
