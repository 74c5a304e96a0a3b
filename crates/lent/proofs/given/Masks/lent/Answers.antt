-- Sixteen bytes are all of sixteen.
-- Assumes nothing.
use mathlib.Core.Path.{◌∙◌}
use Rattle.lent.proofs.Whole.{all_sixteen}
use Rattle.lent.proofs.given.Masks.lent.Goals as goal

pub returns : goal.returns
returns c =
    let a = c.args in
    let bytes = c.sixteen.ensures ∙ all_sixteen a.masks.now c.requires in
    λ i. record { bytes = bytes i; step = a.step; start = a.start }
