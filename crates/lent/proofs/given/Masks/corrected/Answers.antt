-- At other offsets they are worked out of the masks over a state.
-- Assumes nothing.
use mathlib.Core.Path.{ap, ◌∙◌}
use Rattle.masks.specs.Mask.{after_rows, after_columns, constants_of}
use Rattle.masks.proofs.Rows.{constants-covered}
use Rattle.lent.specs.Started.{offsets_of}
use Rattle.lent.proofs.given.Masks.corrected.Goals as goal

pub returns-in-Some : goal.returns-in-Some
returns-in-Some c =
    let m = c.args.self in
    let v = offsets_of m in (
      c.corrections_of.ensures.0 ∙ ap (constants_of after_rows) c.requires.0 ∙ constants-covered after_rows m.bytes v,
      c.corrections_of.ensures.1 ∙ ap (constants_of after_columns) c.requires.0 ∙ constants-covered after_columns m.bytes v,
    )
