-- At other offsets they are worked out of the masks over a state.
-- Assumes nothing.
use mathlib.Core.Path.{ap, ◌∙◌}
use Rattle.masks.specs.Mask.{compensation, constants_of}
use Rattle.masks.proofs.Rows.{constants-covered}
use Rattle.lent.specs.Started.{offsets_of}
use Rattle.lent.proofs.given.Masks.compensated.Goals as goal

pub returns-in-Some : goal.returns-in-Some
returns-in-Some c =
    let m = c.args.self in
    c.of_covers.ensures ∙ ap (constants_of compensation) c.requires.0 ∙ constants-covered compensation m.bytes (offsets_of m)
