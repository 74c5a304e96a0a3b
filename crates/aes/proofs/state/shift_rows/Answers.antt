-- The places are those of the rule.
-- Assumes nothing.
use Rattle.aes.specs.State.{shift_rows}
use Rattle.aes.proofs.state.shift_rows.Goals as goal

pub returns : goal.returns
unfolding shift_rows
returns c =
    c.moved.ensures
