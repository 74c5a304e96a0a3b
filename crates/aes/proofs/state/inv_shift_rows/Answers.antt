-- The places are those of the rule.
-- Assumes nothing.
use Rattle.aes.specs.State.{inv_shift_rows}
use Rattle.aes.proofs.state.inv_shift_rows.Goals as goal

pub returns : goal.returns
unfolding inv_shift_rows
returns c =
    c.moved.ensures
