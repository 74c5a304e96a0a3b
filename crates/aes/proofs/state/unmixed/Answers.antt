-- Column by column.
-- Assumes nothing.
use Rattle.aes.specs.State.{inv_mix_columns}
use Rattle.aes.proofs.Columns.{columns_are}
use Rattle.aes.proofs.state.unmixed.Goals as goal

pub returns : goal.returns
unfolding inv_mix_columns
returns c = search (columns_are 14 11 13 9 c.args.s c.joined.result)
