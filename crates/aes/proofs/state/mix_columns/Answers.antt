-- Column by column.
-- Assumes nothing.
use Rattle.aes.specs.State.{mix_columns}
use Rattle.aes.proofs.Columns.{columns_are}
use Rattle.aes.proofs.state.mix_columns.Goals as goal

pub returns : goal.returns
unfolding mix_columns
returns c = search (columns_are 2 3 1 1 c.args.s c.joined.result)
