-- Column by column.
-- Assumes nothing.
use Rattle.aes.proofs.Columns.{sums_are}
use Rattle.aes.proofs.state.add.Goals as goal

pub returns : goal.returns
returns c =
    let a = c.args in
    search (sums_are a.a a.b c.joined.result)
