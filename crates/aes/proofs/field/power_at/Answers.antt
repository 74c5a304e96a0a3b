-- The table's entry is the power.
-- Assumes nothing.
use borrow.Author.Rules.{rules}
use Rattle.aes.specs.Field.{power}
use Rattle.aes.proofs.Listed.{table_at}
use Rattle.aes.proofs.field.power_at.Goals as goal

pub returns : goal.returns
returns c = rw c.powers-powers.ensures (table_at power 255 c.args.n (search rules))
