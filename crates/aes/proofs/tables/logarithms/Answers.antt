-- The test over the whole table of logarithms.
-- Assumes nothing.
use mathlib.Core.Path.{sym}
use Rattle.aes.specs.Byte.{table, place}
use Rattle.aes.proofs.Powers.{powers, logarithms_are}
use Rattle.aes.proofs.tables.logarithms.Goals as goal

pub returns : goal.returns
unfolding table place powers
returns c = sym logarithms_are
