-- The test over the whole table of powers.
-- Assumes nothing.
use mathlib.Core.Path.{sym}
use Rattle.aes.proofs.Powers.{powers, powers_are}
use Rattle.aes.proofs.tables.powers.Goals as goal

pub returns : goal.returns
unfolding powers
returns c = sym powers_are
