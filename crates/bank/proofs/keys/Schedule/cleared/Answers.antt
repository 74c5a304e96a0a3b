-- Assumes nothing.
use mathlib.Core.Path.{refl}
use Rattle.aes.specs.Byte.{table}
use Rattle.bank.specs.Calls.{cleared}
use Rattle.bank.proofs.keys.Schedule.cleared.Goals as goal

pub returns : goal.returns
unfolding cleared table
returns c =
    refl
