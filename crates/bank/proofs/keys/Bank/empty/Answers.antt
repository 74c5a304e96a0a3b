-- Assumes nothing.
use Rattle.bank.specs.Calls.{empty_bank}
use Rattle.bank.proofs.keys.Bank.empty.Goals as goal

pub returns : goal.returns
unfolding empty_bank
returns c = rw c.cleared.ensures
