-- A number above 11 is nobody's.
-- Assumes nothing.
use borrow.Author.Tests.{le-leb, lt-leb}
use Rattle.bank.specs.Places.{loaded_at}
use Rattle.bank.proofs.Walk.{found}
use Rattle.bank.proofs.tags.Party.loaded_at.Goals as goal

pub returns-then-number-gt11 : goal.returns-then-number-gt11
unfolding loaded_at
returns-then-number-gt11 c = simp (lt-leb _ 11 c.if-number-gt11.true)

pub returns : goal.returns
unfolding loaded_at
returns c = simp (le-leb _ 11 c.if-number-gt11.false, ← c.tag.ensures) (found _ _ c.told-tags c.place_of.ensures)
