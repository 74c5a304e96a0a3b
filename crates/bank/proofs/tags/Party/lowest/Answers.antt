-- The search for a free number passes one a turn.
-- Assumes nothing.
use mathlib.Core.Path.{sym}
use native.Mathlib.Omega.{arith}
use Rattle.bank.specs.Places.{lowest}
use Rattle.bank.proofs.Walk.{first_here, first_on, first_all, found, at_none, at_some}
use Rattle.bank.proofs.tags.Party.lowest.Goals as goal

pub loop-n-preserved : goal.loop-n-preserved
loop-n-preserved c = first_on c.loop-n.invariant c.loop-n-test.true (at_some _ _ _ c.tag.ensures _ (found _ _ c.told-tags c.place_of.ensures) c.if-is_none.ensures)

pub returns-then-is_none : goal.returns-then-is_none
unfolding lowest
returns-then-is_none c = (sym (first_here c.loop-n.invariant c.loop-n-test.true (at_none _ _ _ c.tag.ensures _ (found _ _ c.told-tags c.place_of.ensures) c.if-is_none.ensures)), omega arith)

pub returns : goal.returns
unfolding lowest
returns c = (sym (first_all c.loop-n.invariant c.loop-n-test.false), omega arith)
