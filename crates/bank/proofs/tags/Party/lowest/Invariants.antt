-- The search for a free number passes one a turn.
-- Assumes nothing.
use lib.Dec.{eqb}
use Rattle.aes.specs.Byte.{place}
use Rattle.bank.specs.Places.{tag}
use Rattle.bank.proofs.Walk.{First}
use Rattle.bank.proofs.tags.Party.lowest.Given as goal

abbrev pub invariant-loop-n : goal.invariant-loop-n
invariant-loop-n l = First (λ k. eqb (place (tag l.self.id k) l.tags) 16) 12 l.n
