-- Each turn passes one more triple of bits.
-- Assumes nothing.
use Rattle.aes.specs.State.{at}
use Rattle.beside.specs.Fitness.{patterns, even}
use Rattle.beside.proofs.Walk.{Passed}
use Rattle.beside.proofs.fit.balanced.Given as goal

abbrev pub invariant-loop-x : goal.invariant-loop-x
invariant-loop-x l = Passed (λ a b c. even (patterns (at l.masks) a b c)) l.x l.y l.z

abbrev pub invariant-loop-y : goal.invariant-loop-y
invariant-loop-y l = Passed (λ a b c. even (patterns (at l.masks) a b c)) 0 l.y l.z

abbrev pub invariant-loop-z : goal.invariant-loop-z
invariant-loop-z l = Passed (λ a b c. even (patterns (at l.masks) a b c)) 0 0 l.z
