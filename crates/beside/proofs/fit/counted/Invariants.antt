-- Each turn counts the pattern of one more mask.
-- Assumes nothing.
use mathlib.Core.Path.{◌≡◌}
use mathlib.Core.List.{List}
use Prim.Native.Nat.{ℕ}
use Rattle.aes.specs.State.{at}
use Rattle.beside.specs.Fitness.{pattern}
use Rattle.beside.specs.Counts.{counted}
use Rattle.beside.proofs.fit.counted.Given as goal

-- what mask k shows
abbrev pub shown : List ℕ → ℕ → ℕ → ℕ → ℕ → ℕ
shown masks x y z k = pattern x y z (at masks k)

abbrev pub invariant-loop-m : goal.invariant-loop-m
invariant-loop-m l = l.counts ≡ counted (shown l.masks l.x l.y l.z) l.m-index
