-- Each turn looks at one offset more.
-- Assumes nothing.
use mathlib.Core.Path.{◌≡◌}
use mathlib.Core.Bool.{Bool}
use mathlib.Core.List.{List}
use Prim.Native.Nat.{ℕ, ◌+◌, ◌%◌}
use lib.Dec.{eqb}
use Rattle.aes.specs.Byte.{below}
use Rattle.aes.specs.State.{at}
use Rattle.lent.proofs.given.is_one.Given as goal

abbrev pub so : List ℕ → ℕ → ℕ → Bool
so v o i = eqb (at v i) ((o + i) % 16)

abbrev pub invariant-loop-i : goal.invariant-loop-i
invariant-loop-i l = l.r ≡ below l.i (so l.v l.o)
