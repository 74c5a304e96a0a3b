-- After n turns the boxes of n labels stand in the array.
-- Assumes nothing.
use mathlib.Core.List.{List}
use mathlib.Core.Path.{◌≡◌}
use Prim.Native.Nat.{ℕ}
use lib.ListN.{length}
use Rattle.aes.specs.Byte.{table}
use Rattle.aes.specs.Held.{Holds}
use Rattle.masks.specs.Mask.{in_row, masked_box}
use Rattle.masks.proofs.boxes.filled.Given as goal

abbrev pub box : (ℕ → ℕ) → List ℕ → ℕ → ℕ → List ℕ
box S M d j = table (masked_box S M d j) 256

abbrev pub invariant-loop-n : goal.invariant-loop-n
invariant-loop-n l = (length l.boxes ≡ 4096) × ((S : ℕ → ℕ) → l.lent ≡ table S 256 → Holds 4096 (in_row (box S l.masks l.step) l.n) l.boxes)
