-- Each turn of the inner loop fills one more byte, and each of the outer one a row.
-- Assumes nothing.
use mathlib.Core.Path.{◌≡◌}
use Prim.Native.Nat.{ℕ, ◌+◌, ◌*◌}
use Rattle.aes.specs.Byte.{◌⊕◌, table}
use Rattle.aes.proofs.Fill.{Filled}
use Rattle.masks.specs.Parts.{turned_table}
use Rattle.masks.proofs.boxes.fill.Given as goal

abbrev pub covered : (ℕ → ℕ) → ℕ → ℕ → ℕ → ℕ
covered f m to x = f (x ⊕ m) ⊕ to

abbrev pub invariant-loop-i : goal.invariant-loop-i
invariant-loop-i l = (f : ℕ → ℕ) → l.tables ≡ table (turned_table f) 4096 → Filled (covered f l.from l.to) 256 (16 * l.b + l.i) l.part

abbrev pub invariant-loop-b : goal.invariant-loop-b
invariant-loop-b l = (f : ℕ → ℕ) → l.tables ≡ table (turned_table f) 4096 → Filled (covered f l.from l.to) 256 (16 * l.b) l.part
