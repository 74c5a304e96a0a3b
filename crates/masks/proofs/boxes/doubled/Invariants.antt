-- Each turn of the inner loop fills one more byte with what f has there, and each of the outer one a row.
-- Assumes nothing.
use mathlib.Core.List.{List}
use mathlib.Core.Path.{◌≡◌}
use Prim.Native.Nat.{ℕ, ◌+◌, ◌*◌}
use lib.ListN.{length}
use Rattle.aes.proofs.Fill.{Filled}
use Rattle.masks.specs.Parts.{Exchanged}
use Rattle.masks.proofs.boxes.doubled.Given as goal

-- xs has become ys, of which the first i entries are those of f
abbrev pub Doubled : ℕ → ℕ → List ℕ → List ℕ → Type 0
Doubled k i xs ys = (length ys ≡ 4096) × ((f : ℕ → ℕ) → Filled f 4096 (256 * k) xs → Exchanged k (256 * k) f → Filled f 4096 i ys)

abbrev pub invariant-loop-i : goal.invariant-loop-i
invariant-loop-i g l = Doubled g.row.K (l.end + l.y + l.i) l.fn.r l.r

abbrev pub invariant-loop-n : goal.invariant-loop-n
invariant-loop-n g l = Doubled g.row.K (l.end + 16 * l.n) l.fn.r l.r
