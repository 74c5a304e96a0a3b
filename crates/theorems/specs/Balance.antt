-- Balance: over the sixteen offsets, any three bits of a byte show each of their eight patterns twice.
-- Assumes nothing.
use Rattle.std.specs.Prelude.{◌≡◌, Bool, true, false, not, cond, ◌&&◌, List, [], ◌∷◌, ℕ, ◌+◌, ◌<◌, eqb, T}
use Rattle.aes.specs.Record.{Point, block, keyed, boxed, shifted, mixed, compensated, closed, uncovered}
use Rattle.runs.specs.Back.{Back}
use Rattle.runs.specs.Back as back
use Rattle.beside.specs.Fitness.{patterns, count}

-- at how many of the sixteen offsets the bits x, y and z of f show the pattern t
abbrev pub times : (ℕ → ℕ) → ℕ → ℕ → ℕ → ℕ → ℕ
times f x y z t = count t (patterns f x y z)

unfoldable pub different : ℕ → ℕ → ℕ → Bool
different x y z = not (eqb x y) && not (eqb y z) && not (eqb x z)

-- f gives a byte for each offset
pub record Balanced (f : ℕ → ℕ) : Type 0 where
  pub twice : (x y z t : ℕ) → x < 8 → y < 8 → z < 8 → T (different x y z) → t < 8 → times f x y z t ≡ 2

-- the points of an encryption, and of a decryption, at which one mask covers each byte: all but the outputs of MIXCOLUMNS, or of
-- INVMIXCOLUMNS, and the finished block
unfoldable pub single : Point → Bool
single block = true
single (keyed r) = true
single (boxed r) = true
single (shifted r) = true
single (mixed r) = false
single (compensated r) = true
single (closed r) = true
single (uncovered r) = false

unfoldable pub single_back : Back → Bool
single_back back.block = true
single_back (back.keyed r) = true
single_back (back.unshifted r) = true
single_back (back.corrected r) = true
single_back (back.unboxed r) = true
single_back (back.unmixed r) = false
single_back (back.restored r) = true
single_back (back.uncovered r) = false

-- at how many of the points it is so
unfoldable pub how_many : {P : Type 0} → (P → Bool) → List P → ℕ
how_many so [] = 0
how_many so (p ∷ ps) = cond (so p) 1 0 + how_many so ps
