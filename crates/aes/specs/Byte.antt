-- Bytes and tables. A byte is a number below 256; its bits are counted from 0, the lowest.
-- Assumes nothing.
use Rattle.std.specs.Prelude.{Bool, true, false, ◌&&◌, List, [], ◌∷◌, ℕ, zero, suc, ◌+◌, ◌*◌, ◌/◌, ◌%◌, ◌^◌, eqb}
use Rattle.std.specs.Int.Bits.{bit_xor}

-- the sum of two bytes (FIPS 197, 4.1): exclusive or, bit by bit
infixl 68 ◌⊕◌
abbrev pub ◌⊕◌ : ℕ → ℕ → ℕ
a ⊕ b = bit_xor a b

-- bit i of b
abbrev pub bit : ℕ → ℕ → ℕ
bit b i = b / 2 ^ i % 2

-- the number whose bit i is f i, for each i below n
unfoldable pub from_bits : ℕ → (ℕ → ℕ) → ℕ
from_bits zero f = 0
from_bits (suc n) f = from_bits n f + f n * 2 ^ n

-- f i, f (i + 1), .., n entries
abbrev pub listed : (ℕ → ℕ) → ℕ → ℕ → List ℕ
listed f i zero = []
listed f i (suc n) = f i ∷ listed f (suc i) n

-- the table of f: f 0, f 1, .. f (n - 1)
unfoldable pub table : (ℕ → ℕ) → ℕ → List ℕ
table f n = listed f 0 n

-- where x first stands in a table, counted from 0; the table's length where it does not
unfoldable pub place : ℕ → List ℕ → ℕ
place x [] = 0
place x (y ∷ ys) = elim (eqb y x) [ true ↦ 0 | false ↦ suc (place x ys) ]

-- p holds of all numbers below n
unfoldable pub below : ℕ → (ℕ → Bool) → Bool
below zero p = true
below (suc n) p = p n && below n p
