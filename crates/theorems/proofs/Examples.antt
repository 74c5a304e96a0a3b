-- Twelve examples in one table, in hex, and one statement over all of it: each row holds.
-- Assumes nothing.
use mathlib.Core.Path.{◌≡◌, refl}
use mathlib.Core.List.{List, [], ◌∷◌, map}
use Prim.Native.Nat.{ℕ}
use lib.ListN.{length, take}
use Rattle.aes.specs.Byte.{from_bits}
use Rattle.aes.specs.Field.{◌•◌, times, x_times, raise, inverse}
use Rattle.aes.specs.Box.{affine, s_box}
use Rattle.aes.specs.State.{at, state, shift_rows, mix_columns, add_round_key, dot}
use Rattle.masks.specs.Mask.{one, published, mask, masked_box, compensation, ◌⊞◌}
use Rattle.beside.specs.Inversion.{masked_inverse}

-- a byte and its value, or a state and the bytes that it begins with
infix 20 ◌is◌
infix 20 ◌begins◌
pub data Example : Type 0 where
  ◌is◌ : ℕ → ℕ → Example
  ◌begins◌ : List ℕ → List ℕ → Example

-- what a row works out, and what that must be
abbrev pub computed : Example → List ℕ
computed (b is value) = b ∷ []
computed (s begins first) = take (length first) s

abbrev pub expected : Example → List ℕ
expected (b is value) = value ∷ []
expected (s begins first) = first

abbrev pub four : ℕ → ℕ → ℕ → ℕ → List ℕ
four a b c d = a ∷ b ∷ c ∷ d ∷ []

-- the state whose first column is these four, and the others 00
abbrev pub column : ℕ → ℕ → ℕ → ℕ → List ℕ
column a b c d = state (at (four a b c d))

abbrev pub examples : List Example
examples =
    (0x57 • 0x83 is 0xc1)
    ∷ (0x57 • 0x13 is 0xfe)
    ∷ (s_box 0x00 is 0x63)
    ∷ (s_box 0x53 is 0xed)
    ∷ (masked_box s_box published 1 0 0x00 is 0x6c)
    ∷ (masked_box s_box published 1 4 0x00 is 0xb1)
    ∷ (masked_box s_box published 1 15 0xff is 0x63)
    ∷ (mix_columns (column 0x00 0x5c 0xa3 0xff) begins four 0xb8 0xb9 0x1b 0x1a)
    ∷ (compensation (mask published (one 0) 0) begins four 0xb8 0xb6 0x2d 0x23)
    ∷ (shift_rows (mask published (one 0) 14) begins four 0xf0 0x39 0x95 0xc9)
    ∷ (masked_inverse 0x35 0x35 is 0x35)
    ∷ (masked_inverse 0x00 0x53 is 0x99)
    ∷ []

pub examples_hold : map computed examples ≡ map expected examples
unfolding ◌•◌ times x_times raise inverse from_bits affine s_box shift_rows mix_columns add_round_key dot published mask masked_box compensation masked_inverse
examples_hold = refl

-- how the last constant that document 002 prints begins at offset 0
pub printed_begins : take 4 (mask published (one 0) 14 ⊞ shift_rows (mask published (one 0) 14)) ≡ four 0x00 0xc6 0x95 0xc6
unfolding published mask shift_rows add_round_key
printed_begins = refl
