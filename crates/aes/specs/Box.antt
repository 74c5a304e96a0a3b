-- The substitution boxes of FIPS 197, 5.1.1 and 5.3.2.
-- Assumes nothing.
use Rattle.std.specs.Prelude.{ℕ, ◌+◌, ◌%◌}
use Rattle.aes.specs.Byte.{◌⊕◌, bit, from_bits, table, place}
use Rattle.aes.specs.Field.{inverse}

-- the affine map: bit i of the result
unfoldable pub affine : ℕ → ℕ
affine b =
    from_bits 8
    (λ i. bit b i ⊕ bit b ((i + 4) % 8) ⊕ bit b ((i + 5) % 8) ⊕ bit b ((i + 6) % 8) ⊕ bit b ((i + 7) % 8) ⊕ bit 0x63 i)

-- SBOX
unfoldable pub s_box : ℕ → ℕ
s_box b = affine (inverse b)

-- INVSBOX: the byte whose SBOX is b
unfoldable pub inv_s_box : ℕ → ℕ
inv_s_box b = place b (table s_box 256)
