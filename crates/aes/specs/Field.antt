-- The field of FIPS 197, section 4: a byte is a polynomial over GF(2), modulo x^8 + x^4 + x^3 + x + 1 (0x11b).
-- Assumes nothing.
use Rattle.std.specs.Prelude.{List, ℕ, zero, suc, ◌+◌, ◌*◌, ◌/◌, ◌%◌}
use Rattle.aes.specs.Byte.{◌⊕◌, bit, table, place}

-- m(x) of 4.2
abbrev pub modulus : ℕ
modulus = 0x11b

-- XTIMES (4.2): b times x, and the modulus taken away where that has left the byte
unfoldable pub x_times : ℕ → ℕ
x_times b = (modulus * bit b 7) ⊕ (b * 2)

-- the sum of b, {02} • b, {04} • b, .. over those of the n low bits of c that are set
unfoldable pub times : ℕ → ℕ → ℕ → ℕ
times zero b c = 0
times (suc n) b c = (b * (c % 2)) ⊕ times n (x_times b) (c / 2)

-- the product of two bytes (4.2)
infixl 70 ◌•◌
unfoldable pub ◌•◌ : ℕ → ℕ → ℕ
b • c = times 8 b c

-- the product of n factors b
unfoldable pub raise : ℕ → ℕ → ℕ
raise b zero = 1
raise b (suc n) = b • raise b n

-- the inverse of b (4.4): its 254th power, which is 00 for 00
unfoldable pub inverse : ℕ → ℕ
inverse b = raise b 254

-- the powers of the generator 03
unfoldable pub power : ℕ → ℕ
power n = raise 0x03 n

-- the logarithm of b: which of the powers 0 to 254 it is. The table of them begins with that of 01, since 00 has none
unfoldable pub logarithm : ℕ → ℕ
logarithm b = place b (table power 255)

abbrev pub logarithms : List ℕ
logarithms = table (λ k. logarithm (k + 1)) 255
