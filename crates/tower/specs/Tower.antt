-- The tower of document 000, 2.3.8: a byte as a two-term polynomial h x + l over halves of four bits, h the higher half of the byte.
-- Assumes nothing.
use Rattle.std.specs.Prelude.{List, ℕ, zero, suc, ◌+◌, ◌*◌, ◌/◌, ◌%◌}
use Rattle.aes.specs.Byte.{◌⊕◌, bit, table}
use Rattle.aes.specs.Box.{affine}
use Rattle.aes.specs.State.{at}
use Rattle.masks.specs.Mask.{published}

-- b times x, where polynomials have the bits 0 to k: the modulus m, whose bit k + 1 is set, is taken away where that has left them
abbrev pub double_by : ℕ → ℕ → ℕ → ℕ
double_by m k b = (m * bit b k) ⊕ (b * 2)

-- the sum of b, its double, the double of that, .. over those of the n low bits of c that are set
unfoldable pub times_by : (ℕ → ℕ) → ℕ → ℕ → ℕ → ℕ
times_by double zero b c = 0
times_by double (suc n) b c = (b * (c % 2)) ⊕ times_by double n (double b) (c / 2)

-- the field of halves, modulo x^4 + x + 1 (4.4)
abbrev pub half_modulus : ℕ
half_modulus = 0x13

unfoldable pub double_half : ℕ → ℕ
double_half b = double_by half_modulus 3 b

-- the product of two halves
infixl 70 ◌⊗◌
unfoldable pub ◌⊗◌ : ℕ → ℕ → ℕ
b ⊗ c = times_by double_half 4 b c

-- the inverse of a half: its 14th power, which is 0 for 0
unfoldable pub inverse_half : ℕ → ℕ
inverse_half b =
    let second = b ⊗ b in
    let fourth = second ⊗ second in
    second ⊗ fourth ⊗ (fourth ⊗ fourth)

-- the halves of a byte, and the byte of two halves
abbrev pub high : ℕ → ℕ
high t = t / 16

abbrev pub low : ℕ → ℕ
low t = t % 16

abbrev pub joined : ℕ → ℕ → ℕ
joined h l = 16 * h + l

-- the product modulo x^2 + x + {e} (2.20)
unfoldable pub constant : ℕ
constant = 0xe

unfoldable pub tower_times : ℕ → ℕ → ℕ
tower_times a b =
    joined ((high a ⊗ high b) ⊕ (high a ⊗ low b) ⊕ (low a ⊗ high b)) ((low a ⊗ low b) ⊕ (high a ⊗ high b ⊗ constant))

-- the norm of h x + l (2.22d), and by its inverse that of both halves (2.22a to 2.22c)
unfoldable pub norm : ℕ → ℕ → ℕ
norm h l = (h ⊗ h ⊗ constant) ⊕ (h ⊗ l) ⊕ (l ⊗ l)

abbrev pub inverse_pair : ℕ → ℕ → ℕ
inverse_pair h l =
    let d = inverse_half (norm h l) in
    joined (h ⊗ d) ((h ⊕ l) ⊗ d)

unfoldable pub tower_inverse : ℕ → ℕ
tower_inverse t = inverse_pair (high t) (low t)

-- the sum of what each bit of a byte brings
abbrev pub brought : ℕ → ℕ → ℕ → ℕ → ℕ → ℕ → ℕ → ℕ → ℕ → ℕ
brought c0 c1 c2 c3 c4 c5 c6 c7 a =
    bit a 0 * c0 ⊕ bit a 1 * c1 ⊕ bit a 2 * c2 ⊕ bit a 3 * c3 ⊕ bit a 4 * c4 ⊕ bit a 5 * c5 ⊕ bit a 6 * c6 ⊕ bit a 7 * c7

-- the change of basis, and back: x becomes {5e}, one of the eight at which FIPS 197's modulus is 0
unfoldable pub to_tower : ℕ → ℕ
to_tower = brought 0x01 0x5e 0x24 0x2b 0x4e 0x97 0x44 0xd1

unfoldable pub from_tower : ℕ → ℕ
from_tower = brought 0x01 0xe0 0x5d 0xb0 0x12 0x59 0x1d 0x8e

-- the four tables (4.2.4), by what they are given: x and y are covered, and m is the mask over x
abbrev pub td1 : ℕ → ℕ → ℕ
td1 x m = (x ⊕ m) ⊗ (x ⊕ m) ⊗ constant ⊕ m

abbrev pub td2 : ℕ → ℕ → ℕ
td2 x y = (x ⊕ y) ⊗ y

abbrev pub tm : ℕ → ℕ → ℕ
tm x y = x ⊗ y

abbrev pub tinv : ℕ → ℕ → ℕ
tinv x m = inverse_half (x ⊕ m) ⊕ m

-- such a table, as it is stored: f a b at 16 a + b
abbrev pub pairs : (ℕ → ℕ → ℕ) → List ℕ
pairs f = table (λ k. f (k / 16) (k % 16)) 256

-- (4.7): the norm covered by mh, of halves xh and xl covered by mh and ml
abbrev pub covered_norm : ℕ → ℕ → ℕ → ℕ → ℕ
covered_norm xh xl mh ml = td1 xh mh ⊕ td2 xh xl ⊕ tm xh ml ⊕ tm xl mh ⊕ tm (mh ⊕ ml) ml

-- (4.9) and (4.10): both halves of the inverse, covered by mh and ml, where i is the inverse of the norm covered by mh (4.8). (4.9) takes it
-- covered by ml
abbrev pub covered_high : ℕ → ℕ → ℕ → ℕ → ℕ
covered_high xh mh ml i =
    let j = i ⊕ (mh ⊕ ml) in
    tm xh j ⊕ mh ⊕ tm j mh ⊕ tm xh ml ⊕ tm mh ml

abbrev pub covered_low : ℕ → ℕ → ℕ → ℕ → ℕ → ℕ
covered_low xl mh ml i h = tm xl i ⊕ ml ⊕ tm i ml ⊕ tm xl mh ⊕ h ⊕ mh ⊕ tm mh ml

abbrev pub covered_pair : ℕ → ℕ → ℕ → ℕ → ℕ
covered_pair xh xl mh ml =
    let i = tinv (covered_norm xh xl mh ml) mh in
    let h = covered_high xh mh ml i in
    joined h (covered_low xl mh ml i h)

-- the whole: in the tower, and back
unfoldable pub covered_inverse : ℕ → ℕ → ℕ
covered_inverse x r =
    let t = to_tower x in
    let m = to_tower r in
    from_tower (covered_pair (high t) (low t) (high m) (low m))

-- the affine map without its constant, which keeps sums
unfoldable pub linear : ℕ → ℕ
linear b = affine b ⊕ 0x63

-- what exchanges the mask of label j, which went through that map, for the next one, and adds the map's constant
abbrev pub change : ℕ → ℕ
change j = linear (at published j) ⊕ (at published ((j + 1) % 16) ⊕ 0x63)
