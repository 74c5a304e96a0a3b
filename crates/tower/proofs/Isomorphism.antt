-- The change of basis keeps sums and products, and has its inverse.
-- Assumes nothing.
use mathlib.Core.Path.{◌≡◌, refl, sym, ap₂, ◌∙◌}
use Prim.Native.Nat.{ℕ, ◌+◌, ◌*◌, ◌/◌, ◌%◌, ◌^◌, ◌<◌}
use native.Mathlib.Nat.{mul_comm}
use native.Mathlib.Omega.{arith}
use lib.Bits.{xor_shr, xor_mod, xor_block}
use Rattle.aes.specs.Byte.{◌⊕◌, from_bits, table}
use Rattle.aes.specs.Field.{times, x_times, ◌•◌}
use Rattle.aes.specs.Box.{affine}
use Rattle.aes.proofs.Xor.{sums}
use Rattle.aes.proofs.Listed.{agree}
use Rattle.aes.proofs.FieldLaws.{product_xor_left, product_xor_right, product_zero_left, product_zero_right, product_byte}
use Rattle.tower.specs.Tower.{times_by, double_half, constant, ◌⊗◌, high, low, joined, tower_times, to_tower, from_tower, linear}
use Rattle.tower.proofs.Halves.{half_left, half_right, half_zero_left, half_zero_right, half_half, half_xor}
use Rattle.tower.proofs.Linear.{Linear, after, spread_by, single_byte, by_basis, by_bits}

pub to_tower_sums : Linear to_tower
unfolding to_tower spread_by table
to_tower_sums = by_bits to_tower refl refl

pub from_tower_sums : Linear from_tower
unfolding from_tower spread_by table
from_tower_sums = by_bits from_tower refl refl

pub back_and_forth : (a : ℕ) → a < 256 → from_tower (to_tower a) ≡ a
unfolding from_tower to_tower table
back_and_forth = agree (λ a. from_tower (to_tower a)) (λ a. a) 256 refl

pub forth_and_back : (t : ℕ) → t < 256 → to_tower (from_tower t) ≡ t
unfolding from_tower to_tower table
forth_and_back = agree (λ t. to_tower (from_tower t)) (λ t. t) 256 refl

pub tower_byte : (a : ℕ) → a < 256 → to_tower a < 256
unfolding to_tower table
tower_byte a h = let e : to_tower a / 256 ≡ 0 = agree (λ k. to_tower k / 256) (λ k. 0) 256 refl a h in omega arith

-- and so does the affine map without its constant
pub linear_sums : Linear linear
unfolding linear affine from_bits spread_by table
linear_sums = by_bits linear refl refl

pub joined_xor : (h g l m : ℕ) → l < 16 → m < 16 → joined (h ⊕ g) (l ⊕ m) ≡ joined h l ⊕ joined g m
joined_xor h g l m hl hm = rw (mul_comm 16 (h ⊕ g), mul_comm 16 h, mul_comm 16 g) (sym (xor_block 4 h g l m hl hm))

-- the product of the tower keeps sums on either side
abbrev top : ℕ → ℕ → ℕ → ℕ → ℕ
top ah al bh bl = (ah ⊗ bh) ⊕ (ah ⊗ bl) ⊕ (al ⊗ bh)

abbrev bottom : ℕ → ℕ → ℕ → ℕ → ℕ
bottom ah al bh bl = (al ⊗ bl) ⊕ (ah ⊗ bh ⊗ constant)

bottom_half : (ah al bh bl : ℕ) → ah < 16 → al < 16 → bottom ah al bh bl < 16
bottom_half ah al bh bl p q = half_xor _ _ (half_half al bl q) (half_half (ah ⊗ bh) constant (half_half ah bh p))

top_left : (ah al ch cl bh bl : ℕ) → top (ah ⊕ ch) (al ⊕ cl) bh bl ≡ top ah al bh bl ⊕ top ch cl bh bl
top_left ah al ch cl bh bl = simp (half_left, sums)

bottom_left : (ah al ch cl bh bl : ℕ) → bottom (ah ⊕ ch) (al ⊕ cl) bh bl ≡ bottom ah al bh bl ⊕ bottom ch cl bh bl
bottom_left ah al ch cl bh bl = simp (half_left, sums)

top_right : (ah al bh bl ch cl : ℕ) → top ah al (bh ⊕ ch) (bl ⊕ cl) ≡ top ah al bh bl ⊕ top ah al ch cl
top_right ah al bh bl ch cl = simp (half_right, sums)

bottom_right : (ah al bh bl ch cl : ℕ) → bottom ah al (bh ⊕ ch) (bl ⊕ cl) ≡ bottom ah al bh bl ⊕ bottom ah al ch cl
bottom_right ah al bh bl ch cl = simp (half_left, half_right, sums)

-- a function of both halves that keeps sums in each
by_halves : (f g : ℕ → ℕ → ℕ) → joined (f 0 0) (g 0 0) ≡ 0 → ((h l : ℕ) → h < 16 → l < 16 → g h l < 16)
    → ((h l k m : ℕ) → f (h ⊕ k) (l ⊕ m) ≡ f h l ⊕ f k m) → ((h l k m : ℕ) → g (h ⊕ k) (l ⊕ m) ≡ g h l ⊕ g k m)
    → Linear (λ a. joined (f (high a) (low a)) (g (high a) (low a)))
by_halves f g z half fs gs =
    record {
      zero_at = z;
      sum-at = λ a c ha hc.
          ap₂ (λ (h l : ℕ). joined (f h l) (g h l)) (xor_shr a c 4) (xor_mod a c 4)
          ∙ ap₂ joined (fs (high a) (low a) (high c) (low c)) (gs (high a) (low a) (high c) (low c))
          ∙ joined_xor _ _ _ _ (half (high a) (low a) (omega arith) (omega arith)) (half (high c) (low c) (omega arith) (omega arith));
    }

tower_left : (b : ℕ) → Linear (λ a. tower_times a b)
unfolding tower_times
tower_left b =
    by_halves (λ h l. top h l (high b) (low b)) (λ h l. bottom h l (high b) (low b)) (simp half_zero_left)
    (λ h l p q. bottom_half h l (high b) (low b) p q) (λ h l k m. top_left h l k m (high b) (low b)) (λ h l k m. bottom_left h l k m (high b) (low b))

tower_right : (a : ℕ) → a < 256 → Linear (tower_times a)
unfolding tower_times
tower_right a ha =
    by_halves (top (high a) (low a)) (bottom (high a) (low a)) (simp (half_zero_right, half_zero_left))
    (λ h l p q. bottom_half (high a) (low a) h l (omega arith) (omega arith)) (λ h l k m. top_right (high a) (low a) h l k m) (λ h l k m. bottom_right (high a) (low a) h l k m)

times_left : (b : ℕ) → Linear (λ a. a • b)
times_left b = record { zero_at = product_zero_left b; sum-at = λ a c ha hc. product_xor_left a c b }

times_right : (a : ℕ) → Linear (λ b. a • b)
times_right a = record { zero_at = product_zero_right a; sum-at = λ b c hb hc. product_xor_right a b c }

-- the 64 products of single bits decide
abbrev of_product : ℕ → ℕ
of_product k = to_tower (2 ^ (k / 8) • 2 ^ (k % 8))

abbrev of_factors : ℕ → ℕ
of_factors k = tower_times (to_tower (2 ^ (k / 8))) (to_tower (2 ^ (k % 8)))

basis_test : table of_product 64 ≡ table of_factors 64
unfolding to_tower tower_times constant ◌⊗◌ times_by double_half ◌•◌ times x_times table
basis_test = refl

basis : (i j : ℕ) → i < 8 → j < 8 → to_tower (2 ^ i • 2 ^ j) ≡ tower_times (to_tower (2 ^ i)) (to_tower (2 ^ j))
basis i j hi hj =
    let q : (i * 8 + j) / 8 ≡ i = omega arith in
    let r : (i * 8 + j) % 8 ≡ j = omega arith in
    rw (q, r) at (agree of_product of_factors 64 basis_test (i * 8 + j) (omega arith))

basis_left : (i b : ℕ) → i < 8 → b < 256 → to_tower (2 ^ i • b) ≡ tower_times (to_tower (2 ^ i)) (to_tower b)
basis_left i b hi hb =
    by_basis (after to_tower_sums (times_right (2 ^ i)) (λ c hc. product_byte (2 ^ i) c (single_byte i hi)))
    (after (tower_right (to_tower (2 ^ i)) (tower_byte (2 ^ i) (single_byte i hi))) to_tower_sums tower_byte) (λ j hj. basis i j hi hj) b hb

pub tower_products : (a b : ℕ) → a < 256 → b < 256 → to_tower (a • b) ≡ tower_times (to_tower a) (to_tower b)
tower_products a b ha hb =
    by_basis (after to_tower_sums (times_left b) (λ c hc. product_byte c b hc)) (after (tower_left (to_tower b)) to_tower_sums tower_byte)
    (λ i hi. basis_left i b hi hb) a ha
