-- Inversion in the tower is that of FIPS 197's field, and covered it is masked inversion: for every byte and mask, 00 included.
-- Assumes nothing.
use mathlib.Core.Path.{◌≡◌, refl, sym, ap, ap₂, ◌∙◌}
use Prim.Native.Nat.{ℕ, zero, suc, ◌+◌, ◌/◌, ◌<◌}
use native.Mathlib.Numerals.{add-one}
use native.Mathlib.Omega.{arith}
use lib.Bits.{xor_shr, xor_mod}
use Rattle.aes.specs.Byte.{◌⊕◌, table}
use Rattle.aes.specs.Field.{times, x_times, ◌•◌, inverse}
use Rattle.aes.specs.Box.{affine, s_box}
use Rattle.aes.proofs.Xor.{sums, xor_byte}
use Rattle.aes.proofs.Listed.{agree}
use Rattle.aes.proofs.Inverses.{inverse_only, inverse_zero, inverse_byte}
use Rattle.beside.specs.Inversion.{masked_inverse}
use Rattle.tower.specs.Tower.{times_by, double_half, constant, ◌⊗◌, inverse_half, high, low, joined, norm, inverse_pair, tower_inverse, to_tower, from_tower, tinv, covered_norm, covered_high, covered_low, covered_pair, covered_inverse, linear}
use Rattle.tower.proofs.Halves.{half_half, half_xor, inverse_half_lem, norm_half, norm-covered, high-covered, low-covered}
use Rattle.tower.proofs.Isomorphism.{to_tower_sums, from_tower_sums, back_and_forth, tower_byte, joined_xor, linear_sums}

-- one test over the bytes: what comes back from the tower is a byte, and each but 00 times it is 01
abbrev inverted : ℕ → ℕ
inverted a = from_tower (tower_inverse (to_tower a))

inverted_byte : (a : ℕ) → a < 256 → inverted a < 256
unfolding from_tower to_tower tower_inverse norm constant inverse_half ◌⊗◌ times_by double_half table
inverted_byte a h = let e : inverted a / 256 ≡ 0 = agree (λ k. inverted k / 256) (λ k. 0) 256 refl a h in omega arith

inverted_times : (k : ℕ) → k < 255 → (k + 1) • inverted (k + 1) ≡ 1
unfolding from_tower to_tower tower_inverse norm constant inverse_half ◌⊗◌ times_by double_half ◌•◌ times x_times table
inverted_times = agree (λ k. (k + 1) • inverted (k + 1)) (λ k. 1) 255 refl

inverted_zero : inverted 0 ≡ 0
unfolding from_tower to_tower tower_inverse norm constant inverse_half ◌⊗◌ times_by double_half
inverted_zero = refl

pub tower_inverse_lem : (a : ℕ) → a < 256 → from_tower (tower_inverse (to_tower a)) ≡ inverse a
tower_inverse_lem zero h = inverted_zero ∙ sym inverse_zero
tower_inverse_lem (suc k) h =
    inverse_only (suc k) (inverted (suc k)) (omega arith) h (inverted_byte (suc k) h) (rw add-one at (inverted_times k (omega arith)))

-- covered halves
module _ (xh xl mh ml : ℕ) (p : xh < 16) (q : xl < 16) (r : mh < 16) (s : ml < 16) where
  abbrev d : ℕ
  d = inverse_half (norm (xh ⊕ mh) (xl ⊕ ml))

  d_half : d < 16
  d_half = inverse_half_lem _ (norm_half _ _ (half_xor xh mh p r) (half_xor xl ml q s))

  covered_inverse_lem : tinv (covered_norm xh xl mh ml) mh ≡ d ⊕ mh
  covered_inverse_lem = ap (λ (n : ℕ). inverse_half n ⊕ mh) (ap (λ (n : ℕ). n ⊕ mh) (norm-covered xh xl mh ml q r s) ∙ uncover (norm (xh ⊕ mh) (xl ⊕ ml)))
    where
      uncover : (n : ℕ) → n ⊕ mh ⊕ mh ≡ n
      uncover n = simp sums

  pair_covered : covered_pair xh xl mh ml ≡ inverse_pair (xh ⊕ mh) (xl ⊕ ml) ⊕ joined mh ml
  pair_covered =
      ap (λ (i : ℕ). joined (covered_high xh mh ml i) (covered_low xl mh ml i (covered_high xh mh ml i))) covered_inverse_lem
      ∙ ap (λ (a : ℕ). joined a (covered_low xl mh ml (d ⊕ mh) a)) (high-covered xh mh ml d r s d_half)
      ∙ ap (λ (a : ℕ). joined ((xh ⊕ mh) ⊗ d ⊕ mh) a) (low-covered xh xl mh ml d s d_half)
      ∙ joined_xor ((xh ⊕ mh) ⊗ d) mh (((xh ⊕ mh) ⊕ (xl ⊕ ml)) ⊗ d) ml
      (half_half _ d (half_xor (xh ⊕ mh) (xl ⊕ ml) (half_xor xh mh p r) (half_xor xl ml q s))) s

-- and so covered bytes of the tower
inverse_in : (t m : ℕ) → t < 256 → m < 256 → covered_pair (high t) (low t) (high m) (low m) ≡ tower_inverse (t ⊕ m) ⊕ m
unfolding tower_inverse
inverse_in t m ht hm =
    let e : joined (high m) (low m) ≡ m = omega arith in
    pair_covered (high t) (low t) (high m) (low m) (omega arith) (omega arith) (omega arith) (omega arith)
    ∙ ap₂ (λ (a b : ℕ). a ⊕ b) (sym (ap₂ inverse_pair (xor_shr t m 4) (xor_mod t m 4))) e

tower_inverse_byte : (t : ℕ) → t < 256 → tower_inverse t < 256
unfolding tower_inverse
tower_inverse_byte t h =
    let i : ℕ = inverse_half (norm (high t) (low t)) in
    let a : high t ⊗ i < 16 = half_half (high t) i (omega arith) in
    let b : (high t ⊕ low t) ⊗ i < 16 = half_half (high t ⊕ low t) i (half_xor (high t) (low t) (omega arith) (omega arith)) in
    omega (arith, a, b)

pub tower_covered : (x r : ℕ) → x < 256 → r < 256 → covered_inverse x r ≡ masked_inverse x r
unfolding covered_inverse masked_inverse
tower_covered x r hx hr =
    let t : ℕ = to_tower x ⊕ to_tower r in
    ap from_tower (inverse_in (to_tower x) (to_tower r) (tower_byte x hx) (tower_byte r hr))
    ∙ from_tower_sums.sum-at (tower_inverse t) (to_tower r) (tower_inverse_byte t (xor_byte _ _ (tower_byte x hx) (tower_byte r hr))) (tower_byte r hr)
    ∙ ap₂ (λ (a b : ℕ). a ⊕ b) (ap (λ (a : ℕ). from_tower (tower_inverse a)) (sym (to_tower_sums.sum-at x r hx hr)) ∙ tower_inverse_lem (x ⊕ r) (xor_byte x r hx hr)) (back_and_forth r hr)

-- the box: the map goes over the mask, and one constant of masks exchanges what then lies there for g
pub tower_box : (m g x : ℕ) → m < 256 → x < 256 → linear (masked_inverse x m) ⊕ (linear m ⊕ (g ⊕ 0x63)) ≡ s_box (x ⊕ m) ⊕ g
unfolding s_box linear masked_inverse
tower_box m g x hm hx =
    ap (λ (y : ℕ). y ⊕ (linear m ⊕ (g ⊕ 0x63))) (linear_sums.sum-at (inverse (x ⊕ m)) m (inverse_byte (x ⊕ m) (xor_byte x m hx hm)) hm)
    ∙ exchanged (affine (inverse (x ⊕ m))) 0x63 (linear m) g
  where
    exchanged : (s c l g : ℕ) → s ⊕ c ⊕ l ⊕ (l ⊕ (g ⊕ c)) ≡ s ⊕ g
    exchanged s c l g = simp sums
