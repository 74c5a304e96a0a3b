-- The field of halves, and the formulas of document 000 that cover it.
-- Assumes nothing.
use mathlib.Core.Path.{◌≡◌, refl, ap, ◌∙◌}
use Prim.Native.Nat.{ℕ, ◌/◌, ◌<◌}
use native.Mathlib.Omega.{arith}
use lib.Bits.{xor_lt}
use Rattle.aes.specs.Byte.{◌⊕◌, table}
use Rattle.aes.proofs.Xor.{sums, xor_self}
use Rattle.aes.proofs.Listed.{agree}
use Rattle.tower.proofs.Products.{double_xor, times_xor_left, times_xor_right, times_zero, times_below, times_comm}
use Rattle.tower.specs.Tower.{times_by, half_modulus, double_half, constant, ◌⊗◌, inverse_half, norm, td1, td2, tm, tinv, covered_norm, covered_high, covered_low}

double_keeps : (a b : ℕ) → double_half (a ⊕ b) ≡ double_half a ⊕ double_half b
unfolding double_half
double_keeps = double_xor half_modulus 3

pub half_left : (a b c : ℕ) → (a ⊕ b) ⊗ c ≡ a ⊗ c ⊕ b ⊗ c
unfolding ◌⊗◌
half_left = times_xor_left double_half double_keeps 4

pub half_right : (a b c : ℕ) → a ⊗ (b ⊕ c) ≡ a ⊗ b ⊕ a ⊗ c
unfolding ◌⊗◌
half_right = times_xor_right double_half double_keeps 4

pub half_zero_left : (x : ℕ) → 0 ⊗ x ≡ 0
unfolding ◌⊗◌
half_zero_left = times_zero double_half double_keeps 4

pub half_zero_right : (x : ℕ) → x ⊗ 0 ≡ 0
half_zero_right x = half_right x 0 0 ∙ xor_self (x ⊗ 0)

-- sixteen doubles, and 1 times each half
double_half_lem : (b : ℕ) → b < 16 → double_half b < 16
unfolding double_half table
double_half_lem b h = let e : double_half b / 16 ≡ 0 = agree (λ k. double_half k / 16) (λ k. 0) 16 refl b h in omega arith

half_one : (b : ℕ) → b < 16 → times_by double_half 4 1 b ≡ b
unfolding times_by double_half table
half_one = agree (λ b. times_by double_half 4 1 b) (λ b. b) 16 refl

pub half_half : (a b : ℕ) → a < 16 → a ⊗ b < 16
unfolding ◌⊗◌
half_half = times_below double_half double_keeps 4 double_half_lem 4

pub half_comm : (a b : ℕ) → a < 16 → b < 16 → a ⊗ b ≡ b ⊗ a
unfolding ◌⊗◌
half_comm = times_comm double_half double_keeps 4 double_half_lem half_one

pub half_xor : (a b : ℕ) → a < 16 → b < 16 → a ⊕ b < 16
half_xor = xor_lt 4

pub inverse_half_lem : (a : ℕ) → a < 16 → inverse_half a < 16
unfolding inverse_half
inverse_half_lem a h = half_half _ _ (half_half _ _ (half_half a a h))

pub norm_half : (h l : ℕ) → h < 16 → l < 16 → norm h l < 16
unfolding norm
norm_half h l p q = half_xor _ _ (half_xor _ _ (half_half _ _ (half_half h h p)) (half_half h l p)) (half_half l l q)

-- (4.7), (4.9) and (4.10): each is what it covers, under its mask
pub norm-covered : (xh xl mh ml : ℕ) → xl < 16 → mh < 16 → ml < 16 → covered_norm xh xl mh ml ≡ norm (xh ⊕ mh) (xl ⊕ ml) ⊕ mh
unfolding norm
norm-covered xh xl mh ml hx hm hl = sum ((xh ⊕ mh) ⊗ (xh ⊕ mh) ⊗ constant)
  where
    sum : (z : ℕ) → z ⊕ mh ⊕ ((xh ⊕ xl) ⊗ xl) ⊕ (xh ⊗ ml) ⊕ (xl ⊗ mh) ⊕ ((mh ⊕ ml) ⊗ ml) ≡ z ⊕ ((xh ⊕ mh) ⊗ (xl ⊕ ml)) ⊕ ((xl ⊕ ml) ⊗ (xl ⊕ ml)) ⊕ mh
    sum z = simp (half_left, half_right, half_comm mh xl hm hx, half_comm ml xl hl hx, sums)

pub high-covered : (xh mh ml d : ℕ) → mh < 16 → ml < 16 → d < 16 → covered_high xh mh ml (d ⊕ mh) ≡ (xh ⊕ mh) ⊗ d ⊕ mh
high-covered xh mh ml d hm hl hd =
    let e : d ⊕ mh ⊕ (mh ⊕ ml) ≡ d ⊕ ml = simp sums in
    ap (λ (x : ℕ). xh ⊗ x ⊕ mh ⊕ x ⊗ mh ⊕ xh ⊗ ml ⊕ mh ⊗ ml) e ∙ sum
  where
    sum : xh ⊗ (d ⊕ ml) ⊕ mh ⊕ (d ⊕ ml) ⊗ mh ⊕ xh ⊗ ml ⊕ mh ⊗ ml ≡ (xh ⊕ mh) ⊗ d ⊕ mh
    sum = simp (half_left, half_right, half_comm d mh hd hm, half_comm ml mh hl hm, sums)

pub low-covered : (xh xl mh ml d : ℕ) → ml < 16 → d < 16
    → covered_low xl mh ml (d ⊕ mh) ((xh ⊕ mh) ⊗ d ⊕ mh) ≡ ((xh ⊕ mh) ⊕ (xl ⊕ ml)) ⊗ d ⊕ ml
low-covered xh xl mh ml d hl hd = sum
  where
    sum : xl ⊗ (d ⊕ mh) ⊕ ml ⊕ (d ⊕ mh) ⊗ ml ⊕ xl ⊗ mh ⊕ ((xh ⊕ mh) ⊗ d ⊕ mh) ⊕ mh ⊕ mh ⊗ ml ≡ ((xh ⊕ mh) ⊕ (xl ⊕ ml)) ⊗ d ⊕ ml
    sum = simp (half_left, half_right, half_comm d ml hd hl, sums)

-- what the tables give are halves
pub td1_half : (x m : ℕ) → x < 16 → m < 16 → td1 x m < 16
td1_half x m p q = half_xor _ m (half_half _ _ (half_half _ _ (half_xor x m p q))) q

pub td2_half : (x y : ℕ) → x < 16 → y < 16 → td2 x y < 16
td2_half x y p q = half_half _ y (half_xor x y p q)

pub tm_half : (x y : ℕ) → x < 16 → y < 16 → tm x y < 16
tm_half x y p q = half_half x y p

pub tinv_half : (x m : ℕ) → x < 16 → m < 16 → tinv x m < 16
tinv_half x m p q = half_xor _ m (inverse_half_lem _ (half_xor x m p q)) q
