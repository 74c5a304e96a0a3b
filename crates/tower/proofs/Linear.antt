-- Functions of bytes that keep sums: each is decided by the eight values that it has at single bits.
-- Assumes nothing.
use mathlib.Core.Path.{◌≡◌, refl, sym, ap, ap₂, ◌∙◌}
use Prim.Native.Nat.{ℕ, zero, suc, ◌+◌, ◌*◌, ◌/◌, ◌%◌, ◌^◌, ◌<◌, ◌≤◌}
use native.Mathlib.Omega.{arith}
use lib.Bits.{xor_shr, xor_mod}
use lib.Dec.{lit<}
use Rattle.aes.specs.Byte.{◌⊕◌, bit, table}
use Rattle.aes.proofs.Xor.{mod_two, sums, xor_byte}
use Rattle.aes.proofs.Listed.{agree}
use Rattle.tower.proofs.Products.{bit_through, bit_left, bit_below}

pub record Linear (f : ℕ → ℕ) : Type 0 where
  pub zero_at : f 0 ≡ 0
  pub sum-at : (a b : ℕ) → a < 256 → b < 256 → f (a ⊕ b) ≡ f a ⊕ f b

-- one after another
pub after : {f g : ℕ → ℕ} → Linear f → Linear g → ((a : ℕ) → a < 256 → g a < 256) → Linear (λ a. f (g a))
after {f} {g} p q h =
    record {
      zero_at = ap f q.zero_at ∙ p.zero_at;
      sum-at = λ a b ha hb. ap f (q.sum-at a b ha hb) ∙ p.sum-at (g a) (g b) (h a ha) (h b hb);
    }

-- the sum of c i over those bits of a from i on, n of them, that are set
unfoldable pub spread_by : (ℕ → ℕ) → ℕ → ℕ → ℕ → ℕ
spread_by c a i zero = 0
spread_by c a i (suc n) = c i * bit a i ⊕ spread_by c a (suc i) n

pub single_byte : (i : ℕ) → i < 8 → 2 ^ i < 256
unfolding table
single_byte i h = let e : 2 ^ i / 256 ≡ 0 = agree (λ k. 2 ^ k / 256) (λ k. 0) 8 refl i h in omega arith

-- a byte is the sum of its bits
split : (a : ℕ) → a < 256 → a ≡ spread_by (λ i. 2 ^ i) a 0 8
unfolding table spread_by
split = agree (λ a. a) (λ a. spread_by (λ i. 2 ^ i) a 0 8) 256 refl

bit_byte : (a i : ℕ) → i < 8 → 2 ^ i * bit a i < 256
bit_byte a i h = bit_below 256 (2 ^ i) (bit a i) (single_byte i h) (mod_two _)

spread_byte : (a i n : ℕ) → i + n ≤ 8 → spread_by (λ j. 2 ^ j) a i n < 256
unfolding spread_by
spread_byte a i zero h = lit< tt
spread_byte a i (suc n) h = xor_byte _ _ (bit_byte a i (omega arith)) (spread_byte a (suc i) n (omega arith))

module _ {f : ℕ → ℕ} (lin : Linear f) where
  spread_from : (a i n : ℕ) → i + n ≤ 8 → f (spread_by (λ j. 2 ^ j) a i n) ≡ spread_by (λ j. f (2 ^ j)) a i n
  unfolding spread_by
  spread_from a i zero h = lin.zero_at
  spread_from a i (suc n) h =
      lin.sum-at (2 ^ i * bit a i) (spread_by (λ j. 2 ^ j) a (suc i) n) (bit_byte a i (omega arith)) (spread_byte a (suc i) n (omega arith))
      ∙ ap₂ (λ (x y : ℕ). x ⊕ y) (bit_through f lin.zero_at (2 ^ i) (bit a i) (mod_two _)) (spread_from a (suc i) n (omega arith))

  spread : (a : ℕ) → a < 256 → f a ≡ spread_by (λ j. f (2 ^ j)) a 0 8
  spread a h = ap f (split a h) ∙ spread_from a 0 8 (omega arith)

spread_same : (c d : ℕ → ℕ) (a i n : ℕ) → ((j : ℕ) → j < i + n → c j ≡ d j) → spread_by c a i n ≡ spread_by d a i n
unfolding spread_by
spread_same c d a i zero h = refl
spread_same c d a i (suc n) h =
    ap₂ (λ (x y : ℕ). x * bit a i ⊕ y) (h i (omega arith)) (spread_same c d a (suc i) n (λ j lt. h j (omega arith)))

-- two are one where they agree on single bits
pub by_basis : {f g : ℕ → ℕ} → Linear f → Linear g → ((j : ℕ) → j < 8 → f (2 ^ j) ≡ g (2 ^ j)) → (a : ℕ) → a < 256 → f a ≡ g a
by_basis {f} {g} p q h a lt = spread p a lt ∙ spread_same (λ j. f (2 ^ j)) (λ j. g (2 ^ j)) a 0 8 (λ j l. h j (omega arith)) ∙ sym (spread q a lt)

-- one whose values are the sums of those at single bits keeps sums
scaled : (c a b i : ℕ) → c * bit (a ⊕ b) i ≡ c * bit a i ⊕ c * bit b i
scaled c a b i =
    rw (xor_shr a b i, xor_mod (a / 2 ^ i) (b / 2 ^ i) 1) (bit_left c (a / 2 ^ i % 2) (b / 2 ^ i % 2) (mod_two _) (mod_two _))

spread_xor : (c : ℕ → ℕ) (a b i n : ℕ) → spread_by c (a ⊕ b) i n ≡ spread_by c a i n ⊕ spread_by c b i n
unfolding spread_by
spread_xor c a b i zero = refl
spread_xor c a b i (suc n) =
    ap₂ (λ (x y : ℕ). x ⊕ y) (scaled (c i) a b i) (spread_xor c a b (suc i) n)
    ∙ middle (c i * bit a i) (c i * bit b i) (spread_by c a (suc i) n) (spread_by c b (suc i) n)
  where
    middle : (a b c d : ℕ) → a ⊕ b ⊕ (c ⊕ d) ≡ a ⊕ c ⊕ (b ⊕ d)
    middle a b c d = simp sums

pub by_bits : (f : ℕ → ℕ) → f 0 ≡ 0 → table f 256 ≡ table (λ a. spread_by (λ j. f (2 ^ j)) a 0 8) 256 → Linear f
by_bits f z test =
    record {
      zero_at = z;
      sum-at = λ a b ha hb. e (a ⊕ b) (xor_byte a b ha hb) ∙ spread_xor (λ j. f (2 ^ j)) a b 0 8 ∙ sym (ap₂ (λ (x y : ℕ). x ⊕ y) (e a ha) (e b hb));
    }
  where
    e : (a : ℕ) → a < 256 → f a ≡ spread_by (λ j. f (2 ^ j)) a 0 8
    e = agree f (λ a. spread_by (λ j. f (2 ^ j)) a 0 8) 256 test
