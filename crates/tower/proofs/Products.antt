-- Products of polynomials over GF(2), whatever they are taken modulo: by sums and doubling alone.
-- Assumes nothing.
use mathlib.Core.Path.{◌≡◌, refl, sym, ap, ◌∙◌}
use Prim.Native.Nat.{ℕ, zero, suc, ◌*◌, ◌/◌, ◌%◌, ◌^◌, ◌<◌}
use native.Mathlib.Nat.{mul-zero, mul-one, zero-mul, add-zero}
use native.Mathlib.Omega.{arith}
use lib.Bits.{xor_shr, xor_mod, xor_block, xor_lt}
use lib.Dec.{lit<}
use Rattle.aes.specs.Byte.{◌⊕◌}
use Rattle.tower.specs.Tower.{double_by, times_by}
use Rattle.aes.proofs.Xor.{mod_two, sums, xor_self, xor_zero}

-- A bit p passes through what keeps 0, and spreads over a sum on either side of it.
pub bit_through : (f : ℕ → ℕ) → f 0 ≡ 0 → (x p : ℕ) → p < 2 → f (x * p) ≡ f x * p
bit_through f e x zero h = simp (mul-zero, e)
bit_through f e x (suc zero) h = simp mul-one
bit_through f e x (suc (suc p)) h = absurd (omega arith)

bit_right : (a b p : ℕ) → p < 2 → (a ⊕ b) * p ≡ a * p ⊕ b * p
bit_right a b zero h = simp mul-zero
bit_right a b (suc zero) h = simp mul-one
bit_right a b (suc (suc p)) h = absurd (omega arith)

pub bit_left : (c p q : ℕ) → p < 2 → q < 2 → c * (p ⊕ q) ≡ c * p ⊕ c * q
bit_left c zero q hp hq = rw mul-zero
bit_left c (suc zero) zero hp hq = rw mul-zero (sym (xor_zero (c * 1)))
bit_left c (suc zero) (suc zero) hp hq = rw (mul-zero, xor_self (c * 1))
bit_left c (suc zero) (suc (suc q)) hp hq = absurd (omega arith)
bit_left c (suc (suc p)) q hp hq = absurd (omega arith)

pub bit_below : (n b p : ℕ) → b < n → p < 2 → b * p < n
bit_below n b zero h hp = rw mul-zero (omega (arith, h))
bit_below n b (suc zero) h hp = rw mul-one h
bit_below n b (suc (suc p)) h hp = absurd (omega arith)

twice : (a b : ℕ) → (a ⊕ b) * 2 ≡ a * 2 ⊕ b * 2
twice a b = sym (simp add-zero at (xor_block 1 a b 0 0 (lit< tt) (lit< tt)))

pub double_xor : (m k a b : ℕ) → double_by m k (a ⊕ b) ≡ double_by m k a ⊕ double_by m k b
double_xor m k a b =
    rw (twice a b, xor_shr a b k, xor_mod (a / 2 ^ k) (b / 2 ^ k) 1, bit_left m (a / 2 ^ k % 2) (b / 2 ^ k % 2) (mod_two _) (mod_two _))
    (simp sums)

module _ (double : ℕ → ℕ) (keeps : (a b : ℕ) → double (a ⊕ b) ≡ double a ⊕ double b) where
  pub times_xor_left : (n a b c : ℕ) → times_by double n (a ⊕ b) c ≡ times_by double n a c ⊕ times_by double n b c
  unfolding times_by
  times_xor_left zero a b c = refl
  times_xor_left (suc n) a b c =
      rw (bit_right a b (c % 2) (mod_two c), keeps a b, times_xor_left n (double a) (double b) (c / 2)) (simp sums)

  pub times_xor_right : (n a b c : ℕ) → times_by double n a (b ⊕ c) ≡ times_by double n a b ⊕ times_by double n a c
  unfolding times_by
  times_xor_right zero a b c = refl
  times_xor_right (suc n) a b c =
      rw (xor_mod b c 1, xor_shr b c 1, bit_left a (b % 2) (c % 2) (mod_two b) (mod_two c), times_xor_right n (double a) (b / 2) (c / 2))
      (simp sums)

  double_zero : double 0 ≡ 0
  double_zero = keeps 0 0 ∙ xor_self (double 0)

  pub times_zero : (n c : ℕ) → times_by double n 0 c ≡ 0
  unfolding times_by
  times_zero zero c = refl
  times_zero (suc n) c = rw (zero-mul (c % 2), double_zero, times_zero n (c / 2))

  times_double : (n b c : ℕ) → times_by double n (double b) c ≡ double (times_by double n b c)
  unfolding times_by
  times_double zero b c = sym double_zero
  times_double (suc n) b c =
      rw (
        keeps (b * (c % 2)) (times_by double n (double b) (c / 2)),
        bit_through double double_zero b (c % 2) (mod_two c),
        times_double n (double b) (c / 2),
      )

  -- Two factors change places behind a third, whatever numbers they are; behind 1 that is commutativity.
  pub times_swap : (n m a b c : ℕ) → times_by double n (times_by double m a b) c ≡ times_by double m (times_by double n a c) b
  unfolding times_by
  times_swap n zero a b c = times_zero n c
  times_swap n (suc m) a b c =
      rw (
        times_xor_left n (a * (b % 2)) (times_by double m (double a) (b / 2)) c,
        bit_through (λ x. times_by double n x c) (times_zero n c) a (b % 2) (mod_two b),
        times_swap n m (double a) (b / 2) c,
        times_double n a c,
      )

  -- where doubling stays within n bits, so does a product; and where 1 is one there, factors change places
  module _ (n : ℕ) (stays : (b : ℕ) → b < 2 ^ n → double b < 2 ^ n) where
    pub times_below : (k b c : ℕ) → b < 2 ^ n → times_by double k b c < 2 ^ n
    unfolding times_by
    times_below zero b c h = omega (arith, h)
    times_below (suc k) b c h =
        xor_lt n (b * (c % 2)) (times_by double k (double b) (c / 2)) (bit_below (2 ^ n) b (c % 2) h (mod_two c))
        (times_below k (double b) (c / 2) (stays b h))

    pub times_comm : ((b : ℕ) → b < 2 ^ n → times_by double n 1 b ≡ b) → (a b : ℕ) → a < 2 ^ n → b < 2 ^ n → times_by double n a b ≡ times_by double n b a
    times_comm one a b ha hb =
        ap (λ (x : ℕ). times_by double n x b) (sym (one a ha)) ∙ times_swap n n 1 a b ∙ ap (λ (x : ℕ). times_by double n x a) (one b hb)
