-- What holds of all numbers below n: as a loop finds it out, and what it tells of each.
-- Assumes nothing.
use mathlib.Core.Path.{◌≡◌, refl}
use mathlib.Core.Bool.{Bool, true, false, ◌&&◌}
use Prim.Native.Nat.{ℕ, zero, suc, ◌+◌, ◌<◌}
use native.Mathlib.Numerals.{add-one}
use native.Mathlib.Omega.{arith}
use native.Mathlib.Decide.{ℕ_discrete}
use lib.Dec.{T}
use mir.Facts.{and_yes}
use Rattle.aes.specs.Byte.{below}

-- one number more, and one that fails
pub below_more : (p : ℕ → Bool) (n : ℕ) → below n p ≡ true → p n ≡ true → below (n + 1) p ≡ true
unfolding below
below_more p n e h = rw (add-one, h) e

pub below_not : (p : ℕ → Bool) (n k : ℕ) → k < n → p k ≡ false → below n p ≡ false
unfolding below
below_not p zero k lt e = absurd (omega arith)
below_not p (suc n) k lt e =
    elim (ℕ_discrete k n) [
      | yes same ↦ rw (← same, e)
      | no other ↦ simp (below_not p n k (omega arith) e, and_false)
    ]
  where
    and_false : (b : Bool) → (b && false) ≡ false
    and_false true = refl
    and_false false = refl

-- what holds of each holds of all
pub below_all : (p : ℕ → Bool) (n : ℕ) → ((k : ℕ) → k < n → p k ≡ true) → below n p ≡ true
unfolding below
below_all p zero h = refl
below_all p (suc n) h = rw (h n (omega arith)) (below_all p n (λ k lt. h k (omega arith)))

-- what holds of all holds of each
pub under : (p : ℕ → Bool) (n : ℕ) → T (below n p) → (k : ℕ) → k < n → T (p k)
unfolding below
under p zero h k lt = absurd (omega arith)
under p (suc n) h k lt =
    elim (ℕ_discrete k n) [
      | yes e ↦ rw e (and_yes (p n) (below n p) h).0
      | no e ↦ under p n (and_yes (p n) (below n p) h).1 k (omega arith)
    ]
