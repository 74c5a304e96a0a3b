-- The walk over the triples x < y < z below 8: what has been passed, and where it goes next.
-- Assumes nothing.
use mathlib.Core.Path.{◌≡◌, refl}
use mathlib.Core.Bool.{Bool, true, false}
use Prim.Native.Nat.{ℕ, ◌+◌, ◌<◌}
use Rattle.aes.specs.Byte.{below}
use Rattle.aes.proofs.Below.{below_more, below_not}

-- p holds of the triples before (x, y, z)
pub record Passed (p : ℕ → ℕ → ℕ → Bool) (x y z : ℕ) : Type 0 where
  pub lower_z : below z (λ c. below c (λ b. below b (λ a. p a b c))) ≡ true
  pub lower_y : below y (λ b. below b (λ a. p a b z)) ≡ true
  pub lower_x : below x (λ a. p a y z) ≡ true

pub first : (p : ℕ → ℕ → ℕ → Bool) → Passed p 0 0 0
unfolding below
first p = record { lower_z = refl; lower_y = refl; lower_x = refl }

module _ {p : ℕ → ℕ → ℕ → Bool} {x y z : ℕ} (before : Passed p x y z) where
  pub next_x : p x y z ≡ true → Passed p (x + 1) y z
  next_x holds = record { lower_z = before.lower_z; lower_y = before.lower_y; lower_x = below_more _ x before.lower_x holds }

  pub next_y : x ≡ y → Passed p 0 (y + 1) z
  unfolding below
  next_y e = record { lower_z = before.lower_z; lower_y = below_more _ y before.lower_y (rw e at before.lower_x); lower_x = refl }

  pub next_z : y ≡ z → Passed p 0 0 (z + 1)
  unfolding below
  next_z e = record { lower_z = below_more _ z before.lower_z (rw e at before.lower_y); lower_y = refl; lower_x = refl }

pub failed : (p : ℕ → ℕ → ℕ → Bool) (x y z : ℕ) → x < y → y < z → z < 8 → p x y z ≡ false → below 8 (λ c. below c (λ b. below b (λ a. p a b c))) ≡ false
failed p x y z hx hy hz e = below_not _ 8 z hz (below_not _ z y hy (below_not _ y x hx e))
