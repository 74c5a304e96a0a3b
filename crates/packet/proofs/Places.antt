-- Where a number stands in a table, looked for from its first entry on.
-- Assumes nothing.
use mathlib.Core.Path.{◌≡◌}
use Prim.Native.Nat.{ℕ, suc}
use borrow.Author.Tests.{eq-eqb, ne_eqb}
use Rattle.aes.specs.Byte.{listed, place}

module _ (f : ℕ → ℕ) (x k m : ℕ) where
  pub found : f k ≡ x → place x (listed f k (suc m)) ≡ 0
  unfolding place
  found e = rw (place, eq-eqb (f k) x e)

  pub passed : (f k ≡ x → ⊥) → place x (listed f k (suc m)) ≡ suc (place x (listed f (suc k) m))
  unfolding place
  passed n = rw (place, ne_eqb (f k) x n)
