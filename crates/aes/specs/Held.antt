-- A buffer of n bytes that begins with p.
-- Assumes nothing.
use Rattle.std.specs.Prelude.{◌≡◌, List, ℕ, length, take}

pub record Holds (n : ℕ) (p xs : List ℕ) : Type 0 where
  pub size : length xs ≡ n
  pub head : take (length p) xs ≡ p
