-- Two records, state by state.
-- Assumes nothing.
use Rattle.std.specs.Prelude.{List, [], ◌∷◌, ℕ}
use Rattle.masks.specs.Mask.{◌⊞◌}

unfoldable pub summed : List (List ℕ) → List (List ℕ) → List (List ℕ)
summed [] v = []
summed (s ∷ u) [] = []
summed (s ∷ u) (t ∷ v) = s ⊞ t ∷ summed u v
