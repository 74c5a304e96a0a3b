-- The label of a covered state is that with which a run begins and a step for each of its rounds, modulo 16: so it begins, and so
-- every step of a run leaves it.
-- Assumes nothing.
use mathlib.Core.Path.{◌≡◌, ap}
use mathlib.Core.List.{List}
use Prim.Native.Nat.{ℕ, ◌+◌, ◌*◌, ◌%◌}
use native.Mathlib.Nat.{mul-zero, mul-suc}
use native.Mathlib.Numerals.{add-one}
use native.Mathlib.Omega.{arith}
use Rattle.aes.specs.Byte.{table}
use Rattle.aes.specs.State.{at}
use Rattle.aes.proofs.Listed.{table_same}
use Rattle.masks.specs.Mask.{label}
use Rattle.masks.specs.Order.{boxes_at}

module _ (o d : ℕ) where
  -- at a label, in a round
  abbrev pub At : ℕ → ℕ → Type 0
  At l r = l % 16 ≡ (o + d * r) % 16

  pub first_label : At o 0
  first_label = rw mul-zero (omega arith)

  -- a step on
  on : (k l : ℕ) → l % 16 ≡ (o + k) % 16 → (l + d) % 16 % 16 ≡ (o + (k + d)) % 16
  on k l h = omega (arith, h)

  pub label_on : (l r : ℕ) → At l r → At ((l + d) % 16) (r + 1)
  label_on l r h = rw (add-one, mul-suc) (on (d * r) l h)

-- where boxes begin is counted modulo 16 too
pub boxes_whole : (v : List ℕ) (k l : ℕ) → k % 16 ≡ l → boxes_at v k ≡ boxes_at v l
unfolding boxes_at table
boxes_whole v k l e =
    table_same (λ i. 256 * label v k i) (λ i. 256 * label v l i) 16 (λ i h. ap (λ (j : ℕ). 256 * j) (turn (at v i)))
  where
    turn : (a : ℕ) → (a + k) % 16 ≡ (a + l) % 16
    turn a = omega (arith, e)
