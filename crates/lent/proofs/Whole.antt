-- Sixteen bytes are all of sixteen; and labels are counted modulo 16.
-- Assumes nothing.
use mathlib.Core.Path.{◌≡◌, ap}
use mathlib.Core.List.{List}
use Prim.Native.Nat.{ℕ, ◌+◌, ◌%◌}
use native.Mathlib.Nat.{zero-add}
use native.Mathlib.Omega.{arith}
use lib.ListN.{length}
use Rattle.aes.specs.Byte.{table}
use Rattle.aes.specs.State.{at}
use Rattle.aes.specs.Key.{round_key}
use Rattle.aes.proofs.Listed.{table_same}
use Rattle.aes.proofs.Undo.{state-at}
use Rattle.masks.specs.Mask.{label, mask}

pub all_sixteen : (xs : List ℕ) → length xs ≡ 16 → round_key xs 0 ≡ xs
unfolding round_key
all_sixteen xs l = simp zero-add (state-at xs l)

pub mask_whole : (M v : List ℕ) (k : ℕ) → mask M v (k % 16) ≡ mask M v k
unfolding mask table
mask_whole M v k =
    table_same (λ i. at M (label v (k % 16) i)) (λ i. at M (label v k i)) 16 (λ i h. ap (at M) (turn (at v i)))
  where
    turn : (a : ℕ) → (a + k % 16) % 16 ≡ (a + k) % 16
    turn a = omega arith
