-- The two of one offset end in sixteen bytes.
-- Assumes nothing.
use mathlib.Core.Path.{◌≡◌}
use mathlib.Core.List.{List}
use Prim.Native.Nat.{ℕ}
use lib.ListN.{length}
use Rattle.masks.specs.Mask.{published, one}
use Rattle.starts.proofs.Sizes.{masked_size, opened_size}
use Rattle.masked.specs.Calls.{sealed_one, opened_one}

pub sealed_one_size : (o : ℕ) (w b : List ℕ) → length (sealed_one o w b) ≡ 16
sealed_one_size o w b = masked_size 14 published (one o) 1 w b

pub opened_one_size : (o : ℕ) (w b : List ℕ) → length (opened_one o w b) ≡ 16
opened_one_size o w b = opened_size 14 published (one o) 1 w b
