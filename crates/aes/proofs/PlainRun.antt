-- The steps of the plain run: each gives sixteen bytes, and both points that end a round repeat the state.
-- Assumes nothing.
use mathlib.Core.Path.{◌≡◌, refl}
use mathlib.Core.Bool.{Bool, true, false, cond}
use mathlib.Core.List.{List}
use Prim.Native.Nat.{ℕ}
use Rattle.aes.specs.State.{sub_bytes, shift_rows, mix_columns, add_round_key}
use Rattle.aes.specs.Record.{block, keyed, boxed, shifted, mixed, compensated, closed, uncovered, plain}
use Rattle.aes.proofs.Written.{Sized}

pub plain_sized : (w : List ℕ) → Sized (plain w)
unfolding plain add_round_key sub_bytes shift_rows mix_columns
plain_sized w block s l = l
plain_sized w (keyed r) s l = refl
plain_sized w (boxed r) s l = refl
plain_sized w (shifted r) s l = refl
plain_sized w (mixed r) s l = refl
plain_sized w (compensated r) s l = l
plain_sized w (closed r) s l = refl
plain_sized w (uncovered r) s l = l

pub repeats : (w s : List ℕ) (b : Bool) (r : ℕ) → plain w (cond b (uncovered r) (compensated r)) s ≡ s
unfolding plain
repeats w s true r = refl
repeats w s false r = refl
