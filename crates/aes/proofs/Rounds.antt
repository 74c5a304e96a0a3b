-- One round more, as a loop counts it.
-- Assumes nothing.
use mathlib.Core.Path.{◌≡◌, refl}
use mathlib.Core.List.{List}
use Prim.Native.Nat.{ℕ, zero, suc, ◌-◌, ◌<◌}
use native.Mathlib.Omega.{arith}
use Rattle.aes.specs.State.{sub_bytes, inv_sub_bytes, shift_rows, inv_shift_rows, mix_columns, inv_mix_columns, add_round_key}
use Rattle.aes.specs.Key.{round_key}
use Rattle.aes.specs.Cipher.{rounds, inv_rounds}

pub rounds_none : (w s : List ℕ) → s ≡ rounds w s 0
unfolding rounds
rounds_none w s = refl

pub rounds_more : (w s : List ℕ) (n : ℕ) → 0 < n → rounds w s n ≡ add_round_key (mix_columns (shift_rows (sub_bytes (rounds w s (n - 1))))) (round_key w n)
unfolding rounds
rounds_more w s zero h = absurd (omega arith)
rounds_more w s (suc n) h = let e : suc n - 1 ≡ n = omega arith in rw e

pub inv_rounds_none : (w s : List ℕ) → inv_rounds w s 0 ≡ s
unfolding inv_rounds
inv_rounds_none w s = refl

pub inv_rounds_more : (w s : List ℕ) (n : ℕ) → 0 < n
    → inv_rounds w s n ≡ inv_rounds w (inv_mix_columns (add_round_key (inv_sub_bytes (inv_shift_rows s)) (round_key w n))) (n - 1)
unfolding inv_rounds
inv_rounds_more w s zero h = absurd (omega arith)
inv_rounds_more w s (suc n) h = let e : suc n - 1 ≡ n = omega arith in rw e
