-- CIPHER and INVCIPHER of FIPS 197, 5.1 and 5.3, over a schedule w and the number of rounds.
-- Assumes nothing.
use Rattle.std.specs.Prelude.{List, ℕ, zero, suc, ◌-◌}
use Rattle.aes.specs.State.{sub_bytes, inv_sub_bytes, shift_rows, inv_shift_rows, mix_columns, inv_mix_columns, add_round_key}
use Rattle.aes.specs.Key.{round_key}

-- the state s after the rounds 1 to n
unfoldable pub rounds : List ℕ → List ℕ → ℕ → List ℕ
rounds w s zero = s
rounds w s (suc n) = add_round_key (mix_columns (shift_rows (sub_bytes (rounds w s n)))) (round_key w (suc n))

unfoldable pub cipher : ℕ → List ℕ → List ℕ → List ℕ
cipher nr w block =
    add_round_key (shift_rows (sub_bytes (rounds w (add_round_key block (round_key w 0)) (nr - 1)))) (round_key w nr)

-- the state s after the rounds n down to 1 of the inverse
unfoldable pub inv_rounds : List ℕ → List ℕ → ℕ → List ℕ
inv_rounds w s zero = s
inv_rounds w s (suc n) = inv_rounds w (inv_mix_columns (add_round_key (inv_sub_bytes (inv_shift_rows s)) (round_key w (suc n)))) n

unfoldable pub inv_cipher : ℕ → List ℕ → List ℕ → List ℕ
inv_cipher nr w block =
    add_round_key (inv_sub_bytes (inv_shift_rows (inv_rounds w (add_round_key block (round_key w nr)) (nr - 1)))) (round_key w 0)
