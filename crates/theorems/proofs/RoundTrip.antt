-- INVCIPHER undoes CIPHER, and CIPHER undoes INVCIPHER, for any schedule and any number of rounds.
-- Assumes nothing.
use mathlib.Core.Path.{◌≡◌, refl}
use mathlib.Core.List.{List}
use Prim.Native.Nat.{ℕ, zero, suc, ◌-◌}
use Rattle.aes.specs.State.{sub_bytes, inv_sub_bytes, shift_rows, inv_shift_rows, inv_mix_columns, add_round_key, Bytes}
use Rattle.aes.specs.Key.{round_key}
use Rattle.aes.specs.Cipher.{rounds, cipher, inv_rounds, inv_cipher}
use Rattle.aes.proofs.Undo.{add_bytes, sub_bytes_lem, key_bytes, shift_bytes, inv_shift_bytes, mix_bytes, inv_mix_bytes, add_twice, inv_shift_shift, shift_inv_shift, inv_mix_mix, mix_inv_mix}
use Rattle.theorems.proofs.SubBytes.{inv_sub_bytes_lem, inv_sub_sub, sub_inv_sub}

module _ (n : ℕ) (w : List ℕ) (h : Bytes n w) where
  key : (r : ℕ) → Bytes 16 (round_key w r)
  key = key_bytes n w h

  rounds-bytes : {s : List ℕ} (n : ℕ) → Bytes 16 s → Bytes 16 (rounds w s n)
  unfolding rounds
  rounds-bytes zero b = b
  rounds-bytes (suc n) b = add_bytes (mix_bytes _) (key (suc n))

  inv_rounds-bytes : {s : List ℕ} (n : ℕ) → Bytes 16 s → Bytes 16 (inv_rounds w s n)
  unfolding inv_rounds
  inv_rounds-bytes zero b = b
  inv_rounds-bytes {s} (suc n) b = inv_rounds-bytes {s = inv_mix_columns (add_round_key (inv_sub_bytes (inv_shift_rows s)) (round_key w (suc n)))} n (inv_mix_bytes _)

  -- the inverse rounds begin and end between a round's SHIFTROWS and its MIXCOLUMNS
  inv_rounds-rounds : {s : List ℕ} (n : ℕ) → Bytes 16 s
      → inv_rounds w (shift_rows (sub_bytes (rounds w s n))) n ≡ shift_rows (sub_bytes s)
  unfolding rounds inv_rounds
  inv_rounds-rounds zero b = refl
  inv_rounds-rounds {s} (suc n) b =
      let t : Bytes 16 (rounds w s n) = rounds-bytes n b in
      rw (
        inv_shift_shift (sub_bytes_lem (rounds-bytes (suc n) b)),
        inv_sub_sub (rounds-bytes (suc n) b),
        add_twice (round_key w (suc n)) (mix_bytes (shift_rows (sub_bytes (rounds w s n)))),
        inv_mix_mix (shift_bytes (sub_bytes_lem t)),
      )
      (inv_rounds-rounds n b)

  pub cipher-bytes : (nr : ℕ) {block : List ℕ} → Bytes 16 block → Bytes 16 (cipher nr w block)
  unfolding cipher
  cipher-bytes nr b = add_bytes (shift_bytes (sub_bytes_lem (rounds-bytes (nr - 1) (add_bytes b (key 0))))) (key nr)

  pub inv_cipher-bytes : (nr : ℕ) {block : List ℕ} → Bytes 16 block → Bytes 16 (inv_cipher nr w block)
  unfolding inv_cipher
  inv_cipher-bytes nr b = add_bytes (inv_sub_bytes_lem (inv_shift_bytes (inv_rounds-bytes (nr - 1) (add_bytes b (key nr))))) (key 0)

  pub inv_cipher-cipher : (nr : ℕ) {block : List ℕ} → Bytes 16 block → inv_cipher nr w (cipher nr w block) ≡ block
  unfolding cipher inv_cipher
  inv_cipher-cipher nr {block} b =
      let s : Bytes 16 (add_round_key block (round_key w 0)) = add_bytes b (key 0) in
      let t : Bytes 16 (rounds w (add_round_key block (round_key w 0)) (nr - 1)) = rounds-bytes (nr - 1) s in
      rw (
        add_twice (round_key w nr) (shift_bytes (sub_bytes_lem t)),
        inv_rounds-rounds (nr - 1) s,
        inv_shift_shift (sub_bytes_lem s),
        inv_sub_sub s,
      )
      (add_twice (round_key w 0) b)

  rounds-inv_rounds : {s : List ℕ} (n : ℕ) → Bytes 16 s
      → rounds w (inv_sub_bytes (inv_shift_rows (inv_rounds w s n))) n ≡ inv_sub_bytes (inv_shift_rows s)
  unfolding rounds inv_rounds
  rounds-inv_rounds zero b = refl
  rounds-inv_rounds {s} (suc n) b =
      let k : Bytes 16 (add_round_key (inv_sub_bytes (inv_shift_rows s)) (round_key w (suc n))) = add_bytes (inv_sub_bytes_lem (inv_shift_bytes b)) (key (suc n)) in
      let m : Bytes 16 (inv_mix_columns (add_round_key (inv_sub_bytes (inv_shift_rows s)) (round_key w (suc n)))) = inv_mix_bytes _ in
      rw (rounds-inv_rounds {s = inv_mix_columns (add_round_key (inv_sub_bytes (inv_shift_rows s)) (round_key w (suc n)))} n m, sub_inv_sub (inv_shift_bytes m), shift_inv_shift m, mix_inv_mix k)
      (add_twice (round_key w (suc n)) (inv_sub_bytes_lem (inv_shift_bytes b)))

  pub cipher-inv_cipher : (nr : ℕ) {block : List ℕ} → Bytes 16 block → cipher nr w (inv_cipher nr w block) ≡ block
  unfolding cipher inv_cipher
  cipher-inv_cipher nr {block} b =
      let s : Bytes 16 (add_round_key block (round_key w nr)) = add_bytes b (key nr) in
      let t : Bytes 16 (inv_rounds w (add_round_key block (round_key w nr)) (nr - 1)) = inv_rounds-bytes (nr - 1) s in
      rw (
        add_twice (round_key w 0) (inv_sub_bytes_lem (inv_shift_bytes t)),
        rounds-inv_rounds (nr - 1) s,
        sub_inv_sub (inv_shift_bytes s),
        shift_inv_shift s,
      )
      (add_twice (round_key w nr) b)
