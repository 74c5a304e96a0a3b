-- The plain decryption, point by point: its states are those of INVCIPHER.
-- Assumes nothing.
use mathlib.Core.Path.{◌≡◌, refl, sym, ap, ◌∙◌}
use mathlib.Core.List.{List, ◌∷◌, ◌++◌, map}
use Prim.Native.Nat.{ℕ, zero, suc, ◌-◌, ◌≤◌}
use native.Mathlib.Nat.{sub-zero}
use native.Mathlib.Omega.{arith}
use Rattle.aes.specs.State.{inv_sub_bytes, inv_shift_rows, inv_mix_columns, add_round_key}
use Rattle.aes.specs.Key.{round_key}
use Rattle.aes.specs.Cipher.{inv_rounds, inv_cipher}
use Rattle.aes.specs.Record.{last}
use Rattle.runs.specs.Back.{Back, block, keyed, unshifted, corrected, unboxed, unmixed, restored, uncovered, six, closing, sixes, back_points}
use Rattle.theorems.specs.BackTable.{plain_back, plain_back_record, inv_begun, inv_cipher_at}
use Rattle.theorems.proofs.Cover.{Linked, linked_rounds, followed, last-map}

one_round : (w s : List ℕ) (m : ℕ) → inv_rounds w s (suc m) ≡ inv_rounds w (inv_mix_columns (add_round_key (inv_sub_bytes (inv_shift_rows s)) (round_key w (suc m)))) m
unfolding inv_rounds
one_round w s m = refl

module _ (nr : ℕ) (w input : List ℕ) where
  -- INVCIPHER goes through the states that its rounds begin with: from each of them the rounds that are left end as all of them do
  pub rounds_left : (r : ℕ) → r ≤ nr - 1 → inv_rounds w (inv_begun nr w input r) (nr - 1 - r) ≡ inv_rounds w (inv_begun nr w input 0) (nr - 1)
  unfolding inv_begun
  rounds_left zero h = rw sub-zero
  rounds_left (suc r) h =
      let left : nr - 1 - r ≡ suc (nr - 1 - suc r) = omega arith in
      let key : nr - suc r ≡ suc (nr - 1 - suc r) = omega arith in
      rw key (sym (ap (inv_rounds w (inv_begun nr w input r)) left ∙ one_round w (inv_begun nr w input r) (nr - 1 - suc r)) ∙ rounds_left r (omega arith))

  -- and the state after its last key is what it gives
  finished : inv_cipher_at nr w input (keyed (suc (nr - 1))) ≡ inv_cipher nr w input
  unfolding inv_cipher_at inv_cipher inv_begun inv_rounds
  finished =
      let none : nr - 1 - (nr - 1) ≡ 0 = omega arith in
      let key : nr - suc (nr - 1) ≡ 0 = omega arith in
      rw (key, ← rounds_left (nr - 1) (omega arith), none)

  -- the state before each point
  before : Back → List ℕ
  before block = input
  before (keyed zero) = input
  before (keyed (suc r)) = inv_cipher_at nr w input (unboxed r)
  before (unshifted r) = inv_begun nr w input r
  before (corrected r) = inv_cipher_at nr w input (unshifted r)
  before (unboxed r) = inv_cipher_at nr w input (corrected r)
  before (unmixed r) = inv_cipher_at nr w input (keyed (suc r))
  before (restored r) = inv_cipher_at nr w input (unmixed r)
  before (uncovered r) = inv_cipher nr w input

  step : (p : Back) → plain_back nr w p (before p) ≡ inv_cipher_at nr w input p
  unfolding before plain_back inv_cipher_at inv_begun
  step block = refl
  step (keyed zero) = rw sub-zero
  step (keyed (suc r)) = refl
  step (unshifted r) = refl
  step (corrected r) = refl
  step (unboxed r) = refl
  step (unmixed r) = refl
  step (restored r) = refl
  step (uncovered r) = refl

  linked : Linked before (inv_cipher_at nr w input) input (block ∷ keyed 0 ∷ (sixes (nr - 1) ++ closing (nr - 1)))
  unfolding sixes last before inv_cipher_at
  linked = (
    refl,
    (
      refl,
      linked_rounds before (inv_cipher_at nr w input) sixes six refl (λ n. refl) (inv_begun nr w input) (λ n. (refl, (refl, (refl, (refl, (refl, (refl, tt))))))) (λ n. refl)
          (nr - 1) (closing (nr - 1)) (refl, (refl, (refl, (refl, (sym finished, tt))))),
    ),
  )

  -- every state of the plain decryption is that of INVCIPHER at its point, and the last what INVCIPHER gives
  pub back_record_is : plain_back_record nr w input ≡ map (inv_cipher_at nr w input) (back_points nr)
  unfolding plain_back_record back_points
  back_record_is = followed (plain_back nr w) before (inv_cipher_at nr w input) step (back_points nr) input linked

  pub back_record_last : last input (plain_back_record nr w input) ≡ inv_cipher nr w input
  unfolding back_points last inv_cipher_at
  back_record_last =
      ap (last input) back_record_is ∙ last-map (inv_cipher_at nr w input) (block ∷ keyed 0 ∷ sixes (nr - 1)) (closing (nr - 1)) input
