-- The relation of a decryption over any sequence of masks.
-- Assumes nothing.
use mathlib.Core.Path.{◌≡◌, refl, ap}
use mathlib.Core.List.{List, ◌∷◌, ◌++◌, map}
use Prim.Native.Nat.{ℕ, suc, ◌-◌}
use Rattle.aes.specs.State.{inv_sub_bytes, inv_shift_rows, inv_mix_columns, add_round_key}
use Rattle.aes.specs.Key.{round_key}
use Rattle.aes.specs.Record.{run, last}
use Rattle.aes.proofs.Xor.{sums}
use Rattle.aes.proofs.Undo.{inv_mix_add, inv_shift_add}
use Rattle.masks.specs.Mask.{◌⊞◌, after_rows, after_columns}
use Rattle.runs.specs.Back.{Back, block, keyed, unshifted, corrected, unboxed, unmixed, restored, uncovered, six, closing, sixes, back_points}
use Rattle.masks.specs.MaskTable.{bare}
use Rattle.theorems.specs.Summed.{summed}
use Rattle.theorems.specs.BackTable.{mask_back_by, plain_back, plain_back_record}
use Rattle.theorems.proofs.Cover.{Linked, linked_rounds, cover}
use Rattle.theorems.proofs.AnyMasks.{add_swap, add_change, add_gone, add_bare}

-- over any sequence K of masks, where K r lies on the state that round r begins with
unfoldable pub uncovering_by : ℕ → (ℕ → List ℕ) → List ℕ → Back → List ℕ → List ℕ
uncovering_by nr K w block s = s ⊞ K 0
uncovering_by nr K w (keyed r) s = s ⊞ round_key w (nr - r)
uncovering_by nr K w (unshifted r) s = inv_shift_rows s
uncovering_by nr K w (corrected r) s = s ⊞ after_rows (K r)
uncovering_by nr K w (unboxed r) s = inv_sub_bytes (s ⊞ K r) ⊞ K (suc r)
uncovering_by nr K w (unmixed r) s = inv_mix_columns s
uncovering_by nr K w (restored r) s = s ⊞ after_columns (K (suc r))
uncovering_by nr K w (uncovered r) s = s ⊞ K (suc r)

-- the mask before each point
before : (ℕ → List ℕ) → Back → List ℕ
before K block = bare
before K (keyed r) = K r
before K (unshifted r) = K r
before K (corrected r) = inv_shift_rows (K r)
before K (unboxed r) = K r
before K (unmixed r) = K (suc r)
before K (restored r) = inv_mix_columns (K (suc r))
before K (uncovered r) = K (suc r)

box_add : (s k m : List ℕ) → inv_sub_bytes (s ⊞ k ⊞ k) ⊞ m ≡ inv_sub_bytes s ⊞ m
unfolding inv_sub_bytes add_round_key
box_add s k m = simp sums

module _ (K : ℕ → List ℕ) (nr : ℕ) where
  step : (w : List ℕ) (p : Back) (s : List ℕ) → uncovering_by nr K w p (s ⊞ before K p) ≡ plain_back nr w p s ⊞ mask_back_by K p
  unfolding before uncovering_by plain_back mask_back_by after_rows after_columns
  step w block s = add_bare s (K 0)
  step w (keyed r) s = add_swap s (K r) (round_key w (nr - r))
  step w (unshifted r) s = inv_shift_add s (K r)
  step w (corrected r) s = add_change s (inv_shift_rows (K r)) (K r)
  step w (unboxed r) s = box_add s (K r) (K (suc r))
  step w (unmixed r) s = inv_mix_add s (K (suc r))
  step w (restored r) s = add_change s (inv_mix_columns (K (suc r))) (K (suc r))
  step w (uncovered r) s = add_gone s (K (suc r))

  linked : (n : ℕ) → Linked (before K) (mask_back_by K) (K 0) (keyed 0 ∷ (sixes n ++ closing n))
  unfolding sixes last before mask_back_by
  linked n = (
    refl,
    linked_rounds (before K) (mask_back_by K) sixes six refl (λ n. refl) K (λ n. (refl, (refl, (refl, (refl, (refl, (refl, tt))))))) (λ n. refl) n (closing n)
        (refl, (refl, (refl, (refl, (refl, tt))))),
  )

  pub back_relation_any : (w b : List ℕ)
      → run (uncovering_by nr K w) b (back_points nr) ≡ summed (plain_back_record nr w b) (map (mask_back_by K) (back_points nr))
  unfolding run summed back_points plain_back_record uncovering_by plain_back mask_back_by
  back_relation_any w b =
      ap (λ (u : List (List ℕ)). b ⊞ K 0 ∷ u)
      (cover (plain_back nr w) (uncovering_by nr K w) (before K) (mask_back_by K) (step w) (keyed 0 ∷ (sixes (nr - 1) ++ closing (nr - 1))) (K 0) b (linked (nr - 1)))
