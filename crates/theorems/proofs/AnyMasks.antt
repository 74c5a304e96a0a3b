-- The relation over any sequence of masks: a masked run's states are the plain ones, each under the mask of its point.
-- Assumes nothing.
use mathlib.Core.Path.{◌≡◌, refl, ap}
use mathlib.Core.List.{List, ◌∷◌, ◌++◌, map}
use Prim.Native.Nat.{ℕ, suc, ◌-◌}
use Rattle.aes.specs.State.{sub_bytes, shift_rows, mix_columns, add_round_key}
use Rattle.aes.specs.Key.{round_key}
use Rattle.aes.specs.Record.{Point, block, keyed, boxed, shifted, mixed, compensated, closed, uncovered, whole, final, wholes, points, run, last, plain, plain_record}
use Rattle.aes.proofs.Xor.{sums}
use Rattle.aes.proofs.Undo.{mix_add, shift_add}
use Rattle.masks.specs.Mask.{◌⊞◌}
use Rattle.masks.specs.MaskTable.{bare, mask_by}
use Rattle.theorems.specs.Summed.{summed}
use Rattle.theorems.proofs.Cover.{Linked, linked_rounds, cover}

pub add_swap : (s m k : List ℕ) → s ⊞ m ⊞ k ≡ s ⊞ k ⊞ m
unfolding add_round_key
add_swap s m k = simp sums

pub add_change : (s c m : List ℕ) → s ⊞ c ⊞ (m ⊞ c) ≡ s ⊞ m
unfolding add_round_key
add_change s c m = simp sums

pub add_gone : (s m : List ℕ) → s ⊞ m ⊞ m ≡ s ⊞ bare
unfolding add_round_key
add_gone s m = simp sums

pub add_bare : (a b : List ℕ) → a ⊞ bare ⊞ b ≡ a ⊞ b
unfolding add_round_key
add_bare a b = simp sums

-- The steps of a masked run over any sequence K of masks, where K r lies on the state that round r begins with.
unfoldable pub covered_by : (ℕ → List ℕ) → List ℕ → Point → List ℕ → List ℕ
covered_by K w block s = s ⊞ K 0
covered_by K w (keyed r) s = s ⊞ round_key w r
covered_by K w (boxed r) s = sub_bytes (s ⊞ K r) ⊞ K (suc r)
covered_by K w (shifted r) s = shift_rows s
covered_by K w (mixed r) s = mix_columns s
covered_by K w (compensated r) s = s ⊞ (K (suc r) ⊞ mix_columns (shift_rows (K (suc r))))
covered_by K w (closed r) s = s ⊞ round_key w (suc r)
covered_by K w (uncovered r) s = s ⊞ shift_rows (K (suc r))

-- the mask before each point
before : (ℕ → List ℕ) → Point → List ℕ
before K block = bare
before K (keyed r) = K r
before K (boxed r) = K r
before K (shifted r) = K (suc r)
before K (mixed r) = shift_rows (K (suc r))
before K (compensated r) = mix_columns (shift_rows (K (suc r)))
before K (closed r) = shift_rows (K (suc r))
before K (uncovered r) = shift_rows (K (suc r))

box_add : (s k m : List ℕ) → sub_bytes (s ⊞ k ⊞ k) ⊞ m ≡ sub_bytes s ⊞ m
unfolding sub_bytes add_round_key
box_add s k m = simp sums

module _ (K : ℕ → List ℕ) where
  -- a covered step takes the mask before its point to the mask at it
  step : (w : List ℕ) (p : Point) (s : List ℕ) → covered_by K w p (s ⊞ before K p) ≡ plain w p s ⊞ mask_by K p
  unfolding before covered_by plain mask_by
  step w block s = add_bare s (K 0)
  step w (keyed r) s = add_swap s (K r) (round_key w r)
  step w (boxed r) s = box_add s (K r) (K (suc r))
  step w (shifted r) s = shift_add s (K (suc r))
  step w (mixed r) s = mix_add s (shift_rows (K (suc r)))
  step w (compensated r) s = add_change s (mix_columns (shift_rows (K (suc r)))) (K (suc r))
  step w (closed r) s = add_swap s (shift_rows (K (suc r))) (round_key w (suc r))
  step w (uncovered r) s = add_gone s (shift_rows (K (suc r)))

  linked : (n : ℕ) → Linked (before K) (mask_by K) (K 0) (wholes n ++ final n)
  unfolding wholes last before mask_by
  linked n =
      linked_rounds (before K) (mask_by K) wholes whole refl (λ n. refl) K (λ n. (refl, (refl, (refl, (refl, (refl, tt)))))) (λ n. refl) n (final n)
      (refl, (refl, (refl, (refl, (refl, tt)))))

  pub relation_any : (w : List ℕ) (nr : ℕ) (b : List ℕ)
      → run (covered_by K w) b (points nr) ≡ summed (plain_record nr w b) (map (mask_by K) (points nr))
  unfolding run summed points plain_record covered_by plain mask_by
  relation_any w nr b =
      ap (λ (u : List (List ℕ)). b ⊞ K 0 ∷ u)
      (cover (plain w) (covered_by K w) (before K) (mask_by K) (step w) (wholes (nr - 1) ++ final (nr - 1)) (K 0) b (linked (nr - 1)))
