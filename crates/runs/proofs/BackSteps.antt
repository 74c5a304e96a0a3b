-- The steps of a decryption over stored boxes and corrections are those of its definition.
-- Assumes nothing.
use mathlib.Core.Path.{◌≡◌, refl, sym, ap, subst, ◌∙◌}
use mathlib.Core.Bool.{Bool, true, false}
use mathlib.Core.List.{List, ◌∷◌, ◌++◌}
use Prim.Native.Nat.{ℕ, zero, suc, ◌+◌, ◌-◌, ◌*◌, ◌%◌, ◌<◌}
use native.Mathlib.Omega.{arith}
use borrow.Author.Tests.{eq-eqb}
use lib.Dec.{T, eqb, eqb→eq}
use Rattle.aes.specs.Byte.{◌⊕◌}
use Rattle.aes.specs.Box.{inv_s_box}
use Rattle.aes.specs.State.{at, Bytes}
use Rattle.aes.specs.Record.{run}
use Rattle.aes.proofs.Xor.{xor_byte}
use Rattle.aes.proofs.Boxes.{inv_s_box_byte}
use Rattle.aes.proofs.Undo.{state-bytes, add_bytes, key_bytes, inv_shift_bytes, inv_mix_bytes}
use Rattle.masks.specs.Mask.{◌⊞◌, label, advanced, mask, masked_box, masked_boxes, after_rows, after_columns, constants}
use Rattle.masks.specs.Order.{boxed_by}
use Rattle.runs.specs.Back.{Back, block, keyed, unshifted, corrected, unboxed, unmixed, restored, uncovered, six, closing, sixes, back_points, uncovering, masked_back_record}
use Rattle.runs.specs.Lent.{back_steps}
use Rattle.masks.proofs.Counted.{mask_first, mask_turn, boxes_turn}
use Rattle.masks.proofs.Stored.{boxed_is, rows_sized, columns_sized, constant-at}
use Rattle.runs.proofs.Agreeing.{all_due, both, due_append, run_is}

module _ {M w : List ℕ} (hM : Bytes 16 M) {size : ℕ} (hw : Bytes size w) (p : List ℕ) (o d n : ℕ) where
  -- the record of a run that begins o labels on from the offsets p
  abbrev v : List ℕ
  v = advanced p o

  mask-bytes : (k : ℕ) → Bytes 16 (mask M v k)
  unfolding mask
  mask-bytes k = state-bytes (λ i. at M (label v k i)) (λ i. hM.byte _)

  box_byte : (j x : ℕ) → x < 256 → masked_box inv_s_box M d j x < 256
  unfolding masked_box
  box_byte j x h =
      xor_byte (inv_s_box (x ⊕ at M (j % 16))) (at M ((j + d) % 16)) (inv_s_box_byte (x ⊕ at M (j % 16)) (xor_byte x (at M (j % 16)) h (hM.byte (j % 16)))) (hM.byte ((j + d) % 16))

  back_bytes : (q : Back) (s : List ℕ) → Bytes 16 s → Bytes 16 (uncovering n M v d w q s)
  unfolding uncovering after_rows after_columns
  back_bytes block s h = add_bytes h (mask-bytes 0)
  back_bytes (keyed r) s h = add_bytes h (key_bytes size w hw (n - r))
  back_bytes (unshifted r) s h = inv_shift_bytes h
  back_bytes (corrected r) s h = add_bytes h (add_bytes (mask-bytes (d * r)) (inv_shift_bytes (mask-bytes (d * r))))
  back_bytes (unboxed r) s h = state-bytes (λ i. masked_box inv_s_box M d (label v (d * r) i) (at s i)) (λ i. box_byte (label v (d * r) i) (at s i) (h.byte i))
  back_bytes (unmixed r) s h = inv_mix_bytes s
  back_bytes (restored r) s h = add_bytes h (add_bytes (mask-bytes (d * suc r)) (inv_mix_bytes (mask M v (d * suc r))))
  back_bytes (uncovered r) s h = add_bytes h (mask-bytes (d * suc r))

  -- the steps as a run of n rounds has them
  abbrev lent : Back → List ℕ → List ℕ
  lent = back_steps n w (masked_boxes inv_s_box M d) (constants after_rows M p) (constants after_columns M p) p o d (mask M p ((o + d * n) % 16))

  -- behind the covered block, and uncovered after the last round alone
  due : Back → Bool
  due block = false
  due (keyed r) = true
  due (unshifted r) = true
  due (corrected r) = true
  due (unboxed r) = true
  due (unmixed r) = true
  due (restored r) = true
  due (uncovered r) = eqb (suc r) n

  lent_is : (q : Back) → T (due q) → (s : List ℕ) → Bytes 16 s → lent q s ≡ uncovering n M v d w q s
  unfolding due back_steps uncovering
  lent_is block t s h = elim t [ ]
  lent_is (keyed r) t s h = refl
  lent_is (unshifted r) t s h = refl
  lent_is (corrected r) t s h =
      ap (λ (k : List ℕ). s ⊞ k) (constant-at after_rows rows_sized M p ((o + d * r) % 16) (omega arith) ∙ ap after_rows (mask_turn M p o (d * r)))
  lent_is (unboxed r) t s h = ap (λ (l : List ℕ). boxed_by (masked_boxes inv_s_box M d) l s) (boxes_turn p o (d * r)) ∙ boxed_is inv_s_box M v d (d * r) s h.byte
  lent_is (unmixed r) t s h = refl
  lent_is (restored r) t s h =
      ap (λ (k : List ℕ). s ⊞ k) (constant-at after_columns columns_sized M p ((o + d * suc r) % 16) (omega arith) ∙ ap after_columns (mask_turn M p o (d * suc r)))
  lent_is (uncovered r) t s h = ap (λ (m : List ℕ). s ⊞ m) (mask_turn M p o (d * n) ∙ ap (λ (k : ℕ). mask M v (d * k)) (sym (eqb→eq (suc r) n t)))

  sixes_due : (k : ℕ) → T (all_due due (sixes k))
  unfolding sixes all_due due
  sixes_due zero = tt
  sixes_due (suc k) = due_append due (sixes k) (six k) (sixes_due k) tt

  closing_due : (k : ℕ) → suc k ≡ n → T (all_due due (closing k))
  unfolding all_due due
  closing_due k e = both (eqb (suc k) n) true (subst T (sym (eq-eqb (suc k) n e)) tt) tt

  -- the points behind the covered block
  abbrev behind : List Back
  behind = keyed 0 ∷ (sixes (n - 1) ++ closing (n - 1))

  behind_due : 0 < n → T (all_due due behind)
  unfolding all_due due
  behind_due pos = due_append due (sixes (n - 1)) (closing (n - 1)) (sixes_due (n - 1)) (closing_due (n - 1) (omega (arith, pos)))

  -- what a run of the steps records, where it is lent the right tables and starts from the covered block
  pub lent_back : {input : List ℕ} → Bytes 16 input → 0 < n → (s b rows columns end : List ℕ) → s ≡ input ⊞ mask M p o → b ≡ masked_boxes inv_s_box M d
      → rows ≡ constants after_rows M p → columns ≡ constants after_columns M p → end ≡ mask M p ((o + d * n) % 16)
      → run (back_steps n w b rows columns p o d end) s (back_points n) ≡ masked_back_record n M v d w input
  unfolding masked_back_record back_points run back_steps uncovering
  lent_back {input} h pos s b rows columns end es eb er ec ee =
      let start : s ≡ input ⊞ mask M v 0 = es ∙ ap (λ (m : List ℕ). input ⊞ m) (mask_first M p o) in
      (λ i. run (back_steps n w (eb i) (er i) (ec i) p o d (ee i)) (start i) (back_points n))
      ∙ ap (λ (u : List (List ℕ)). (input ⊞ mask M v 0) ∷ u)
      (run_is lent (uncovering n M v d w) due lent_is back_bytes behind (behind_due pos) (input ⊞ mask M v 0) (add_bytes h (mask-bytes 0)))
