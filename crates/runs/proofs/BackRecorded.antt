-- A recorded decryption that stands before its last point, and the record that the last one completes.
-- Assumes nothing.
use mathlib.Core.List.{List, [], ◌∷◌, ◌++◌}
use mathlib.Core.Path.{◌≡◌, refl, sym, ap, ◌∙◌}
use Prim.Native.Nat.{ℕ, ◌+◌, ◌-◌, ◌*◌, ◌/◌, ◌%◌, ◌≤◌, ◌<◌}
use native.Mathlib.Omega.{arith}
use lib.ListN.{length, length-append}
use Rattle.aes.specs.State.{Bytes}
use Rattle.aes.specs.Record.{run, bytes}
use Rattle.aes.proofs.Part.{back}
use Rattle.aes.proofs.Undo.{add_size}
use Rattle.aes.proofs.Written.{Written, turns, turns_length, written_step, written_all}
use Rattle.masks.specs.declared.label.Label.{Label}
use Rattle.masks.specs.Mask.{◌⊞◌, advanced, mask}
use Rattle.lent.specs.declared.tables.Schedule.{Schedule}
use Rattle.lent.specs.declared.tables.Decryption.{Decryption}
use Rattle.lent.proofs.Whole.{mask_whole}
use Rattle.runs.specs.declared.steps.Covered.{Covered}
use Rattle.runs.specs.Back.{Back, block, uncovered, masked_back_record}
use Rattle.runs.specs.Lent.{back_steps}
use Rattle.runs.specs.Steps.{Behind}
use Rattle.runs.proofs.BackSteps.{lent_back}
use Rattle.runs.proofs.BackRecord.{back_sized, after, all_points}
use Rattle.runs.proofs.BackRounds.{M, v, d, end, made, covered}

module _ (w : Schedule) (t : Decryption) {b : List ℕ} (hb : Bytes 16 b) (first : Label) (s : Covered) (hs : s ≡ covered w t first b) where
  abbrev n : ℕ
  n = w.rounds

  abbrev o : ℕ
  o = s.label.0

  size : length s.bytes ≡ 16
  size = ap (λ (q : Covered). length q.bytes) hs ∙ add_size _ _

  -- the round at the end
  last-round : (k n : ℕ) → k + (6 * n - 1 + 2) / 6 ≡ n → 0 < n → (k ≡ 0) × (n - k ≡ n)
  last-round k n e pos = (omega (arith, e, pos), omega (arith, e, pos))

  -- how many bytes all of them are
  sizes : (n : ℕ) → 0 < n → (16 * (6 * n - 1) + 16 + 16 ≤ 96 * n + 16) × (16 ≡ 16 * (6 * n - 1) + 16 + 16 - (16 * (6 * n - 1) + 16))
  sizes n pos = (omega (arith, pos), omega arith)

  all-length : (n : ℕ) → 0 < n → 16 * length ((block ∷ turns after (6 * n - 1)) ++ (uncovered (n - 1) ∷ [])) ≡ 96 * n + 16
  all-length n pos =
      let e : length ((block ∷ turns after (6 * n - 1)) ++ (uncovered (n - 1) ∷ [])) ≡ length (block ∷ turns after (6 * n - 1)) + 1 = length-append (block ∷ turns after (6 * n - 1)) (uncovered (n - 1) ∷ []) in
      omega (arith, pos, e, turns_length block after 16 (λ i. refl) (6 * n - 1))

  -- what uncovers is the last step
  ending : (u : Covered) → Behind o w t u → n - u.round.0 ≡ n → u.bytes ⊞ mask (M w t) (v w t) u.label.0 ≡ made w t o (uncovered (n - 1)) u.bytes
  unfolding back_steps
  ending u at e =
      let label = at ∙ ap (λ (j : ℕ). (o + d w t * j) % 16) e in
      ap (λ (m : List ℕ). u.bytes ⊞ m) (sym (mask_whole (M w t) (v w t) u.label.0) ∙ ap (mask (M w t) (v w t)) label)

  pub record_is : (u : Covered) → Behind o w t u → u.round.0 + (6 * n - 1 + 2) / 6 ≡ n → {xs ys : List ℕ}
      → Written (made w t o) s.bytes (96 * n + 16) (block ∷ turns after (6 * n - 1)) u.bytes xs → ys ≡ u.bytes ⊞ mask (M w t) (v w t) u.label.0
      → back xs (16 * (6 * n - 1) + 16) (16 * (6 * n - 1) + 16 + 16 - (16 * (6 * n - 1) + 16)) ys ≡ bytes (masked_back_record n (M w t) (advanced (v w t) first.0) (d w t) w.bytes.now b)
  unfolding masked_back_record
  record_is u at e h hy =
      let M : List ℕ = M w t in
      let v : List ℕ = v w t in
      let d : ℕ = d w t in
      let z : ℕ = 16 * (6 * n - 1) + 16 in
      let room = sizes n w.some in
      let o-is : o ≡ first.0 = ap (λ (q : Covered). q.label.0) hs in
      let bytes-is = ap (λ (q : Covered). q.bytes) hs ∙ ap (λ (j : ℕ). b ⊞ mask M v j) (sym o-is) in
      let sized = back_sized n w.bytes.now t.boxes.now t.rows.now t.columns.now v o d (end w t o) in
      let last = written_step sized size h (uncovered (n - 1)) z (z + 16) (turns_length block after 16 (λ i. refl) (6 * n - 1)) room.1 (omega arith) room.0
      (ending u at (last-round u.round.0 n e w.some).1) hy in
      (written_all sized size last (all-length n w.some)).held
      ∙ ap (λ (ps : List Back). bytes (run (made w t o) s.bytes ps)) (all_points n w.some)
      ∙ ap bytes (lent_back t.laid.whole w.whole v o d n hb w.some s.bytes t.boxes.now t.rows.now t.columns.now (end w t o) bytes-is t.boxed t.row_wise t.column_wise refl)
      ∙ ap (λ (j : ℕ). bytes (masked_back_record n M (advanced v j) d w.bytes.now b)) o-is
