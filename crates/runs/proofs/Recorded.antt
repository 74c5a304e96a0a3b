-- A recorded run that stands before its last point, and the record that the last one completes.
-- Assumes nothing.
use mathlib.Core.List.{List, ◌∷◌}
use mathlib.Core.Path.{◌≡◌, refl, sym, ap, ◌∙◌}
use Prim.Native.Nat.{ℕ, ◌+◌, ◌-◌, ◌*◌, ◌/◌, ◌%◌, ◌<◌}
use native.Mathlib.Omega.{arith}
use lib.ListN.{length}
use Rattle.aes.specs.State.{shift_rows, Bytes}
use Rattle.aes.specs.Record.{block, points, bytes}
use Rattle.aes.proofs.Part.{back}
use Rattle.aes.proofs.Undo.{add_size}
use Rattle.aes.proofs.Written.{Written, turns, rounds-bytes, written-whole}
use Rattle.masks.specs.declared.label.Label.{Label}
use Rattle.masks.specs.Mask.{◌⊞◌, advanced, mask}
use Rattle.lent.specs.declared.tables.Schedule.{Schedule}
use Rattle.lent.specs.declared.tables.Encryption.{Encryption}
use Rattle.lent.proofs.Whole.{mask_whole}
use Rattle.runs.specs.declared.steps.Covered.{Covered}
use Rattle.runs.specs.Run.{masked_record}
use Rattle.runs.specs.Steps.{Forth}
use Rattle.runs.proofs.LentSteps.{steps_sized, after, after_all, after-written, uncovering-last, lent_record}
use Rattle.runs.proofs.Rounds.{M, v, d, end, made}

module _ (w : Schedule) (t : Encryption) {b : List ℕ} (hb : Bytes 16 b) (first : Label) (s : Covered)
    (hs : s ≡ record { label = first; round = record { 0 = 0 }; bytes = b ⊞ mask (M w t) (v w t) first.0 }) where
  abbrev n : ℕ
  n = w.rounds

  abbrev o : ℕ
  o = s.label.0

  size : length s.bytes ≡ 16
  size = ap (λ (q : Covered). length q.bytes) hs ∙ add_size _ _

  -- the round at the end, and all points, the last with them
  last-round : (n r : ℕ) → 0 < n → r ≡ (5 * n - 1 + 3) / 5 → r ≡ n
  last-round n r pos e = omega (arith, pos, e)

  all-turns : (n : ℕ) → 0 < n → (5 * n - 1 < 5 * n) × (5 * n - 1 + 1 ≡ 5 * n)
  all-turns n pos = (omega (arith, pos), omega (arith, pos))

  pub record_is : (u : Covered) → Forth o t u → u.round.0 ≡ (5 * n - 1 + 3) / 5 → {xs ys : List ℕ}
      → Written (made w t o) s.bytes (80 * n + 16) (block ∷ turns (after n) (5 * n - 1)) u.bytes xs → ys ≡ u.bytes ⊞ shift_rows (mask (M w t) (v w t) u.label.0)
      → back xs (16 * (5 * n - 1) + 16) (16 * (5 * n - 1) + 16 + 16 - (16 * (5 * n - 1) + 16)) ys ≡ bytes (masked_record n (M w t) (advanced (v w t) first.0) (d w t) w.bytes.now b)
  record_is u at e h hy =
      let M : List ℕ = M w t in
      let v : List ℕ = v w t in
      let d : ℕ = d w t in
      let label = at ∙ ap (λ (r : ℕ). (o + d * r) % 16) (last-round n u.round.0 w.some e) in
      let mask-is = sym (mask_whole M v u.label.0) ∙ ap (mask M v) label in
      let o-is : o ≡ first.0 = ap (λ (q : Covered). q.label.0) hs in
      let bytes-is = ap (λ (q : Covered). q.bytes) hs ∙ ap (λ (j : ℕ). b ⊞ mask M v j) (sym o-is) in
      let all = all-turns n w.some in
      let sized = steps_sized w.bytes.now t.boxes.now t.compensations.now v o d (end w t o) in
      let whole = after-written sized size n (5 * n - 1) all.0 h refl
      (hy ∙ ap (λ (m : List ℕ). u.bytes ⊞ shift_rows m) mask-is ∙ uncovering-last n w.some w.bytes.now t.boxes.now t.compensations.now v o d (end w t o) u.bytes) in
      written-whole sized size block (after n) (5 * n) (points n) (after_all n w.some) (rounds-bytes n w.some) (5 * n - 1 + 1) (omega (arith, all.1)) (omega (arith, all.1)) whole
      ∙ ap bytes (lent_record t.laid.whole w.whole v o d n hb w.some s.bytes t.boxes.now t.compensations.now (end w t o) bytes-is t.boxed t.compensated refl)
      ∙ ap (λ (j : ℕ). bytes (masked_record n M (advanced v j) d w.bytes.now b)) o-is
