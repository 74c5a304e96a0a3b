-- The rounds of an unrecorded run: after each the state is that of the steps so far, and after the last the block is that of all.
-- Assumes nothing.
use mathlib.Core.List.{List, ◌∷◌, ◌++◌}
use mathlib.Core.Path.{◌≡◌, refl, sym, ap, ◌∙◌}
use Prim.Native.Nat.{ℕ, suc, ◌+◌, ◌-◌, ◌*◌, ◌%◌}
use native.Mathlib.Numerals.{add-one}
use native.Mathlib.Omega.{arith}
use Rattle.aes.specs.State.{shift_rows, mix_columns, Bytes}
use Rattle.aes.specs.Key.{round_key}
use Rattle.aes.specs.Record.{Point, block, whole, final, wholes, points, run, last}
use Rattle.masks.specs.Mask.{◌⊞◌, advanced, mask}
use Rattle.masks.specs.Order.{boxed_by, boxes_at}
use Rattle.masks.specs.declared.label.Label.{Label}
use Rattle.lent.specs.declared.tables.Schedule.{Schedule}
use Rattle.lent.specs.declared.tables.Encryption.{Encryption}
use Rattle.lent.specs.Started.{offsets_of}
use Rattle.lent.proofs.Whole.{mask_whole}
use Rattle.runs.specs.declared.steps.Covered.{Covered}
use Rattle.runs.specs.Run.{masked_cipher}
use Rattle.runs.specs.Lent.{steps}
use Rattle.runs.specs.Steps.{Forth, forth}
use Rattle.runs.proofs.Labels.{first_label, label_on, boxes_whole}
use Rattle.runs.proofs.LentSteps.{reached_more, last_any, lent_record}

-- the block and r whole rounds
abbrev pub up : ℕ → List Point
up r = block ∷ wholes r

module _ (w : Schedule) (t : Encryption) where
  abbrev pub M : List ℕ
  M = t.laid.masks.bytes

  abbrev pub v : List ℕ
  v = offsets_of t.laid.masks

  abbrev pub d : ℕ
  d = t.laid.masks.step

  -- the constant of a run's end, from label o on
  abbrev pub end : ℕ → List ℕ
  end o = shift_rows (mask M v ((o + d * w.rounds) % 16))

  abbrev pub made : ℕ → Point → List ℕ → List ℕ
  made o = forth w t o (end o)

  -- what the rounds before its own have made of a state
  abbrev pub Reached : Covered → Covered → Type 0
  Reached s u = Forth s.label.0 t u × (u.bytes ≡ last s.bytes (run (made s.label.0) s.bytes (up u.round.0)))

  -- the two parts of a round
  abbrev pub halved : Covered → Covered
  halved u = record {
    label = record { 0 = (u.label.0 + d) % 16 };
    round = record { 0 = u.round.0 + 1 };
    bytes = shift_rows (boxed_by t.boxes.now (boxes_at v u.label.0) (u.bytes ⊞ round_key w.bytes.now u.round.0));
  }

  abbrev pub rested : Covered → Covered
  rested u = record u { bytes = mix_columns u.bytes ⊞ round_key t.compensations.now (u.label.0 % 16) }

  pub begun : (s : Covered) → s.round.0 ≡ 0 → Reached s s
  unfolding wholes run last steps
  begun s e = rw e (first_label s.label.0 d, refl)

  pub round_more : (s u : Covered) → Reached s u → Reached s (rested (halved u))
  unfolding run last steps wholes
  round_more s u h =
      let o : ℕ = s.label.0 in
      let r : ℕ = u.round.0 in
      let on = label_on o d u.label.0 r h.0 in
      let boxes = boxes_whole v u.label.0 _ h.0 in
      let one : r + 1 ≡ suc r = add-one r in
      let constant = on ∙ ap (λ (j : ℕ). (o + d * j) % 16) one in (
        on,
        rw one
            (reached_more (made o) (up r) (whole r) s.bytes u.bytes _ h.1
            (λ i. mix_columns (shift_rows (boxed_by t.boxes.now (boxes i) (u.bytes ⊞ round_key w.bytes.now r))) ⊞ round_key t.compensations.now (constant i))),
      )

  -- the block with which a run ends, behind the first part of its last round
  abbrev pub closed : Covered → List ℕ
  closed u = let h = halved u in (h.bytes ⊞ round_key w.bytes.now h.round.0) ⊞ shift_rows (mask M v h.label.0)

  run_closed : (s u : Covered) → Reached s u → u.round.0 + 1 ≡ w.rounds → closed u ≡ last s.bytes (run (made s.label.0) s.bytes (points w.rounds))
  unfolding run last steps points
  run_closed s u h e =
      let o : ℕ = s.label.0 in
      let r : ℕ = u.round.0 in
      let over : w.rounds - 1 ≡ r = omega (arith, e) in
      let boxes = boxes_whole v u.label.0 _ h.0 in
      let one : r + 1 ≡ suc r = add-one r in
      let label = label_on o d u.label.0 r h.0 ∙ ap (λ (j : ℕ). (o + d * j) % 16) e in
      let mask-is = sym (mask_whole M v ((u.label.0 + d) % 16)) ∙ ap (mask M v) label in
      rw over
      (reached_more (made o) (up r) (final r) s.bytes u.bytes _ h.1
      (λ i. (shift_rows (boxed_by t.boxes.now (boxes i) (u.bytes ⊞ round_key w.bytes.now r)) ⊞ round_key w.bytes.now (one i)) ⊞ shift_rows (mask-is i)))

  pub run_is : {b : List ℕ} → Bytes 16 b → (first : Label) (s u : Covered) → s ≡ record { label = first; round = record { 0 = 0 }; bytes = b ⊞ mask M v first.0 }
      → Reached s u → u.round.0 + 1 ≡ w.rounds → closed u ≡ masked_cipher w.rounds M (advanced v first.0) d w.bytes.now b
  unfolding points masked_cipher
  run_is {b} hb first s u hs h e =
      let o : ℕ = s.label.0 in
      let n : ℕ = w.rounds in
      let o-is : o ≡ first.0 = ap (λ (q : Covered). q.label.0) hs in
      let covered = ap (λ (q : Covered). q.bytes) hs ∙ ap (λ (j : ℕ). b ⊞ mask M v j) (sym o-is) in
      run_closed s u h e
      ∙ last_any (made o) s.bytes b s.bytes block (wholes (n - 1) ++ final (n - 1))
      ∙ ap (last b) (lent_record t.laid.whole w.whole v o d n hb w.some s.bytes t.boxes.now t.compensations.now (end o) covered t.boxed t.compensated refl)
      ∙ ap (λ (j : ℕ). masked_cipher n M (advanced v j) d w.bytes.now b) o-is
