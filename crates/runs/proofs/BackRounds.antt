-- The rounds of an unrecorded decryption: after each the state is that of the steps so far, and after the last the block is that of all.
-- Assumes nothing.
use mathlib.Core.List.{List, ◌∷◌, ◌++◌}
use mathlib.Core.Path.{◌≡◌, refl, sym, ap, ◌∙◌}
use Prim.Native.Nat.{ℕ, suc, ◌+◌, ◌-◌, ◌*◌, ◌%◌, ◌<◌, ◌≤◌}
use native.Mathlib.Omega.{arith}
use Rattle.aes.specs.State.{inv_shift_rows, inv_mix_columns, Bytes}
use Rattle.aes.specs.Key.{round_key}
use Rattle.aes.specs.Record.{run, last}
use Rattle.masks.specs.Mask.{◌⊞◌, advanced, mask}
use Rattle.masks.specs.Order.{boxed_by, boxes_at}
use Rattle.masks.specs.declared.label.Label.{Label}
use Rattle.lent.specs.declared.tables.Schedule.{Schedule}
use Rattle.lent.specs.declared.tables.Decryption.{Decryption}
use Rattle.lent.specs.Started.{offsets_of}
use Rattle.lent.proofs.Whole.{mask_whole}
use Rattle.runs.specs.declared.round.Round.{Round}
use Rattle.runs.specs.declared.steps.Covered.{Covered}
use Rattle.runs.specs.Back.{Back, block, keyed, six, closing, sixes, back_points, masked_inv_cipher}
use Rattle.runs.specs.Lent.{back_steps}
use Rattle.runs.specs.Steps.{Behind, back}
use Rattle.runs.proofs.Labels.{first_label, label_on, boxes_whole}
use Rattle.runs.proofs.LentSteps.{reached_more, last_any}
use Rattle.runs.proofs.BackSteps.{lent_back}

-- the block, its key and r whole rounds
abbrev pub up : ℕ → List Back
up r = block ∷ keyed 0 ∷ sixes r

module _ (w : Schedule) (t : Decryption) where
  abbrev pub M : List ℕ
  M = t.laid.masks.bytes

  abbrev pub v : List ℕ
  v = offsets_of t.laid.masks

  abbrev pub d : ℕ
  d = t.laid.masks.step

  -- the constant of a run's end, from label o on
  abbrev pub end : ℕ → List ℕ
  end o = mask M v ((o + d * w.rounds) % 16)

  abbrev pub made : ℕ → Back → List ℕ → List ℕ
  made o = back w t o (end o)

  -- what the rounds after its own have made of a covered block
  abbrev pub Reached : Covered → Covered → Type 0
  Reached s u = Behind s.label.0 w t u × (u.round.0 ≤ w.rounds) × (u.bytes ≡ last s.bytes (run (made s.label.0) s.bytes (up (w.rounds - u.round.0))))

  -- a covered block, the key that comes first, and the two parts of a round
  abbrev pub covered : Label → List ℕ → Covered
  covered first b = record { label = first; round = record { 0 = w.rounds }; bytes = b ⊞ mask M v first.0 }

  pub covered_is : (first : Label) (b : List ℕ) {n : ℕ} {r : Round} {s : Covered} → s ≡ record { label = first; round = r; bytes = b ⊞ mask M v first.0 }
      → r ≡ record { 0 = n } → n ≡ w.rounds → s ≡ covered first b
  covered_is first b hs hr hn = hs ∙ λ i. record { label = first; round = (hr ∙ λ j. record { 0 = hn j }) i; bytes = b ⊞ mask M v first.0 }

  abbrev pub begun : Covered → Covered
  begun s = record s { bytes = s.bytes ⊞ round_key w.bytes.now s.round.0 }

  abbrev pub halved : Covered → Covered
  halved u = record {
    label = record { 0 = (u.label.0 + d) % 16 };
    round = record { 0 = u.round.0 - 1 };
    bytes = boxed_by t.boxes.now (boxes_at v u.label.0) (inv_shift_rows u.bytes ⊞ round_key t.rows.now (u.label.0 % 16));
  }

  abbrev pub rested : Covered → Covered
  rested u = record u { bytes = inv_mix_columns (u.bytes ⊞ round_key w.bytes.now u.round.0) ⊞ round_key t.columns.now (u.label.0 % 16) }

  none-done : (k n : ℕ) → k ≡ n → (n - k ≡ 0) × (k ≤ n) × (k ≡ n - 0)
  none-done k n e = (omega (arith, e), omega (arith, e), omega (arith, e))

  pub first_key : (s : Covered) → s.round.0 ≡ w.rounds → Reached s (begun s)
  unfolding sixes run last back_steps
  first_key s e =
      let none = none-done s.round.0 w.rounds e in
      rw none.0 (first_label s.label.0 d, none.1, ap (λ (k : ℕ). s.bytes ⊞ round_key w.bytes.now k) none.2)

  -- from round m one back
  one-back : (n m : ℕ) → m ≤ n → 0 < m → (m - 1 ≤ n) × (n - (m - 1) ≡ n - m + 1) × (n - (m - 1) ≡ suc (n - m)) × (m - 1 ≡ n - suc (n - m))
  one-back n m le some = (omega (arith, le, some), omega (arith, le, some), omega (arith, le, some), omega (arith, le, some))

  pub round_more : (s u : Covered) → 0 < u.round.0 → Reached s u → Reached s (rested (halved u))
  unfolding run last back_steps sixes
  round_more s u some h =
      let o : ℕ = s.label.0 in
      let r : ℕ = w.rounds - u.round.0 in
      let count = one-back w.rounds u.round.0 h.1 some in
      let on = label_on o d u.label.0 r h.0 in
      let row = h.0 in
      let boxes = boxes_whole v u.label.0 _ h.0 in
      let column = on ∙ ap (λ (j : ℕ). (o + d * j) % 16) (sym count.1 ∙ count.2) in (
        on ∙ ap (λ (j : ℕ). (o + d * j) % 16) (sym count.1),
        count.0,
        rw count.2
            (reached_more (made o) (up r) (six r) s.bytes u.bytes _ h.2
            (λ i. inv_mix_columns (boxed_by t.boxes.now (boxes i) (inv_shift_rows u.bytes ⊞ round_key t.rows.now (row i)) ⊞ round_key w.bytes.now (count.3 i)) ⊞ round_key t.columns.now (column i))),
      )

  -- the block with which a run ends, behind the first part of its last round
  abbrev pub closed : Covered → List ℕ
  closed u = let h = halved u in (h.bytes ⊞ round_key w.bytes.now h.round.0) ⊞ mask M v h.label.0

  at-end : (n m : ℕ) → m ≡ 1 → 0 < n → (n - m ≡ n - 1) × (m - 1 ≡ n - suc (n - 1)) × (n - m + 1 ≡ n)
  at-end n m e some = (omega (arith, e), omega (arith, e, some), omega (arith, e, some))

  run_closed : (s u : Covered) → Reached s u → u.round.0 ≡ 1 → closed u ≡ last s.bytes (run (made s.label.0) s.bytes (back_points w.rounds))
  unfolding run last back_steps back_points
  run_closed s u h e =
      let o : ℕ = s.label.0 in
      let n : ℕ = w.rounds in
      let r : ℕ = n - u.round.0 in
      let there = at-end n u.round.0 e w.some in
      let row = h.0 ∙ ap (λ (j : ℕ). (o + d * j) % 16) there.0 in
      let boxes = boxes_whole v u.label.0 _ row in
      let label = label_on o d u.label.0 r h.0 ∙ ap (λ (j : ℕ). (o + d * j) % 16) there.2 in
      let mask-is = sym (mask_whole M v ((u.label.0 + d) % 16)) ∙ ap (mask M v) label in
      reached_more (made o) (up (n - 1)) (closing (n - 1)) s.bytes u.bytes _ (rw there.0 at h.2)
      (λ i. (boxed_by t.boxes.now (boxes i) (inv_shift_rows u.bytes ⊞ round_key t.rows.now (row i)) ⊞ round_key w.bytes.now (there.1 i)) ⊞ mask-is i)

  pub run_is : {b : List ℕ} → Bytes 16 b → (first : Label) (s u : Covered) → s ≡ covered first b → Reached s u → u.round.0 ≡ 1 → closed u ≡ masked_inv_cipher w.rounds M (advanced v first.0) d w.bytes.now b
  unfolding back_points masked_inv_cipher
  run_is {b} hb first s u hs h e =
      let o : ℕ = s.label.0 in
      let n : ℕ = w.rounds in
      let o-is : o ≡ first.0 = ap (λ (q : Covered). q.label.0) hs in
      let bytes-is = ap (λ (q : Covered). q.bytes) hs ∙ ap (λ (j : ℕ). b ⊞ mask M v j) (sym o-is) in
      run_closed s u h e
      ∙ last_any (made o) s.bytes b s.bytes block (keyed 0 ∷ (sixes (n - 1) ++ closing (n - 1)))
      ∙ ap (last b) (lent_back t.laid.whole w.whole v o d n hb w.some s.bytes t.boxes.now t.rows.now t.columns.now (end o) bytes-is t.boxed t.row_wise t.column_wise refl)
      ∙ ap (λ (j : ℕ). masked_inv_cipher n M (advanced v j) d w.bytes.now b) o-is
