-- The step that belongs to point m after the covered block of a decryption: what it makes of a state, and what it leaves of label and
-- round.
-- Assumes nothing.
use mathlib.Core.Path.{◌≡◌, refl, ap, ◌∙◌}
use mathlib.Core.List.{List}
use Prim.Native.Nat.{ℕ, suc, ◌+◌, ◌-◌, ◌*◌, ◌/◌, ◌%◌, ◌<◌}
use native.Mathlib.Omega.{arith}
use borrow.Author.Tests.{ne_eqb}
use lib.ListN.{get_or}
use Rattle.aes.specs.State.{inv_shift_rows, inv_mix_columns}
use Rattle.aes.specs.Key.{round_key}
use Rattle.masks.specs.Mask.{◌⊞◌}
use Rattle.masks.specs.Order.{boxed_by, boxes_at}
use Rattle.lent.specs.declared.tables.Schedule.{Schedule}
use Rattle.lent.specs.declared.tables.Decryption.{Decryption}
use Rattle.lent.specs.Started.{offsets_of}
use Rattle.runs.specs.declared.steps.Covered.{Covered}
use Rattle.runs.specs.Back.{block, restored}
use Rattle.runs.specs.Lent.{back_steps, around, back_point_after}
use Rattle.runs.specs.Steps.{Behind, back}
use Rattle.runs.proofs.Labels.{label_on, boxes_whole}

pub at_point : (m k : ℕ) → m % 6 ≡ k → back_point_after m ≡ get_or (around (m / 6)) k block
unfolding back_point_after
at_point m k e = ap (λ (j : ℕ). get_or (around (m / 6)) j block) e

-- at 0 modulo 6, but at the beginning, a round has been mixed
pub at_restored : (m : ℕ) → m % 6 ≡ 0 → (m ≡ 0 → ⊥) → back_point_after m ≡ restored (m / 6 - 1)
at_restored m e other = at_point m 0 e ∙ later (m / 6) (λ z. other (omega (arith, e, z)))
  where
    later : (r : ℕ) → (r ≡ 0 → ⊥) → get_or (around r) 0 block ≡ restored (r - 1)
    later r h = simp (ne_eqb r 0 h)

module _ (w : Schedule) (t : Decryption) (s : Covered) (m : ℕ) (round : s.round.0 + (m + 2) / 6 ≡ w.rounds) where
  -- u is what the point's step makes of s, for any label that the run has begun with and any last constant
  abbrev Done : Covered → Type 0
  Done u =
      ((o : ℕ) (end : List ℕ) → Behind o w t s → (u.bytes ≡ back w t o end (back_point_after m) s.bytes) × Behind o w t u) × (u.round.0 + (m + 3) / 6 ≡ w.rounds)

  -- a state that is not answered at this point keeps label and round
  kept : {x : List ℕ} → (m % 6 ≡ 3 → ⊥) → ((o : ℕ) (end : List ℕ) → Behind o w t s → x ≡ back w t o end (back_point_after m) s.bytes) → Done (record s { bytes = x })
  kept other made = (λ o end h. (made o end h, h), omega (arith, round, other))

  -- its label, by the rounds that are done
  label-of : (o r : ℕ) → w.rounds - s.round.0 ≡ r → Behind o w t s → s.label.0 % 16 ≡ (o + t.laid.masks.step * r) % 16
  label-of o r e h = h ∙ ap (λ (j : ℕ). (o + t.laid.masks.step * j) % 16) e

  -- and its key
  key-of : {k : ℕ} → s.round.0 ≡ k → s.bytes ⊞ round_key w.bytes.now s.round.0 ≡ s.bytes ⊞ round_key w.bytes.now k
  key-of e = ap (λ (k : ℕ). s.bytes ⊞ round_key w.bytes.now k) e

  pub first_done : m ≡ 0 → Done (record s { bytes = s.bytes ⊞ round_key w.bytes.now s.round.0 })
  unfolding back_steps back_point_after
  first_done e = kept (λ other. omega arith) (λ o end h. rw e (key-of (omega (arith, e, round))))

  pub unshifted_done : m % 6 ≡ 1 → Done (record s { bytes = inv_shift_rows s.bytes })
  unfolding back_steps
  unshifted_done e = kept (λ other. omega arith) (λ o end h. rw (at_point m 1 e) refl)

  pub corrected_done : m % 6 ≡ 2 → Done (record s { bytes = s.bytes ⊞ round_key t.rows.now (s.label.0 % 16) })
  unfolding back_steps
  corrected_done e =
      kept (λ other. omega arith)
      (λ o end h. rw (at_point m 2 e) (ap (λ (k : ℕ). s.bytes ⊞ round_key t.rows.now k) (label-of o (m / 6) (omega (arith, e, round)) h)))

  pub unboxed_done : m % 6 ≡ 3 → 0 < s.round.0
      → Done (record { label = record { 0 = (s.label.0 + t.laid.masks.step) % 16 }; round = record { 0 = s.round.0 - 1 }; bytes = boxed_by t.boxes.now (boxes_at (offsets_of t.laid.masks) s.label.0) s.bytes })
  unfolding back_steps
  unboxed_done e some =
      let next : w.rounds - (s.round.0 - 1) ≡ w.rounds - s.round.0 + 1 = omega (arith, e, round, some) in (
        λ o end h. (
          rw (at_point m 3 e) (ap (λ (p : List ℕ). boxed_by t.boxes.now p s.bytes) (boxes_whole (offsets_of t.laid.masks) s.label.0 _ (label-of o (m / 6) (omega (arith, e, round)) h))),
          rw next (label_on o t.laid.masks.step s.label.0 (w.rounds - s.round.0) h),
        ),
        omega (arith, e, round, some),
      )

  pub keyed_done : m % 6 ≡ 4 → Done (record s { bytes = s.bytes ⊞ round_key w.bytes.now s.round.0 })
  unfolding back_steps
  keyed_done e = kept (λ other. omega arith) (λ o end h. rw (at_point m 4 e) (key-of (omega (arith, e, round))))

  pub unmixed_done : m % 6 ≡ 5 → Done (record s { bytes = inv_mix_columns s.bytes })
  unfolding back_steps
  unmixed_done e = kept (λ other. omega arith) (λ o end h. rw (at_point m 5 e) refl)

  pub restored_done : m % 6 ≡ 0 → (m ≡ 0 → ⊥) → Done (record s { bytes = s.bytes ⊞ round_key t.columns.now (s.label.0 % 16) })
  unfolding back_steps
  restored_done e other =
      kept (λ three. omega arith)
      (λ o end h. rw (at_restored m e other) (ap (λ (k : ℕ). s.bytes ⊞ round_key t.columns.now k) (label-of o (suc (m / 6 - 1)) (omega (arith, e, other, round)) h)))
