-- The step that belongs to point m after the covered block: what it makes of a state, and what it leaves of label and round.
-- Assumes nothing.
use mathlib.Core.Path.{◌≡◌, refl, ap, ◌∙◌}
use mathlib.Core.Bool.{Bool, cond}
use mathlib.Core.List.{List}
use Prim.Native.Nat.{ℕ, suc, ◌+◌, ◌*◌, ◌/◌, ◌%◌, ◌<◌}
use native.Mathlib.Omega.{arith}
use borrow.Author.Tests.{eq-eqb}
use Rattle.aes.specs.State.{shift_rows, mix_columns}
use Rattle.aes.specs.Key.{round_key}
use Rattle.aes.specs.Record.{mixed, compensated, closed, uncovered}
use Rattle.masks.specs.Mask.{◌⊞◌}
use Rattle.masks.specs.Order.{boxed_by, boxes_at}
use Rattle.lent.specs.declared.tables.Schedule.{Schedule}
use Rattle.lent.specs.declared.tables.Encryption.{Encryption}
use Rattle.lent.specs.Started.{offsets_of}
use Rattle.runs.specs.declared.steps.Covered.{Covered}
use Rattle.runs.specs.Lent.{steps, point_after}
use Rattle.runs.specs.Steps.{Forth, forth}
use Rattle.runs.proofs.Labels.{label_on, boxes_whole}
use Rattle.runs.proofs.LentSteps.{after-at, not_last}

last_mixed : (n m : ℕ) → m % 5 ≡ 3 → suc (m / 5) ≡ n → m + 2 ≡ 5 * n
last_mixed n m k r = omega (arith, k, r)

before_last : (n m : ℕ) → m + 1 < 5 * n → m % 5 ≡ 4 → suc (m / 5) ≡ n → ⊥
before_last n m lt k r = omega (arith, lt, k, r)

module _ (w : Schedule) (t : Encryption) (s : Covered) (m : ℕ) (round : s.round.0 ≡ (m + 3) / 5) where
  -- u is what the point's step makes of s, for any label that the run has begun with and any last constant
  abbrev Done : Covered → Type 0
  Done u = ((o : ℕ) (end : List ℕ) → Forth o t s → (u.bytes ≡ forth w t o end (point_after w.rounds m) s.bytes) × Forth o t u) × (u.round.0 ≡ (m + 4) / 5)

  -- a state that is not answered at this point keeps label and round
  kept : {x : List ℕ} → (m % 5 ≡ 1 → ⊥) → ((o : ℕ) (end : List ℕ) → Forth o t s → x ≡ forth w t o end (point_after w.rounds m) s.bytes) → Done (record s { bytes = x })
  kept other made = (λ o end h. (made o end h, h), round ∙ omega (arith, round, other))

  pub keyed_done : m % 5 ≡ 0 → Done (record s { bytes = s.bytes ⊞ round_key w.bytes.now s.round.0 })
  unfolding steps
  keyed_done e = kept (λ other. omega arith) (λ o end h. rw (after-at w.rounds m 0 e) (ap (λ (k : ℕ). s.bytes ⊞ round_key w.bytes.now k) (omega (arith, e, round))))

  pub boxed_done : m % 5 ≡ 1
      → Done (record { label = record { 0 = (s.label.0 + t.laid.masks.step) % 16 }; round = record { 0 = s.round.0 + 1 }; bytes = boxed_by t.boxes.now (boxes_at (offsets_of t.laid.masks) s.label.0) s.bytes })
  unfolding steps
  boxed_done e =
      let d : ℕ = t.laid.masks.step in
      let r-is : s.round.0 ≡ m / 5 = omega (arith, e, round) in (
        λ o end h. (
          rw (after-at w.rounds m 1 e) (ap (λ (p : List ℕ). boxed_by t.boxes.now p s.bytes) (boxes_whole (offsets_of t.laid.masks) s.label.0 _ (h ∙ ap (λ (k : ℕ). (o + d * k) % 16) r-is))),
          label_on o d s.label.0 s.round.0 h,
        ),
        omega (arith, e, round),
      )

  pub shifted_done : m % 5 ≡ 2 → Done (record s { bytes = shift_rows s.bytes })
  unfolding steps
  shifted_done e = kept (λ other. omega arith) (λ o end h. rw (after-at w.rounds m 2 e) refl)

  pub mixed_done : m % 5 ≡ 3 → (m + 2 ≡ 5 * w.rounds → ⊥) → Done (record s { bytes = mix_columns s.bytes })
  unfolding steps
  mixed_done e before =
      kept (λ other. omega arith)
      (λ o end h. rw (after-at w.rounds m 3 e ∙ not_last w.rounds (m / 5) (closed (m / 5)) (mixed (m / 5)) (λ last. before (last_mixed w.rounds m e last))) refl)

  pub closed_done : m + 2 ≡ 5 * w.rounds → Done (record s { bytes = s.bytes ⊞ round_key w.bytes.now s.round.0 })
  unfolding steps
  closed_done e =
      let here : m % 5 ≡ 3 = omega (arith, e) in
      let last : suc (m / 5) ≡ w.rounds = omega (arith, e) in
      kept (λ other. omega arith)
      (λ o end h. rw (after-at w.rounds m 3 here ∙ ap (λ (q : Bool). cond q (closed (m / 5)) (mixed (m / 5))) (eq-eqb (suc (m / 5)) w.rounds last)) (ap (λ (k : ℕ). s.bytes ⊞ round_key w.bytes.now k) (omega (arith, here, round))))

  pub compensated_done : m + 1 < 5 * w.rounds → m % 5 ≡ 4 → Done (record s { bytes = s.bytes ⊞ round_key t.compensations.now (s.label.0 % 16) })
  unfolding steps
  compensated_done lt e =
      let r-is : s.round.0 ≡ suc (m / 5) = omega (arith, e, round) in
      kept (λ other. omega arith)
      (λ o end h. rw (after-at w.rounds m 4 e ∙ not_last w.rounds (m / 5) (uncovered (m / 5)) (compensated (m / 5)) (before_last w.rounds m lt e)) (ap (λ (k : ℕ). s.bytes ⊞ round_key t.compensations.now k) (h ∙ ap (λ (j : ℕ). (o + t.laid.masks.step * j) % 16) r-is)))
