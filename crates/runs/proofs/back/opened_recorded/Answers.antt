-- After m turns the covered block and m states behind it stand in the record.
-- Assumes nothing.
use mathlib.Core.Path.{◌≡◌, refl, ap, ◌∙◌}
use Prim.Native.Nat.{ℕ, ◌+◌, ◌-◌, ◌*◌, ◌/◌, ◌≤◌, ◌<◌}
use native.Mathlib.Omega.{arith}
use lib.ListN.{length}
use Rattle.aes.proofs.Undo.{add_size}
use Rattle.aes.proofs.Written.{recorded_one, written_first, written_turn}
use Rattle.masks.proofs.Row.{ended}
use Rattle.lent.proofs.Owned.{field_bytes}
use Rattle.runs.specs.declared.steps.Covered.{Covered}
use Rattle.runs.specs.Back.{block}
use Rattle.runs.specs.Lent.{back_steps}
use Rattle.runs.proofs.Labels.{first_label}
use Rattle.runs.proofs.BackRecord.{back_sized, after}
use Rattle.runs.proofs.BackRounds.{end, covered_is}
use Rattle.runs.proofs.BackRecorded.{record_is}
use Rattle.runs.proofs.back.opened_recorded.Goals as goal

room : (n : ℕ) → 16 ≤ 96 * n + 16
room n = omega arith

-- the first label is that of no round done
none_done : (n k : ℕ) → k ≡ n → (n - k ≡ 0) × (k + 0 ≡ n)
none_done n k e = (omega (arith, e), omega (arith, e))

pub loop-m-init : goal.loop-m-init
unfolding back_steps
loop-m-init c =
    let a = c.args in
    let w = a.w.now in
    let t = a.t.now in
    let first = covered_is w t c.args.first c.args.block.0 c.cover_first-s.ensures.0 c.last.ensures c.rounds.ensures in
    let none = none_done w.rounds c.cover_first-s.result.round.0 (ap (λ (s : Covered). s.round.0) first) in
    (rw none.0 (first_label _ _), none.1, written_first (back_sized _ _ _ _ _ _ _ _ _) (ap (λ (s : Covered). length s.bytes) c.cover_first-s.ensures.0 ∙ add_size _ _) block a.states.now (room _) c.requires refl c.cover_first-s.ensures.1)

-- the round of the next state
next-round : (k m n : ℕ) → k + (m + 3) / 6 ≡ n → k + (m + 1 + 2) / 6 ≡ n
next-round k m n e = omega (arith, e)

turn-room : (n m : ℕ) → 0 < n → m < 6 * n - 1 → 16 * m + 16 + 16 ≤ 96 * n + 16
turn-room n m pos lt = omega (arith, pos, lt)

pub loop-m-preserved : goal.loop-m-preserved
loop-m-preserved c =
    let l = c.loop-m in
    let w = c.args.w.now in
    let n : ℕ = w.rounds in
    let k = c.point-s.ensures in
    let made = k.0 _ (end w c.args.t.now c.cover_first-s.result.label.0) l.invariant.0 in
    let lt : l.m < 6 * n - 1 = rw c.rounds-2.ensures at c.loop-m-test.true in (
      made.1,
      next-round c.point-s.result.round.0 l.m n k.1,
      written_turn (back_sized _ _ _ _ _ _ _ _ _) (ap (λ (s : Covered). length s.bytes) c.cover_first-s.ensures.0 ∙ add_size _ _) block after 16 (λ i. refl) l.m (turn-room n l.m w.some lt) l.invariant.2 (recorded_one made.0 k.2),
    )

pub returns : goal.returns
returns c =
    let a = c.args in
    let w = a.w.now in
    let t = a.t.now in
    let l = c.loop-m in
    let h = l.invariant in
    let first = covered_is w t c.args.first c.args.block.0 c.cover_first-s.ensures.0 c.last.ensures c.rounds.ensures in
    let turned : l.m ≡ 6 * w.rounds - 1 = ended (l.auto.m-end) c.loop-m-test.false ∙ ap (λ (n : ℕ). 6 * n - 1) c.rounds-2.ensures in
    rw c.rounds-2.ensures
    (record_is w t (field_bytes {xs = a.block.0} c.well_formed.0.1.1.0) a.first c.cover_first-s.result first l.s h.0 (rw turned at h.1) (rw turned at h.2) c.uncover_plain.ensures)
