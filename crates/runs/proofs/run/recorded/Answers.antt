-- After m turns the covered block and m states behind it stand in the record.
-- Assumes nothing.
use mathlib.Core.Path.{◌≡◌, refl, ap, ◌∙◌}
use Prim.Native.Nat.{ℕ, ◌+◌, ◌-◌, ◌*◌, ◌/◌, ◌≤◌, ◌<◌}
use native.Mathlib.Omega.{arith}
use lib.ListN.{length}
use Rattle.aes.specs.Record.{block}
use Rattle.aes.proofs.Undo.{add_size}
use Rattle.aes.proofs.Written.{written_first}
use Rattle.masks.proofs.Row.{ended}
use Rattle.lent.proofs.Owned.{field_bytes}
use Rattle.runs.specs.declared.steps.Covered.{Covered}
use Rattle.runs.specs.Lent.{steps}
use Rattle.runs.proofs.Labels.{first_label}
use Rattle.runs.proofs.LentSteps.{steps_sized, after-written}
use Rattle.runs.proofs.Rounds.{end}
use Rattle.runs.proofs.Recorded.{record_is}
use Rattle.runs.proofs.run.recorded.Goals as goal

room : (n : ℕ) → 16 ≤ 80 * n + 16
room n = omega arith

pub loop-m-init : goal.loop-m-init
unfolding steps
loop-m-init c =
    let k = c.cover_first-s.ensures.0 in
    let round : c.cover_first-s.result.round.0 ≡ 0 = ap (λ (s : Covered). s.round.0) k in
    let size : length c.cover_first-s.result.bytes ≡ 16 = ap (λ (s : Covered). length s.bytes) k ∙ add_size _ _ in
    (rw round (first_label _ _), round, written_first (steps_sized _ _ _ _ _ _ _) size block c.args.states.now (room _) c.requires refl c.cover_first-s.ensures.1)

-- the round of the next state
next-round : (m : ℕ) → (m + 4) / 5 ≡ (m + 1 + 3) / 5
next-round m = omega arith

-- a turn, of which the last is apart
turn-room : (n m : ℕ) → 0 < n → m < 5 * n - 1 → m < 5 * n
turn-room n m pos lt = omega (arith, pos, lt)

pub loop-m-preserved : goal.loop-m-preserved
loop-m-preserved c =
    let l = c.loop-m in
    let w = c.args.w.now in
    let n : ℕ = w.rounds in
    let k = c.point-s.ensures in
    let made = k.0 _ (end w c.args.t.now c.cover_first-s.result.label.0) l.invariant.0 in
    let size : length c.cover_first-s.result.bytes ≡ 16 = ap (λ (s : Covered). length s.bytes) c.cover_first-s.ensures.0 ∙ add_size _ _ in
    let lt : l.m < 5 * n - 1 = rw c.rounds.ensures at c.loop-m-test.true in
    (made.1, k.1 ∙ next-round l.m, after-written (steps_sized _ _ _ _ _ _ _) size n l.m (turn-room n l.m w.some lt) l.invariant.2 made.0 k.2)

pub returns : goal.returns
returns c =
    let a = c.args in
    let l = c.loop-m in
    let w = a.w.now in
    let h = l.invariant in
    let turned : l.m ≡ 5 * w.rounds - 1 = ended (l.auto.m-end) c.loop-m-test.false ∙ ap (λ (n : ℕ). 5 * n - 1) c.rounds.ensures in
    rw c.rounds.ensures
    (record_is w a.t.now (field_bytes {xs = a.block.0} c.well_formed.0.1.1.0) a.first c.cover_first-s.result c.cover_first-s.ensures.0 l.s h.0 (rw turned at h.1) (rw turned at h.2) c.uncover.ensures)
