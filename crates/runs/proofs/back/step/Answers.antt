-- Each way ends in the step that the point names.
-- Assumes nothing.
use mathlib.Core.Path.{◌≡◌}
use Prim.Native.Nat.{ℕ, ◌+◌, ◌*◌, ◌/◌, ◌%◌, ◌<◌}
use native.Mathlib.Omega.{arith}
use Rattle.runs.proofs.BackPointSteps.{first_done, unshifted_done, corrected_done, unboxed_done, keyed_done, unmixed_done, restored_done}
use Rattle.runs.proofs.back.step.Goals as goal

pub returns-then-m-eq0 : goal.returns-then-m-eq0
returns-then-m-eq0 c = let a = c.args in rw c.add_key-then-m-eq0.ensures (first_done a.w.now a.t.now a.s a.m c.requires.1 c.if-m-eq0.true)

pub returns-in-1 : goal.returns-in-1
returns-in-1 c = let a = c.args in rw c.inv_shift_rows.ensures (unshifted_done a.w.now a.t.now a.s a.m c.requires.1 c.in-1.is)

pub returns-in-2 : goal.returns-in-2
returns-in-2 c = let a = c.args in rw c.correct_rows.ensures (corrected_done a.w.now a.t.now a.s a.m c.requires.1 c.in-2.is)

pub returns-in-3 : goal.returns-in-3
returns-in-3 c =
    let a = c.args in
    rw c.inverse_boxes.ensures (unboxed_done a.w.now a.t.now a.s a.m c.requires.1 c.in-3.is (some a.s.round.0 a.m a.w.now.rounds c.requires.1 c.in-3.is c.requires.0))
  where
    some : (k m n : ℕ) → k + (m + 2) / 6 ≡ n → m % 6 ≡ 3 → m + 1 < 6 * n → 0 < k
    some k m n e three lt = omega (arith, e, three, lt)

pub returns-in-4 : goal.returns-in-4
returns-in-4 c = let a = c.args in rw c.add_key.ensures (keyed_done a.w.now a.t.now a.s a.m c.requires.1 c.in-4.is)

pub returns-in-5 : goal.returns-in-5
returns-in-5 c = let a = c.args in rw c.inv_mix_columns.ensures (unmixed_done a.w.now a.t.now a.s a.m c.requires.1 c.in-5.is)

pub returns-else-m-eq0 : goal.returns-else-m-eq0
returns-else-m-eq0 c =
    let a = c.args in
    let other : a.m % 6 ≡ 0 = omega arith in
    rw c.correct_columns.ensures (restored_done a.w.now a.t.now a.s a.m c.requires.1 other c.if-m-eq0.false)
