-- Each way ends in the step that the point names.
-- Assumes nothing.
use mathlib.Core.Path.{◌≡◌, sym, ap, ◌∙◌}
use Prim.Native.Nat.{ℕ, ◌*◌, ◌%◌}
use native.Mathlib.Omega.{arith}
use Rattle.runs.proofs.Points.{keyed_done, boxed_done, shifted_done, mixed_done, closed_done, compensated_done}
use Rattle.runs.proofs.run.step.Goals as goal

pub returns-in-0 : goal.returns-in-0
returns-in-0 c = let a = c.args in rw c.add_key.ensures (keyed_done a.w.now a.t.now a.s a.m c.requires.1 c.in-0.is)

pub returns-in-1 : goal.returns-in-1
returns-in-1 c = let a = c.args in rw c.boxes.ensures (boxed_done a.w.now a.t.now a.s a.m c.requires.1 c.in-1.is)

pub returns-in-2 : goal.returns-in-2
returns-in-2 c = let a = c.args in rw c.shift_rows.ensures (shifted_done a.w.now a.t.now a.s a.m c.requires.1 c.in-2.is)

pub returns-else-m-rounds : goal.returns-else-m-rounds
returns-else-m-rounds c =
    let a = c.args in
    rw c.mix_columns.ensures (mixed_done a.w.now a.t.now a.s a.m c.requires.1 c.in-3.is (λ last. c.if-m-rounds.false (last ∙ ap (λ (n : ℕ). 5 * n) (sym c.rounds.ensures))))

pub returns-then-m-rounds : goal.returns-then-m-rounds
returns-then-m-rounds c =
    let a = c.args in
    rw c.add_key-then-m-rounds.ensures (closed_done a.w.now a.t.now a.s a.m c.requires.1 (c.if-m-rounds.true ∙ ap (λ (n : ℕ). 5 * n) c.rounds.ensures))

pub returns-in_default : goal.returns-in_default
returns-in_default c =
    let a = c.args in
    let fourth : a.m % 5 ≡ 4 = omega arith in
    rw c.compensate.ensures (compensated_done a.w.now a.t.now a.s a.m c.requires.1 c.requires.0 fourth)
