-- After each turn one round more is whole.
-- Assumes nothing.
use mathlib.Core.Path.{◌≡◌}
use Prim.Native.Nat.{◌+◌}
use Rattle.runs.specs.declared.steps.Covered.{Covered}
use Rattle.runs.proofs.BackRounds.{begun, Reached}
use Rattle.runs.proofs.back.opened.Given as goal

-- s is the covered block, to which the first key is then added
abbrev pub invariant-loop : goal.invariant-loop
invariant-loop l =
    (l.s.round.0 + l.counter ≡ l.w.rounds + 1) × ((s : Covered) → s.round.0 ≡ l.w.rounds → l.initial.s ≡ begun l.w l.t s → Reached l.w l.t s l.s)
