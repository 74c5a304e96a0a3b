-- After each turn one round more is whole.
-- Assumes nothing.
use mathlib.Core.Path.{◌≡◌}
use Prim.Native.Nat.{◌+◌}
use Rattle.runs.proofs.Rounds.{Reached}
use Rattle.runs.proofs.run.unrecorded.Given as goal

abbrev pub invariant-loop : goal.invariant-loop
invariant-loop l = (l.s.round.0 + 1 ≡ l.counter) × Reached l.w l.t l.initial.s l.s
