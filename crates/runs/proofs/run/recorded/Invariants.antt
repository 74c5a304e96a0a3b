-- After m turns the covered block and m states behind it stand in the record.
-- Assumes nothing.
use mathlib.Core.List.{◌∷◌}
use mathlib.Core.Path.{◌≡◌}
use Prim.Native.Nat.{ℕ, ◌+◌, ◌*◌, ◌/◌}
use Rattle.aes.specs.Record.{block}
use Rattle.aes.proofs.Written.{Written, turns}
use Rattle.runs.specs.Steps.{Forth}
use Rattle.runs.proofs.LentSteps.{after}
use Rattle.runs.proofs.Rounds.{made}
use Rattle.runs.proofs.run.recorded.Given as goal

abbrev pub invariant-loop-m : goal.invariant-loop-m
invariant-loop-m l =
    let o : ℕ = l.initial.s.label.0 in
    let n : ℕ = l.w.rounds in
    Forth o l.t l.s × (l.s.round.0 ≡ (l.m + 3) / 5) × Written (made l.w l.t o) l.initial.s.bytes (80 * n + 16) (block ∷ turns (after n) l.m) l.s.bytes l.states
