-- After m turns the covered block and m states behind it stand in the record.
-- Assumes nothing.
use mathlib.Core.List.{◌∷◌}
use mathlib.Core.Path.{◌≡◌}
use Prim.Native.Nat.{ℕ, ◌+◌, ◌*◌, ◌/◌}
use Rattle.aes.proofs.Written.{Written, turns}
use Rattle.runs.specs.Back.{block}
use Rattle.runs.specs.Steps.{Behind}
use Rattle.runs.proofs.BackRecord.{after}
use Rattle.runs.proofs.BackRounds.{made}
use Rattle.runs.proofs.back.opened_recorded.Given as goal

abbrev pub invariant-loop-m : goal.invariant-loop-m
invariant-loop-m l =
    let o : ℕ = l.initial.s.label.0 in
    let n : ℕ = l.w.rounds in
    Behind o l.w l.t l.s × (l.s.round.0 + (l.m + 2) / 6 ≡ n) × Written (made l.w l.t o) l.initial.s.bytes (96 * n + 16) (block ∷ turns after l.m) l.s.bytes l.states
