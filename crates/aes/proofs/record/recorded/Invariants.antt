-- After r turns the block and the states of r rounds stand in the record.
-- Assumes nothing.
use mathlib.Core.List.{◌∷◌}
use Prim.Native.Nat.{◌+◌, ◌*◌}
use Rattle.aes.specs.Record.{block, five, plain}
use Rattle.aes.proofs.Written.{Written, turns}
use Rattle.aes.proofs.record.recorded.Given as goal

abbrev pub invariant-loop-r : goal.invariant-loop-r
invariant-loop-r l = Written (plain l.w.bytes.now) l.initial.s (80 * l.w.rounds + 16) (block ∷ turns (five l.w.rounds) l.r) l.s l.states
