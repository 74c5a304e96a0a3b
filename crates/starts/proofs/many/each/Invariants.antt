-- After k turns the first k blocks stand in the output.
-- Assumes nothing.
use Prim.Native.Nat.{◌*◌}
use lib.ListN.{length}
use Rattle.aes.specs.Held.{Holds}
use Rattle.masks.specs.Mask.{in_row}
use Rattle.starts.specs.Each.{in_turn}
use Rattle.starts.proofs.many.each.Given as goal

abbrev pub invariant-loop-k : goal.invariant-loop-k
invariant-loop-k l = Holds (16 * length l.offsets) (in_row (in_turn l.fn.schedule l.input l.offsets l.t.laid.masks.step) l.k) l.output
