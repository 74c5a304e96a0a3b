-- After the first four each turn fills one row more.
-- Assumes nothing.
use Prim.Native.Nat.{◌*◌}
use Rattle.aes.proofs.Fill.{Filled}
use Rattle.masks.proofs.Columns.{row_byte, turning}
use Rattle.masks.proofs.constants.made.Given as goal

abbrev pub invariant-loop-n : goal.invariant-loop-n
invariant-loop-n l = Filled (row_byte (turning l.fn.kind l.fn.masks)) 256 (16 * l.n) l.r
