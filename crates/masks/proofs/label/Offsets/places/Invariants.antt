-- Each turn of the inner loop fills one more place, and each of the outer one a row.
-- Assumes nothing.
use Prim.Native.Nat.{◌+◌, ◌*◌}
use Rattle.aes.proofs.Fill.{Filled}
use Rattle.masks.specs.Order.{boxes_at}
use Rattle.masks.proofs.Columns.{row_byte}
use Rattle.masks.proofs.label.Offsets.places.Given as goal

abbrev pub invariant-loop-i : goal.invariant-loop-i
invariant-loop-i l = Filled (row_byte (boxes_at l.self.0)) 256 (16 * l.k + l.i) l.r

abbrev pub invariant-loop-k : goal.invariant-loop-k
invariant-loop-k l = Filled (row_byte (boxes_at l.self.0)) 256 (16 * l.k) l.r
