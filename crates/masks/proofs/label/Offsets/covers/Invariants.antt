-- Each turn of the inner loop fills one more mask of a column, and each of the outer one a column.
-- Assumes nothing.
use Prim.Native.Nat.{◌+◌, ◌*◌}
use Rattle.masks.specs.Mask.{mask}
use Rattle.masks.proofs.Rows.{Down}
use Rattle.masks.proofs.label.Offsets.covers.Given as goal

abbrev pub invariant-loop-k : goal.invariant-loop-k
invariant-loop-k l = Down (mask l.fn.masks l.self.0) (16 * l.i + l.k) l.r

abbrev pub invariant-loop-i : goal.invariant-loop-i
invariant-loop-i l = Down (mask l.fn.masks l.self.0) (16 * l.i) l.r
