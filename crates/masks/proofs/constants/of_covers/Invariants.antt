-- Each turn fills one constant more.
-- Assumes nothing.
use Rattle.aes.specs.Held.{Holds}
use Rattle.aes.specs.Key.{round_key}
use Rattle.masks.specs.Mask.{in_row}
use Rattle.masks.specs.Kinds.{constant_of}
use Rattle.masks.proofs.constants.of_covers.Given as goal

abbrev pub invariant-loop-n : goal.invariant-loop-n
invariant-loop-n l = Holds 256 (in_row (λ k. constant_of l.kind (round_key l.covers k)) l.n) l.r
