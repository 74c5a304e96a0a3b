-- Each turn fills one constant more of each kind.
-- Assumes nothing.
use Rattle.aes.specs.Held.{Holds}
use Rattle.aes.specs.Key.{round_key}
use Rattle.masks.specs.Mask.{in_row, after_rows, after_columns}
use Rattle.masks.proofs.constants.corrections_of.Given as goal

abbrev pub invariant-loop-n : goal.invariant-loop-n
invariant-loop-n l =
    Holds 256 (in_row (λ k. after_rows (round_key l.covers k)) l.n) l.rows × Holds 256 (in_row (λ k. after_columns (round_key l.covers k)) l.n) l.columns
