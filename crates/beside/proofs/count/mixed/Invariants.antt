-- Each turn fills one more byte, of the masks over a state that are moved by the two steps.
-- Assumes nothing.
use mathlib.Core.List.{List}
use Prim.Native.Nat.{ℕ, ◌+◌, ◌-◌, ◌%◌}
use Rattle.aes.specs.State.{at, state, shift_rows, mix_columns}
use Rattle.aes.proofs.Fill.{Filled}
use Rattle.masks.specs.Mask.{twice}
use Rattle.beside.proofs.count.mixed.Given as goal

-- the masks from a label on, of masks that lie there twice over
abbrev pub moved : List ℕ → ℕ → ℕ → ℕ
moved twice i l = at (mix_columns (shift_rows (state (λ k. at twice (l % 16 + k))))) i

abbrev pub invariant-loop-n : goal.invariant-loop-n
invariant-loop-n l = Filled (moved l.twice l.byte) 16 l.n l.r

abbrev pub decreases-loop-n : goal.decreases-loop-n
decreases-loop-n l = 16 - l.n
