-- Each turn counts one line more.
-- Assumes nothing.
use mathlib.Core.Path.{◌≡◌}
use Rattle.aes.specs.Held.{Holds}
use Rattle.masks.specs.Mask.{in_row}
use Rattle.beside.specs.Report.{counts_at, even_lines, lowest_of, highest_of}
use Rattle.beside.proofs.lines.report.Given as goal

abbrev pub invariant-loop-n : goal.invariant-loop-n
invariant-loop-n l =
    Holds 50176 (in_row (counts_at l.masks) l.n) l.lines × (l.s.even ≡ even_lines (counts_at l.masks) l.n) × (l.s.lowest ≡ lowest_of (counts_at l.masks) l.n) × (l.s.highest ≡ highest_of (counts_at l.masks) l.n)
