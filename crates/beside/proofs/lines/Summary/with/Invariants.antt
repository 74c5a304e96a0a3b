-- Each turn looks at one count more.
-- Assumes nothing.
use mathlib.Core.Path.{◌≡◌}
use lib.Dec.{eqb}
use Rattle.aes.specs.Byte.{below}
use Rattle.aes.specs.State.{at}
use Rattle.beside.specs.Report.{least, greatest, picked}
use Rattle.beside.proofs.lines.Summary.with.Given as goal

abbrev pub invariant-loop-n : goal.invariant-loop-n
invariant-loop-n l =
    (l.two ≡ below l.n-index (λ t. eqb (at l.fn.c t) 2)) × (l.lowest ≡ picked least l.fn.c l.n-index l.self.lowest) × (l.highest ≡ picked greatest l.fn.c l.n-index l.self.highest)
