-- The list of them.
-- Assumes nothing.
use mathlib.Core.Path.{refl}
use Rattle.beside.specs.Report.{triples}
use Rattle.beside.proofs.lines.triples.Goals as goal

pub returns : goal.returns
unfolding triples
returns c = refl
