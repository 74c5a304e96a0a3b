-- Each pattern stands twice where the word of the counts says so.
-- Assumes nothing.
use mathlib.Core.Path.{ap, ◌∙◌}
use Prim.Native.Nat.{ℕ}
use lib.Dec.{eqb}
use Rattle.aes.specs.State.{at}
use Rattle.beside.specs.Fitness.{pattern}
use Rattle.beside.proofs.Even.{counted-even}
use Rattle.beside.proofs.fit.even.Goals as goal

pub returns : goal.returns
returns c =
    let a = c.args in
    ap (λ (v : ℕ). eqb v 0x0202020202020202) c.counted.ensures ∙ counted-even (λ k. pattern a.x a.y a.z (at a.masks.now k))
