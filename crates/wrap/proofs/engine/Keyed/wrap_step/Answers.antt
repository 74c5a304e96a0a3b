-- B, and what it makes of A and R[i].
-- Assumes nothing.
use mathlib.Core.Path.{◌≡◌, ap, ap₂, ◌∙◌}
use mathlib.Core.List.{List, ◌++◌}
use Prim.Native.Nat.{ℕ, ◌+◌}
use lib.ListN.{take, drop}
use Rattle.buffer.specs.Wrap.{place, value, counted, with_values, wrap_step}
use Rattle.wrap.specs.Engines.{sealed}
use Rattle.buffer.proofs.Pieces.{first_part, second_part}
use Rattle.wrap.proofs.engine.Keyed.wrap_step.Goals as goal

pub returns : goal.returns
unfolding wrap_step
returns c =
    let a = c.args.self.now in
    let s : List ℕ = c.args.buffer.now in
    let i : ℕ = place a.n c.args.k in
    let t : ℕ = c.args.k + 1 in
    let E : List ℕ → List ℕ = sealed a.engine a.schedule.now in
    let b : List ℕ = c.sealed-b.result in
    let e : b ≡ E (take 8 s ++ value i s) = c.sealed-b.ensures ∙ ap E c.gather.ensures in
    c.scatter.ensures
    ∙ ap (λ (r : List ℕ). with_values i (take 8 r) (drop 8 r) s) c.counted.ensures
    ∙ ap₂ (λ (x y : List ℕ). with_values i x y s) (first_part t b) (second_part t b)
    ∙ ap (λ (d : List ℕ). with_values i (counted t (take 8 d)) (drop 8 d) s) e
