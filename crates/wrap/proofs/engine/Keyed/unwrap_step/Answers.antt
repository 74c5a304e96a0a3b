-- B, and what it makes of A and R[i].
-- Assumes nothing.
use mathlib.Core.Path.{◌≡◌, ap, ap₂, ◌∙◌}
use mathlib.Core.List.{List, ◌++◌}
use Prim.Native.Nat.{ℕ, ◌+◌, ◌≤◌}
use native.Mathlib.Omega.{arith}
use lib.ListN.{length, take, drop}
use Rattle.buffer.specs.Wrap.{place, value, counted, with_values, unwrap_step}
use Rattle.wrap.specs.Engines.{opened}
use Rattle.buffer.proofs.Pieces.{gathered_first, gathered_second}
use Rattle.wrap.proofs.engine.Keyed.unwrap_step.Goals as goal

pub returns : goal.returns
unfolding unwrap_step
returns c =
    let a = c.args.self.now in
    let s : List ℕ = c.args.buffer.now in
    let i : ℕ = place a.n c.args.k in
    let t : ℕ = c.args.k + 1 in
    let D : List ℕ → List ℕ = opened a.engine a.schedule.now in
    let room : 8 ≤ length s = omega (arith, c.requires.0) in
    let counting : c.counted-a.result ≡ counted t (take 8 s) ++ value i s =
    c.counted-a.ensures
    ∙ ap (λ (x : List ℕ). counted t (take 8 x) ++ drop 8 x) c.gather.ensures
    ∙ ap₂ (λ (x y : List ℕ). counted t x ++ y) (gathered_first s (value i s) room) (gathered_second s (value i s) room) in
    c.scatter.ensures ∙ ap (λ (d : List ℕ). with_values i (take 8 d) (drop 8 d) s) (c.opened.ensures ∙ ap D counting)
