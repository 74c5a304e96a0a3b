-- Before the turn with k the last k steps are left.
-- Assumes nothing.
use mathlib.Core.Path.{◌≡◌, ap, ◌∙◌}
use mathlib.Core.List.{List}
use Prim.Native.Nat.{ℕ, ◌+◌, ◌-◌}
use native.Mathlib.Omega.{arith}
use Rattle.buffer.specs.Wrap.{unwrap_steps}
use Rattle.wrap.specs.Engines.{opened}
use Rattle.buffer.proofs.Turns.{one_less}
use Rattle.wrap.proofs.engine.Keyed.unwrap_steps.Goals as goal

pub loop-k-preserved : goal.loop-k-preserved
loop-k-preserved c =
    let l = c.loop-k in
    let a = c.args.self.now in
    let D : List ℕ → List ℕ = opened a.engine a.schedule.now in
    let k : ℕ = l.k - 1 in
    let s : k + 1 ≡ l.k = omega arith in
    ap (unwrap_steps D a.n k) c.unwrap_step.ensures ∙ one_less D a.n k l.buffer ∙ ap (λ (j : ℕ). unwrap_steps D a.n j l.buffer) s ∙ l.invariant

pub returns : goal.returns
unfolding unwrap_steps
returns c =
    let l = c.loop-k in
    let none : l.k ≡ 0 = omega arith in
    rw none at l.invariant
