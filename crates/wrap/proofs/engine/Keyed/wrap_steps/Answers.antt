-- After k turns the first k steps are done.
-- Assumes nothing.
use mathlib.Core.Path.{refl, ap, ◌∙◌}
use mathlib.Core.List.{List}
use Prim.Native.Nat.{ℕ, ◌+◌}
use Rattle.buffer.specs.Wrap.{place, wrap_step, wrap_steps}
use Rattle.wrap.specs.Engines.{sealed}
use Rattle.buffer.proofs.Turns.{one_more}
use Rattle.wrap.proofs.engine.Keyed.wrap_steps.Goals as goal

pub loop-k-init : goal.loop-k-init
unfolding wrap_steps
loop-k-init c = refl

pub loop-k-preserved : goal.loop-k-preserved
loop-k-preserved c =
    let l = c.loop-k in
    let a = c.args.self.now in
    let E : List ℕ → List ℕ = sealed a.engine a.schedule.now in
    c.wrap_step.ensures ∙ ap (wrap_step E (place a.n l.k) (l.k + 1)) l.invariant ∙ one_more E a.n l.k c.args.buffer.now
