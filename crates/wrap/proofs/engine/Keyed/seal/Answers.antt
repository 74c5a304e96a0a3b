-- The buffer laid down, and then the steps.
-- Assumes nothing.
use mathlib.Core.Path.{◌≡◌, ◌∙◌}
use Prim.Native.Nat.{◌*◌, ◌/◌}
use native.Mathlib.Omega.{arith}
use lib.ListN.{length}
use Rattle.buffer.specs.Wrap.{wrap_steps, wrapped}
use Rattle.wrap.specs.Engines.{sealed}
use Rattle.wrap.proofs.engine.Keyed.seal.Goals as goal

pub returns : goal.returns
unfolding wrapped
returns c =
    let a = c.args.self.now in
    let E = sealed a.engine a.schedule.now in
    let n : a.n ≡ length c.args.keys.now / 8 = omega (arith, c.requires.0) in
    c.wrap_steps.ensures ∙ (λ i. wrap_steps E (n i) (6 * n i) (c.laid.ensures i))
