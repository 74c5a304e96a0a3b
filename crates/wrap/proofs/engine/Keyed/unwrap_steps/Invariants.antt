-- Before the turn with k the last k steps are left.
-- Assumes nothing.
use mathlib.Core.Path.{◌≡◌}
use Prim.Native.Nat.{◌*◌}
use Rattle.buffer.specs.Wrap.{unwrap_steps}
use Rattle.wrap.specs.Engines.{opened}
use Rattle.wrap.proofs.engine.Keyed.unwrap_steps.Given as goal

abbrev pub invariant-loop-k : goal.invariant-loop-k
invariant-loop-k l =
    unwrap_steps (opened l.self.engine l.self.schedule.now) l.self.n l.k l.buffer ≡ unwrap_steps (opened l.self.engine l.self.schedule.now) l.self.n (6 * l.self.n) l.initial.buffer
