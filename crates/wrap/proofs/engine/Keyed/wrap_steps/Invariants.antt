-- After k turns the first k steps are done.
-- Assumes nothing.
use mathlib.Core.Path.{◌≡◌}
use Rattle.buffer.specs.Wrap.{wrap_steps}
use Rattle.wrap.specs.Engines.{sealed}
use Rattle.wrap.proofs.engine.Keyed.wrap_steps.Given as goal

abbrev pub invariant-loop-k : goal.invariant-loop-k
invariant-loop-k l = l.buffer ≡ wrap_steps (sealed l.self.engine l.self.schedule.now) l.self.n l.k l.initial.buffer
