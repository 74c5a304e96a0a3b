-- Two halves, one after the other.
-- Assumes nothing.
use mathlib.Core.Path.{refl}
use Rattle.aes.specs.State.{state}
use Rattle.buffer.proofs.Pieces.{halves}
use Rattle.buffer.proofs.values.gather.Goals as goal

pub returns : goal.returns
returns c =
    let a = c.args in
    halves (state (λ k. 0)) a.buffer.now a.i refl c.requires.1 c.copy_from_slice.ensures.after c.copy_from_slice-2.ensures.after
