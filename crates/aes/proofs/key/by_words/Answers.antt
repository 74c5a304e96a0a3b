-- The part of the array that the schedule takes.
-- Assumes nothing.
use native.Mathlib.Omega.{arith}
use Prim.Native.Nat.{◌+◌, ◌*◌}
use Rattle.std.proofs.lemmas.Grind.{common_steps}
use Rattle.aes.specs.Key.{key_expansion}
use Rattle.aes.proofs.Schedule.{expansion_length, first_part}
use Rattle.aes.proofs.key.by_words.Goals as goal

pub returns : goal.returns
returns c =
    let a = c.args in
    let size = expansion_length a.nk a.key.now c.requires.2 in
    let part = first_part (key_expansion a.key.now) c.expanded-w.result (16 * a.nk + 112) c.expanded-w.ensures size in
    grind (arith, common_steps)
