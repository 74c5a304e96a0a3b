-- The bytes of a word.
-- Assumes nothing.
use native.Mathlib.Nat.{div-one}
use Rattle.aes.specs.Word.{word_of}
use Rattle.aes.proofs.word.bytes.Goals as goal

pub returns : goal.returns
unfolding word_of
returns c =
    rw div-one
