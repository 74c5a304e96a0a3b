-- The bits moved, and 36 and 1b for those that leave.
-- Assumes nothing.
use Rattle.aes.proofs.Words.{word_fourfold}
use Rattle.aes.proofs.word.fourfold.Goals as goal

pub returns : goal.returns
returns c =
    word_fourfold c.args.x
