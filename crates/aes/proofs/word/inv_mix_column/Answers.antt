-- By sums, turns and doubles of words, mixed.
-- Assumes nothing.
use mathlib.Core.List.{List}
use mathlib.Core.Path.{refl, ap, ◌∙◌}
use Prim.Native.Nat.{ℕ}
use Rattle.aes.specs.Key.{rot_word}
use Rattle.aes.specs.Word.{word_of, doubled, matrix}
use Rattle.aes.proofs.Columns.{inv_mixed_word}
use Rattle.aes.proofs.Words.{word_sum, word_byte}
use Rattle.aes.proofs.word.inv_mix_column.Goals as goal

pub returns : goal.returns
returns c =
    let x : ℕ = c.args.x in
    let turned = c.rot_word-2.ensures ∙ ap rot_word c.rot_word.ensures in
    let sum = word_sum x c.rot_word-2.result refl turned in
    let fourfold = c.fourfold.ensures ∙ ap (λ (a : List ℕ). doubled (doubled a)) sum in
    c.mix_column.ensures ∙ ap (matrix 2 3 1 1) (word_sum x c.fourfold.result refl fourfold)
    ∙ inv_mixed_word (word_of x) (word_byte x)
