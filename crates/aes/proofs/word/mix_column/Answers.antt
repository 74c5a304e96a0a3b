-- By sums, turns and doubles of words.
-- Assumes nothing.
use mathlib.Core.List.{List}
use mathlib.Core.Path.{refl, ap, ◌∙◌}
use Prim.Native.Nat.{ℕ}
use Rattle.aes.specs.Byte.{◌⊕◌}
use Rattle.aes.specs.Key.{rot_word}
use Rattle.aes.specs.Word.{word_of, doubled}
use Rattle.aes.proofs.Columns.{mixed_word}
use Rattle.aes.proofs.Words.{word_sum, word_byte}
use Rattle.aes.proofs.word.mix_column.Goals as goal

pub returns : goal.returns
returns c =
    let x : ℕ = c.args.x in
    let r : ℕ = c.rot_word-r.result in
    let sum = word_sum x r refl c.rot_word-r.ensures in
    let turned = c.rot_word-2.ensures ∙ ap rot_word c.rot_word.ensures ∙ ap (λ (a : List ℕ). rot_word (rot_word a)) sum in
    let more = word_sum r c.rot_word-2.result c.rot_word-r.ensures turned in
    word_sum (r ⊕ c.rot_word-2.result) c.double.result more (c.double.ensures ∙ ap doubled sum)
    ∙ mixed_word (word_of x) (word_byte x)
