-- The array holds the key and as many words more as turns were made.
-- Assumes nothing.
use mathlib.Core.List.{List}
use mathlib.Core.Path.{◌≡◌, ap, ◌∙◌}
use Prim.Native.Nat.{ℕ, ◌+◌, ◌-◌, ◌*◌, ◌≤◌, ◌<◌}
use native.Mathlib.Omega.{arith}
use borrow.Author.Rules.{rules}
use lib.ListN.{length}
use Rattle.aes.specs.Key.{word_at, temp, expanded, words, key_expansion}
use Rattle.aes.specs.Word.{word_of}
use Rattle.aes.proofs.Words.{word_sum}
use Rattle.aes.proofs.Schedule.{word_held, expanded-held, last_word}
use Rattle.aes.proofs.key.expanded.Goals as goal

none : (n : ℕ) → n - n ≡ 0
none n = omega arith

pub loop-i-init : goal.loop-i-init
unfolding expanded
loop-i-init c =
    let nk : ℕ = c.args.nk in
    let k : List ℕ = c.args.key.now in
    let last : word_of c.word_at-before.result ≡ word_at k (nk - 1) = c.word_at-before.ensures ∙ word_held 240 nk (nk - 1) k _ c.start-w.ensures c.requires.2 (search rules) in
    (rw (none nk) c.start-w.ensures, rw (none nk) last)

pub loop-i-preserved : goal.loop-i-preserved
loop-i-preserved c =
    let l = c.loop-i in
    let key : List ℕ = c.args.key.now in
    let nk : ℕ = c.args.nk in
    let le : nk ≤ l.i = search rules in
    let lt : l.i < 60 = omega arith in
    let temp-is = c.temp-t.ensures ∙ ap (λ (b : List ℕ). temp nk b l.i) l.invariant.1 in
    let made = c.put_word.ensures ∙ word_sum c.word_at.result c.temp-t.result c.word_at.ensures temp-is in
    let some = c.requires.0 in (
      expanded-held nk key l.w _ l.i some le c.requires.2 l.invariant.0 made lt,
      last_word nk key l.w _ l.i some le c.requires.2 l.invariant.0 (word_sum c.word_at.result c.temp-t.result c.word_at.ensures temp-is),
    )

words_are : (nk : ℕ) (key : List ℕ) → length key ≡ 4 * nk → words key ≡ nk
words_are nk key e = omega (arith, e)

pub returns : goal.returns
unfolding key_expansion
returns c =
    let l = c.loop-i in
    let a = c.args in
    let done : l.i - a.nk ≡ 4 * (a.nk + 7) - a.nk = omega arith in
    rw (words_are a.nk a.key.now c.requires.2) (rw done at l.invariant.0)
