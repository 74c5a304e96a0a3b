-- The cases of KEYEXPANSION.
-- Assumes nothing.
use mathlib.Core.Path.{◌≡◌, ap, ◌∙◌}
use Prim.Native.Nat.{ℕ, ◌-◌, ◌/◌, ◌%◌, ◌<◌}
use native.Mathlib.Omega.{arith}
use borrow.Author.Rules.{rules}
use borrow.Author.Tests.{eq-eqb, ne_eqb, le-leb, lt-leb}
use Rattle.aes.specs.Field.{raise}
use Rattle.aes.proofs.Listed.{table_at}
use Rattle.aes.proofs.Words.{word_sum}
use Rattle.aes.specs.Key.{rcon, sub_word, temp}
use Rattle.aes.specs.Word.{word_of}
use Rattle.aes.proofs.Schedule.{constant-below}
use Rattle.aes.proofs.key.temp.Goals as goal

pub returns-then-i-nk-eq0 : goal.returns-then-i-nk-eq0
unfolding temp
returns-then-i-nk-eq0 c =
    let i : ℕ = c.args.i in
    let nk : ℕ = c.args.nk in
    let below : i / nk < 11 = constant-below nk i c.requires.0 c.requires.2 in
    let turned = c.sub_word.ensures ∙ ap sub_word c.rot_word.ensures in
    let added : word_of c.word.result ≡ rcon (i / nk) = rw (← table_at (raise 0x02) 10 (i / nk - 1) (omega (arith, below)), ← c.requires.3) c.word.ensures in
    rw (eq-eqb (i % nk) 0 (search rules)) (word_sum c.sub_word.result c.word.result turned added)

pub returns-then-nk-lt7 : goal.returns-then-nk-lt7
unfolding temp
returns-then-nk-lt7 c =
    let i : ℕ = c.args.i in
    let nk : ℕ = c.args.nk in
    simp (ne_eqb (i % nk) 0 (search rules), lt-leb 7 nk (search rules))

pub returns-then-i-nk-eq4 : goal.returns-then-i-nk-eq4
unfolding temp
returns-then-i-nk-eq4 c =
    let i : ℕ = c.args.i in
    let nk : ℕ = c.args.nk in
    simp (ne_eqb (i % nk) 0 (search rules), le-leb 7 nk (search rules), eq-eqb (i % nk) 4 (search rules), c.sub_word-then-i-nk-eq4.ensures)

pub returns : goal.returns
unfolding temp
returns c =
    let i : ℕ = c.args.i in
    let nk : ℕ = c.args.nk in
    simp (ne_eqb (i % nk) 0 (search rules), le-leb 7 nk (search rules), ne_eqb (i % nk) 4 (search rules))
