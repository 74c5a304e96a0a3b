-- KEYEXPANSION of FIPS 197, 5.2, for Nk = 4, 6 and 8 words of key.
-- Assumes nothing.
use Rattle.std.specs.Prelude.{cond, ◌&&◌, List, [], ◌∷◌, ◌++◌, ℕ, zero, suc, ◌+◌, ◌-◌, ◌*◌, ◌/◌, ◌%◌, eqb, leb, length}
use Rattle.aes.specs.Byte.{◌⊕◌, listed}
use Rattle.aes.specs.Field.{raise}
use Rattle.aes.specs.Box.{s_box}
use Rattle.aes.specs.State.{at, state}

-- the word whose bytes are f 0 to f 3, and word i of a schedule
abbrev pub word : (ℕ → ℕ) → List ℕ
word f = listed f 0 4

abbrev pub word_at : List ℕ → ℕ → List ℕ
word_at w i = word (λ j. at w (4 * i + j))

abbrev pub sum_word : List ℕ → List ℕ → List ℕ
sum_word a b = word (λ j. at a j ⊕ at b j)

abbrev pub rot_word : List ℕ → List ℕ
rot_word a = word (λ j. at a ((j + 1) % 4))

abbrev pub sub_word : List ℕ → List ℕ
sub_word a = word (λ j. s_box (at a j))

-- the round constant j, from 1 on: 02 to the power j - 1, and three bytes 00
abbrev pub rcon : ℕ → List ℕ
rcon j = raise 0x02 (j - 1) ∷ 0 ∷ 0 ∷ 0 ∷ []

-- what is added to word i - nk to make word i, by the word before: where nk is above 6, one more in the middle is substituted
unfoldable pub temp : ℕ → List ℕ → ℕ → List ℕ
temp nk before i =
    cond (eqb (i % nk) 0) (sum_word (sub_word (rot_word before)) (rcon (i / nk)))
    (cond (leb 7 nk && eqb (i % nk) 4) (sub_word before) before)

unfoldable pub next_word : ℕ → List ℕ → ℕ → List ℕ
next_word nk w i = sum_word (word_at w (i - nk)) (temp nk (word_at w (i - 1)) i)

-- the key's nk words, and n words more
unfoldable pub expanded : ℕ → List ℕ → ℕ → List ℕ
expanded nk key zero = key
expanded nk key (suc n) = let w = expanded nk key n in w ++ next_word nk w (nk + n)

-- how many words a key has
abbrev pub words : List ℕ → ℕ
words key = length key / 4

-- KEYEXPANSION: four words for each of nk + 6 rounds, and four more
unfoldable pub key_expansion : List ℕ → List ℕ
key_expansion key = expanded (words key) key (4 * (words key + 7) - words key)

-- the rounds that a schedule is for, which has a round key for each, and one more
abbrev pub rounds_of : List ℕ → ℕ
rounds_of w = length w / 16 - 1

-- round key r, at byte 16 r
unfoldable pub round_key : List ℕ → ℕ → List ℕ
round_key w r = state (λ i. at w (16 * r + i))
