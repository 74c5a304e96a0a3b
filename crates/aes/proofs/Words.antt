-- A word held as a number: the bytes of a sum, of a turn and of a double.
-- Assumes nothing.
use mathlib.Core.Path.{◌≡◌, refl, sym, ap, ◌∙◌}
use mathlib.Core.List.{List, [], ◌∷◌}
use Prim.Native.Nat.{ℕ, zero, suc, ◌+◌, ◌*◌, ◌/◌, ◌%◌, ◌^◌, ◌-◌, ◌<◌}
use native.Mathlib.Nat.{add_comm, add-mul, mul_comm, mul_right_comm, div-one, mod-eq_of_lt, mul-le-mul_right, lt_of_le_of_lt}
use native.Mathlib.Omega.{arith}
use lib.Bits.{bit_and, and_shr, and_mod, and_mask, and_le_r, xor_shr, xor_mod}
use lib.Dec.{lit<}
use lib.Pow.{shr-shr}
use Rattle.aes.specs.Byte.{◌⊕◌, table}
use Rattle.aes.specs.Field.{x_times}
use Rattle.aes.specs.State.{at}
use Rattle.aes.specs.Key.{word, sum_word, rot_word}
use Rattle.aes.specs.Word.{word_of, doubled}
use Rattle.aes.proofs.Xor.{xor_comm}
use Rattle.aes.proofs.Listed.{agree}
use Rattle.aes.proofs.FieldLaws.{x_times_shift}

-- the number of four bytes, and the byte of a number from bit k on
abbrev number : ℕ → ℕ → ℕ → ℕ → ℕ
number a b c d = ((d * 256 + c) * 256 + b) * 256 + a

abbrev byte : ℕ → ℕ → ℕ
byte x k = x / 2 ^ k % 256

-- a word is the bytes of its number, and 32 bits are the number of theirs
pub word_of_lem : (a b c d : ℕ) → a < 256 → b < 256 → c < 256 → d < 256 → word_of (number a b c d) ≡ a ∷ b ∷ c ∷ d ∷ []
unfolding word_of
word_of_lem a b c d ha hb hc hd =
    let x : ℕ = number a b c d in
    let one : x / 256 ≡ (d * 256 + c) * 256 + b = omega arith in
    let two : x / 65536 ≡ d * 256 + c = omega arith in
    let three : x / 16777216 ≡ d = omega arith in
    let first : x / 1 % 256 ≡ a = omega arith in
    let second : x / 256 % 256 ≡ b = rw one (omega arith) in
    let third : x / 65536 % 256 ≡ c = rw two (omega arith) in
    let fourth : x / 16777216 % 256 ≡ d = rw three (omega arith) in
    λ i. first i ∷ second i ∷ third i ∷ fourth i ∷ []

number_of : (x : ℕ) → x < 2 ^ 32 → number (byte x 0) (byte x 8) (byte x 16) (byte x 24) ≡ x
number_of x h = rw (← shr-shr x 8 8, ← shr-shr x 16 8, ← shr-shr x 8 8) (omega arith)

-- an operation on bits works on each byte apart
word_bitwise : (op : ℕ → ℕ → ℕ) → ((a b k : ℕ) → op a b / 2 ^ k ≡ op (a / 2 ^ k) (b / 2 ^ k))
    → ((a b k : ℕ) → op a b % 2 ^ k ≡ op (a % 2 ^ k) (b % 2 ^ k))
    → (x y : ℕ) → word_of (op x y) ≡ word (λ j. op (at (word_of x) j) (at (word_of y) j))
unfolding word_of
word_bitwise op high low x y = λ i. at-bit 0 i ∷ at-bit 8 i ∷ at-bit 16 i ∷ at-bit 24 i ∷ []
  where
    at-bit : (k : ℕ) → byte (op x y) k ≡ op (byte x k) (byte y k)
    at-bit k = ap (λ (z : ℕ). z % 256) (high x y k) ∙ low (x / 2 ^ k) (y / 2 ^ k) 8

pub word_sum : (x y : ℕ) {a b : List ℕ} → word_of x ≡ a → word_of y ≡ b → word_of (x ⊕ y) ≡ sum_word a b
word_sum x y e f = word_bitwise ◌⊕◌ xor_shr xor_mod x y ∙ λ i. sum_word (e i) (f i)

-- the number that four known bytes are of
same_number : (x a b c d : ℕ) → x < 2 ^ 32 → word_of x ≡ a ∷ b ∷ c ∷ d ∷ [] → x ≡ number a b c d
unfolding word_of
same_number x a b c d h e = sym (number_of x h) ∙ λ i. number (at (e i) 0) (at (e i) 1) (at (e i) 2) (at (e i) 3)

-- turned by eight bits
pub word-turned : (x : ℕ) → x < 2 ^ 32 → word_of (x / 2 ^ 8 + x * 2 ^ 24 % 2 ^ 32) ≡ rot_word (word_of x)
unfolding word_of
word-turned x h = ap turn (sym (number_of x h)) ∙ turned (byte x 0) (byte x 8) (byte x 16) (byte x 24) (omega arith) (omega arith) (omega arith) (omega arith)
  where
    turn : ℕ → List ℕ
    turn y = word_of (y / 256 + y * 16777216 % 4294967296)

    turned : (a b c d : ℕ) → a < 256 → b < 256 → c < 256 → d < 256 → turn (number a b c d) ≡ b ∷ c ∷ d ∷ a ∷ []
    turned a b c d ha hb hc hd =
        let up : number a b c d / 256 ≡ (d * 256 + c) * 256 + b = omega arith in
        let round : number a b c d * 16777216 % 4294967296 ≡ a * 16777216 = omega arith in
        rw (up, round) (ap word_of (omega arith) ∙ word_of_lem b c d a hb hc hd ha)

-- a multiple, where that of each byte is one
word_multiple : (k y : ℕ) (f : ℕ → ℕ) → y < 2 ^ 32 → word_of y ≡ word f → ((j : ℕ) → f j * k < 256) → word_of (y * k) ≡ word (λ j. f j * k)
word_multiple k y f h e lt =
    ap (λ (x : ℕ). word_of (x * k)) (same_number y (f 0) (f 1) (f 2) (f 3) h e) ∙ ap word_of (each (f 0) (f 1) (f 2) (f 3))
    ∙ word_of_lem (f 0 * k) (f 1 * k) (f 2 * k) (f 3 * k) (lt 0) (lt 1) (lt 2) (lt 3)
  where
    each : (a b c d : ℕ) → number a b c d * k ≡ number (a * k) (b * k) (c * k) (d * k)
    each a b c d = simp (add-mul, mul_right_comm)

-- n bits of each byte from bit s on, times k
bits : ℕ → ℕ → ℕ → ℕ
bits s n b = b / 2 ^ s % 2 ^ n

word_bits : (s n k m x : ℕ) → m < 2 ^ 32 → word_of m ≡ word (λ j. 2 ^ n - 1) → ((q : ℕ) → q / 2 ^ s % 256 % 2 ^ n ≡ bits s n (q % 256))
    → ((b : ℕ) → bits s n b * k < 256) → word_of (bit_and (x / 2 ^ s) m * k) ≡ word (λ j. bits s n (byte x (8 * j)) * k)
unfolding word_of bits
word_bits s n k m x h mask same small =
    word_multiple k (bit_and (x / 2 ^ s) m) (λ j. bits s n (byte x (8 * j))) (lt_of_le_of_lt (and_le_r (x / 2 ^ s) m) h) each (λ j. small (byte x (8 * j)))
  where
    at-bit : (i : ℕ) → bit_and (byte (x / 2 ^ s) i) (2 ^ n - 1) ≡ bits s n (byte x i)
    at-bit i = and_mask (byte (x / 2 ^ s) i) n ∙ rw (shr-shr x s i, add_comm s i, ← shr-shr x i s) (same (x / 2 ^ i))

    each : word_of (bit_and (x / 2 ^ s) m) ≡ word (λ j. bits s n (byte x (8 * j)))
    each = word_bitwise bit_and and_shr and_mod (x / 2 ^ s) m ∙ (λ i. word (λ j. bit_and (byte (x / 2 ^ s) (8 * j)) (at (mask i) j))) ∙ λ i. at-bit 0 i ∷ at-bit 8 i ∷ at-bit 16 i ∷ at-bit 24 i ∷ []

-- the low ones of each, shifted up
word_low : (n k m x : ℕ) → m < 2 ^ 32 → m * k < 2 ^ 32 → word_of m ≡ word (λ j. 2 ^ n - 1) → ((q : ℕ) → q / 1 % 256 % 2 ^ n ≡ bits 0 n (q % 256))
    → ((b : ℕ) → bits 0 n b * k < 256) → word_of (bit_and x m * k % 2 ^ 32) ≡ word (λ j. bits 0 n (byte x (8 * j)) * k)
word_low n k m x h fits mask same small =
    ap word_of (mod-eq_of_lt (lt_of_le_of_lt (mul-le-mul_right k (and_le_r x m)) fits)) ∙ ap (λ (z : ℕ). word_of (bit_and z m * k)) (sym (div-one x))
    ∙ word_bits 0 n k m x h mask same small

-- XTIMES of a byte is its seven low bits moved up, and 1b for bit 7; twice that, six, 36 for bit 7 and 1b for bit 6
x_times_bits : (b : ℕ) → b < 256 → bits 0 7 b * 2 ⊕ bits 7 1 b * 0x1b ≡ x_times b
unfolding bits
x_times_bits b h =
    let low : b / 1 % 128 * 2 ≡ b * 2 % 256 = omega arith in
    rw (low, mul_comm (b / 128 % 2) 0x1b) (xor_comm (b * 2 % 256) (0x1b * (b / 128 % 2)) ∙ sym (x_times_shift b h))

x_times-twice : (b : ℕ) → b < 256 → bits 0 6 b * 4 ⊕ bits 7 1 b * 0x36 ⊕ bits 6 1 b * 0x1b ≡ x_times (x_times b)
unfolding x_times bits table
x_times-twice = agree (λ b. bits 0 6 b * 4 ⊕ bits 7 1 b * 0x36 ⊕ bits 6 1 b * 0x1b) (λ b. x_times (x_times b)) 256 refl

pub word-doubled : (x : ℕ) → word_of (bit_and x 0x7f7f7f7f * 2 % 2 ^ 32 ⊕ bit_and (x / 2 ^ 7) 0x01010101 * 0x1b) ≡ doubled (word_of x)
unfolding word_of doubled bits
word-doubled x =
    word_sum (bit_and x 0x7f7f7f7f * 2 % 2 ^ 32) (bit_and (x / 2 ^ 7) 0x01010101 * 0x1b)
    (word_low 7 2 0x7f7f7f7f x (lit< tt) (lit< tt) refl (λ q. omega arith) (λ b. omega arith))
    (word_bits 7 1 0x1b 0x01010101 x (lit< tt) refl (λ q. omega arith) (λ b. omega arith))
    ∙ λ i. each 0 i ∷ each 8 i ∷ each 16 i ∷ each 24 i ∷ []
  where
    each : (k : ℕ) → bits 0 7 (byte x k) * 2 ⊕ bits 7 1 (byte x k) * 0x1b ≡ x_times (byte x k)
    each k = x_times_bits (byte x k) (omega arith)

pub word_fourfold : (x : ℕ) → word_of (bit_and x 0x3f3f3f3f * 4 % 2 ^ 32 ⊕ bit_and (x / 2 ^ 7) 0x01010101 * 0x36 ⊕ bit_and (x / 2 ^ 6) 0x01010101 * 0x1b) ≡ doubled (doubled (word_of x))
unfolding word_of doubled bits
word_fourfold x =
    word_sum (bit_and x 0x3f3f3f3f * 4 % 2 ^ 32 ⊕ bit_and (x / 2 ^ 7) 0x01010101 * 0x36) (bit_and (x / 2 ^ 6) 0x01010101 * 0x1b)
    (word_sum (bit_and x 0x3f3f3f3f * 4 % 2 ^ 32) (bit_and (x / 2 ^ 7) 0x01010101 * 0x36)
    (word_low 6 4 0x3f3f3f3f x (lit< tt) (lit< tt) refl (λ q. omega arith) (λ b. omega arith))
    (word_bits 7 1 0x36 0x01010101 x (lit< tt) refl (λ q. omega arith) (λ b. omega arith)))
    (word_bits 6 1 0x1b 0x01010101 x (lit< tt) refl (λ q. omega arith) (λ b. omega arith))
    ∙ λ i. each 0 i ∷ each 8 i ∷ each 16 i ∷ each 24 i ∷ []
  where
    each : (k : ℕ) → bits 0 6 (byte x k) * 4 ⊕ bits 7 1 (byte x k) * 0x36 ⊕ bits 6 1 (byte x k) * 0x1b ≡ x_times (x_times (byte x k))
    each k = x_times-twice (byte x k) (omega arith)

pub word_byte : (x j : ℕ) → at (word_of x) j < 256
unfolding word_of
word_byte x zero = omega arith
word_byte x (suc zero) = omega arith
word_byte x (suc (suc zero)) = omega arith
word_byte x (suc (suc (suc zero))) = omega arith
word_byte x (suc (suc (suc (suc j)))) = lit< tt
