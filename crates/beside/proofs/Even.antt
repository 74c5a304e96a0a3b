-- Eight counts held in one word, a byte each: the word tells them all.
-- Assumes nothing.
use mathlib.Core.Path.{◌≡◌, refl, sym, ◌∙◌}
use mathlib.Core.Bool.{Bool, true, false, cond}
use mathlib.Core.List.{[], ◌∷◌}
use Prim.Native.Nat.{ℕ, zero, suc, ◌+◌, ◌*◌, ◌^◌, ◌/◌, ◌%◌, ◌<◌, ◌≤◌}
use native.Mathlib.Nat.{pow-suc}
use native.Mathlib.Numerals.{add-one}
use native.Mathlib.Omega.{arith}
use native.Mathlib.Decide.{ℕ_discrete}
use lib.Dec.{T, eqb, eqb→eq}
use borrow.Author.Tests.{eq-eqb, ne_eqb}
use Rattle.std.proofs.Common.{w64}
use Rattle.std.specs.Int.{to_le_bytes}
use Rattle.aes.specs.Byte.{listed, below, table}
use Rattle.aes.proofs.Below.{below_all, under}
use Rattle.beside.specs.Fitness.{pattern, count, even}
use Rattle.beside.specs.Counts.{word, counted}

word-told : (n : ℕ) (c d : ℕ → ℕ) → ((t : ℕ) → c t < 256) → ((t : ℕ) → d t < 256) → word n c ≡ word n d → (t : ℕ) → t < n → c t ≡ d t
unfolding word
word-told zero c d hc hd e t h = absurd (omega arith)
word-told (suc n) c d hc hd e zero h = omega (arith, e, hc 0, hd 0)
word-told (suc n) c d hc hd e (suc t) h =
    word-told n (λ u. c (suc u)) (λ u. d (suc u)) (λ u. hc (suc u)) (λ u. hd (suc u)) (omega (arith, e, hc 0, hd 0)) t (omega arith)

word_same : (n : ℕ) (c d : ℕ → ℕ) → ((t : ℕ) → t < n → c t ≡ d t) → word n c ≡ word n d
unfolding word
word_same zero c d e = refl
word_same (suc n) c d e =
    let tail = word_same n (λ t. c (suc t)) (λ t. d (suc t)) (λ t h. e (suc t) (omega arith)) in
    omega (arith, e 0 (omega arith), tail)

word_lt : (n : ℕ) (c : ℕ → ℕ) → ((t : ℕ) → c t < 256) → word n c < 256 ^ n
unfolding word
word_lt zero c h = omega arith
word_lt (suc n) c h = omega (arith, h 0, word_lt n (λ t. c (suc t)) (λ t. h (suc t)), pow-suc 256 n)

word_sum : (n : ℕ) (c d : ℕ → ℕ) → word n (λ t. c t + d t) ≡ word n c + word n d
unfolding word
word_sum zero c d = refl
word_sum (suc n) c d = omega (arith, word_sum n (λ t. c (suc t)) (λ t. d (suc t)))

-- computed: the word of a one at place v, which a shift gives
place_test : T (below 8 (λ v. eqb (word 8 (λ t. cond (eqb v t) 1 0)) (2 ^ (8 * v))))
unfolding word below
place_test = tt

shift_test : T (below 8 (λ v. eqb (1 * 2 ^ (8 * v) % 2 ^ 64) (2 ^ (8 * v))))
unfolding below
shift_test = tt

placed : (v : ℕ) → v < 8 → word 8 (λ t. cond (eqb v t) 1 0) ≡ 2 ^ (8 * v)
placed v h = eqb→eq (word 8 (λ t. cond (eqb v t) 1 0)) (2 ^ (8 * v)) (under _ 8 place_test v h)

pub pattern_lt : (x y z v : ℕ) → pattern x y z v < 8
unfolding pattern
pattern_lt x y z v = omega arith

-- the shift of a one to a pattern's place
pub ticked : (x y z v : ℕ) → 1 * 2 ^ (8 * pattern x y z v) % 2 ^ 64 ≡ 2 ^ (8 * pattern x y z v)
ticked x y z v =
    let p : ℕ = pattern x y z v in
    eqb→eq (1 * 2 ^ (8 * p) % 2 ^ 64) (2 ^ (8 * p)) (under _ 8 shift_test p (pattern_lt x y z v))

pub one_at_most : (b : Bool) → cond {A = ℕ} b 1 0 ≤ 1
one_at_most true = omega arith
one_at_most false = omega arith

pub count_le : (t : ℕ) (g : ℕ → ℕ) (i n : ℕ) → count t (listed g i n) ≤ n
unfolding count
count_le t g i zero = omega arith
count_le t g i (suc n) = omega (arith, one_at_most (eqb (g i) t), count_le t g (suc i) n)

count_more : (t : ℕ) (g : ℕ → ℕ) (i n j : ℕ) → i + n ≡ j → count t (listed g i (suc n)) ≡ cond (eqb (g j) t) 1 0 + count t (listed g i n)
unfolding count
count_more t g i zero j e =
    let same : i ≡ j = omega (arith, e) in
    rw same refl
count_more t g i (suc n) j e = omega (arith, count_more t g (suc i) n j (omega (arith, e)))

-- the counts of the first n entries
pub counted_lt : (g : ℕ → ℕ) (n : ℕ) → n < 256 → counted g n < 2 ^ 64
counted_lt g n h = word_lt 8 (λ t. count t (listed g 0 n)) (λ t. omega (arith, count_le t g 0 n))

pub counted_more : (g : ℕ → ℕ) (n : ℕ) → g n < 8 → counted g (n + 1) ≡ counted g n + 2 ^ (8 * g n)
counted_more g n h =
    let one : ℕ → ℕ = λ t. cond (eqb (g n) t) 1 0 in
    let c : ℕ → ℕ = λ t. count t (listed g 0 n) in
    let e : word 8 (λ t. count t (listed g 0 (suc n))) ≡ word 8 (λ t. one t + c t) = word_same 8 _ _ (λ t lt. count_more t g 0 n n (omega arith)) in
    rw add-one (omega (arith, e, word_sum 8 one c, placed (g n) h))

pub not_so : (b : Bool) → (T b → ⊥) → b ≡ false
not_so true h = absurd (h tt)
not_so false h = refl

-- where the word is that of eight twos, and only there, each pattern stands twice
pub counted-even : (g : ℕ → ℕ) → eqb (counted g 16) 0x0202020202020202 ≡ even (listed g 0 16)
unfolding even word
counted-even g =
    let c : ℕ → ℕ = λ t. count t (listed g 0 16) in
    elim (ℕ_discrete (word 8 c) (word 8 (λ t. 2))) [
      | yes e ↦ eq-eqb _ _ e
          ∙ sym (below_all _ 8 (λ t h. eq-eqb _ _ (word-told 8 c (λ t. 2) (λ t. omega (arith, count_le t g 0 16)) (λ t. omega arith) e t h)))
      | no e ↦ ne_eqb _ _ e ∙ sym (not_so _ (λ h. e (word_same 8 c (λ t. 2) (λ t lt. eqb→eq (c t) 2 (under _ 8 h t lt)))))
    ]

-- the bytes of the word, the lowest first
pub bytes-word : (c : ℕ → ℕ) → ((t : ℕ) → c t < 256) → to_le_bytes w64 (word 8 c) ≡ table c 8
unfolding word table
bytes-word c h =
    let e0 : word 8 c % 256 ≡ c 0 = omega (arith, h 0) in
    let e1 : word 8 c / 256 ^ 1 % 256 ≡ c 1 = omega (arith, h 0, h 1) in
    let e2 : word 8 c / 256 ^ 2 % 256 ≡ c 2 = omega (arith, h 0, h 1, h 2) in
    let e3 : word 8 c / 256 ^ 3 % 256 ≡ c 3 = omega (arith, h 0, h 1, h 2, h 3) in
    let e4 : word 8 c / 256 ^ 4 % 256 ≡ c 4 = omega (arith, h 0, h 1, h 2, h 3, h 4) in
    let e5 : word 8 c / 256 ^ 5 % 256 ≡ c 5 = omega (arith, h 0, h 1, h 2, h 3, h 4, h 5) in
    let e6 : word 8 c / 256 ^ 6 % 256 ≡ c 6 = omega (arith, h 0, h 1, h 2, h 3, h 4, h 5, h 6) in
    let e7 : word 8 c / 256 ^ 7 % 256 ≡ c 7 = omega (arith, h 0, h 1, h 2, h 3, h 4, h 5, h 6, h 7) in
    λ i. e0 i ∷ e1 i ∷ e2 i ∷ e3 i ∷ e4 i ∷ e5 i ∷ e6 i ∷ e7 i ∷ []
