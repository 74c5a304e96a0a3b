-- The schedule as a loop makes it, word by word, for any number nk of words in a key.
-- Assumes nothing.
use mathlib.Core.Path.{◌≡◌, refl, sym, ap, subst, ◌∙◌}
use mathlib.Core.Bool.{Bool, true, false, not, cond}
use mathlib.Core.List.{List, [], ◌∷◌, ◌++◌}
use Prim.Native.Nat.{ℕ, zero, suc, ◌+◌, ◌-◌, ◌*◌, ◌/◌, ◌≤◌, ◌<◌}
use native.Mathlib.Nat.{div-lt_iff_lt-mul}
use native.Mathlib.Omega.{arith}
use native.Mathlib.Decide.{ℕ_discrete}
use lib.Dec.{T}
use borrow.Author.Tests.{eq-eqb, ne_eqb}
use lib.ListN.{length, take, length-append}
use lib.Seq.{get_or-append-add}
use Rattle.aes.specs.State.{at}
use Rattle.aes.specs.Key.{word_at, sum_word, temp, next_word, expanded, words, key_expansion, rounds_of}
use Rattle.aes.specs.Reply.{answer, scheduled, rounds_for, is_schedule, is_input, is_output}
use Rattle.aes.specs.Held.{Holds}
use Rattle.aes.proofs.Part.{holds_read, lent, back}

pub next-length : (nk : ℕ) (w : List ℕ) (i : ℕ) → length (next_word nk w i) ≡ 4
unfolding next_word
next-length nk w i = refl

-- which round constant: one of ten
pub constant-below : (nk i : ℕ) → 4 ≤ nk → i < 4 * nk + 28 → i / nk < 11
constant-below nk i h lt = (div-lt_iff_lt-mul {k = nk} {x = i} {y = 11} (omega arith)).1 (omega arith)

module _ (nk : ℕ) (key : List ℕ) (k : length key ≡ 4 * nk) where
  pub expanded-length : (n : ℕ) → length (expanded nk key n) ≡ 4 * nk + 4 * n
  unfolding expanded
  expanded-length zero = k ∙ omega arith
  expanded-length (suc n) = simp (length-append, next-length, expanded-length n) (omega arith)

  pub expanded_more : (i : ℕ) → nk ≤ i → expanded nk key (i + 1 - nk) ≡ expanded nk key (i - nk) ++ next_word nk (expanded nk key (i - nk)) i
  unfolding expanded
  expanded_more i h =
      let e : i + 1 - nk ≡ suc (i - nk) = omega arith in
      let f : nk + (i - nk) ≡ i = omega arith in
      rw e (ap (λ (j : ℕ). expanded nk key (i - nk) ++ next_word nk (expanded nk key (i - nk)) j) f)

-- a word of what an array holds
pub word_held : (n i k : ℕ) (p w : List ℕ) → Holds n p w → length p ≡ 4 * i → k < i → word_at w k ≡ word_at p k
word_held n i k p w h l lt = λ t. byte 0 (omega arith) t ∷ byte 1 (omega arith) t ∷ byte 2 (omega arith) t ∷ byte 3 (omega arith) t ∷ []
  where
    byte : (j : ℕ) → j < 4 → at w (4 * k + j) ≡ at p (4 * k + j)
    byte j hj = holds_read n p w (4 * k + j) h (rw l (omega arith))

-- the word that is made at i is written behind those before it, and is the last of them then
module _ (nk : ℕ) (key w ys : List ℕ) (i : ℕ) (some : 4 ≤ nk) (le : nk ≤ i) (k : length key ≡ 4 * nk) (h : Holds 240 (expanded nk key (i - nk)) w)
    (e : ys ≡ sum_word (word_at w (i - nk)) (temp nk (word_at (expanded nk key (i - nk)) (i - 1)) i)) where
  abbrev p : List ℕ
  p = expanded nk key (i - nk)

  size : length p ≡ 4 * i
  size = expanded-length nk key k (i - nk) ∙ omega arith

  made : ys ≡ next_word nk p i
  unfolding next_word
  made = e ∙ ap (λ (a : List ℕ). sum_word a (temp nk (word_at p (i - 1)) i)) (word_held 240 i (i - nk) p w h size (omega arith))

  pub expanded-held : i < 60 → Holds 240 (expanded nk key (i + 1 - nk)) (back w (4 * i) (4 * i + 4 - 4 * i) ys)
  expanded-held lt =
      rw (expanded_more nk key k i le)
      (lent 240 (4 * i) (4 * i + 4) p (next_word nk p i) w ys h size made (next-length nk p i ∙ omega arith) (omega arith) (omega arith))

  pub last_word : ys ≡ word_at (expanded nk key (i + 1 - nk)) (i + 1 - 1)
  unfolding next_word
  last_word = let here : i + 1 - 1 ≡ i = omega arith in made ∙ sym (rw (here, expanded_more nk key k i le, ← size) (λ t. byte 0 t ∷ byte 1 t ∷ byte 2 t ∷ byte 3 t ∷ []))
    where
      byte : (j : ℕ) → at (p ++ next_word nk p i) (length p + j) ≡ at (next_word nk p i) j
      byte j = get_or-append-add p (next_word nk p i) j 0

-- sixteen bytes for each round and one more, and no words are left over
pub expansion_length : (nk : ℕ) (key : List ℕ) → length key ≡ 4 * nk → length (key_expansion key) ≡ 16 * nk + 112
unfolding key_expansion
expansion_length nk key e =
    let q : words key ≡ nk = omega (arith, e) in
    ap (λ (n : ℕ). length (expanded n key (4 * (n + 7) - n))) q ∙ expanded-length nk key e (4 * (nk + 7) - nk) ∙ omega arith

-- the part that a schedule's length takes
pub first_part : (p w : List ℕ) (k : ℕ) → Holds 240 p w → length p ≡ k → take k w ≡ p
first_part p w k h e = rw (← e) h.head

-- what a schedule's length tells
three : (n : ℕ) → scheduled n ≡ true → (n ≡ 176 → ⊥) → (n ≡ 208 → ⊥) → n ≡ 240
three n e a b =
    elim (ℕ_discrete n 240) [
      | yes c ↦ c
      | no c ↦ absurd (wrong (sym (simp (ne_eqb n 176 a, ne_eqb n 208 b, ne_eqb n 240 c)) ∙ e))
    ]
  where
    wrong : false ≡ true → ⊥
    wrong q = subst (λ (t : Bool). T (not t)) q tt

pub some_rounds : (n : ℕ) → scheduled n ≡ true → (0 < n / 16 - 1) × (n / 16 - 1 < 15) × (n ≡ 16 * (n / 16 - 1) + 16)
some_rounds n e =
    elim (ℕ_discrete n 176) [
      | yes a ↦ (omega (arith, a), omega (arith, a), omega (arith, a))
      | no a ↦
          elim (ℕ_discrete n 208) [
            | yes b ↦ (omega (arith, b), omega (arith, b), omega (arith, b))
            | no b ↦ let c = three n e a b in (omega (arith, c), omega (arith, c), omega (arith, c))
          ]
    ]

pub more_rounds : (n : ℕ) → scheduled n ≡ true → 1 < n / 16 - 1
more_rounds n e =
    elim (ℕ_discrete n 176) [
      | yes a ↦ omega (arith, a)
      | no a ↦ elim (ℕ_discrete n 208) [ yes b ↦ omega (arith, b) | no b ↦ let c = three n e a b in omega (arith, c) ]
    ]

-- as code counts them: k, which is none where it is no schedule
pub unscheduled : (n k : ℕ) → k ≡ rounds_for n → k ≡ 0 → scheduled n ≡ false
unscheduled n k e z = by_case (scheduled n) refl
  where
    by_case : (b : Bool) → scheduled n ≡ b → scheduled n ≡ false
    by_case false q = q
    by_case true q =
        let some : 0 < n / 16 - 1 = (some_rounds n q).0 in
        absurd (omega (arith, some, e ∙ ap (λ (b : Bool). cond b (n / 16 - 1) 0) q, z))

pub record Rounded (w : List ℕ) (k : ℕ) : Type 0 where
  pub is_one : scheduled (length w) ≡ true
  pub same : k ≡ rounds_of w
  pub fits : (0 < k) × (k < 15) × (length w ≡ 16 * k + 16)

pub known : (w : List ℕ) (k : ℕ) → k ≡ rounds_for (length w) → scheduled (length w) ≡ true → Rounded w k
known w k e q =
    let same : k ≡ rounds_of w = e ∙ ap (λ (b : Bool). cond b (rounds_of w) 0) q in
    record { is_one = q; same = same; fits = rw same (some_rounds (length w) q) }

pub counted : (w : List ℕ) (k : ℕ) → k ≡ rounds_for (length w) → (k ≡ 0 → ⊥) → Rounded w k
counted w k e some = by_case (scheduled (length w)) refl
  where
    by_case : (b : Bool) → scheduled (length w) ≡ b → Rounded w k
    by_case true q = known w k e q
    by_case false q = absurd (some (e ∙ ap (λ (b : Bool). cond b (rounds_of w) 0) q))

-- the schedule of a key of 32 bytes
pub full : (w : List ℕ) → length w ≡ 240 → (scheduled (length w) ≡ true) × (rounds_of w ≡ 14)
full w e = (ap scheduled e, omega (arith, e))

-- what a call that takes any schedule has written under one of these
pub full_done : (f : ℕ → List ℕ) (w b out : List ℕ) {o : List ℕ} {r : ℕ} → length w ≡ 240 → length b ≡ 16 → length out ≡ 16
    → ◌≡◌ {A = ℕ × List ℕ} (r, o) (answer (is_schedule w ∷ is_input b ∷ is_output out ∷ []) out (f (rounds_of w))) → o ≡ f 14
full_done f w b out lw lb lo told = written (told ∙ simp ((full w lw).0, eq-eqb (length b) 16 lb, eq-eqb (length out) 16 lo)) ∙ ap f (full w lw).1
  where
    written : {r : ℕ} {o x : List ℕ} → ◌≡◌ {A = ℕ × List ℕ} (r, o) (0, x) → o ≡ x
    written e = ap (λ (p : ℕ × List ℕ). p.1) e
