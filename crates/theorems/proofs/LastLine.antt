-- The last line of the report of the published masks, computed. Its 6,272 lines are 112 times the 56 triples of bits, over five tables of
-- sixteen values: the masks themselves, and what MIXCOLUMNS makes of them over bytes 0 to 3. Over the bytes of the other columns it makes
-- the same, turned.
-- Assumes nothing.
use mathlib.Core.Path.{◌≡◌, refl, sym, ap, ◌∙◌}
use mathlib.Core.Bool.{Bool, true, false, cond}
use mathlib.Core.List.{List, [], ◌∷◌}
use Prim.Native.Nat.{ℕ, zero, suc, ◌+◌, ◌*◌, ◌/◌, ◌%◌, ◌<◌, ◌≤◌}
use native.Mathlib.Nat.{add-zero, add-suc, mul-suc, mul-zero}
use native.Mathlib.Omega.{arith}
use native.Mathlib.Decide.{ℕ_discrete, dec_lt}
use lib.Dec.{T, eqb, leb, ltb, eqb→eq, leb→le, lit<, lit≤}
use lib.ListN.{get_or}
use borrow.Author.Tests.{eq-eqb, ne_eqb, lt-ltb, le-ltb}
use Rattle.aes.specs.Byte.{table, below}
use Rattle.aes.specs.Field.{x_times, times as product, ◌•◌}
use Rattle.aes.specs.State.{at, dot, shift_rows, mix_columns}
use Rattle.aes.proofs.Below.{under}
use Rattle.aes.proofs.Listed.{table_same}
use Rattle.masks.specs.Mask.{published, mask}
use Rattle.beside.specs.Fitness.{pattern, patterns, count}
use Rattle.beside.specs.Report.{mixed_over, values_of, triples, row_at, byte_at, bit_at, counts_at, least, greatest, picked, even_lines, picked_of, lowest_of, highest_of, last_line}
use Rattle.beside.proofs.Alike.{turns}
use Rattle.theorems.proofs.Report.{counts_values, line_inside}

unfoldable tables : List (List ℕ)
tables =
    published ∷
    (184 ∷ 29 ∷ 27 ∷ 41 ∷ 218 ∷ 234 ∷ 121 ∷ 239 ∷ 45 ∷ 136 ∷ 142 ∷ 188 ∷ 79 ∷ 127 ∷ 236 ∷ 122 ∷ []) ∷
    (185 ∷ 42 ∷ 188 ∷ 126 ∷ 78 ∷ 72 ∷ 122 ∷ 137 ∷ 44 ∷ 191 ∷ 41 ∷ 235 ∷ 219 ∷ 221 ∷ 239 ∷ 28 ∷ []) ∷
    (27 ∷ 41 ∷ 218 ∷ 127 ∷ 121 ∷ 239 ∷ 45 ∷ 29 ∷ 142 ∷ 188 ∷ 79 ∷ 234 ∷ 236 ∷ 122 ∷ 184 ∷ 136 ∷ []) ∷
    (26 ∷ 216 ∷ 232 ∷ 123 ∷ 237 ∷ 30 ∷ 187 ∷ 189 ∷ 143 ∷ 77 ∷ 125 ∷ 238 ∷ 120 ∷ 139 ∷ 46 ∷ 40 ∷ []) ∷ []

abbrev table_of : ℕ → List ℕ
table_of b = get_or tables b []

-- computed: so it is for all sixteen bytes and labels
mixed_test : T (below 16 (λ i. below 16 (λ l. eqb (at (mixed_over published i) l) (at (table_of (i % 4 + 1)) ((l + 4 * (i / 4)) % 16)))))
unfolding below mixed_over tables table mask published shift_rows mix_columns dot ◌•◌ product x_times
mixed_test = tt

-- the table over which the 56 lines of a row and a byte are counted, j being 16 times the row that is one less, and the byte
abbrev which : ℕ → ℕ
which j = cond (eqb (j / 16 + 1) 5) (j % 4 + 1) 0

which_lt : (j : ℕ) → which j < 5
which_lt j = one_of (eqb (j / 16 + 1) 5)
  where
    one_of : (b : Bool) → cond b (j % 4 + 1) 0 < 5
    one_of true = omega arith
    one_of false = omega arith

module _ (x y z t : ℕ) where
  turned : (i : ℕ) → i < 16 → count t (patterns (at (mixed_over published i)) x y z) ≡ count t (patterns (at (table_of (i % 4 + 1))) x y z)
  unfolding table
  turned i h =
      let v : List ℕ = table_of (i % 4 + 1) in
      ap (count t) (table_same (λ l. pattern x y z (at (mixed_over published i) l)) (λ l. pattern x y z (at v ((l + 4 * (i / 4)) % 16))) 16 (λ l hl. ap (pattern x y z) (eqb→eq _ _ (under _ 16 (under _ 16 mixed_test i h) l hl))))
      ∙ turns t (λ l. pattern x y z (at v l)) (4 * (i / 4))

  same_counts : (j : ℕ) → count t (patterns (at (values_of published (j / 16 + 1) (j % 16))) x y z) ≡ count t (patterns (at (table_of (which j))) x y z)
  unfolding tables
  same_counts j =
      elim (ℕ_discrete (j / 16 + 1) 5) [
        | yes e ↦
            let column : j % 16 % 4 ≡ j % 4 = omega arith in
            rw (eq-eqb (j / 16 + 1) 5 e) (turned (j % 16) (omega arith) ∙ ap (λ (b : ℕ). count t (patterns (at (table_of (b + 1))) x y z)) column)
        | no e ↦ rw (ne_eqb (j / 16 + 1) 5 e) refl
      ]

-- the counts of triple k over a table
abbrev over : ℕ → ℕ → List ℕ
over b k = table (λ t. count t (patterns (at (table_of b)) (at triples (3 * k + 0)) (at triples (3 * k + 1)) (at triples (3 * k + 2)))) 8

block : (j k : ℕ) → j < 112 → k < 56 → counts_at published (56 * j + k) ≡ over (which j) k
unfolding counts_at
block j k hj hk =
    let n : ℕ = 56 * j + k in
    let row : row_at n ≡ j / 16 + 1 = omega arith in
    let byte : byte_at n ≡ j % 16 = omega arith in
    let triple : n % 56 ≡ k = omega arith in
    counts_values published (row_at n) (byte_at n) (bit_at n 0) (bit_at n 1) (bit_at n 2) (line_inside n (omega arith))
    ∙ (λ i. table (λ t. count t (patterns (at (values_of published (row i) (byte i))) (at triples (3 * triple i + 0)) (at triples (3 * triple i + 1)) (at triples (3 * triple i + 2)))) 8)
    ∙ table_same _ (λ t. count t (patterns (at (table_of (which j))) (at triples (3 * k + 0)) (at triples (3 * k + 1)) (at triples (3 * k + 2)))) 8 (λ t h. same_counts (at triples (3 * k + 0)) (at triples (3 * k + 1)) (at triples (3 * k + 2)) t j)

-- Even lines, added up in blocks of c.
unfoldable total : (ℕ → ℕ) → ℕ → ℕ
total e zero = 0
total e (suc m) = total e m + e m

module _ (f : ℕ → List ℕ) where
  even_sum : (a n : ℕ) → even_lines f (a + n) ≡ even_lines f a + even_lines (λ k. f (a + k)) n
  unfolding even_lines
  even_sum a zero = rw (add-zero a) (sym (add-zero (even_lines f a)))
  even_sum a (suc n) = rw add-suc (omega (arith, even_sum a n))

  even-blocks : (c : ℕ) (e : ℕ → ℕ) (m : ℕ) → ((j : ℕ) → j < m → even_lines (λ k. f (c * j + k)) c ≡ e j) → even_lines f (c * m) ≡ total e m
  unfolding total even_lines
  even-blocks c e zero h = rw (mul-zero c) refl
  even-blocks c e (suc m) h =
      ap (even_lines f) (mul-suc c m) ∙ even_sum (c * m) c ∙ λ i. even-blocks c e m (λ j lt. h j (omega arith)) i + h m (omega arith) i

even_same : (f g : ℕ → List ℕ) (n : ℕ) → ((k : ℕ) → k < n → f k ≡ g k) → even_lines f n ≡ even_lines g n
unfolding even_lines
even_same f g zero h = refl
even_same f g (suc n) h =
    λ i. even_same f g n (λ k lt. h k (omega arith)) i + cond (below 8 (λ t. eqb (at (h n (omega arith) i) t) 2)) 1 0

-- computed: of 56 triples all are even over the masks, and four over each table after MIXCOLUMNS
abbrev evens : ℕ → ℕ
evens b = cond (eqb b 0) 56 4

evens_test : T (below 5 (λ b. eqb (even_lines (over b) 56) (evens b)))
unfolding even_lines tables published table below pattern count triples
evens_test = tt

even_lines_lem : even_lines (counts_at published) (56 * 112) ≡ 5440
unfolding total
even_lines_lem =
    even-blocks (counts_at published) 56 (λ j. evens (which j)) 112
    (λ j h. even_same (λ k. counts_at published (56 * j + k)) (over (which j)) 56 (λ k lt. block j k h lt) ∙ eqb→eq _ _ (under _ 5 evens_test (which j) (which_lt j)))

-- What is picked of all counts stands in every relation to each of them in which a pick stands to both that it is of, and has every
-- property that it has of them.
module _ (pick : ℕ → ℕ → ℕ) (R : ℕ → ℕ → Type 0) (same : (a : ℕ) → R a a) (through : (a b c : ℕ) → R a b → R b c → R a c) (of : (a b : ℕ) → R (pick a b) a × R (pick a b) b) where
  in_line : (c : List ℕ) (n before : ℕ) → R (picked pick c n before) before × ((t : ℕ) → t < n → R (picked pick c n before) (at c t))
  unfolding picked
  in_line c zero before = (same before, λ t h. absurd (omega arith))
  in_line c (suc n) before =
      let rest = in_line c n before in
      let new = of (at c n) (picked pick c n before) in (
        through _ _ _ new.1 rest.0,
        λ t h. elim (ℕ_discrete t n) [ yes e ↦ rw e new.0 | no e ↦ through _ _ _ new.1 (rest.1 t (omega arith)) ],
      )

  of_all : (first : ℕ) (f : ℕ → List ℕ) (n k t : ℕ) → k < n → t < 8 → R (picked_of pick first f n) (at (f k) t)
  unfolding picked_of
  of_all first f zero k t h ht = absurd (omega arith)
  of_all first f (suc n) k t h ht =
      let line = in_line (f n) 8 (picked_of pick first f n) in
      elim (ℕ_discrete k n) [ yes e ↦ rw e (line.1 t ht) | no e ↦ through _ _ _ line.0 (of_all first f n k t (omega arith) ht) ]

module _ (pick : ℕ → ℕ → ℕ) (P : ℕ → Type 0) (kept : (a b : ℕ) → P a → P b → P (pick a b)) where
  line_kept : (c : List ℕ) (n before : ℕ) → P before → ((t : ℕ) → t < n → P (at c t)) → P (picked pick c n before)
  unfolding picked
  line_kept c zero before p h = p
  line_kept c (suc n) before p h = kept _ _ (h n (omega arith)) (line_kept c n before p (λ t lt. h t (omega arith)))

  all_kept : (first : ℕ) (f : ℕ → List ℕ) (n : ℕ) → P first → ((k t : ℕ) → k < n → t < 8 → P (at (f k) t)) → P (picked_of pick first f n)
  unfolding picked_of
  all_kept first f zero p h = p
  all_kept first f (suc n) p h = line_kept (f n) 8 _ (all_kept first f n p (λ k t lt ht. h k t (omega arith) ht)) (λ t ht. h n t (omega arith) ht)

smaller : (a b : ℕ) → (least a b ≤ a) × (least a b ≤ b)
smaller a b =
    elim (dec_lt a b) [ yes h ↦ rw (lt-ltb a b h) (omega arith, omega (arith, h)) | no h ↦ rw (le-ltb a b (omega arith)) (omega arith, omega arith) ]

larger : (a b : ℕ) → (a ≤ greatest a b) × (b ≤ greatest a b)
larger a b =
    elim (dec_lt b a) [ yes h ↦ rw (lt-ltb b a h) (omega arith, omega (arith, h)) | no h ↦ rw (le-ltb b a (omega arith)) (omega arith, omega arith) ]

-- computed: no count is above 7; over byte 0 after MIXCOLUMNS bits 0, 1 and 3 never show 000, and bits 0, 3 and 7 show 011 seven times
seven_test : T (below 5 (λ b. below 56 (λ k. below 8 (λ t. leb (at (over b k) t) 7))))
unfolding tables published table below pattern count triples
seven_test = tt

none : at (over 1 1) 0 ≡ 0
unfolding tables table pattern count triples
none = refl

seven : at (over 1 14) 3 ≡ 7
unfolding tables table pattern count triples
seven = refl

line_at : (n : ℕ) → n < 6272 → counts_at published n ≡ over (which (n / 56)) (n % 56)
line_at n h =
    let apart : n ≡ 56 * (n / 56) + n % 56 = omega arith in
    ap (counts_at published) apart ∙ block (n / 56) (n % 56) (omega arith) (omega arith)

lowest : lowest_of (counts_at published) 6272 ≡ 0
lowest =
    let at_most = of_all least (λ a b. a ≤ b) (λ a. omega arith) (λ a b c le more. omega (arith, le, more)) smaller 16 (counts_at published) 6272 3585 0 (lit< tt) (lit< tt) in
    omega (arith, at_most, ap (λ (c : List ℕ). at c 0) (line_at 3585 (lit< tt)) ∙ none)

highest : highest_of (counts_at published) 6272 ≡ 7
highest =
    let at_least_lem = of_all greatest (λ a b. b ≤ a) (λ a. omega arith) (λ a b c le more. omega (arith, le, more)) larger 0 (counts_at published) 6272 3598 3 (lit< tt) (lit< tt) in
    let at_most = all_kept greatest (λ a. a ≤ 7) kept 0 (counts_at published) 6272 (lit≤ tt) (λ n t h ht. rw (line_at n h) (leb→le _ 7 (under _ 8 (under _ 56 (under _ 5 seven_test (which (n / 56)) (which_lt (n / 56))) (n % 56) (omega arith)) t ht))) in
    omega (arith, at_most, at_least_lem, ap (λ (c : List ℕ). at c 3) (line_at 3598 (lit< tt)) ∙ seven)
  where
    kept : (a b : ℕ) → a ≤ 7 → b ≤ 7 → greatest a b ≤ 7
    kept a b ha hb = one_of (ltb b a)
      where
        one_of : (q : Bool) → cond q a b ≤ 7
        one_of true = ha
        one_of false = hb

-- Of 6,272 triples 5,440 are even, and the counts lie between 0 and 7.
pub published-last : last_line published ≡ (5440, 0, 7)
published-last = λ i. (even_lines_lem i, lowest i, highest i)
