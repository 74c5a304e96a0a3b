-- The report of a mask table: each count is that of any round and any step; of a fit table it is two, in every row under the balance.
-- Assumes nothing.
use mathlib.Core.Path.{◌≡◌, refl, sym, ap, subst, ◌∙◌}
use mathlib.Core.Bool.{Bool, true, cond, ◌&&◌}
use mathlib.Core.List.{List}
use Prim.Native.Nat.{ℕ, zero, suc, ◌+◌, ◌*◌, ◌/◌, ◌%◌, ◌<◌, ◌≤◌}
use native.Mathlib.Omega.{arith}
use native.Mathlib.Decide.{dec_lt}
use lib.Dec.{T, leb, ltb, lit<}
use lib.ListN.{length}
use mir.Facts.{and_yes}
use borrow.Author.Tests.{eq-eqb, ne_eqb, le-leb, lt-ltb}
use Rattle.aes.specs.Byte.{table, below}
use Rattle.aes.specs.State.{at}
use Rattle.aes.proofs.Below.{under, below_all}
use Rattle.aes.proofs.Listed.{table_at, table_same}
use Rattle.aes.proofs.Replies.{is_true}
use Rattle.masks.proofs.Row.{row_at_lem}
use Rattle.beside.specs.Fitness.{patterns, count, even, balanced, fit, fitness_of}
use Rattle.beside.specs.Report.{row_point, count_in, inside, counts_of, values_of, mixed_over, mask_count_of, triples, row_at, byte_at, bit_at, counts_at, all_counts}
use Rattle.beside.proofs.Alike.{alike, within}
use Rattle.theorems.specs.Balance.{single}
use Rattle.theorems.proofs.Balancing.{rising_different}
use Rattle.theorems.proofs.Fit.{fit-balanced}

-- the counts by the masks that lie over the byte, and by the definition in any round and with any step
module _ (M : List ℕ) (row i x y z : ℕ) (in-it : inside row i x y z ≡ true) where
  over_values : (d r t : ℕ) → count_in M d row r i x y z t ≡ count t (patterns (at (values_of M row i)) x y z)
  over_values d r t =
      let w = within row i x y z in-it in
      alike M x y z t d row r i w.low w.high w.byte

  pub counts_values : counts_of M row i x y z ≡ table (λ t. count t (patterns (at (values_of M row i)) x y z)) 8
  counts_values =
      table_same (λ t. cond (inside row i x y z) (count_in M 1 row 0 i x y z t) 0) (λ t. count t (patterns (at (values_of M row i)) x y z)) 8
      (λ t h. ap (λ (b : Bool). cond b (count_in M 1 row 0 i x y z t) 0) in-it ∙ over_values 1 0 t)

not_mixed : (row r : ℕ) → T (single (row_point row r)) → row ≡ 5 → ⊥
unfolding single row_point
not_mixed row r s e = subst (λ (n : ℕ). T (single (row_point n r))) e s

module _ (M : List ℕ) (row i x y z t : ℕ) (in-it : inside row i x y z ≡ true) (ht : t < 8) where
  by_values : at (counts_of M row i x y z) t ≡ count t (patterns (at (values_of M row i)) x y z)
  by_values =
      ap (λ (l : List ℕ). at l t) (counts_values M row i x y z in-it)
      ∙ table_at (λ t. count t (patterns (at (values_of M row i)) x y z)) 8 t ht

  any_round : (d r : ℕ) → at (counts_of M row i x y z) t ≡ count_in M d row r i x y z t
  any_round d r = by_values ∙ sym (over_values M row i x y z in-it d r t)

  -- What the call gives is the count in any round r and with any step d.
  pub count_any_round : length M ≡ 16 → (d r : ℕ) → mask_count_of M row i x y z t ≡ (0, count_in M d row r i x y z t)
  count_any_round l d r = simp (eq-eqb (length M) 16 l) (ap (λ (c : ℕ). (0, c)) (any_round d r))

  -- Of a fit table it is two in every row under the balance.
  two : (r : ℕ) → (fitness_of M).1 ≡ 1 → T (single (row_point row r)) → at (counts_of M row i x y z) t ≡ 2
  two r fit s =
      let w = within row i x y z in-it in
      by_values
      ∙ ap (λ (b : Bool). count t (patterns (at (cond b (mixed_over M i) M)) x y z)) (ne_eqb row 5 (not_mixed row r s))
      ∙ (fit-balanced M fit).1.twice x y z t w.first w.second w.third (rising_different x y z w.rises w.rises_on) ht

  pub fit-even : (r : ℕ) → (fitness_of M).1 ≡ 1 → T (single (row_point row r)) → mask_count_of M row i x y z t ≡ (0, 2)
  fit-even r fit s = simp (eq-eqb (length M) 16 (fit-balanced M fit).0) (ap (λ (c : ℕ). (0, c)) (two r fit s))

-- The reverse: where it is two for every triple and pattern of one byte in one such row, the table is fit.
pub even-fit : (M : List ℕ) → length M ≡ 16 → (row r i : ℕ) → 1 ≤ row → row ≤ 7 → i < 16 → T (single (row_point row r))
    → ((x y z t : ℕ) → x < y → y < z → z < 8 → t < 8 → mask_count_of M row i x y z t ≡ (0, 2)) → fitness_of M ≡ (0, 1)
unfolding balanced even
even-fit M l row r i low high hi s two =
    let counted : (x y z t : ℕ) → x < y → y < z → z < 8 → t < 8 → count t (patterns (at M) x y z) ≡ 2 = λ x y z t hx hy hz ht.
    let in-it : inside row i x y z ≡ true = simp (le-leb 1 row low, le-leb row 7 high, le-leb i 15 (omega (arith, hi)), lt-ltb x y hx, lt-ltb y z hy, le-leb z 7 (omega (arith, hz))) in
    let given : mask_count_of M row i x y z t ≡ (0, at (counts_of M row i x y z) t) = simp (eq-eqb (length M) 16 l) in
    ap (λ (b : Bool). count t (patterns (at (cond b (mixed_over M i) M)) x y z)) (sym (ne_eqb row 5 (not_mixed row r s)))
    ∙ sym (by_values M row i x y z t in-it ht) ∙ ap (λ (p : ℕ × ℕ). p.1) (sym given ∙ two x y z t hx hy hz ht) in
    let fit-it : fit M ≡ true = below_all _ 8 (λ z hz. below_all _ z (λ y hy. below_all _ y (λ x hx. below_all _ 8 (λ t ht. eq-eqb _ 2 (counted x y z t hx hy hz ht))))) in
    simp (eq-eqb (length M) 16 l, fit-it)

-- these rows are all except the fifth
pub under_balance : (row r : ℕ) → 1 ≤ row → row ≤ 7 → (row ≡ 5 → ⊥) → T (single (row_point row r))
unfolding single row_point
under_balance zero r low high e = absurd (omega (arith, low))
under_balance (suc zero) r low high e = tt
under_balance (suc (suc zero)) r low high e = tt
under_balance (suc (suc (suc zero))) r low high e = tt
under_balance (suc (suc (suc (suc zero)))) r low high e = tt
under_balance (suc (suc (suc (suc (suc zero))))) r low high e = absurd (e refl)
under_balance (suc (suc (suc (suc (suc (suc zero)))))) r low high e = tt
under_balance (suc (suc (suc (suc (suc (suc (suc zero))))))) r low high e = tt
under_balance (suc (suc (suc (suc (suc (suc (suc (suc n)))))))) r low high e = absurd (omega (arith, high))

-- computed: the bits of the 56 triples rise
triples_rise : T (below 56 (λ k. ltb (at triples (3 * k + 0)) (at triples (3 * k + 1)) && ltb (at triples (3 * k + 1)) (at triples (3 * k + 2)) && leb (at triples (3 * k + 2)) 7))
unfolding below triples
triples_rise = tt

-- a triple as one number
abbrev triple_at : ℕ → ℕ
triple_at k = 64 * at triples (3 * k + 0) + 8 * at triples (3 * k + 1) + at triples (3 * k + 2)

-- computed: the triples rise too, so that these 56 are all that there are
triples_in_order : T (below 56 (λ k. ltb (triple_at k) 512) && below 55 (λ k. ltb (triple_at k) (triple_at (suc k))))
unfolding below triples
triples_in_order = tt

-- a row has sixteen times 56 lines
rows_of : (n : ℕ) → n / 896 ≡ n / 56 / 16
rows_of n = omega arith

-- The lines rise by their first five numbers, here one number in which each has its own place.
pub lines_rise : (n : ℕ) → 8192 * row_at n + 512 * byte_at n + (64 * bit_at n 0 + 8 * bit_at n 1 + bit_at n 2) < 8192 * row_at (suc n) + 512 * byte_at (suc n) + (64 * bit_at (suc n) 0 + 8 * bit_at (suc n) 1 + bit_at (suc n) 2)
lines_rise n =
    let tests = and_yes (below 56 (λ k. ltb (triple_at k) 512)) (below 55 (λ k. ltb (triple_at k) (triple_at (suc k)))) triples_in_order in
    elim (dec_lt (n % 56) 55) [
      | yes h ↦
          let next : suc n % 56 ≡ suc (n % 56) = omega (arith, h) in
          let same : suc n / 56 ≡ n / 56 = omega (arith, h) in
          let row : suc n / 896 ≡ n / 896 = rows_of (suc n) ∙ ap (λ (q : ℕ). q / 16) same ∙ sym (rows_of n) in
          let byte : suc n / 56 % 16 ≡ n / 56 % 16 = ap (λ (q : ℕ). q % 16) same in
          let more : triple_at (n % 56) < triple_at (suc n % 56) = rw next (lit< (under _ 55 tests.1 (n % 56) h)) in
          omega (arith, row, byte, more)
      | no h ↦
          let small : triple_at (n % 56) < 512 = lit< (under _ 56 tests.0 (n % 56) (omega arith)) in
          let on : suc n / 56 ≡ suc (n / 56) = omega (arith, h) in
          omega (arith, small, on, rows_of n, rows_of (suc n))
    ]

-- each line of the report is of a row, a byte and a triple
pub line_inside : (n : ℕ) → n < 6272 → inside (row_at n) (byte_at n) (bit_at n 0) (bit_at n 1) (bit_at n 2) ≡ true
line_inside n h =
    let x : ℕ = bit_at n 0 in
    let y : ℕ = bit_at n 1 in
    let z : ℕ = bit_at n 2 in
    let bits = under _ 56 triples_rise (n % 56) (omega arith) in
    let last = and_yes (ltb x y && ltb y z) (leb z 7) bits in
    let rest = and_yes (ltb x y) (ltb y z) last.0 in
    simp (le-leb 1 (row_at n) (omega arith), le-leb (row_at n) 7 (omega (arith, h)), le-leb (byte_at n) 15 (omega arith), is_true (ltb x y) rest.0, is_true (ltb y z) rest.1, is_true (leb z 7) last.1)

-- What the report writes in line n is the definition's, in any round and with any step, and two where a fit table is under the balance.
module _ (M : List ℕ) (n t : ℕ) (h : n < 6272) (ht : t < 8) where
  written : at (all_counts M) (8 * n + t) ≡ at (counts_of M (row_at n) (byte_at n) (bit_at n 0) (bit_at n 1) (bit_at n 2)) t
  unfolding counts_at table
  written = row_at_lem (counts_at M) 8 (λ k. refl) 6272 n t h ht

  pub line_any_round : (d r : ℕ) → at (all_counts M) (8 * n + t) ≡ count_in M d (row_at n) r (byte_at n) (bit_at n 0) (bit_at n 1) (bit_at n 2) t
  line_any_round d r = written ∙ any_round M (row_at n) (byte_at n) (bit_at n 0) (bit_at n 1) (bit_at n 2) t (line_inside n h) ht d r

  pub line_even : (r : ℕ) → (fitness_of M).1 ≡ 1 → T (single (row_point (row_at n) r)) → at (all_counts M) (8 * n + t) ≡ 2
  line_even r fit s = written ∙ two M (row_at n) (byte_at n) (bit_at n 0) (bit_at n 1) (bit_at n 2) t (line_inside n h) ht r fit s
