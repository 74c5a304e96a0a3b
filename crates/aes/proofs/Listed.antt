-- Tables: a table of f has f k at k. That a stored table is the table of f, antt computes.
-- Assumes nothing.
use mathlib.Core.Path.{◌≡◌, refl, ap, ap₂, sym, ◌∙◌}
use mathlib.Core.List.{List, ◌∷◌}
use Prim.Native.Nat.{ℕ, zero, suc, ◌+◌, ◌/◌, ◌<◌}
use native.Mathlib.Nat.{add-zero, zero-add, add-suc, suc-add, one-mul, div-lt_iff_lt-mul}
use native.Mathlib.Omega.{arith}
use lib.Dec.{lit<}
use lib.ListN.{length, get_or}
use Rattle.aes.specs.Byte.{listed, table, place}

listed_at : (f : ℕ → ℕ) (i n k : ℕ) → k < n → get_or (listed f i n) k 0 ≡ f (i + k)
listed_at f i zero k h = absurd (omega arith)
listed_at f i (suc n) zero h = rw add-zero
listed_at f i (suc n) (suc k) h = rw (add-suc, ← suc-add) (listed_at f (suc i) n k (omega arith))

pub table_at : (f : ℕ → ℕ) (n k : ℕ) → k < n → get_or (table f n) k 0 ≡ f k
unfolding table
table_at f n k h = rw zero-add at (listed_at f 0 n k h)

listed-length : (f : ℕ → ℕ) (i n : ℕ) → length (listed f i n) ≡ n
listed-length f i zero = refl
listed-length f i (suc n) = ap suc (listed-length f (suc i) n)

pub table-length : (f : ℕ → ℕ) (n : ℕ) → length (table f n) ≡ n
unfolding table
table-length f n = listed-length f 0 n

listed_same : (f g : ℕ → ℕ) (i n : ℕ) → ((k : ℕ) → k < n → f (i + k) ≡ g (i + k)) → listed f i n ≡ listed g i n
listed_same f g i zero h = refl
listed_same f g i (suc n) h =
    ap₂ (◌∷◌) (rw add-zero at (h 0 (omega arith)))
    (listed_same f g (suc i) n (λ k l. rw (suc-add, ← add-suc) (h (suc k) (omega arith))))

-- two functions that agree below n have one table, and the reverse
pub table_same : (f g : ℕ → ℕ) (n : ℕ) → ((k : ℕ) → k < n → f k ≡ g k) → table f n ≡ table g n
unfolding table
table_same f g n h = listed_same f g 0 n (λ k l. rw zero-add (h k l))

pub agree : (f g : ℕ → ℕ) (n : ℕ) → table f n ≡ table g n → (k : ℕ) → k < n → f k ≡ g k
agree f g n e k h = sym (table_at f n k h) ∙ ap (λ (l : List ℕ). get_or l k 0) e ∙ table_at g n k h

-- Tests over a table of n entries: v 0 to v (n - 1) each have a place below n, stand there, and no entry stands twice.
abbrev pub Inverted : (ℕ → ℕ) → ℕ → List ℕ → Type 0
Inverted v n l =
    (table (λ k. place (v k) l / n) n ≡ table (λ k. 0) n) × (table (λ k. get_or l (place (v k) l) 0) n ≡ table v n)
    × (table (λ k. place (get_or l k 0) l) n ≡ table (λ k. k) n)

-- What follows for the function f whose table it is: its inverse is the place.
module _ (f v : ℕ → ℕ) (n : ℕ) (tests : Inverted v n (table f n)) (k : ℕ) (h : k < n) where
  pub place-below : place (v k) (table f n) < n
  place-below =
      let p : ℕ = place (v k) (table f n) in
      let e : p / n ≡ 0 = agree (λ k. place (v k) (table f n) / n) (λ k. 0) n tests.0 k h in
      rw one-mul at ((div-lt_iff_lt-mul {k = n} {x = p} {y = 1} (omega arith)).0 (rw e (lit< tt)))

  pub place_right : f (place (v k) (table f n)) ≡ v k
  place_right =
      sym (table_at f n (place (v k) (table f n)) place-below)
      ∙ agree (λ k. get_or (table f n) (place (v k) (table f n)) 0) v n tests.1 k h

  pub place_only : place (f k) (table f n) ≡ k
  place_only = rw (← table_at f n k h) (agree (λ k. place (get_or (table f n) k 0) (table f n)) (λ k. k) n tests.2 k h)
