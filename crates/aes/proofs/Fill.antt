-- A loop that fills a list by a rule, one store a turn.
-- Assumes nothing.
use mathlib.Core.Path.{◌≡◌, sym, ◌∙◌}
use mathlib.Core.List.{List}
use Prim.Native.Nat.{ℕ, ◌+◌, ◌<◌, ◌≤◌}
use native.Mathlib.Omega.{arith}
use native.Mathlib.Decide.{dec_lt}
use lib.ListN.{length, get_or, set, take, drop, length-set, length-drop}
use Rattle.std.proofs.Common.{get_or-drop}
use lib.Seq.{get_or-set_same, get_or-set_other, ext_get_or, length-take-le, get_or-take}
use Rattle.aes.specs.Byte.{listed, table}
use Rattle.aes.proofs.Listed.{table_at, table-length}

-- r has n entries, and the first i of them are those of f
pub record Filled (f : ℕ → ℕ) (n i : ℕ) (r : List ℕ) : Type 0 where
  pub room : length r ≡ n
  pub within : i ≤ n
  pub so_far : (k : ℕ) → k < i → get_or r k 0 ≡ f k

pub filled_none : {f : ℕ → ℕ} {n : ℕ} {r : List ℕ} → length r ≡ n → Filled f n 0 r
filled_none e = record { room = e; within = omega arith; so_far = λ k h. absurd (omega arith) }

pub filled_more : {f : ℕ → ℕ} {n i : ℕ} {r : List ℕ} {v : ℕ} → Filled f n i r → i < n → v ≡ f i → Filled f n (i + 1) (set r i v)
filled_more {f} {n} {i} {r} {v} p l e = record { room = length-set r i v ∙ p.room; within = omega arith; so_far = at_k }
  where
    at_k : (k : ℕ) → k < i + 1 → get_or (set r i v) k 0 ≡ f k
    at_k k lt =
        elim (dec_lt k i) [
          | yes q ↦ get_or-set_other r i k v 0 (omega arith) ∙ p.so_far k q
          | no q ↦ let e' : k ≡ i = omega arith in rw e' (get_or-set_same r i v 0 (omega arith) ∙ e)
        ]

pub filled_all : {f : ℕ → ℕ} {n i : ℕ} {r : List ℕ} → Filled f n i r → n ≤ i → r ≡ listed f 0 n
unfolding table
filled_all {f} {n} {i} {r} p h =
    ext_get_or 0 r (table f n) (p.room ∙ sym (table-length f n))
    (λ k lt. p.so_far k (omega arith) ∙ sym (table_at f n k (omega arith)))

-- filled from another list, it is that list
pub filled_copy : {s r : List ℕ} {i : ℕ} → Filled (λ k. get_or s k 0) (length s) i r → length s ≤ i → r ≡ s
filled_copy {s} {r} {i} p h = ext_get_or 0 r s p.room (λ k lt. p.so_far k (omega (arith, p.room)))

-- a part of a list, by its places
pub part_listed : (xs : List ℕ) (a n : ℕ) → a + n ≤ length xs → take n (drop a xs) ≡ listed (λ k. get_or xs (a + k) 0) 0 n
part_listed xs a n h =
    let size : length (take n (drop a xs)) ≡ n = length-take-le n (drop a xs) (simp length-drop (omega arith)) in
    filled_all (record { room = size; within = omega arith; so_far = λ k lt. get_or-take n (drop a xs) k 0 lt ∙ get_or-drop a xs k 0 }) (omega arith)
