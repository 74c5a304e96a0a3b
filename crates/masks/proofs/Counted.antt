-- Labels are counted modulo 16, from a record's offsets on: how far on they are can be told by the record, or by the label.
-- Assumes nothing.
use mathlib.Core.Path.{◌≡◌, sym, ap, ◌∙◌}
use mathlib.Core.List.{List}
use Prim.Native.Nat.{ℕ, ◌+◌, ◌*◌, ◌%◌, ◌≤◌, ◌<◌}
use native.Mathlib.Nat.{add-zero}
use native.Mathlib.Omega.{arith}
use lib.ListN.{length}
use Rattle.aes.specs.Byte.{table}
use Rattle.aes.specs.State.{at}
use Rattle.aes.proofs.Listed.{table_at, table_same}
use Rattle.aes.proofs.Undo.{state-at}
use Rattle.masks.specs.Mask.{one, label, advanced, mask}
use Rattle.masks.specs.Order.{boxes_at}

-- what a record has at each byte
pub advanced-at : (v : List ℕ) (k i : ℕ) → i < 16 → at (advanced v k) i ≡ label v k i
unfolding table
advanced-at v k i h = table_at (label v k) 16 i h

pub one_at : (o i : ℕ) → i < 16 → at (one o) i ≡ (o + i) % 16
unfolding table
one_at o i h = table_at (λ i. (o + i) % 16) 16 i h

-- boxes begin below 3,841
pub boxes_below : (v : List ℕ) (k i : ℕ) → i < 16 → at (boxes_at v k) i ≤ 3840
unfolding boxes_at table
boxes_below v k i h = rw (table_at (λ i. 256 * label v k i) 16 i h) (omega arith)

-- a record whose offsets are below 16
pub advanced_none : (v : List ℕ) → length v ≡ 16 → ((i : ℕ) → i < 16 → at v i ≤ 15) → advanced v 0 ≡ v
unfolding table
advanced_none v size small = table_same (label v 0) (at v) 16 (λ i h. low (at v i) (small i h)) ∙ state-at v size
  where
    low : (a : ℕ) → a ≤ 15 → (a + 0) % 16 ≡ a
    low a le = omega (arith, le)

-- the label of byte i
on : (a k n : ℕ) → ((a + k) % 16 + n) % 16 ≡ (a + (k + n)) % 16
on a k n = omega arith

pub label_on : (v : List ℕ) (k n i : ℕ) → i < 16 → label (advanced v k) n i ≡ label v (k + n) i
label_on v k n i h = ap (λ (a : ℕ). (a + n) % 16) (advanced-at v k i h) ∙ on (at v i) k n

label_turn : (v : List ℕ) (o k i : ℕ) → i < 16 → label v ((o + k) % 16) i ≡ label (advanced v o) k i
label_turn v o k i h = turn (at v i) ∙ sym (label_on v o k i h)
  where
    turn : (a : ℕ) → (a + (o + k) % 16) % 16 ≡ (a + (o + k)) % 16
    turn a = omega arith

label-one : (o n k i : ℕ) → i < 16 → label (one o) (n + k) i ≡ label (one ((o + n) % 16)) k i
label-one o n k i h =
    ap (λ (a : ℕ). (a + (n + k)) % 16) (one_at o i h) ∙ sym (on ((o + i) % 16) n k) ∙ ap (λ (a : ℕ). (a + k) % 16) (moved o i n ∙ sym (one_at ((o + n) % 16) i h))
  where
    moved : (o i n : ℕ) → ((o + i) % 16 + n) % 16 ≡ ((o + n) % 16 + i) % 16
    moved o i n = omega arith

-- so the masks over a state, and where its boxes begin
pub mask_on : (M v : List ℕ) (k n : ℕ) → mask M (advanced v k) n ≡ mask M v (k + n)
unfolding mask table
mask_on M v k n = table_same (λ i. at M (label (advanced v k) n i)) (λ i. at M (label v (k + n) i)) 16 (λ i h. ap (at M) (label_on v k n i h))

pub mask_first : (M v : List ℕ) (o : ℕ) → mask M v o ≡ mask M (advanced v o) 0
mask_first M v o = ap (mask M v) (sym (add-zero o)) ∙ sym (mask_on M v o 0)

pub mask_turn : (M v : List ℕ) (o k : ℕ) → mask M v ((o + k) % 16) ≡ mask M (advanced v o) k
unfolding mask table
mask_turn M v o k =
    table_same (λ i. at M (label v ((o + k) % 16) i)) (λ i. at M (label (advanced v o) k i)) 16 (λ i h. ap (at M) (label_turn v o k i h))

pub mask_one : (M : List ℕ) (o n k : ℕ) → mask M (one o) (n + k) ≡ mask M (one ((o + n) % 16)) k
unfolding mask table
mask_one M o n k =
    table_same (λ i. at M (label (one o) (n + k) i)) (λ i. at M (label (one ((o + n) % 16)) k i)) 16 (λ i h. ap (at M) (label-one o n k i h))

pub boxes_turn : (v : List ℕ) (o k : ℕ) → boxes_at v ((o + k) % 16) ≡ boxes_at (advanced v o) k
unfolding boxes_at table
boxes_turn v o k =
    table_same (λ i. 256 * label v ((o + k) % 16) i) (λ i. 256 * label (advanced v o) k i) 16 (λ i h. ap (λ (j : ℕ). 256 * j) (label_turn v o k i h))

-- one offset o is the record of 0, all offsets o on
pub one_on : (o : ℕ) → one o ≡ advanced (one 0) o
unfolding table
one_on o = table_same (λ i. (o + i) % 16) (label (one 0) o) 16 (λ i h. same i ∙ ap (λ (a : ℕ). (a + o) % 16) (sym (one_at 0 i h)))
  where
    same : (i : ℕ) → (o + i) % 16 ≡ ((0 + i) % 16 + o) % 16
    same i = omega arith
