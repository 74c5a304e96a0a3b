-- What a row of boxes and of constants has at each label.
-- Assumes nothing.
use mathlib.Core.Path.{◌≡◌, sym, ap, ◌∙◌}
use mathlib.Core.List.{List}
use Prim.Native.Nat.{ℕ, ◌+◌, ◌*◌, ◌%◌, ◌<◌}
use native.Mathlib.Omega.{arith}
use lib.ListN.{length}
use Rattle.aes.specs.Byte.{table}
use Rattle.aes.specs.State.{at, state}
use Rattle.aes.specs.Key.{round_key}
use Rattle.aes.proofs.Listed.{table_at, table_same, table-length}
use Rattle.aes.proofs.Undo.{add_size, state-at}
use Rattle.masks.specs.Mask.{in_row, one, label, twice, mask, masked_box, masked_boxes, compensation, after_rows, after_columns, constants}
use Rattle.masks.specs.Order.{boxed_by, boxes_at}
use Rattle.masks.proofs.Row.{row_at_lem}
use Rattle.masks.proofs.Counted.{one_at}

-- the formula at each entry of the store
pub box_at : (S : ℕ → ℕ) (M : List ℕ) (d j x : ℕ) → j < 16 → x < 256 → at (masked_boxes S M d) (256 * j + x) ≡ masked_box S M d j x
unfolding masked_boxes
box_at S M d j x hj hx =
    row_at_lem (λ j. table (masked_box S M d j) 256) 256 (λ j. table-length (masked_box S M d j) 256) 16 j x hj hx ∙ table_at (masked_box S M d j) 256 x hx

-- and so what the boxes make of a state of bytes, each byte by the one over it
pub boxed_is : (S : ℕ → ℕ) (M v : List ℕ) (d k : ℕ) (s : List ℕ) → ((i : ℕ) → at s i < 256)
    → boxed_by (masked_boxes S M d) (boxes_at v k) s ≡ state (λ i. masked_box S M d (label v k i) (at s i))
unfolding boxed_by boxes_at table
boxed_is S M v d k s h =
    table_same (λ i. at (masked_boxes S M d) (at (boxes_at v k) i + at s i)) (λ i. masked_box S M d (label v k i) (at s i)) 16
    (λ i l. ap (λ (j : ℕ). at (masked_boxes S M d) (j + at s i)) (table_at (λ i. 256 * label v k i) 16 i l) ∙ box_at S M d (label v k i) (at s i) (omega arith) (h i))

-- sixteen masks in a row, from a label on, of masks that lie there twice over
pub laid_out : (M : List ℕ) (l : ℕ) → state (λ i. at (twice M) (l % 16 + i)) ≡ mask M (one 0) l
unfolding mask table
laid_out M l =
    table_same (λ i. at (twice M) (l % 16 + i)) (λ i. at M (label (one 0) l i)) 16
    (λ i h. table_at (λ j. at M (j % 16)) 32 (l % 16 + i) (omega arith) ∙ ap (at M) (same i h ∙ ap (λ (a : ℕ). (a + l) % 16) (sym (one_at 0 i h))))
  where
    same : (i : ℕ) → i < 16 → (l % 16 + i) % 16 ≡ ((0 + i) % 16 + l) % 16
    same i h = omega arith

-- a constant has sixteen bytes
abbrev pub Sized : (List ℕ → List ℕ) → Type 0
Sized f = (m : List ℕ) → length (f m) ≡ 16

pub compensation_sized : Sized compensation
unfolding compensation
compensation_sized m = add_size _ _

pub rows_sized : Sized after_rows
unfolding after_rows
rows_sized m = add_size _ _

pub columns_sized : Sized after_columns
unfolding after_columns
columns_sized m = add_size _ _

-- the state at each place of a row of them, and so the constant at each label
pub row_state : (f : ℕ → List ℕ) → ((j : ℕ) → length (f j) ≡ 16) → (n k : ℕ) → k < n → round_key (in_row f n) k ≡ f k
unfolding round_key table
row_state f h n k lt = table_same (λ i. at (in_row f n) (16 * k + i)) (at (f k)) 16 (λ i. row_at_lem f 16 h n k i lt) ∙ state-at (f k) (h k)

pub constant-at : (f : List ℕ → List ℕ) → Sized f → (M v : List ℕ) (k : ℕ) → k < 16 → round_key (constants f M v) k ≡ f (mask M v k)
unfolding constants
constant-at f h M v = row_state (λ k. f (mask M v k)) (λ k. h (mask M v k)) 16
