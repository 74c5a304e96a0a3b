-- What lies in rows of sixteen, label after label: where boxes begin, the masks over a state, and constants that are made of these.
-- Assumes nothing.
use mathlib.Core.Path.{◌≡◌, refl, sym, ap, ◌∙◌}
use mathlib.Core.List.{List}
use Prim.Native.Nat.{ℕ, ◌+◌, ◌-◌, ◌*◌, ◌/◌, ◌%◌, ◌≤◌, ◌<◌}
use native.Mathlib.Omega.{arith}
use native.Mathlib.Decide.{ℕ_discrete}
use lib.ListN.{length, take, drop, set, length-set}
use lib.Seq.{get_or-set_same, get_or-set_other, ext_get_or}
use Rattle.aes.specs.Byte.{table}
use Rattle.aes.specs.State.{at}
use Rattle.aes.specs.Key.{round_key}
use Rattle.aes.proofs.Listed.{table_at, table-length, table_same}
use Rattle.masks.specs.Mask.{one, twice, label, mask, covers_of, constants, constants_of}
use Rattle.masks.specs.Order.{boxes_at, places_of, places_at}
use Rattle.masks.proofs.Copied.{sixteen}
use Rattle.masks.proofs.Row.{row_same}
use Rattle.masks.proofs.Counted.{boxes_below}
use Rattle.masks.proofs.Stored.{row_state, laid_out}
use Rattle.masks.proofs.Columns.{row_byte, row_bytes, row_byte_lem}

-- where the boxes begin
places_size : (v : List ℕ) (k : ℕ) → length (boxes_at v k) ≡ 16
unfolding boxes_at table
places_size v k = refl

pub places_bytes : (v : List ℕ) → places_of v ≡ table (row_byte (boxes_at v)) 256
unfolding places_of
places_bytes v = row_bytes (boxes_at v) (places_size v) 16

pub places_at_lem : (v : List ℕ) (l : ℕ) → places_at (places_of v) l ≡ boxes_at v l
unfolding places_of boxes_at table
places_at_lem v l =
    row_state (boxes_at v) (places_size v) 16 (l % 16) (omega arith)
    ∙ table_same (λ i. 256 * label v (l % 16) i) (λ i. 256 * label v l i) 16 (λ i h. ap (λ (j : ℕ). 256 * j) (omega arith))

pub places_below : (v : List ℕ) (l i : ℕ) → i < 16 → at (places_at (places_of v) l) i ≤ 3840
places_below v l i h = rw (places_at_lem v l) (boxes_below v l i h)

-- and at each byte
pub place_is : (v : List ℕ) (k i : ℕ) → i < 16 → (256 * (at v i % 16) + 256 * k) % 4096 ≡ row_byte (boxes_at v) (16 * k + i)
unfolding boxes_at table
place_is v k i h = far (at v i) ∙ sym (table_at (λ i. 256 * label v k i) 16 i h) ∙ row_byte_lem (boxes_at v) k i h
  where
    far : (a : ℕ) → (256 * (a % 16) + 256 * k) % 4096 ≡ 256 * ((a + k) % 16)
    far a = omega arith

-- the masks over a state
pub mask_size : (M v : List ℕ) (k : ℕ) → length (mask M v k) ≡ 16
unfolding mask table
mask_size M v k = refl

pub covers_bytes : (M v : List ℕ) → covers_of M v ≡ table (row_byte (mask M v)) 256
unfolding covers_of
covers_bytes M v = row_bytes (mask M v) (mask_size M v) 16

pub cover_at : (M v : List ℕ) (k : ℕ) → k < 16 → round_key (covers_of M v) k ≡ mask M v k
unfolding covers_of
cover_at M v = row_state (mask M v) (mask_size M v) 16

-- at each byte, of masks that lie there twice over
pub cover_is : (M v : List ℕ) (k i : ℕ) → k < 16 → i < 16 → at (twice M) (at v i % 16 + k) ≡ at (mask M v k) i
unfolding mask table
cover_is M v k i hk hi =
    table_at (λ j. at M (j % 16)) 32 (at v i % 16 + k) (omega (arith, hk)) ∙ ap (at M) (omega arith) ∙ sym (table_at (λ i. at M (label v k i)) 16 i hi)

-- and from a label on sixteen of these in a row
pub first_is : (M : List ℕ) (n : ℕ) {t : List ℕ} → t ≡ twice M → n < 16 → take (n + 16 - n) (drop n t) ≡ mask M (one 0) n
first_is M n e lt =
    let room : n + 16 ≤ length (twice M) = rw (table-length (λ i. at M (i % 16)) 32) (omega (arith, lt)) in
    let small : n % 16 ≡ n = omega (arith, lt) in
    ap (λ (s : List ℕ). take (n + 16 - n) (drop n s)) e ∙ sixteen (twice M) n room ∙ rw small at (laid_out M n)

-- rows as they are filled column by column: of columns 0 to 15, each from above, the first n entries
pub record Down (g : ℕ → List ℕ) (n : ℕ) (r : List ℕ) : Type 0 where
  pub room : length r ≡ 256
  pub so_far : (k i : ℕ) → k < 16 → i < 16 → 16 * i + k < n → at r (16 * k + i) ≡ at (g k) i

pub down_more : {g : ℕ → List ℕ} {r : List ℕ} {n v : ℕ} (k i : ℕ) → k < 16 → i < 16 → n ≡ 16 * i + k → v ≡ at (g k) i → Down g n r
    → Down g (n + 1) (set r (16 * k + i) v)
down_more {g} {r} {n} {v} k i hk hi e ev d = record { room = length-set r (16 * k + i) v ∙ d.room; so_far = entry }
  where
    there : 16 * k + i < 256
    there = omega (arith, hk, hi)

    entry : (a b : ℕ) → a < 16 → b < 16 → 16 * b + a < n + 1 → at (set r (16 * k + i) v) (16 * a + b) ≡ at (g a) b
    entry a b ha hb lt =
        elim (ℕ_discrete (16 * a + b) (16 * k + i)) [
          | yes q ↦
              let ea : a ≡ k = omega (arith, ha, hb, hk, hi, q) in
              let eb : b ≡ i = omega (arith, ha, hb, hk, hi, q) in
              rw (ea, eb) (get_or-set_same r (16 * k + i) v 0 (rw d.room there) ∙ ev)
          | no q ↦ get_or-set_other r (16 * k + i) (16 * a + b) v 0 q ∙ d.so_far a b ha hb (omega (arith, ha, hb, hk, hi, e, lt, q))
        ]

pub down_all : {g : ℕ → List ℕ} {r : List ℕ} {n : ℕ} → Down g n r → 256 ≤ n → r ≡ table (row_byte g) 256
down_all {g} {r} {n} d h =
    ext_get_or 0 r (table (row_byte g) 256) (d.room ∙ sym (table-length (row_byte g) 256))
    (λ y lt.
    let below : y < 256 = omega (arith, lt, d.room) in
    let e : y ≡ 16 * (y / 16) + y % 16 = omega arith in
    ap (at r) e ∙ d.so_far (y / 16) (y % 16) (omega (arith, below)) (omega arith) (omega (arith, below, h)) ∙ sym (table_at (row_byte g) 256 y below))

pub room : (n : ℕ) → n < 16 → 16 * n + 16 ≤ 256
room n lt = omega (arith, lt)

-- so are all constants
pub constants-covered : (f : List ℕ → List ℕ) (M v : List ℕ) → constants_of f (covers_of M v) ≡ constants f M v
unfolding constants_of constants
constants-covered f M v = row_same (λ k. f (round_key (covers_of M v) k)) (λ k. f (mask M v k)) 16 (λ k lt. ap f (cover_at M v k lt))
