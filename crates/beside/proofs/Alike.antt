-- A row's counts over the sixteen offsets are the same in any round and with any step: the offsets are turned, and each mask shows once.
-- Assumes nothing.
use mathlib.Core.Path.{◌≡◌, sym, ap, ◌∙◌}
use mathlib.Core.Bool.{Bool, true, ◌&&◌}
use mathlib.Core.List.{List}
use Prim.Native.Nat.{ℕ, zero, suc, ◌+◌, ◌*◌, ◌/◌, ◌%◌, ◌<◌, ◌≤◌}
use native.Mathlib.Nat.{add-zero}
use native.Mathlib.Omega.{arith}
use lib.Dec.{leb, ltb, lit<, lit≤}
use mir.Facts.{and_yes}
use Rattle.aes.specs.Byte.{listed, table}
use Rattle.aes.specs.State.{at, cell, ahead, shift_rows, mix_columns}
use Rattle.aes.proofs.Listed.{table_at, table_same}
use Rattle.masks.specs.Mask.{one, label, mask}
use Rattle.masks.specs.MaskTable.{mask_by}
use Rattle.masks.proofs.Counted.{one_at, mask_one}
use Rattle.beside.specs.Fitness.{pattern, patterns, count}
use Rattle.beside.specs.Report.{row_point, mixed_over, values_of, count_in, inside}

-- sixteen values and the same turned by one, and by c
turn : (t : ℕ) (g : ℕ → ℕ) → count t (listed (λ o. g ((o + 1) % 16)) 0 16) ≡ count t (listed g 0 16)
unfolding count
turn t g = omega arith

list_same : (f g : ℕ → ℕ) → ((o : ℕ) → o < 16 → f o ≡ g o) → listed f 0 16 ≡ listed g 0 16
unfolding table
list_same f g h = table_same f g 16 h

pub turns : (t : ℕ) (g : ℕ → ℕ) (c : ℕ) → count t (listed (λ o. g ((o + c) % 16)) 0 16) ≡ count t (listed g 0 16)
turns t g zero = ap (count t) (list_same (λ o. g ((o + 0) % 16)) g (λ o h. ap g (omega (arith, h))))
turns t g (suc c) =
    ap (count t) (list_same (λ o. g ((o + suc c) % 16)) (λ o. g (((o + 1) % 16 + c) % 16)) (λ o h. ap g (omega arith)))
    ∙ turn t (λ o. g ((o + c) % 16)) ∙ turns t g c

-- so any values that are g at labels which count on with the offset
turned : (t : ℕ) (f g : ℕ → ℕ) (c : ℕ) → ((o : ℕ) → f o ≡ g ((o + c) % 16)) → count t (listed f 0 16) ≡ count t (listed g 0 16)
turned t f g c e = ap (count t) (list_same f (λ o. g ((o + c) % 16)) (λ o h. e o)) ∙ turns t g c

-- the mask over byte j at offset o, k labels on
mask_byte : (M : List ℕ) (o k j : ℕ) → j < 16 → at (mask M (one o) k) j ≡ at M ((o + (j + k)) % 16)
unfolding mask table
mask_byte M o k j h = table_at (λ i. at M (label (one o) k i)) 16 j h ∙ ap (at M) (ap (λ (a : ℕ). (a + k) % 16) (one_at o j h) ∙ omega arith)

left : ℕ → ℕ
left i = i % 4 + 4 * ahead (i % 4) (i / 4)

left_lt : (i : ℕ) → left i < 16
unfolding left
left_lt i = omega arith

left_at : (s : List ℕ) (i : ℕ) → i < 16 → at (shift_rows s) i ≡ at s (left i)
unfolding shift_rows left table
left_at s = table_at (λ i. cell s (i % 4) (ahead (i % 4) (i / 4))) 16

-- one offset and a label on it are one label
first_label : (M : List ℕ) (o k : ℕ) → mask M (one o) k ≡ mask M (one 0) ((o + k) % 16)
first_label M o k =
    let l : ℕ = (o + k) % 16 in
    ap (mask M (one o)) (sym (add-zero k)) ∙ mask_one M o k 0 ∙ ap (λ (n : ℕ). mask M (one n) 0) (omega arith) ∙ sym (mask_one M 0 l 0) ∙ ap (mask M (one 0)) (add-zero l)

module _ (M : List ℕ) (x y z t : ℕ) where
  shown : ℕ → ℕ
  shown l = pattern x y z (at M l)

  -- rows in which each byte has a mask of its own, as it is and moved by SHIFTROWS
  as_it_is : (k i : ℕ) → i < 16 → count t (patterns (λ o. at (mask M (one o) k) i) x y z) ≡ count t (patterns (at M) x y z)
  unfolding shown
  as_it_is k i h = turned t (λ o. pattern x y z (at (mask M (one o) k) i)) shown (i + k) (λ o. ap (pattern x y z) (mask_byte M o k i h))

  moved : (k i : ℕ) → i < 16 → count t (patterns (λ o. at (shift_rows (mask M (one o) k)) i) x y z) ≡ count t (patterns (at M) x y z)
  unfolding shown
  moved k i h =
      turned t (λ o. pattern x y z (at (shift_rows (mask M (one o) k)) i)) shown (left i + k)
      (λ o. ap (pattern x y z) (left_at (mask M (one o) k) i h ∙ mask_byte M o k (left i) (left_lt i)))

  -- and after MIXCOLUMNS
  mixed_over_lem : (k i : ℕ) → count t (patterns (λ o. at (mix_columns (shift_rows (mask M (one o) k))) i) x y z) ≡ count t (patterns (at (mixed_over M i)) x y z)
  unfolding mixed_over table
  mixed_over_lem k i =
      let g : ℕ → ℕ = λ l. pattern x y z (at (mix_columns (shift_rows (mask M (one 0) l))) i) in
      turned t (λ o. pattern x y z (at (mix_columns (shift_rows (mask M (one o) k))) i)) g k
      (λ o. ap (λ (m : List ℕ). pattern x y z (at (mix_columns (shift_rows m)) i)) (first_label M o k))
      ∙ ap (count t) (list_same g (λ l. pattern x y z (at (mixed_over M i) l)) (λ l h. ap (pattern x y z) (sym (table_at (λ l. at (mix_columns (shift_rows (mask M (one 0) l))) i) 16 l h))))

  -- every row, in any round and with any step
  pub alike : (d row r i : ℕ) → 1 ≤ row → row ≤ 7 → i < 16 → count_in M d row r i x y z t ≡ count t (patterns (at (values_of M row i)) x y z)
  unfolding row_point mask_by
  alike d zero r i low high h = absurd (omega (arith, low))
  alike d (suc zero) r i low high h = as_it_is (d * 0) i h
  alike d (suc (suc zero)) r i low high h = as_it_is (d * r) i h
  alike d (suc (suc (suc zero))) r i low high h = as_it_is (d * suc r) i h
  alike d (suc (suc (suc (suc zero)))) r i low high h = moved (d * suc r) i h
  alike d (suc (suc (suc (suc (suc zero))))) r i low high h = mixed_over_lem (d * suc r) i
  alike d (suc (suc (suc (suc (suc (suc zero)))))) r i low high h = as_it_is (d * suc r) i h
  alike d (suc (suc (suc (suc (suc (suc (suc zero))))))) r i low high h = moved (d * suc r) i h
  alike d (suc (suc (suc (suc (suc (suc (suc (suc n)))))))) r i low high h = absurd (omega (arith, high))

-- what a count is asked for
pub record Within (row i x y z : ℕ) : Type 0 where
  pub low : 1 ≤ row
  pub high : row ≤ 7
  pub byte : i < 16
  pub rises : x < y
  pub rises_on : y < z
  pub first : x < 8
  pub second : y < 8
  pub third : z < 8

pub within : (row i x y z : ℕ) → inside row i x y z ≡ true → Within row i x y z
within row i x y z e =
    let rows : Bool = leb 1 row && leb row 7 in
    let bytes : Bool = rows && leb i 15 in
    let five = and_yes (bytes && ltb x y && ltb y z) (leb z 7) (rw e tt) in
    let four = and_yes (bytes && ltb x y) (ltb y z) five.0 in
    let three = and_yes bytes (ltb x y) four.0 in
    let two = and_yes rows (leb i 15) three.0 in
    let one = and_yes (leb 1 row) (leb row 7) two.0 in
    let hi : i ≤ 15 = lit≤ two.1 in
    let hz : z ≤ 7 = lit≤ five.1 in
    let hy : y < z = lit< four.1 in
    let hx : x < y = lit< three.1 in
    record {
      low = lit≤ one.0;
      high = lit≤ one.1;
      byte = omega (arith, hi);
      rises = hx;
      rises_on = hy;
      first = omega (arith, hx, hy, hz);
      second = omega (arith, hy, hz);
      third = omega (arith, hz);
    }
