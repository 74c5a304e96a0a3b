-- The constant of label n + 4 is that of label n turned by a column, so the first four are all.
-- Assumes nothing.
use mathlib.Core.Path.{◌≡◌, refl, sym, ap, ap₂, ◌∙◌}
use mathlib.Core.List.{List}
use Prim.Native.Nat.{ℕ, ◌+◌, ◌-◌, ◌*◌, ◌/◌, ◌%◌, ◌≤◌, ◌<◌}
use native.Mathlib.Omega.{arith}
use lib.ListN.{length}
use lib.Seq.{ext_get_or}
use Rattle.aes.specs.Byte.{table}
use Rattle.aes.specs.State.{at, state, shift_rows, mix_columns, inv_shift_rows, inv_mix_columns, add_round_key}
use Rattle.aes.proofs.Listed.{table_at, table-length, table_same}
use Rattle.masks.specs.declared.constants.Kind.{Kind}
use Rattle.masks.specs.declared.constants.Kind.TheVariants.{Compensation, AfterRows, AfterColumns}
use Rattle.masks.specs.Kinds.{constant_of}
use Rattle.masks.specs.Mask.{◌⊞◌, one, label, mask, compensation, after_rows, after_columns, in_row, constants}
use Rattle.masks.proofs.Row.{row_at_lem, row_size}
use Rattle.masks.proofs.Counted.{one_at}
use Rattle.masks.proofs.Stored.{Sized, compensation_sized, rows_sized, columns_sized}

unfoldable pub turned : List ℕ → List ℕ
turned s = state (λ i. at s ((i + 4) % 16))

turned-at : (s : List ℕ) (i : ℕ) → i < 16 → at (turned s) i ≡ at s ((i + 4) % 16)
unfolding turned table
turned-at s i lt = table_at (λ i. at s ((i + 4) % 16)) 16 i lt

turned-mask : (M : List ℕ) (o k : ℕ) → mask M (one o) (k + 4) ≡ turned (mask M (one o) k)
unfolding mask turned table
turned-mask M o k =
    table_same (λ i. at M (label (one o) (k + 4) i)) (λ i. at (state (λ i. at M (label (one o) k i))) ((i + 4) % 16)) 16
    (λ i h.
    let j : ℕ = (i + 4) % 16 in
    let lt : j < 16 = omega arith in
    let same : ((o + i) % 16 + (k + 4)) % 16 ≡ ((o + j) % 16 + k) % 16 = omega arith in
    ap (at M) (ap (λ (a : ℕ). (a + (k + 4)) % 16) (one_at o i h) ∙ same ∙ ap (λ (a : ℕ). (a + k) % 16) (sym (one_at o j lt)))
    ∙ sym (table_at (λ i. at M (label (one o) k i)) 16 j lt))

turned_shift : (s : List ℕ) → shift_rows (turned s) ≡ turned (shift_rows s)
unfolding shift_rows turned
turned_shift s = refl

turned_mix : (s : List ℕ) → mix_columns (turned s) ≡ turned (mix_columns s)
unfolding mix_columns turned
turned_mix s = refl

turned_unshift : (s : List ℕ) → inv_shift_rows (turned s) ≡ turned (inv_shift_rows s)
unfolding inv_shift_rows turned
turned_unshift s = refl

turned_unmix : (s : List ℕ) → inv_mix_columns (turned s) ≡ turned (inv_mix_columns s)
unfolding inv_mix_columns turned
turned_unmix s = refl

turned_add : (s t : List ℕ) → turned s ⊞ turned t ≡ turned (s ⊞ t)
unfolding add_round_key turned
turned_add s t = refl

-- so does every constant
abbrev pub Turning : (List ℕ → List ℕ) → Type 0
Turning f = (m : List ℕ) → f (turned m) ≡ turned (f m)

pub compensation_turning : Turning compensation
unfolding compensation
compensation_turning m = rw (turned_shift m, turned_mix (shift_rows m)) (turned_add m (mix_columns (shift_rows m)))

pub rows_turning : Turning after_rows
unfolding after_rows
rows_turning m = rw (turned_unshift m) (turned_add m (inv_shift_rows m))

pub columns_turning : Turning after_columns
unfolding after_columns
columns_turning m = rw (turned_unmix m) (turned_add m (inv_mix_columns m))

-- each kind of constants has sixteen bytes, and turns with the mask
pub kind_sized : (k : Kind) → Sized (constant_of k)
kind_sized Compensation = compensation_sized
kind_sized AfterRows = rows_sized
kind_sized AfterColumns = columns_sized

kind_turning : (k : Kind) → Turning (constant_of k)
kind_turning Compensation = compensation_turning
kind_turning AfterRows = rows_turning
kind_turning AfterColumns = columns_turning

-- states in a row, byte by byte
abbrev pub row_byte : (ℕ → List ℕ) → ℕ → ℕ
row_byte g y = at (g (y / 16)) (y % 16)

pub row_bytes : (g : ℕ → List ℕ) → ((j : ℕ) → length (g j) ≡ 16) → (n : ℕ) → in_row g n ≡ table (row_byte g) (16 * n)
row_bytes g h n =
    let size : length (in_row g n) ≡ 16 * n = row_size g 16 h n in
    ext_get_or 0 (in_row g n) (table (row_byte g) (16 * n)) (size ∙ sym (table-length (row_byte g) (16 * n)))
    (λ y lt.
    let below : y < 16 * n = omega (arith, lt, size) in
    let e : y ≡ 16 * (y / 16) + y % 16 = omega arith in
    ap (at (in_row g n)) e ∙ row_at_lem g 16 h n (y / 16) (y % 16) (omega (arith, below)) (omega arith) ∙ sym (table_at (row_byte g) (16 * n) y below))

-- a byte of the one at place n
pub row_byte_lem : (g : ℕ → List ℕ) (n i : ℕ) → i < 16 → at (g n) i ≡ row_byte g (16 * n + i)
row_byte_lem g n i h = ap₂ (λ (j k : ℕ). at (g j) k) (omega (arith, h)) (omega (arith, h))

-- the constants of one kind at any offsets
module _ (k : Kind) (M v : List ℕ) where
  abbrev pub constant : ℕ → List ℕ
  constant n = constant_of k (mask M v n)

  pub sized : (n : ℕ) → length (constant n) ≡ 16
  sized n = kind_sized k (mask M v n)

  pub first_four : in_row constant 4 ≡ table (row_byte constant) 64
  first_four = row_bytes constant sized 4

  pub all_sixteen : constants (constant_of k) M v ≡ table (row_byte constant) 256
  unfolding constants
  all_sixteen = row_bytes constant sized 16

-- and at the record of offset 0
module _ (k : Kind) (M : List ℕ) where
  abbrev pub turning : ℕ → List ℕ
  turning = constant k M (one 0)

  constant-turned : (n : ℕ) → turning (n + 4) ≡ turned (turning n)
  constant-turned n = ap (constant_of k) (turned-mask M 0 n) ∙ kind_turning k (mask M (one 0) n)

  column : (o i x y : ℕ) → i < 16 → x ≡ 16 * o + (i + 4) % 16 → y ≡ 16 * (o + 4) + i → row_byte turning x ≡ row_byte turning y
  column o i x y lt hx hy =
      ap₂ at (ap turning (omega (arith, hx))) (omega (arith, hx)) ∙ sym (turned-at (turning o) i lt)
      ∙ ap₂ at (sym (constant-turned o) ∙ ap turning (omega (arith, lt, hy))) (omega (arith, lt, hy))

  -- row y / 16 is the one four before it, its last twelve bytes first
  pub twelve : (y i : ℕ) → 64 ≤ y → y % 16 ≡ 0 → i < 12 → row_byte turning (y - 60 + i) ≡ row_byte turning (y + i)
  twelve y i le m lt = column (y / 16 - 4) i (y - 60 + i) (y + i) (omega (arith, lt)) (omega (arith, le, m, lt)) (omega (arith, le, m, lt))

  pub four : (y i : ℕ) → 64 ≤ y → y % 16 ≡ 0 → i < 4 → row_byte turning (y - 64 + i) ≡ row_byte turning (y + 12 + i)
  four y i le m lt = column (y / 16 - 4) (12 + i) (y - 64 + i) (y + 12 + i) (omega (arith, lt)) (omega (arith, le, m, lt)) (omega (arith, le, m, lt))
