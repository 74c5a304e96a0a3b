-- CBC is undone, block by block, over any codebook and its inverse.
-- Assumes nothing.
use mathlib.Core.Path.{◌≡◌, refl, ap, ap₂, sym, ◌∙◌}
use mathlib.Core.List.{List}
use Prim.Native.Nat.{ℕ, zero, suc, ◌+◌, ◌*◌, ◌/◌, ◌≤◌, ◌<◌}
use native.Mathlib.Omega.{arith}
use native.Mathlib.Decide.{dec_lt}
use lib.Dec.{lit<}
use lib.ListN.{length, take, drop, length-take, get_or-eq_default}
use lib.Seq.{take_all, take-add, get_or-take, get_or-drop}
use Rattle.aes.specs.Byte.{listed, table}
use Rattle.aes.specs.State.{at, Bytes}
use Rattle.aes.proofs.Listed.{table_same}
use Rattle.aes.proofs.Undo.{state-at, add_bytes, add_twice}
use Rattle.masks.specs.Mask.{◌⊞◌, in_row}
use Rattle.masks.proofs.Row.{row_size, row_at_lem, row_same}
use Rattle.masked.specs.Calls.{block_at}
use Rattle.cbc.specs.Cbc.{chained, cbc_encrypted, before, cbc_decrypted}
use Rattle.cbc.proofs.Links.{part_size, part_entries, links}
use Rattle.theorems.proofs.WrapTrip.{Undone}

-- a block of a row is what stands there
row_block : (f : ℕ → List ℕ) → ((j : ℕ) → length (f j) ≡ 16) → (n j : ℕ) → j < n → block_at j (in_row f n) ≡ f j
unfolding table
row_block f h n j lt =
    let room : 16 * j + 16 ≤ length (in_row f n) = rw (row_size f 16 h n) (omega arith) in
    sym (part_entries (16 * j) (in_row f n) room)
    ∙ entries
  where
    rows : listed (λ x. at (in_row f n) (16 * j + x)) 0 16 ≡ listed (at (f j)) 0 16
    rows = table_same (λ x. at (in_row f n) (16 * j + x)) (at (f j)) 16 (λ x lx. row_at_lem f 16 h n j x lt lx)

    entries : listed (λ x. at (in_row f n) (16 * j + x)) 0 16 ≡ f j
    entries = rows ∙ state-at (f j) (h j)

row_take : (xs : List ℕ) (n : ℕ) → 16 * n ≤ length xs → in_row (λ j. block_at j xs) n ≡ take (16 * n) xs
unfolding in_row
row_take xs zero h = refl
row_take xs (suc n) h =
    let e : 16 * suc n ≡ 16 * n + 16 = omega arith in
    rw (e, row_take xs n (omega arith)) (sym (take-add (16 * n) 16 xs))

-- a row of all its blocks is the list
pub row_all : (xs : List ℕ) (n : ℕ) → length xs ≡ 16 * n → in_row (λ j. block_at j xs) n ≡ xs
row_all xs n l = row_take xs n (omega (arith, l)) ∙ take_all (16 * n) xs (omega (arith, l))

-- a part of bytes is of bytes
pub part_byte : (m a : ℕ) (xs : List ℕ) → ((i : ℕ) → at xs i < 256) → (i : ℕ) → at (take m (drop a xs)) i < 256
part_byte m a xs h i =
    elim (dec_lt i m) [
      | yes lt ↦ rw (get_or-take m (drop a xs) i 0 lt, get_or-drop a xs i 0) (h (a + i))
      | no ge ↦ rw (get_or-eq_default (take m (drop a xs)) 0 {n = i} (rw length-take (omega arith))) (lit< tt)
    ]

block_bytes : (k : ℕ) (xs : List ℕ) → ((i : ℕ) → at xs i < 256) → 16 * k + 16 ≤ length xs → Bytes 16 (block_at k xs)
block_bytes k xs h room = record { size = part_size (16 * k) xs room; byte = part_byte 16 (16 * k) xs h }

-- CBC is undone, block by block
module _ {E D : List ℕ → List ℕ} (c : Undone E D) (start plain : List ℕ) (n : ℕ) (l : length plain ≡ 16 * n) (first : Bytes 16 start) (h : (i : ℕ) → at plain i < 256) where
  chain_size : (j : ℕ) → length (links E start plain j) ≡ 16
  unfolding chained
  chain_size j = c.size (block_at j plain ⊞ chained E start plain j)

  chain_bytes : (j : ℕ) → j ≤ n → Bytes 16 (chained E start plain j)
  unfolding chained
  chain_bytes zero le = first
  chain_bytes (suc j) le =
      c.kept (add_bytes (block_bytes j plain h (omega (arith, l))) (chain_bytes j (omega arith)))

  earlier : (j : ℕ) → j < n → before start (in_row (links E start plain) n) j ≡ chained E start plain j
  unfolding chained
  earlier zero lt = refl
  earlier (suc j) lt = row_block (links E start plain) chain_size n j (omega arith)

  one : (j : ℕ) → j < n → D (block_at j (in_row (links E start plain) n)) ⊞ before start (in_row (links E start plain) n) j ≡ block_at j plain
  unfolding chained
  one j lt =
      ap₂ (λ (b d : List ℕ). D b ⊞ d) (row_block (links E start plain) chain_size n j lt) (earlier j lt)
      ∙ ap (λ (b : List ℕ). b ⊞ chained E start plain j)
      (c.undo (add_bytes (block_bytes j plain h (omega (arith, l))) (chain_bytes j (omega arith))))
      ∙ add_twice (chained E start plain j) (block_bytes j plain h (omega (arith, l)))

  pub cbc_size : length (cbc_encrypted E start plain) ≡ 16 * n
  unfolding cbc_encrypted
  cbc_size = let e : length plain / 16 ≡ n = omega (arith, l) in rw e (row_size (links E start plain) 16 chain_size n)

  pub cbc_undone : cbc_decrypted D start (cbc_encrypted E start plain) ≡ plain
  unfolding cbc_encrypted cbc_decrypted
  cbc_undone =
      let e : length plain / 16 ≡ n = omega (arith, l) in
      let g : length (in_row (links E start plain) n) / 16 ≡ n = rw (row_size (links E start plain) 16 chain_size n) (omega arith) in
      rw (e, g) (row_same _ (λ j. block_at j plain) n one ∙ row_all plain n l)
