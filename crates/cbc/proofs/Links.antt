-- Blocks by their entries, and the rows of blocks that CBC makes.
-- Assumes nothing.
use mathlib.Core.Path.{◌≡◌, refl, sym, ◌∙◌}
use mathlib.Core.Bool.{Bool, true, false, cond}
use mathlib.Core.List.{List}
use Prim.Native.Nat.{ℕ, suc, ◌+◌, ◌/◌, ◌≤◌, ◌<◌}
use native.Mathlib.Numerals.{add-one}
use native.Mathlib.Omega.{arith}
use lib.ListN.{length, take, drop, length-drop}
use lib.Seq.{ext_get_or, length-take-le, get_or-take, get_or-drop}
use Rattle.aes.specs.Byte.{listed, table}
use Rattle.aes.specs.State.{at, add_round_key}
use Rattle.aes.specs.Cipher.{cipher}
use Rattle.aes.proofs.Listed.{table_at, table-length}
use Rattle.masks.specs.Mask.{in_row}
use Rattle.masked.specs.Calls.{block_at}
use Rattle.cbc.specs.Cbc.{chained, before, cbc_encrypted, cbc_decrypted, link, cbc}

pub part_size : (a : ℕ) (xs : List ℕ) → a + 16 ≤ length xs → length (take 16 (drop a xs)) ≡ 16
part_size a xs h = length-take-le 16 (drop a xs) (rw length-drop (omega arith))

pub part_entries : (a : ℕ) (xs : List ℕ) → a + 16 ≤ length xs → listed (λ j. at xs (a + j)) 0 16 ≡ take 16 (drop a xs)
unfolding table
part_entries a xs h =
    let f : ℕ → ℕ = λ j. at xs (a + j) in
    ext_get_or 0 (table f 16) (take 16 (drop a xs)) (table-length f 16 ∙ sym (part_size a xs h)) (λ j lt.
    let l : j < 16 = rw (table-length f 16) at lt in table_at f 16 j l ∙ sym (get_or-take 16 (drop a xs) j 0 l ∙ get_or-drop a xs j 0))

-- the blocks that encryption makes
abbrev pub links : (List ℕ → List ℕ) → List ℕ → List ℕ → ℕ → List ℕ
links E start plain j = chained E start plain (suc j)

-- with AES-256, back or not: the ciphertext before block j, and what is made of that block
abbrev pub last : Bool → List ℕ → List ℕ → List ℕ → ℕ → List ℕ
last back w start input j = cond back (before start input j) (chained (cipher 14 w) start input j)

abbrev pub made : Bool → List ℕ → List ℕ → List ℕ → ℕ → List ℕ
made back w start input j = link back w (block_at j input) (last back w start input j)

pub link_size : (back : Bool) (w block c : List ℕ) → length (link back w block c) ≡ 16
unfolding cipher add_round_key
link_size true w block c = refl
link_size false w block c = refl

module _ (w start input : List ℕ) where
  pub at_first : (back : Bool) → start ≡ last back w start input 0
  unfolding chained
  at_first true = refl
  at_first false = refl

  pub next_last : (back : Bool) (j : ℕ) → cond back (block_at j input) (made back w start input j) ≡ last back w start input (j + 1)
  unfolding chained
  next_last true j = rw add-one
  next_last false j = rw add-one

  pub whole_row : (back : Bool) {n : ℕ} → length input / 16 ≡ n → in_row (made back w start input) n ≡ cbc back w start input
  unfolding chained cbc_encrypted cbc_decrypted
  whole_row true e = rw e
  whole_row false e = rw e
