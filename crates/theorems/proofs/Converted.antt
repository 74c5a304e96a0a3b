-- The converter of what early modules stored: it gives the standard block, and of that what was stored.
-- Assumes nothing.
use mathlib.Core.Path.{◌≡◌, refl, ap, ◌∙◌}
use mathlib.Core.List.{List, []}
use Prim.Native.Nat.{ℕ, ◌≤◌}
use borrow.Author.Tests.{eq-eqb, le-leb}
use lib.Dec.{lit<}
use lib.ListN.{length, get_or}
use Rattle.aes.specs.State.{shift_rows, add_round_key}
use Rattle.aes.specs.Cipher.{cipher}
use Rattle.aes.specs.Record.{wholes, points, cipher_at}
use Rattle.aes.specs.Calls.{encrypt_of}
use Rattle.aes.proofs.Schedule.{full}
use Rattle.masks.specs.Mask.{one, published, ◌⊞◌, mask}
use Rattle.runs.specs.Run.{masked_record}
use Rattle.beside.specs.Stored.{stored, convert_of}
use Rattle.masks.specs.MaskTable.{mask_by}
use Rattle.theorems.proofs.CallLaws.{cipher_size}
use Rattle.theorems.proofs.AnyMasks.{add_change, add_gone}
use Rattle.theorems.proofs.Relation.{relation_cipher}
use Rattle.theorems.proofs.RoundPoints.{run_length}
use Rattle.theorems.proofs.Result.{add_none}

add_sized : (s m : List ℕ) → length (s ⊞ m) ≡ 16
unfolding add_round_key
add_sized s m = refl

add_twice : (s m : List ℕ) → length s ≡ 16 → s ⊞ m ⊞ m ≡ s
add_twice s m l = add_gone s m ∙ add_none s l

-- what is stored is what a run ends with that adds the constant which document 002 prints: the mask is left on the block
pub stored_is : (w b : List ℕ) (o : ℕ)
    → get_or (masked_record 14 published (one o) 1 w b) 69 [] ⊞ (mask published (one o) 14 ⊞ shift_rows (mask published (one o) 14)) ≡ stored o (cipher 14 w b)
unfolding points wholes mask_by cipher_at cipher
stored_is w b o =
    ap (λ (s : List ℕ). s ⊞ (mask published (one o) 14 ⊞ shift_rows (mask published (one o) 14))) (relation_cipher published (one o) 1 w 14 b 69 (rw (run_length 14 (lit< tt)) (lit< tt)))
    ∙ add_change (cipher 14 w b) (shift_rows (mask published (one o) 14)) (mask published (one o) 14)

-- of what is stored of a block, the block that encrypt writes
pub convert_standard : (w b out : List ℕ) (o : ℕ) → length w ≡ 240 → length b ≡ 16 → o ≤ 15 → convert_of (stored o (cipher 14 w b)) out o ≡ encrypt_of w b out
convert_standard w b out o lw lb lo =
    simp (
      eq-eqb (length (stored o (cipher 14 w b))) 16 (add_sized (cipher 14 w b) (mask published (one o) 14)),
      (full w lw).0,
      (full w lw).1,
      eq-eqb (length b) 16 lb,
      le-leb o 15 lo,
      add_twice (cipher 14 w b) (mask published (one o) 14) (cipher_size 14 w b),
    )

-- and twice, what was given
pub convert_twice : (s out out' : List ℕ) (o : ℕ) → length s ≡ 16 → length out ≡ 16 → length out' ≡ 16 → o ≤ 15
    → convert_of (convert_of s out o).1 out' o ≡ (0, s)
convert_twice s out out' o l lout lout' lo =
    simp (
      eq-eqb (length s) 16 l,
      eq-eqb (length out) 16 lout,
      eq-eqb (length out') 16 lout',
      le-leb o 15 lo,
      eq-eqb (length (s ⊞ mask published (one o) 14)) 16 (add_sized s (mask published (one o) 14)),
      add_twice s (mask published (one o) 14) l,
    )
