-- The masked boxes of the published masks, as antt works them out.
-- Assumes nothing.
use mathlib.Core.Path.{◌≡◌, refl, ap, fun_ext}
use mathlib.Core.Bool.{Bool, true, ◌&&◌}
use mathlib.Core.List.{List, [], ◌∷◌}
use Prim.Native.Nat.{ℕ, zero, suc, ◌+◌, ◌%◌, ◌<◌}
use lib.Dec.{T, ltb, lit<}
use mir.Facts.{and_yes}
use Rattle.aes.specs.Byte.{◌⊕◌, table, place}
use Rattle.aes.specs.Box.{s_box, inv_s_box}
use Rattle.aes.specs.State.{at, Bytes}
use Rattle.aes.proofs.Xor.{xor_byte}
use Rattle.aes.proofs.Listed.{table_at, table_same}
use Rattle.aes.proofs.Boxes.{boxes, boxes_are, inv_boxes_are}
use Rattle.masks.specs.Mask.{published, in_row, masked_box, masked_boxes}

-- box j, by looking S up in a list
unfoldable pub looked_up : List ℕ → List ℕ → ℕ → ℕ → ℕ → ℕ
looked_up l M d j x = at l (x ⊕ at M (j % 16)) ⊕ at M ((j + d) % 16)

-- where the list is the table of S, or of its inverse
module _ (S : ℕ → ℕ) (l : List ℕ) (is : table S 256 ≡ l) where
  looked_up_lem : {M : List ℕ} → Bytes 16 M → (d j x : ℕ) → x < 256 → masked_box S M d j x ≡ looked_up l M d j x
  unfolding masked_box looked_up
  looked_up_lem {M} h d j x hx =
      let y : ℕ = x ⊕ at M (j % 16) in
      let e : at l y ≡ S y = rw (← is) (table_at S 256 y (xor_byte x (at M (j % 16)) hx (h.byte (j % 16)))) in
      rw e

  worked_out : {M : List ℕ} → Bytes 16 M → (d : ℕ) → masked_boxes S M d ≡ in_row (λ j. table (looked_up l M d j) 256) 16
  unfolding masked_boxes
  worked_out {M} h d =
      ap (λ (f : ℕ → List ℕ). in_row f 16) (fun_ext (λ j. table_same (masked_box S M d j) (looked_up l M d j) 256 (looked_up_lem h d j)))

-- every entry is a byte
small : List ℕ → Bool
small [] = true
small (x ∷ l) = ltb x 256 && small l

small_at : (l : List ℕ) → T (small l) → (i : ℕ) → at l i < 256
unfolding small
small_at [] t i = lit< tt
small_at (x ∷ l) t zero = lit< (and_yes (ltb x 256) (small l) t).0
small_at (x ∷ l) t (suc i) = small_at l (and_yes (ltb x 256) (small l) t).1 i

published-bytes : Bytes 16 published
unfolding published small
published-bytes = record { size = refl; byte = small_at published tt }

pub published_boxes : masked_boxes s_box published 1 ≡ (let l : List ℕ = boxes in in_row (λ j. table (looked_up l published 1 j) 256) 16)
published_boxes = worked_out s_box boxes boxes_are published-bytes 1

-- the inverse of S, by its places in the list of S
unfoldable pub inv_boxes : List ℕ
unfolding boxes table place
inv_boxes = let l : List ℕ = boxes in table (λ b. place b l) 256

pub published_inverse_boxes : masked_boxes inv_s_box published 1 ≡ (let l : List ℕ = inv_boxes in in_row (λ j. table (looked_up l published 1 j) 256) 16)
unfolding inv_boxes
published_inverse_boxes = worked_out inv_s_box inv_boxes inv_boxes_are published-bytes 1
