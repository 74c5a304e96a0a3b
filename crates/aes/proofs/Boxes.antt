-- The S-box and its inverse, as antt works them out.
-- Assumes nothing.
use mathlib.Core.Path.{◌≡◌, refl, sym, ap, ◌∙◌}
use mathlib.Core.List.{List}
use Prim.Native.Nat.{ℕ, zero, suc, ◌-◌, ◌/◌, ◌%◌, ◌<◌}
use native.Mathlib.Omega.{arith}
use lib.ListN.{get_or}
use Rattle.aes.specs.Byte.{from_bits, table, place}
use Rattle.aes.specs.Field.{inverse}
use Rattle.aes.specs.Box.{affine, s_box, inv_s_box}
use Rattle.aes.proofs.Listed.{Inverted, table_same, agree, place-below}
use Rattle.aes.proofs.Powers.{powers, powers_at, logarithm_is}
use Rattle.aes.proofs.Inverses.{inverse_byte, inverse_zero, inverse_by_logarithm}

-- the inverse, by the powers of 03
unfoldable pub reciprocal : List ℕ → ℕ → ℕ
reciprocal l zero = 0
reciprocal l (suc k) = get_or l ((255 - place (suc k) l) % 255) 0

reciprocal_is : (b : ℕ) → b < 256 → inverse b ≡ reciprocal powers b
unfolding reciprocal
reciprocal_is zero h = inverse_zero
reciprocal_is (suc k) h =
    sym (inverse_by_logarithm (suc k) (omega arith) h) ∙ rw (logarithm_is (suc k)) (sym (powers_at _ (omega arith)))

-- the table of S, as antt works it out
unfoldable pub boxes : List ℕ
unfolding table from_bits affine place reciprocal powers
boxes = let l : List ℕ = powers in table (λ b. affine (reciprocal l b)) 256

pub boxes_are : table s_box 256 ≡ boxes
unfolding s_box boxes
boxes_are = table_same s_box (λ b. affine (reciprocal powers b)) 256 (λ b h. ap affine (reciprocal_is b h))

-- the table of its inverse
pub inv_boxes_are : table inv_s_box 256 ≡ (let l : List ℕ = boxes in table (λ b. place b l) 256)
unfolding inv_s_box
inv_boxes_are = ap (λ (l : List ℕ). table (λ b. place b l) 256) boxes_are

affine_fits : (b : ℕ) → b < 256 → affine b / 256 ≡ 0
unfolding table from_bits affine
affine_fits = agree (λ b. affine b / 256) (λ b. 0) 256 refl

pub s_box_byte : (b : ℕ) → b < 256 → s_box b < 256
unfolding s_box
s_box_byte b h = omega (arith, affine_fits (inverse b) (inverse_byte b h))

-- the test over all 256 entries: each byte stands in the box, and once
test : Inverted (λ b. b) 256 boxes
unfolding boxes
test = (refl, refl, refl)

pub inverted : Inverted (λ b. b) 256 (table s_box 256)
inverted = rw boxes_are test

pub inv_s_box_byte : (b : ℕ) → b < 256 → inv_s_box b < 256
unfolding inv_s_box
inv_s_box_byte = place-below s_box (λ b. b) 256 inverted
