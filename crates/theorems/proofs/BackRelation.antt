-- The relation of a masked decryption: its states are those of the plain one, each under the mask of its point.
-- Assumes nothing.
use mathlib.Core.Path.{◌≡◌, refl, ap, fun_ext, ◌∙◌}
use mathlib.Core.List.{List, [], map}
use Prim.Native.Nat.{ℕ, ◌<◌}
use native.Mathlib.Nat.{mul-zero}
use lib.ListN.{length, get_or}
use Rattle.aes.specs.Box.{inv_s_box}
use Rattle.aes.specs.State.{inv_sub_bytes, add_round_key}
use Rattle.aes.specs.Record.{run}
use Rattle.masks.specs.Mask.{◌⊞◌}
use Rattle.runs.specs.Back.{Back, block, keyed, unshifted, corrected, unboxed, unmixed, restored, uncovered, back_points, uncovering, masked_back_record}
use Rattle.masks.specs.MaskTable.{stepping}
use Rattle.theorems.specs.Summed.{summed}
use Rattle.theorems.specs.BackTable.{mask_back_at, plain_back, plain_back_record, inv_cipher_at}
use Rattle.theorems.proofs.Cover.{at-summed, map_at}
use Rattle.theorems.proofs.PlainBack.{back_record_is}
use Rattle.theorems.proofs.AnyBack.{uncovering_by, back_relation_any}
use Rattle.theorems.proofs.Relation.{boxes_are}

back_plain_at : (nr : ℕ) (w b : List ℕ) (q : ℕ) → q < length (back_points nr) → get_or (plain_back_record nr w b) q [] ≡ inv_cipher_at nr w b (get_or (back_points nr) q block)
back_plain_at nr w b q h = rw (back_record_is nr w b) (map_at (inv_cipher_at nr w b) (back_points nr) q block h)

module _ (M v : List ℕ) (d nr : ℕ) where
  uncovering_is : (w : List ℕ) (p : Back) (s : List ℕ) → uncovering nr M v d w p s ≡ uncovering_by nr (stepping M v d) w p s
  unfolding uncovering uncovering_by inv_sub_bytes add_round_key
  uncovering_is w block s = rw mul-zero
  uncovering_is w (keyed r) s = refl
  uncovering_is w (unshifted r) s = refl
  uncovering_is w (corrected r) s = refl
  uncovering_is w (unboxed r) s = boxes_are inv_s_box M v d r s
  uncovering_is w (unmixed r) s = refl
  uncovering_is w (restored r) s = refl
  uncovering_is w (uncovered r) s = refl

  pub back_relation : (w b : List ℕ) → masked_back_record nr M v d w b ≡ summed (plain_back_record nr w b) (map (mask_back_at M v d) (back_points nr))
  unfolding masked_back_record
  back_relation w b =
      ap (λ (f : Back → List ℕ → List ℕ). run f b (back_points nr)) (fun_ext (λ p. fun_ext (λ s. uncovering_is w p s)))
      ∙ back_relation_any (stepping M v d) nr w b

  -- so state q is plain state q under the mask of point q; and that of INVCIPHER
  pub back_relation_at : (w b : List ℕ) (q : ℕ) → q < length (back_points nr)
      → get_or (masked_back_record nr M v d w b) q [] ≡ get_or (plain_back_record nr w b) q [] ⊞ mask_back_at M v d (get_or (back_points nr) q block)
  unfolding plain_back_record
  back_relation_at w b q h = rw (back_relation w b) (at-summed (plain_back nr w) (mask_back_at M v d) block (back_points nr) b q h)

  pub back_relation_cipher : (w b : List ℕ) (q : ℕ) → q < length (back_points nr)
      → get_or (masked_back_record nr M v d w b) q [] ≡ inv_cipher_at nr w b (get_or (back_points nr) q block) ⊞ mask_back_at M v d (get_or (back_points nr) q block)
  back_relation_cipher w b q h = back_relation_at w b q h ∙ rw (back_plain_at nr w b q h)
