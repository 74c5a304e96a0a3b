-- The box in the tower beside the stored boxes and masked inversion, through the promises of the calls.
-- Assumes nothing.
use mathlib.Core.List.{List, [], ◌∷◌}
use mathlib.Core.Path.{◌≡◌, refl, sym, ap, ◌∙◌}
use Prim.Native.Nat.{ℕ, ◌+◌, ◌*◌, ◌<◌}
use Rattle.aes.specs.Byte.{bit, table}
use Rattle.aes.specs.State.{at}
use Rattle.aes.specs.Box.{s_box}
use Rattle.aes.proofs.Listed.{agree}
use Rattle.masks.specs.Mask.{published, masked_boxes}
use Rattle.masks.proofs.Stored.{box_at}
use Rattle.tower.specs.Tower.{to_tower}
use Rattle.beside.proofs.masked_inverse.Reads as masked-inverse
use Rattle.tower.proofs.tower_inverse.Reads as tower_inverse_lem
use Rattle.tower.proofs.tower_box.Reads as tower_box

-- for every byte and mask, 00 included, what tower_inverse answers is what masked_inverse does
pub inverses_agree : (κs : _) (args : _) (exit : _) (s t : ℕ) → tower_inverse_lem.Post κs args s exit → masked-inverse.Post κs args t exit → s ≡ t
inverses_agree κs args exit s t p q = p ∙ sym q

-- for every label and byte, what tower_box answers stands in the boxes that are stored
pub box_stored : (κs : _) (label x : ℕ) (exit : _) (s : ℕ) (boxes : List ℕ) → label < 16 → x < 256 → boxes ≡ masked_boxes s_box published 1
    → tower_box.Post κs (label, (x, tt)) s exit → s ≡ at boxes (256 * label + x)
box_stored κs label x exit s boxes hl hx e p = p ∙ sym (box_at s_box published 1 label x hl hx) ∙ ap (λ (l : List ℕ). at l (256 * label + x)) (sym e)

-- with the published masks each bit of a byte in the tower is bare at eight labels and turned at eight: each bit of their images is set in
-- eight of them
abbrev pub total : List ℕ → ℕ
total [] = 0
total (x ∷ xs) = x + total xs

abbrev pub turned : ℕ → ℕ
turned i = total (table (λ j. bit (to_tower (at published j)) i) 16)

pub image_even : (i : ℕ) → i < 8 → turned i ≡ 8
unfolding table published to_tower
image_even = agree turned (λ i. 8) 8 refl
