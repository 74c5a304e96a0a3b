-- Uniqueness: whatever the arguments, a call's promise allows one result.
-- Assumes nothing.
use mathlib.Core.Path.{sym, ◌∙◌}
use Rattle.aes.proofs.Unique.{Unique}
use Rattle.tower.proofs.inversion.tower_inverse.Reads as tower_inverse
use Rattle.tower.proofs.sbox.tower_box.Reads as tower_box

pub tower_inverse_unique : Unique tower_inverse.Post
tower_inverse_unique κs args exit x y p q = p ∙ sym q

pub tower_box_unique : Unique tower_box.Post
tower_box_unique κs args exit x y p q = p ∙ sym q
