-- Uniqueness: whatever the arguments, a promise allows one result, or one content of the lent buffer.
-- Assumes nothing.
use mathlib.Core.Path.{refl, sym, ◌∙◌}
use Rattle.aes.proofs.Outcomes.{told}
use Rattle.aes.proofs.Unique.{Unique, UniqueWriting}
use Rattle.buffer.proofs.ends.handed_out.Reads as Handed-out
use Rattle.buffer.proofs.ends.laid.Reads as laid
use Rattle.buffer.proofs.values.copy.Reads as copy
use Rattle.buffer.proofs.values.counted.Reads as counted
use Rattle.buffer.proofs.values.gather.Reads as gather
use Rattle.buffer.proofs.values.scatter.Reads as scatter

pub gather_unique : Unique gather.Post
gather_unique κs args exit x y p q = p ∙ sym q

pub counted_unique : Unique counted.Post
counted_unique κs args exit x y p q = p ∙ sym q

pub handed_out_unique : UniqueWriting Handed-out.Post (λ κs e. e.1.1.0.now)
handed_out_unique κs args e f x y p q = told x y _ _ _ p q

pub scatter_unique : UniqueWriting scatter.Post (λ κs e. e.1.0.now)
scatter_unique κs args e f x y p q = (refl, p ∙ sym q)

pub copy_unique : UniqueWriting copy.Post (λ κs e. e.1.0.now)
copy_unique κs args e f x y p q = (refl, p ∙ sym q)

pub laid_unique : UniqueWriting laid.Post (λ κs e. e.1.0.now)
laid_unique κs args e f x y p q = (refl, p ∙ sym q)
