-- Uniqueness: whatever the arguments, a promise allows one result, or one content of the lent place.
-- Assumes nothing.
use mathlib.Core.Path.{refl, sym, ◌∙◌}
use Rattle.aes.proofs.Unique.{UniqueWriting}
use Rattle.runs.proofs.back.opened.Reads as opened
use Rattle.runs.proofs.back.opened_recorded.Reads as opened-recorded
use Rattle.runs.proofs.run.recorded.Reads as recorded
use Rattle.runs.proofs.run.unrecorded.Reads as unrecorded

pub recorded_unique : UniqueWriting recorded.Post (λ κs e. e.1.1.1.1.0.now)
recorded_unique κs args e f x y p q = (refl, p ∙ sym q)

pub unrecorded_unique : UniqueWriting unrecorded.Post (λ κs e. e.1.1.1.1.0.now)
unrecorded_unique κs args e f x y p q = (refl, p ∙ sym q)

pub opened_unique : UniqueWriting opened.Post (λ κs e. e.1.1.1.1.0.now)
opened_unique κs args e f x y p q = (refl, p ∙ sym q)

pub opened_recorded_unique : UniqueWriting opened-recorded.Post (λ κs e. e.1.1.1.1.0.now)
opened_recorded_unique κs args e f x y p q = (refl, p ∙ sym q)
