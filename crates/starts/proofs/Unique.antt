-- Uniqueness: whatever the arguments, a promise allows one content of the lent place.
-- Assumes nothing.
use mathlib.Core.Path.{refl, sym, ◌∙◌}
use Rattle.aes.proofs.Unique.{UniqueWriting}
use Rattle.starts.proofs.given.decrypted.Reads as decrypted
use Rattle.starts.proofs.given.decryption_recorded.Reads as decryption-recorded
use Rattle.starts.proofs.given.encrypted.Reads as encrypted
use Rattle.starts.proofs.given.recorded.Reads as recorded
use Rattle.starts.proofs.many.each.Reads as each
use Rattle.starts.proofs.published.sealed.Reads as sealed
use Rattle.starts.proofs.published.unsealed.Reads as unsealed

pub sealed_unique : UniqueWriting sealed.Post (λ κs e. e.1.1.0.now)
sealed_unique κs args e f x y p q = (refl, p ∙ sym q)

pub unsealed_unique : UniqueWriting unsealed.Post (λ κs e. e.1.1.0.now)
unsealed_unique κs args e f x y p q = (refl, p ∙ sym q)

pub each_unique : UniqueWriting each.Post (λ κs e. e.1.1.0.now)
each_unique κs args e f x y p q = (refl, p ∙ sym q)

pub encrypted_unique : UniqueWriting encrypted.Post (λ κs e. e.1.1.0.now)
encrypted_unique κs args e f x y p q = (refl, p ∙ sym q)

pub recorded_unique : UniqueWriting recorded.Post (λ κs e. e.1.1.0.now)
recorded_unique κs args e f x y p q = (refl, p ∙ sym q)

pub decrypted_unique : UniqueWriting decrypted.Post (λ κs e. e.1.1.0.now)
decrypted_unique κs args e f x y p q = (refl, p ∙ sym q)

pub decryption_recorded_unique : UniqueWriting decryption-recorded.Post (λ κs e. e.1.1.0.now)
decryption_recorded_unique κs args e f x y p q = (refl, p ∙ sym q)
