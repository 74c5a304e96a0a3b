-- Uniqueness: whatever the arguments, a call's promise allows one reply and one content of the lent buffer.
-- Assumes nothing.
use Rattle.aes.proofs.Outcomes.{told}
use Rattle.aes.proofs.Unique.{UniqueWriting}
use Rattle.masked.proofs.calls.decrypt.decrypt_masked.Reads as decrypt-masked
use Rattle.masked.proofs.calls.decrypt.decrypt_published.Reads as decrypt-published
use Rattle.masked.proofs.calls.decrypt.record_masked_decryption.Reads as record-masked-decryption
use Rattle.masked.proofs.calls.encrypt.encrypt_masked.Reads as encrypt-masked
use Rattle.masked.proofs.calls.encrypt.encrypt_published.Reads as encrypt-published
use Rattle.masked.proofs.calls.many.encrypt_blocks.Reads as encrypt-blocks
use Rattle.masked.proofs.calls.one.decrypt_one.Reads as decrypt-one
use Rattle.masked.proofs.calls.one.encrypt_one.Reads as encrypt-one
use Rattle.masked.proofs.calls.record.record_masked.Reads as record-masked

pub encrypt_published_unique : UniqueWriting encrypt-published.Post (λ κs e. e.1.1.0.now)
encrypt_published_unique κs args e f x y p q = told x y _ _ _ p q

pub encrypt_masked_unique : UniqueWriting encrypt-masked.Post (λ κs e. e.1.1.0.now)
encrypt_masked_unique κs args e f x y p q = told x y _ _ _ p q

pub encrypt_blocks_unique : UniqueWriting encrypt-blocks.Post (λ κs e. e.1.1.0.now)
encrypt_blocks_unique κs args e f x y p q = told x y _ _ _ p q

pub decrypt_published_unique : UniqueWriting decrypt-published.Post (λ κs e. e.1.1.0.now)
decrypt_published_unique κs args e f x y p q = told x y _ _ _ p q

pub decrypt_masked_unique : UniqueWriting decrypt-masked.Post (λ κs e. e.1.1.0.now)
decrypt_masked_unique κs args e f x y p q = told x y _ _ _ p q

pub record_masked_unique : UniqueWriting record-masked.Post (λ κs e. e.1.1.1.1.1.0.now)
record_masked_unique κs args e f x y p q = told x y _ _ _ p q

pub record_masked_decryption_unique : UniqueWriting record-masked-decryption.Post (λ κs e. e.1.1.1.1.1.0.now)
record_masked_decryption_unique κs args e f x y p q = told x y _ _ _ p q

pub encrypt_one_unique : UniqueWriting encrypt-one.Post (λ κs e. e.1.1.0.now)
encrypt_one_unique κs args e f x y p q = told x y _ _ _ p q

pub decrypt_one_unique : UniqueWriting decrypt-one.Post (λ κs e. e.1.1.0.now)
decrypt_one_unique κs args e f x y p q = told x y _ _ _ p q
