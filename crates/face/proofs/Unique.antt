-- Uniqueness: under its C name too a call's promise allows one result and one content of the lent buffer.
-- Assumes nothing.
use mathlib.Core.Path.{sym, ◌∙◌}
use Rattle.aes.proofs.Unique.{Unique, UniqueWriting, both}
use Rattle.bank.proofs.Unique.{handed}
use Rattle.face.proofs.slipgrease_bank_drop.Reads as bank-drop
use Rattle.face.proofs.slipgrease_bank_empty.Reads as bank-empty
use Rattle.face.proofs.slipgrease_bank_load.Reads as bank-load
use Rattle.face.proofs.slipgrease_bank_run.Reads as bank-run
use Rattle.face.proofs.slipgrease_convert.Reads as convert
use Rattle.face.proofs.slipgrease_decrypt.Reads as decrypt
use Rattle.face.proofs.slipgrease_decrypt_masked.Reads as decrypt-masked
use Rattle.face.proofs.slipgrease_decrypt_published.Reads as decrypt-published
use Rattle.face.proofs.slipgrease_encrypt.Reads as encrypt
use Rattle.face.proofs.slipgrease_encrypt_blocks.Reads as encrypt-blocks
use Rattle.face.proofs.slipgrease_encrypt_masked.Reads as encrypt-masked
use Rattle.face.proofs.slipgrease_encrypt_published.Reads as encrypt-published
use Rattle.face.proofs.slipgrease_expand_key.Reads as expand-key
use Rattle.face.proofs.slipgrease_fitness.Reads as fitness
use Rattle.face.proofs.slipgrease_inverse.Reads as inverse
use Rattle.face.proofs.slipgrease_logarithm.Reads as logarithm
use Rattle.face.proofs.slipgrease_mask_count.Reads as mask-count
use Rattle.face.proofs.slipgrease_masked_inverse.Reads as masked-inverse
use Rattle.face.proofs.slipgrease_multiply.Reads as multiply
use Rattle.face.proofs.slipgrease_power.Reads as power
use Rattle.face.proofs.slipgrease_read_sheet.Reads as read-sheet
use Rattle.face.proofs.slipgrease_record_masked.Reads as record-masked
use Rattle.face.proofs.slipgrease_record_masked_decryption.Reads as record-masked-decryption
use Rattle.face.proofs.slipgrease_record_plain.Reads as record-plain
use Rattle.face.proofs.slipgrease_descramble.Reads as descramble
use Rattle.face.proofs.slipgrease_scramble.Reads as scramble
use Rattle.face.proofs.slipgrease_sort_reply.Reads as sort-reply
use Rattle.face.proofs.slipgrease_tower_box.Reads as tower_box
use Rattle.face.proofs.slipgrease_tower_inverse.Reads as tower_inverse_lem
use Rattle.face.proofs.slipgrease_unwrap.Reads as unwrap
use Rattle.face.proofs.slipgrease_unwrap_masked.Reads as unwrap-masked
use Rattle.face.proofs.slipgrease_wrap.Reads as wrap
use Rattle.face.proofs.slipgrease_wrap_masked.Reads as wrap-masked
use Rattle.face.proofs.slipgrease_write_sheet.Reads as write-sheet

pub multiply_unique : Unique multiply.Post
multiply_unique κs args exit x y p q = p ∙ sym q

pub inverse_unique : Unique inverse.Post
inverse_unique κs args exit x y p q = p ∙ sym q

pub logarithm_unique : Unique logarithm.Post
logarithm_unique κs args exit x y p q = p ∙ sym q

pub power_unique : Unique power.Post
power_unique κs args exit x y p q = p ∙ sym q

pub expand_key_unique : UniqueWriting expand-key.Post (λ κs e. e.1.0.now)
expand_key_unique κs args e f x y p q = both x y _ _ _ p q

pub encrypt_unique : UniqueWriting encrypt.Post (λ κs e. e.1.1.0.now)
encrypt_unique κs args e f x y p q = both x y _ _ _ p q

pub decrypt_unique : UniqueWriting decrypt.Post (λ κs e. e.1.1.0.now)
decrypt_unique κs args e f x y p q = both x y _ _ _ p q

pub record_plain_unique : UniqueWriting record-plain.Post (λ κs e. e.1.1.0.now)
record_plain_unique κs args e f x y p q = both x y _ _ _ p q

pub encrypt_published_unique : UniqueWriting encrypt-published.Post (λ κs e. e.1.1.0.now)
encrypt_published_unique κs args e f x y p q = both x y _ _ _ p q

pub encrypt_blocks_unique : UniqueWriting encrypt-blocks.Post (λ κs e. e.1.1.0.now)
encrypt_blocks_unique κs args e f x y p q = both x y _ _ _ p q

pub encrypt_masked_unique : UniqueWriting encrypt-masked.Post (λ κs e. e.1.1.0.now)
encrypt_masked_unique κs args e f x y p q = both x y _ _ _ p q

pub decrypt_published_unique : UniqueWriting decrypt-published.Post (λ κs e. e.1.1.0.now)
decrypt_published_unique κs args e f x y p q = both x y _ _ _ p q

pub decrypt_masked_unique : UniqueWriting decrypt-masked.Post (λ κs e. e.1.1.0.now)
decrypt_masked_unique κs args e f x y p q = both x y _ _ _ p q

pub record_masked_unique : UniqueWriting record-masked.Post (λ κs e. e.1.1.1.1.1.0.now)
record_masked_unique κs args e f x y p q = both x y _ _ _ p q

pub record_masked_decryption_unique : UniqueWriting record-masked-decryption.Post (λ κs e. e.1.1.1.1.1.0.now)
record_masked_decryption_unique κs args e f x y p q = both x y _ _ _ p q

pub masked_inverse_unique : Unique masked-inverse.Post
masked_inverse_unique κs args exit x y p q = p ∙ sym q

pub tower_inverse_unique : Unique tower_inverse_lem.Post
tower_inverse_unique κs args exit x y p q = p ∙ sym q

pub tower_box_unique : Unique tower_box.Post
tower_box_unique κs args exit x y p q = p ∙ sym q

pub fitness_unique : Unique fitness.Post
fitness_unique κs args exit x y p q = p ∙ sym q

pub mask_count_unique : Unique mask-count.Post
mask_count_unique κs args exit x y p q = p ∙ sym q

pub read_sheet_unique : UniqueWriting read-sheet.Post (λ κs e. e.1.0.now)
read_sheet_unique κs args e f x y p q = both x y _ _ _ p q

pub write_sheet_unique : UniqueWriting write-sheet.Post (λ κs e. e.1.1.0.now)
write_sheet_unique κs args e f x y p q = both x y _ _ _ p q

pub convert_unique : UniqueWriting convert.Post (λ κs e. e.1.0.now)
convert_unique κs args e f x y p q = both x y _ _ _ p q

pub wrap_unique : UniqueWriting wrap.Post (λ κs e. e.1.1.0.now)
wrap_unique κs args e f x y p q = both x y _ _ _ p q

pub unwrap_unique : UniqueWriting unwrap.Post (λ κs e. e.1.1.0.now)
unwrap_unique κs args e f x y p q = both x y _ _ _ p q

pub wrap_masked_unique : UniqueWriting wrap-masked.Post (λ κs e. e.1.1.0.now)
wrap_masked_unique κs args e f x y p q = both x y _ _ _ p q

pub unwrap_masked_unique : UniqueWriting unwrap-masked.Post (λ κs e. e.1.1.0.now)
unwrap_masked_unique κs args e f x y p q = both x y _ _ _ p q

pub scramble_unique : UniqueWriting scramble.Post (λ κs e. e.1.0.now)
scramble_unique κs args e f x y p q = both x y _ _ _ p q

pub descramble_unique : UniqueWriting descramble.Post (λ κs e. e.1.0.now)
descramble_unique κs args e f x y p q = both x y _ _ _ p q

pub sort_reply_unique : Unique sort-reply.Post
sort_reply_unique κs args exit x y p q = p ∙ sym q

pub bank_empty_unique : Unique bank-empty.Post
bank_empty_unique κs args exit x y p q = p ∙ sym q

pub bank_load_unique : Unique bank-load.Post
bank_load_unique κs args exit x y p q = handed x y _ p q

pub bank_drop_unique : Unique bank-drop.Post
bank_drop_unique κs args exit x y p q = handed x y _ p q

pub bank_run_unique : UniqueWriting bank-run.Post (λ κs e. e.1.1.1.1.0.now)
bank_run_unique κs args e f x y p q = both x y _ _ _ p q
