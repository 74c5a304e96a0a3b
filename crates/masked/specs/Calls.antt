-- What each call of the masked engine answers for every input: its reply, and what the lent buffer holds then.
-- Assumes nothing.
use Rattle.std.specs.Prelude.{List, [], ◌∷◌, ℕ, ◌+◌, ◌*◌, ◌/◌, length, take, drop}
use Rattle.aes.specs.State.{at}
use Rattle.aes.specs.Key.{rounds_of}
use Rattle.aes.specs.Record.{bytes}
use Rattle.aes.specs.Reply.{Check, answer, is_schedule, is_full_schedule, is_input, is_output, is_mask_table, is_offset, has_byte_offsets, is_step, is_form, is_record_of, are_blocks, is_as_long, has_offsets, are_offsets}
use Rattle.masks.specs.Mask.{published, one, in_row}
use Rattle.runs.specs.Run.{masked_record, masked_cipher}
use Rattle.runs.specs.Back.{masked_back_record, masked_inv_cipher}

-- what an encryption with any masks checks
abbrev pub checks : List ℕ → List ℕ → List ℕ → List ℕ → List ℕ → ℕ → ℕ → List Check
checks schedule input output masks offsets step form =
    is_schedule schedule ∷ is_input input ∷ is_output output ∷ is_mask_table masks ∷ has_byte_offsets offsets ∷ are_offsets offsets ∷ is_step step ∷ is_form form ∷ []

-- and one with the published masks
abbrev pub published_checks : List ℕ → List ℕ → List ℕ → List ℕ → ℕ → ℕ → List Check
published_checks schedule input output offsets step form =
    is_schedule schedule ∷ is_input input ∷ is_output output ∷ has_byte_offsets offsets ∷ are_offsets offsets ∷ is_step step ∷ is_form form ∷ []

abbrev pub encrypt_published_of : List ℕ → List ℕ → List ℕ → List ℕ → ℕ → ℕ → ℕ × List ℕ
encrypt_published_of schedule input output offsets step form =
    answer (published_checks schedule input output offsets step form) output (masked_cipher (rounds_of schedule) published offsets step schedule input)

-- block k of many
abbrev pub block_at : ℕ → List ℕ → List ℕ
block_at k xs = take 16 (drop (16 * k) xs)

abbrev pub blocks_checks : List ℕ → List ℕ → List ℕ → List ℕ → ℕ → ℕ → List Check
blocks_checks schedule input output offsets step form =
    is_schedule schedule ∷ are_blocks input ∷ is_as_long input output ∷ has_offsets input offsets ∷ are_offsets offsets ∷ is_step step ∷ is_form form ∷ []

-- block by block, what encrypt_published writes
abbrev pub encrypt_blocks_of : List ℕ → List ℕ → List ℕ → List ℕ → ℕ → ℕ → ℕ × List ℕ
encrypt_blocks_of schedule input output offsets step form =
    answer (blocks_checks schedule input output offsets step form) output
    (in_row (λ k. (encrypt_published_of schedule (block_at k input) (block_at k output) (one (at offsets k)) step form).1) (length input / 16))

abbrev pub encrypt_masked_of : List ℕ → List ℕ → List ℕ → List ℕ → List ℕ → ℕ → ℕ → ℕ × List ℕ
encrypt_masked_of schedule input output masks offsets step form =
    answer (checks schedule input output masks offsets step form) output (masked_cipher (rounds_of schedule) masks offsets step schedule input)

-- what a record of so many bytes checks
abbrev pub record_checks : ℕ → List ℕ → List ℕ → List ℕ → List ℕ → ℕ → List ℕ → List Check
record_checks size schedule input masks offsets step states =
    is_schedule schedule ∷ is_input input ∷ is_mask_table masks ∷ has_byte_offsets offsets ∷ are_offsets offsets ∷ is_step step ∷ is_record_of size states ∷ []

abbrev pub record_masked_of : List ℕ → List ℕ → List ℕ → List ℕ → ℕ → List ℕ → ℕ × List ℕ
record_masked_of schedule input masks offsets step states =
    answer (record_checks (16 * (5 * rounds_of schedule + 1)) schedule input masks offsets step states) states (bytes (masked_record (rounds_of schedule) masks offsets step schedule input))

-- what a decryption with any masks checks, and one with the published masks
abbrev pub back_checks : List ℕ → List ℕ → List ℕ → List ℕ → List ℕ → ℕ → List Check
back_checks schedule input output masks offsets step =
    is_schedule schedule ∷ is_input input ∷ is_output output ∷ is_mask_table masks ∷ has_byte_offsets offsets ∷ are_offsets offsets ∷ is_step step ∷ []

abbrev pub published_back_checks : List ℕ → List ℕ → List ℕ → List ℕ → ℕ → List Check
published_back_checks schedule input output offsets step =
    is_schedule schedule ∷ is_input input ∷ is_output output ∷ has_byte_offsets offsets ∷ are_offsets offsets ∷ is_step step ∷ []

abbrev pub decrypt_published_of : List ℕ → List ℕ → List ℕ → List ℕ → ℕ → ℕ × List ℕ
decrypt_published_of schedule input output offsets step =
    answer (published_back_checks schedule input output offsets step) output (masked_inv_cipher (rounds_of schedule) published offsets step schedule input)

abbrev pub decrypt_masked_of : List ℕ → List ℕ → List ℕ → List ℕ → List ℕ → ℕ → ℕ × List ℕ
decrypt_masked_of schedule input output masks offsets step =
    answer (back_checks schedule input output masks offsets step) output (masked_inv_cipher (rounds_of schedule) masks offsets step schedule input)

abbrev pub record_masked_decryption_of : List ℕ → List ℕ → List ℕ → List ℕ → ℕ → List ℕ → ℕ × List ℕ
record_masked_decryption_of schedule input masks offsets step states =
    answer (record_checks (16 * (6 * rounds_of schedule + 1)) schedule input masks offsets step states) states (bytes (masked_back_record (rounds_of schedule) masks offsets step schedule input))

-- One block for callers that keep to one offset and fourteen rounds, with the published masks and step 1.
abbrev pub sealed_one : ℕ → List ℕ → List ℕ → List ℕ
sealed_one offset schedule input = masked_cipher 14 published (one offset) 1 schedule input

abbrev pub opened_one : ℕ → List ℕ → List ℕ → List ℕ
opened_one offset schedule input = masked_inv_cipher 14 published (one offset) 1 schedule input

abbrev pub one_checks : List ℕ → List ℕ → List ℕ → ℕ → List Check
one_checks schedule input output offset = is_full_schedule schedule ∷ is_input input ∷ is_output output ∷ is_offset offset ∷ []

abbrev pub encrypt_one_of : List ℕ → List ℕ → List ℕ → ℕ → ℕ × List ℕ
encrypt_one_of schedule input output offset = answer (one_checks schedule input output offset) output (sealed_one offset schedule input)

abbrev pub decrypt_one_of : List ℕ → List ℕ → List ℕ → ℕ → ℕ × List ℕ
decrypt_one_of schedule input output offset = answer (one_checks schedule input output offset) output (opened_one offset schedule input)
