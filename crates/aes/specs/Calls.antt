-- What each call that can refuse answers for every input: its reply, and the value beside it or what the lent buffer holds then.
-- Assumes nothing.
use Rattle.std.specs.Prelude.{Bool, true, false, cond, List, [], ◌∷◌, ℕ, ◌+◌, ◌*◌}
use Rattle.aes.specs.Field.{power, logarithm}
use Rattle.aes.specs.Key.{key_expansion, rounds_of}
use Rattle.aes.specs.Cipher.{cipher, inv_cipher}
use Rattle.aes.specs.Record.{plain_record, bytes}
use Rattle.aes.specs.Reply.{answer, is_key, is_schedule_of, is_schedule, is_input, is_output, is_record_of, is_power, has_logarithm}

abbrev pub power_of : ℕ → ℕ × ℕ
power_of n = answer (is_power n ∷ []) 0 (power n)

abbrev pub logarithm_of : ℕ → ℕ × ℕ
logarithm_of b = answer (has_logarithm b ∷ []) 0 (logarithm b)

abbrev pub expand_key_of : List ℕ → List ℕ → ℕ × List ℕ
expand_key_of key schedule = answer (is_key key ∷ is_schedule_of key schedule ∷ []) schedule (key_expansion key)

-- encryption, and decryption where back is true
abbrev pub block_of : Bool → List ℕ → List ℕ → List ℕ → ℕ × List ℕ
block_of back schedule input output =
    answer (is_schedule schedule ∷ is_input input ∷ is_output output ∷ []) output
    (cond back (inv_cipher (rounds_of schedule) schedule input) (cipher (rounds_of schedule) schedule input))

abbrev pub encrypt_of : List ℕ → List ℕ → List ℕ → ℕ × List ℕ
encrypt_of = block_of false

abbrev pub decrypt_of : List ℕ → List ℕ → List ℕ → ℕ × List ℕ
decrypt_of = block_of true

abbrev pub record_plain_of : List ℕ → List ℕ → List ℕ → ℕ × List ℕ
record_plain_of schedule input states =
    answer (is_schedule schedule ∷ is_input input ∷ is_record_of (16 * (5 * rounds_of schedule + 1)) states ∷ []) states (bytes (plain_record (rounds_of schedule) schedule input))
