-- What each call answers for every input: its reply, and what the lent buffer holds then.
-- Assumes nothing.
use Rattle.std.specs.Prelude.{List, [], ◌∷◌, ◌++◌, ℕ, take, drop}
use Rattle.aes.specs.Reply.{Check, answer, is_full_schedule, is_offset, is_key_data, is_wrapped_of, is_intact}
use Rattle.aes.specs.Cipher.{cipher, inv_cipher}
use Rattle.masked.specs.Calls.{sealed_one, opened_one}
use Rattle.buffer.specs.Wrap.{wrapped, unwrapped}

-- over any codebook, after the checks of the engine that has it
abbrev pub wrap_by : (List ℕ → List ℕ) → List Check → List ℕ → List ℕ → ℕ × List ℕ
wrap_by E first keys out = answer (first ++ is_key_data keys ∷ is_wrapped_of keys out ∷ []) out (wrapped E keys)

-- the buffer for the key data is as it was where the register is not the initial value
abbrev pub unwrap_by : (List ℕ → List ℕ) → List Check → List ℕ → List ℕ → ℕ × List ℕ
unwrap_by D first sealed keys =
    let r = unwrapped D sealed in
    answer (first ++ is_key_data keys ∷ is_wrapped_of keys sealed ∷ is_intact (take 8 r) ∷ []) keys (drop 8 r)

abbrev pub wrap_of : List ℕ → List ℕ → List ℕ → ℕ × List ℕ
wrap_of schedule keys out = wrap_by (cipher 14 schedule) (is_full_schedule schedule ∷ []) keys out

abbrev pub wrap_masked_of : List ℕ → List ℕ → List ℕ → ℕ → ℕ × List ℕ
wrap_masked_of schedule keys out offset = wrap_by (sealed_one offset schedule) (is_full_schedule schedule ∷ is_offset offset ∷ []) keys out

abbrev pub unwrap_of : List ℕ → List ℕ → List ℕ → ℕ × List ℕ
unwrap_of schedule sealed keys = unwrap_by (inv_cipher 14 schedule) (is_full_schedule schedule ∷ []) sealed keys

abbrev pub unwrap_masked_of : List ℕ → List ℕ → List ℕ → ℕ → ℕ × List ℕ
unwrap_masked_of schedule sealed keys offset = unwrap_by (opened_one offset schedule) (is_full_schedule schedule ∷ is_offset offset ∷ []) sealed keys
