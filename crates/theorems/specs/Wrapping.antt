-- The two ways to wrap key data, and to unwrap it: by the plain engine, and by the masked one at an offset.
-- Assumes nothing.
use Rattle.std.specs.Prelude.{List, [], ◌∷◌, ℕ, ◌≤◌, take}
use Rattle.aes.specs.Cipher.{inv_cipher}
use Rattle.aes.specs.Reply.{Check, is_full_schedule, is_key_data, is_wrapped_of}
use Rattle.buffer.specs.Wrap.{unwrapped}
use Rattle.wrap.specs.Calls.{wrap_of, wrap_masked_of, unwrap_of, unwrap_masked_of}

pub data Wrapper : Type 0 where
  plain : Wrapper
  masked : ℕ → Wrapper

-- what the calls take
abbrev pub Within : Wrapper → Type 0
Within plain = Unit
Within (masked o) = o ≤ 15

-- what they answer
abbrev pub wraps_to : Wrapper → List ℕ → List ℕ → List ℕ → ℕ × List ℕ
wraps_to plain w keys out = wrap_of w keys out
wraps_to (masked o) w keys out = wrap_masked_of w keys out o

abbrev pub unwraps_to : Wrapper → List ℕ → List ℕ → List ℕ → ℕ × List ℕ
unwraps_to plain w sealed keys = unwrap_of w sealed keys
unwraps_to (masked o) w sealed keys = unwrap_masked_of w sealed keys o

-- the register that unwrapping recovers, and the lengths that are asked for before
abbrev pub register : List ℕ → List ℕ → List ℕ
register w sealed = take 8 (unwrapped (inv_cipher 14 w) sealed)

abbrev pub lengths : List ℕ → List ℕ → List ℕ → List Check
lengths w keys sealed = is_full_schedule w ∷ is_key_data keys ∷ is_wrapped_of keys sealed ∷ []
