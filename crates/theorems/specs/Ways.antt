-- The three ways to seal a block, and to open it: by the plain call, by the masked one with the published masks, and by that with
-- any masks.
-- Assumes nothing.
use Rattle.std.specs.Prelude.{◌≡◌, List, ℕ, ◌≤◌, ◌<◌, T, length}
use Rattle.aes.specs.State.{at}
use Rattle.aes.specs.Reply.{taken}
use Rattle.aes.specs.Calls.{encrypt_of, decrypt_of}
use Rattle.masked.specs.Calls.{encrypt_published_of, encrypt_masked_of, decrypt_published_of, decrypt_masked_of}

-- the masked ones with their offsets and step, and the last with its masks before these
pub data Way : Type 0 where
  plain : Way
  published : List ℕ → ℕ → Way
  masked : List ℕ → List ℕ → ℕ → Way

-- sixteen offsets, none above 15
abbrev pub Offsets : List ℕ → Type 0
Offsets v = (length v ≡ 16) × ((i : ℕ) → i < 16 → at v i ≤ 15)

-- what the calls take
abbrev pub Taken : Way → Type 0
Taken plain = Unit
Taken (published v d) = Offsets v × T (taken d)
Taken (masked M v d) = (length M ≡ 16) × Offsets v × T (taken d)

-- what they answer, in the standard form of the block
abbrev pub seal_of : Way → List ℕ → List ℕ → List ℕ → ℕ × List ℕ
seal_of plain w b out = encrypt_of w b out
seal_of (published v d) w b out = encrypt_published_of w b out v d 0
seal_of (masked M v d) w b out = encrypt_masked_of w b out M v d 0

abbrev pub open_of : Way → List ℕ → List ℕ → List ℕ → ℕ × List ℕ
open_of plain w b out = decrypt_of w b out
open_of (published v d) w b out = decrypt_published_of w b out v d
open_of (masked M v d) w b out = decrypt_masked_of w b out M v d
