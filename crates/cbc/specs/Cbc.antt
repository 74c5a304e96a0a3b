-- The CBC mode of SP 800-38A, 6.2, over whole blocks and any codebook.
-- Assumes nothing.
use Rattle.std.specs.Prelude.{Bool, cond, List, ℕ, zero, suc, ◌/◌, length}
use Rattle.aes.specs.Cipher.{cipher, inv_cipher}
use Rattle.masks.specs.Mask.{◌⊞◌, in_row}
use Rattle.masked.specs.Calls.{block_at}

-- C(0) is the starting block, and C(j+1) = CIPH(P(j+1) xor C(j)); the blocks of the plaintext are counted from 0
unfoldable pub chained : (List ℕ → List ℕ) → List ℕ → List ℕ → ℕ → List ℕ
chained E start plain zero = start
chained E start plain (suc j) = E (block_at j plain ⊞ chained E start plain j)

unfoldable pub cbc_encrypted : (List ℕ → List ℕ) → List ℕ → List ℕ → List ℕ
cbc_encrypted E start plain = in_row (λ j. chained E start plain (suc j)) (length plain / 16)

-- P(j+1) = CIPHinv(C(j+1)) xor C(j)
abbrev pub before : List ℕ → List ℕ → ℕ → List ℕ
before start ciphertext zero = start
before start ciphertext (suc j) = block_at j ciphertext

unfoldable pub cbc_decrypted : (List ℕ → List ℕ) → List ℕ → List ℕ → List ℕ
cbc_decrypted D start ciphertext = in_row (λ j. D (block_at j ciphertext) ⊞ before start ciphertext j) (length ciphertext / 16)

-- with AES-256, decryption where back is true, and else encryption: one block over the ciphertext before it, and all
abbrev pub link : Bool → List ℕ → List ℕ → List ℕ → List ℕ
link back w block last = cond back (inv_cipher 14 w block ⊞ last) (cipher 14 w (block ⊞ last))

abbrev pub cbc : Bool → List ℕ → List ℕ → List ℕ → List ℕ
cbc back w start input = cond back (cbc_decrypted (inv_cipher 14 w) start input) (cbc_encrypted (cipher 14 w) start input)
