-- What follows for the calls, through their promises.
-- Assumes nothing.
use mathlib.Core.Path.{◌≡◌, ap, ◌∙◌}
use mathlib.Core.Bool.{Bool, true, false, cond}
use mathlib.Core.List.{List}
use Prim.Native.Nat.{ℕ}
use lib.ListN.{length}
use borrow.Author.Tests.{eq-eqb}
use Rattle.aes.specs.State.{Bytes}
use Rattle.aes.specs.Key.{rounds_of}
use Rattle.aes.specs.Cipher.{cipher, inv_cipher}
use Rattle.aes.specs.Reply.{scheduled}
use Rattle.aes.specs.Calls.{block_of, encrypt_of, decrypt_of}
use Rattle.theorems.proofs.RoundTrip.{inv_cipher-cipher, cipher-inv_cipher}
use Rattle.aes.proofs.Undo.{add_size}

pub cipher_size : (nr : ℕ) (w block : List ℕ) → length (cipher nr w block) ≡ 16
unfolding cipher
cipher_size nr w block = add_size _ _

pub inv_cipher_size : (nr : ℕ) (w block : List ℕ) → length (inv_cipher nr w block) ≡ 16
unfolding inv_cipher
inv_cipher_size nr w block = add_size _ _

-- what either call writes: a decryption where back is true
abbrev made : Bool → List ℕ → List ℕ → List ℕ
made back w block = cond back (inv_cipher (rounds_of w) w block) (cipher (rounds_of w) w block)

made_size : (back : Bool) (w block : List ℕ) → length (made back w block) ≡ 16
made_size true w block = inv_cipher_size (rounds_of w) w block
made_size false w block = cipher_size (rounds_of w) w block

-- Under any bytes that are as many as a schedule has: decrypting what encrypting wrote gives the block back, and the reverse.
module _ {w block : List ℕ} {size : ℕ} (hw : Bytes size w) (is : scheduled size ≡ true) (hb : Bytes 16 block) (first second : List ℕ) (lf : length first ≡ 16)
    (ls : length second ≡ 16) where
  -- both calls answer 0
  done : (back again : Bool) → block_of again w (block_of back w block first).1 second ≡ (0, made again w (made back w block))
  done back again =
      simp (
        ap scheduled hw.size ∙ is,
        eq-eqb (length block) 16 hb.size,
        eq-eqb (length first) 16 lf,
        eq-eqb (length second) 16 ls,
        eq-eqb (length (made back w block)) 16 (made_size back w block),
      )

  pub decrypt_encrypt : decrypt_of w (encrypt_of w block first).1 second ≡ (0, block)
  decrypt_encrypt = done false true ∙ ap (λ (l : List ℕ). (0, l)) (inv_cipher-cipher size w hw (rounds_of w) hb)

  pub encrypt_decrypt : encrypt_of w (decrypt_of w block first).1 second ≡ (0, block)
  encrypt_decrypt = done true false ∙ ap (λ (l : List ℕ). (0, l)) (cipher-inv_cipher size w hw (rounds_of w) hb)
