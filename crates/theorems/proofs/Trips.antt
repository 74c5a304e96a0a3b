-- There and back at the calls: what one way seals any way opens, and the reverse, each with masks, offsets and step of its own.
-- Assumes nothing.
use mathlib.Core.Path.{◌≡◌, refl}
use mathlib.Core.Bool.{true}
use mathlib.Core.List.{List}
use Prim.Native.Nat.{ℕ}
use lib.Dec.{T}
use lib.ListN.{length}
use Rattle.aes.specs.State.{Bytes}
use Rattle.aes.specs.Reply.{scheduled, taken}
use Rattle.aes.specs.Calls.{encrypt_of, decrypt_of}
use Rattle.masked.specs.Calls.{encrypt_published_of, encrypt_masked_of, decrypt_published_of, decrypt_masked_of}
use Rattle.theorems.specs.Ways.{Offsets, Way, plain, published, masked, Taken, seal_of, open_of}
use Rattle.theorems.proofs.CallLaws.{decrypt_encrypt, encrypt_decrypt}
use Rattle.theorems.proofs.Result.{encrypt_masked_is, encrypt_published_is}
use Rattle.theorems.proofs.BackResult.{decrypt_masked_is, decrypt_published_is}

pub seal_is : (a : Way) → Taken a → (w b out : List ℕ) → seal_of a w b out ≡ encrypt_of w b out
seal_is plain t w b out = refl
seal_is (published v d) t w b out = encrypt_published_is w b out v d t.0 t.1
seal_is (masked M v d) t w b out = encrypt_masked_is w b out M v d t.0 t.1 t.2

pub open_is : (a : Way) → Taken a → (w b out : List ℕ) → open_of a w b out ≡ decrypt_of w b out
open_is plain t w b out = refl
open_is (published v d) t w b out = decrypt_published_is w b out v d t.0 t.1
open_is (masked M v d) t w b out = decrypt_masked_is w b out M v d t.0 t.1 t.2

-- Under any bytes that are as many as a schedule has, and by any two ways.
module _ {w block : List ℕ} {size : ℕ} (hw : Bytes size w) (is : scheduled size ≡ true) (hb : Bytes 16 block) (first second : List ℕ) (lf : length first ≡ 16) (ls : length second ≡ 16) where
  module _ (a a' : Way) (t : Taken a) (t' : Taken a') where
    pub open_seal : open_of a' w (seal_of a w block first).1 second ≡ (0, block)
    open_seal = rw (open_is a' t' w (seal_of a w block first).1 second, seal_is a t w block first) (decrypt_encrypt hw is hb first second lf ls)

    pub seal_open : seal_of a' w (open_of a w block first).1 second ≡ (0, block)
    seal_open = rw (seal_is a' t' w (open_of a w block first).1 second, open_is a t w block first) (encrypt_decrypt hw is hb first second lf ls)

  -- so it is of the masked calls alone
  module _ (v v' : List ℕ) (d d' : ℕ) (hv : Offsets v) (t : T (taken d)) (hv' : Offsets v') (t' : T (taken d')) where
    pub published_trip : decrypt_published_of w (encrypt_published_of w block first v d 0).1 second v' d' ≡ (0, block)
    published_trip = open_seal (published v d) (published v' d') (hv, t) (hv', t')

    pub published_trip_back : encrypt_published_of w (decrypt_published_of w block first v d).1 second v' d' 0 ≡ (0, block)
    published_trip_back = seal_open (published v d) (published v' d') (hv, t) (hv', t')

    pub masked_trip : (M M' : List ℕ) → length M ≡ 16 → length M' ≡ 16 → decrypt_masked_of w (encrypt_masked_of w block first M v d 0).1 second M' v' d' ≡ (0, block)
    masked_trip M M' l l' = open_seal (masked M v d) (masked M' v' d') (l, hv, t) (l', hv', t')

    pub masked_trip_back : (M M' : List ℕ) → length M ≡ 16 → length M' ≡ 16 → encrypt_masked_of w (decrypt_masked_of w block first M v d).1 second M' v' d' 0 ≡ (0, block)
    masked_trip_back M M' l l' = seal_open (masked M v d) (masked M' v' d') (l, hv, t) (l', hv', t')
