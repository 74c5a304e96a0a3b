-- Key wrap at the calls: both engines answer the same, at every offset; unwrapping undoes wrapping, and the reverse; and integrity is
-- refused exactly where the recovered register is not the initial value.
-- Assumes nothing.
use mathlib.Core.Path.{◌≡◌, refl, sym, ap, subst, ◌∙◌}
use mathlib.Core.Bool.{Bool, true, false, not, ◌&&◌}
use mathlib.Core.List.{List, [], ◌∷◌, ◌++◌}
use Prim.Native.Nat.{ℕ, ◌+◌, ◌*◌, ◌/◌, ◌%◌, ◌<◌}
use native.Mathlib.Omega.{arith}
use borrow.Author.Tests.{le-leb}
use lib.Dec.{T, eqb, leb, eqb→eq, lit<}
use lib.ListN.{length, get_or, take, drop, length-append, length-drop}
use lib.Seq.{length-take-le, ext_get_or}
use mir.Facts.{and_yes}
use Rattle.aes.specs.Byte.{below, table}
use Rattle.aes.specs.State.{Bytes}
use Rattle.aes.specs.Cipher.{cipher, inv_cipher}
use Rattle.aes.specs.Reply.{Check, ◌else◌, answer, is_full_schedule, is_offset, is_intact}
use Rattle.aes.proofs.Below.{under}
use Rattle.aes.proofs.Listed.{table_at}
use Rattle.aes.proofs.Replies.{AllHold, telling, done_holds, holds_done}
use Rattle.masks.specs.Mask.{published, one}
use Rattle.buffer.specs.Wrap.{initial, wrapped, unwrapped}
use Rattle.wrap.specs.Calls.{wrap_by, unwrap_by, wrap_of, unwrap_of}
use Rattle.wrap.proofs.Checked.{Sizes, held_sizes}
use Rattle.theorems.specs.Wrapping.{Wrapper, plain, masked, Within, wraps_to, unwraps_to, register, lengths}
use Rattle.theorems.proofs.CallLaws.{cipher_size, inv_cipher_size}
use Rattle.theorems.proofs.RoundTrip.{cipher-bytes, inv_cipher-bytes, inv_cipher-cipher, cipher-inv_cipher}
use Rattle.theorems.proofs.Result.{masked_cipher_lem}
use Rattle.theorems.proofs.BackResult.{masked_inv_cipher_lem}
use Rattle.theorems.proofs.WrapTrip.{at_small, small_append, small_listed, Held, Undone, wrapped-held, undone_wrap, unwrapped-held, redone_wrap}

-- The masked engine answers what the plain one does.
pub wrap_is : (v : Wrapper) → Within v → (w keys out : List ℕ) → wraps_to v w keys out ≡ wrap_of w keys out
wrap_is plain h w keys out = refl
wrap_is (masked o) h w keys out =
    ap (λ (E : List ℕ → List ℕ). wrap_by E (is_full_schedule w ∷ is_offset o ∷ []) keys out) (λ i b. masked_cipher_lem published (one o) 1 w 13 b i) ∙ simp (le-leb o 15 h)

pub unwrap_is : (v : Wrapper) → Within v → (w sealed keys : List ℕ) → unwraps_to v w sealed keys ≡ unwrap_of w sealed keys
unwrap_is plain h w sealed keys = refl
unwrap_is (masked o) h w sealed keys =
    ap (λ (D : List ℕ → List ℕ). unwrap_by D (is_full_schedule w ∷ is_offset o ∷ []) sealed keys) (λ i b. masked_inv_cipher_lem published (one o) 1 w 14 b i) ∙ simp (le-leb o 15 h)

-- the register is the initial value where its check holds, and only there
abbrev same : List ℕ → Bool
same r = below 8 (λ i. eqb (get_or r i 0) 0xa6)

same_initial : (r : List ℕ) → length r ≡ 8 → T (same r) → r ≡ initial
unfolding table
same_initial r l h =
    ext_get_or 0 r initial l (λ i lt.
    let k : i < 8 = let m : i < length r = lt in rw l at m in eqb→eq (get_or r i 0) 0xa6 (under (λ j. eqb (get_or r j 0) 0xa6) 8 h i k) ∙ sym (table_at (λ j. 0xa6) 8 i k))

initial_same : (r : List ℕ) → r ≡ initial → T (same r)
unfolding below
initial_same r e = subst (λ (s : List ℕ). T (same s)) (sym e) tt

-- a reply that only the last check has
unfoldable without : ℕ → List Check → Bool
without n [] = true
without n ((holds else reply) ∷ checks) = not (eqb reply n) && without n checks

last-told : {A : Type 0} (before done : A) (b : Bool) (cs : List Check) → T (without 18 cs) → (answer (cs ++ (b else 18) ∷ []) before done).0 ≡ 18 → AllHold cs × (b ≡ false)
unfolding AllHold without
last-told before done true [] t e = absurd (omega (arith, e))
last-told before done false [] t e = (tt, refl)
last-told before done b ((true else m) ∷ cs) t e =
    let r = last-told before done b cs (and_yes (not (eqb m 18)) (without 18 cs) t).1 e in ((tt, r.0), r.1)
last-told before done b ((false else m) ∷ cs) t e = absurd (subst (λ (k : ℕ). T (not (eqb k 18))) e (and_yes (not (eqb m 18)) (without 18 cs) t).0)

last_fails : {A : Type 0} (before done : A) (cs : List Check) → AllHold cs → answer (cs ++ (false else 18) ∷ []) before done ≡ (18, before)
unfolding AllHold
last_fails before done [] h = refl
last_fails before done ((true else m) ∷ cs) h = last_fails before done cs h.1
last_fails before done ((false else m) ∷ cs) h = absurd h.0

fails : (b : Bool) → (T b → ⊥) → b ≡ false
fails true h = absurd (h tt)
fails false h = refl

-- Of any schedule of 240 bytes.
module _ {w : List ℕ} (hw : Bytes 240 w) where
  pub sealing : Undone (cipher 14 w) (inv_cipher 14 w)
  sealing = record { size = cipher_size 14 w; kept = cipher-bytes 240 w hw 14; undo = inv_cipher-cipher 240 w hw 14 }

  opening : Undone (inv_cipher 14 w) (cipher 14 w)
  opening = record { size = inv_cipher_size 14 w; kept = inv_cipher-bytes 240 w hw 14; undo = cipher-inv_cipher 240 w hw 14 }

  -- Key data and what it is wrapped in, of the lengths that are asked for.
  module _ (keys sealed : List ℕ) (hs : AllHold (lengths w keys sealed)) where
    abbrev n : ℕ
    n = length keys / 8

    sized : Sizes w 0 keys sealed
    unfolding AllHold
    sized = held_sizes w 0 keys sealed (hs.0, (tt, hs.1))

    values : length keys ≡ 8 * n
    values = omega (arith, sized.eights)

    some : 0 < n
    some = omega (arith, sized.least, values)

    sealed-held : Bytes (length sealed) sealed → Held n sealed
    sealed-held h = record { size = sized.wrapped ∙ ap (λ (k : ℕ). k + 8) values; small = at_small sealed h.byte }

    keys_held : Bytes (length keys) keys → Held n (initial ++ keys)
    keys_held h = record {
      size = length-append initial keys ∙ omega (arith, values);
      small = small_append initial keys (small_listed (λ i. 0xa6) 0 8 (λ i. lit< tt)) (at_small keys h.byte);
    }

    -- so are others that are as long
    lengths_hold : (keys' sealed' : List ℕ) → length keys' ≡ length keys → length sealed' ≡ length sealed → AllHold (lengths w keys' sealed')
    unfolding AllHold
    lengths_hold keys' sealed' lk ls =
        subst (λ (k : ℕ). T (eqb (length w) 240) × (T (eqb (k % 8) 0 && leb 16 k && leb k 256) × (T (eqb (length sealed') (k + 8)) × Unit))) (sym lk)
        (subst (λ (k : ℕ). T (eqb (length w) 240) × (T (eqb (length keys % 8) 0 && leb 16 (length keys) && leb (length keys) 256) × (T (eqb k (length keys + 8)) × Unit))) (sym ls) hs)

    -- the register that is recovered has eight bytes
    register_size : Bytes (length sealed) sealed → length (register w sealed) ≡ 8
    register_size h =
        let r : List ℕ = unwrapped (inv_cipher 14 w) sealed in
        length-take-le 8 r (omega (arith, (unwrapped-held opening n some sealed (sealed-held h)).size))

  -- Whatever a call has wrapped, every call unwraps.
  pub unwrap_wrap : (v v' : Wrapper) → Within v → Within v' → (keys out buffer : List ℕ) → Bytes (length keys) keys → (wraps_to v w keys out).0 ≡ 0 → length buffer ≡ length keys
      → unwraps_to v' w (wraps_to v w keys out).1 buffer ≡ (0, keys)
  unfolding AllHold telling below
  unwrap_wrap v v' t t' keys out buffer hk done lb =
      let made : List ℕ = wrapped (cipher 14 w) keys in
      let e = wrap_is v t w keys out in
      let d = done_holds out made (lengths w keys out) tt (sym (ap (λ (p : ℕ × List ℕ). p.0) e) ∙ done) in
      let hk' = keys_held keys out d.0 hk in
      let l : length made ≡ length out =
      (wrapped-held sealing (length keys / 8) (some keys out d.0) keys hk').size ∙ sym ((sized keys out d.0).wrapped ∙ ap (λ (k : ℕ). k + 8) (values keys out d.0)) in
      let h = lengths_hold keys out d.0 buffer made lb l in
      let back : unwrapped (inv_cipher 14 w) made ≡ initial ++ keys = undone_wrap sealing (length keys / 8) (some keys out d.0) keys hk' in
      unwrap_is v' t' w (wraps_to v w keys out).1 buffer ∙ ap (λ (s : List ℕ). unwrap_of w s buffer) (ap (λ (p : ℕ × List ℕ). p.1) e ∙ d.1)
      ∙ holds_done buffer (drop 8 (unwrapped (inv_cipher 14 w) made)) (lengths w buffer made ++ is_intact (register w made) ∷ [])
      (h.0, (h.1.0, (h.1.1.0, (initial_same (register w made) (ap (take 8) back), tt))))
      ∙ ap (λ (r : List ℕ). (0, drop 8 r)) back

  -- Whatever a call has unwrapped, every call wraps to the same bytes: only a wrap is unwrapped.
  pub wrap_unwrap : (v v' : Wrapper) → Within v → Within v' → (sealed keys out : List ℕ) → Bytes (length sealed) sealed → (unwraps_to v w sealed keys).0 ≡ 0 → length out ≡ length sealed
      → wraps_to v' w (unwraps_to v w sealed keys).1 out ≡ (0, sealed)
  unfolding AllHold telling
  wrap_unwrap v v' t t' sealed keys out hs done lo =
      let r : List ℕ = unwrapped (inv_cipher 14 w) sealed in
      let e = unwrap_is v t w sealed keys in
      let d = done_holds keys (drop 8 r) (lengths w keys sealed ++ is_intact (register w sealed) ∷ []) tt (sym (ap (λ (p : ℕ × List ℕ). p.0) e) ∙ done) in
      let a : AllHold (lengths w keys sealed) = (d.0.0, (d.0.1.0, (d.0.1.1.0, tt))) in
      let right : register w sealed ≡ initial = same_initial (register w sealed) (register_size keys sealed a hs) d.0.1.1.1.0 in
      let m : ℕ = length keys / 8 in
      let held : Held m sealed = sealed-held keys sealed a hs in
      let l : length (drop 8 r) ≡ length keys =
      length-drop 8 r ∙ omega (arith, (unwrapped-held opening m (some keys sealed a) sealed held).size, values keys sealed a) in
      wrap_is v' t' w (unwraps_to v w sealed keys).1 out ∙ ap (λ (k : List ℕ). wrap_of w k out) (ap (λ (p : ℕ × List ℕ). p.1) e ∙ d.1)
      ∙ holds_done out (wrapped (cipher 14 w) (drop 8 r)) (lengths w (drop 8 r) out) (lengths_hold keys sealed a (drop 8 r) out l lo)
      ∙ ap (λ (s : List ℕ). (0, s)) (redone_wrap opening m (some keys sealed a) sealed held right)

  -- Integrity is refused where the lengths are right and the register is not the initial value, and only there; done is replied where it is.
  module _ (v : Wrapper) (t : Within v) (sealed keys : List ℕ) (hs : Bytes (length sealed) sealed) where
    pub integrity_cause : (unwraps_to v w sealed keys).0 ≡ 18 → AllHold (lengths w keys sealed) × (register w sealed ≡ initial → ⊥)
    unfolding without below
    integrity_cause e =
        let h = last-told keys (drop 8 (unwrapped (inv_cipher 14 w) sealed)) (same (register w sealed)) (lengths w keys sealed) tt (sym (ap (λ (p : ℕ × List ℕ). p.0) (unwrap_is v t w sealed keys)) ∙ e) in
        (h.0, λ i. subst T h.1 (initial_same (register w sealed) i))

    module _ (a : AllHold (lengths w keys sealed)) where
      pub integrity_refused : (register w sealed ≡ initial → ⊥) → unwraps_to v w sealed keys ≡ (18, keys)
      integrity_refused other =
          let made : List ℕ = drop 8 (unwrapped (inv_cipher 14 w) sealed) in
          unwrap_is v t w sealed keys
          ∙ ap (λ (b : Bool). answer (lengths w keys sealed ++ (b else 18) ∷ []) keys made) (fails (same (register w sealed)) (λ h. other (same_initial (register w sealed) (register_size keys sealed a hs) h)))
          ∙ last_fails keys made (lengths w keys sealed) a

      pub intact_done : register w sealed ≡ initial → unwraps_to v w sealed keys ≡ (0, drop 8 (unwrapped (inv_cipher 14 w) sealed))
      unfolding AllHold
      intact_done right =
          unwrap_is v t w sealed keys
          ∙ holds_done keys (drop 8 (unwrapped (inv_cipher 14 w) sealed)) (lengths w keys sealed ++ is_intact (register w sealed) ∷ [])
          (a.0, (a.1.0, (a.1.1.0, (initial_same (register w sealed) right, tt))))
