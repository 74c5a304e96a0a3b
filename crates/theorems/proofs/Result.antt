-- What a masked run ends with: the ciphertext of FIPS 197, whatever the masks, the offsets and the step are.
-- Assumes nothing.
use mathlib.Core.Path.{◌≡◌, refl, sym, ap, subst, ◌∙◌}
use mathlib.Core.Bool.{Bool, true, false, cond}
use mathlib.Core.List.{List, [], ◌∷◌, ◌++◌, map}
use Prim.Native.Nat.{ℕ, suc, ◌-◌, ◌*◌}
use native.Mathlib.Decide.{dec_lt}
use native.Mathlib.Omega.{arith}
use borrow.Author.Tests.{eq-eqb}
use lib.Dec.{T}
use lib.ListN.{length, get_or-eq_default}
use Rattle.aes.specs.Byte.{table}
use Rattle.aes.specs.Field.{x_times, times, ◌•◌}
use Rattle.aes.specs.State.{at, dot, shift_rows, mix_columns, add_round_key}
use Rattle.aes.specs.Key.{rounds_of}
use Rattle.aes.specs.Cipher.{cipher}
use Rattle.aes.specs.Record.{Point, block, keyed, boxed, shifted, mixed, compensated, closed, uncovered, final, wholes, points, run, last, plain, plain_record}
use Rattle.aes.specs.Reply.{scheduled, taken}
use Rattle.aes.specs.Calls.{encrypt_of}
use Rattle.aes.proofs.Xor.{xor_zero}
use Rattle.aes.proofs.Listed.{table_at}
use Rattle.aes.proofs.Undo.{state-at}
use Rattle.aes.proofs.Replies.{is_true}
use Rattle.aes.proofs.Schedule.{some_rounds}
use Rattle.aes.proofs.PlainRun.{plain_sized}
use Rattle.masks.specs.Mask.{published, ◌⊞◌, mask}
use Rattle.runs.specs.Run.{masked_record, masked_cipher}
use Rattle.masks.specs.MaskTable.{bare, mask_by, mask_at}
use Rattle.theorems.specs.Summed.{summed}
use Rattle.theorems.specs.Ways.{Offsets}
use Rattle.masked.specs.Calls.{encrypt_masked_of, encrypt_published_of}
use Rattle.theorems.proofs.CallLaws.{cipher_size}
use Rattle.theorems.proofs.PlainRecord.{record_last}
use Rattle.theorems.proofs.Cover.{last-map, last-summed}
use Rattle.theorems.proofs.Relation.{relation}
use Rattle.theorems.proofs.Records.{low_offsets}

-- no mask lies on the finished block
last-mask : (M v : List ℕ) (d n : ℕ) (m : List ℕ) → last m (map (mask_at M v d) (points (suc n))) ≡ bare
unfolding points last mask_by
last-mask M v d n m = let e : suc n - 1 ≡ n = omega arith in rw e (last-map (mask_at M v d) (block ∷ wholes n) (final n) m)

last-state : (M v : List ℕ) (d : ℕ) (w : List ℕ) (nr : ℕ) (b : List ℕ)
    → last b (summed (plain_record nr w b) (map (mask_at M v d) (points nr))) ≡ last b (plain_record nr w b) ⊞ last b (map (mask_at M v d) (points nr))
unfolding points run summed last plain plain_record mask_by
last-state M v d w nr b = last-summed (plain w) (mask_at M v d) (wholes (nr - 1) ++ final (nr - 1)) (mask M v (d * 0)) b

-- nothing is left by no mask
pub add_none : (s : List ℕ) → length s ≡ 16 → s ⊞ bare ≡ s
unfolding add_round_key
add_none s l = simp xor_zero (state-at s l)

pub masked_cipher_lem : (M v : List ℕ) (d : ℕ) (w : List ℕ) (n : ℕ) (b : List ℕ) → masked_cipher (suc n) M v d w b ≡ cipher (suc n) w b
unfolding masked_cipher
masked_cipher_lem M v d w n b =
    rw (relation M v d w (suc n) b, last-state M v d w (suc n) b, record_last w b n, last-mask M v d n b)
    (add_none (cipher (suc n) w b) (cipher_size (suc n) w b))

pub offset_free : (M M' v v' : List ℕ) (d d' : ℕ) (w : List ℕ) (n : ℕ) (b : List ℕ)
    → masked_cipher (suc n) M v d w b ≡ masked_cipher (suc n) M' v' d' w b
offset_free M M' v v' d d' w n b = masked_cipher_lem M v d w n b ∙ sym (masked_cipher_lem M' v' d' w n b)

-- sixteen masks that are all zero: the masked states are the plain ones
zero_at : (k : ℕ) → at bare k ≡ 0
unfolding table
zero_at k = elim (dec_lt k 16) [ yes q ↦ table_at (λ i. 0) 16 k q | no q ↦ get_or-eq_default bare 0 {n = k} (omega arith) ]

zero_mask : (v : List ℕ) (k : ℕ) → mask bare v k ≡ bare
unfolding mask
zero_mask v k = simp zero_at

shifted_none : shift_rows bare ≡ bare
unfolding shift_rows
shifted_none = refl

mixed_none : mix_columns bare ≡ bare
unfolding mix_columns dot ◌•◌ times x_times
mixed_none = refl

mask_at-bare : (v : List ℕ) (d : ℕ) (p : Point) → mask_at bare v d p ≡ bare
unfolding mask_by
mask_at-bare v d block = zero_mask v (d * 0)
mask_at-bare v d (keyed r) = zero_mask v (d * r)
mask_at-bare v d (boxed r) = zero_mask v (d * suc r)
mask_at-bare v d (shifted r) = rw zero_mask shifted_none
mask_at-bare v d (mixed r) = rw (zero_mask, shifted_none) mixed_none
mask_at-bare v d (compensated r) = zero_mask v (d * suc r)
mask_at-bare v d (closed r) = rw zero_mask shifted_none
mask_at-bare v d (uncovered r) = refl

summed-bare : (v : List ℕ) (d : ℕ) (w : List ℕ) (ps : List Point) (s : List ℕ) → length s ≡ 16
    → summed (run (plain w) s ps) (map (mask_at bare v d) ps) ≡ run (plain w) s ps
unfolding run summed
summed-bare v d w [] s l = refl
summed-bare v d w (p ∷ ps) s l =
    let h : length (plain w p s) ≡ 16 = plain_sized w p s l in
    rw (mask_at-bare v d p, add_none (plain w p s) h) (ap (λ (u : List (List ℕ)). plain w p s ∷ u) (summed-bare v d w ps (plain w p s) h))

pub zero_masks : (v : List ℕ) (d : ℕ) (w : List ℕ) (nr : ℕ) (b : List ℕ) → length b ≡ 16 → masked_record nr bare v d w b ≡ plain_record nr w b
unfolding plain_record
zero_masks v d w nr b l = relation bare v d w nr b ∙ summed-bare v d w (points nr) b l

-- At the calls: whatever the masks, the offsets and the step are, they write what the plain call writes.
module _ (w : List ℕ) where
  same_cipher : scheduled (length w) ≡ true → (M v : List ℕ) (d : ℕ) (b : List ℕ) → masked_cipher (rounds_of w) M v d w b ≡ cipher (rounds_of w) w b
  same_cipher is M v d b =
      let pos = (some_rounds (length w) is).0 in
      let e : suc (rounds_of w - 1) ≡ rounds_of w = omega (arith, pos) in
      subst (λ (n : ℕ). masked_cipher n M v d w b ≡ cipher n w b) e (masked_cipher_lem M v d w (rounds_of w - 1) b)

  -- where the schedule is refused, so are both
  if_scheduled : {A : Type 0} (x y z : A) → (scheduled (length w) ≡ true → x ≡ y) → cond (scheduled (length w)) x z ≡ cond (scheduled (length w)) y z
  if_scheduled x y z h = by_case (scheduled (length w)) refl
    where
      by_case : (q : Bool) → scheduled (length w) ≡ q → cond (scheduled (length w)) x z ≡ cond (scheduled (length w)) y z
      by_case true q = ap (λ u. cond (scheduled (length w)) u z) (h q)
      by_case false q = rw q refl

  pub encrypt_masked_is : (b out M v : List ℕ) (d : ℕ) → length M ≡ 16 → Offsets v → T (taken d) → encrypt_masked_of w b out M v d 0 ≡ encrypt_of w b out
  encrypt_masked_is b out M v d lm h t =
      if_scheduled _ _ _ (λ is. simp (eq-eqb (length M) 16 lm, eq-eqb (length v) 16 h.0, low_offsets v h, is_true (taken d) t, same_cipher is M v d b))

  pub encrypt_published_is : (b out v : List ℕ) (d : ℕ) → Offsets v → T (taken d) → encrypt_published_of w b out v d 0 ≡ encrypt_of w b out
  encrypt_published_is b out v d h t =
      if_scheduled _ _ _ (λ is. simp (eq-eqb (length v) 16 h.0, low_offsets v h, is_true (taken d) t, same_cipher is published v d b))
