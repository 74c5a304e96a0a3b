-- What the code's lent parts come to.
-- Assumes nothing.
use mathlib.Core.Path.{◌≡◌, refl, ap, ap₂, sym, ◌∙◌}
use mathlib.Core.List.{List, [], ◌∷◌, ◌++◌, append_assoc, append-nil}
use Prim.Native.Nat.{ℕ, ◌+◌, ◌-◌, ◌*◌, ◌/◌, ◌%◌, ◌^◌, ◌≤◌, ◌<◌}
use native.Mathlib.Omega.{arith}
use lib.ListN.{length, set, take, drop, length-drop, drop_of_length-le}
use lib.Seq.{take_at, drop_at, length-take-le, drop-drop, drop-append-add}
use native.Mathlib.Nat.{zero-add, suc-add}
use Rattle.aes.specs.Byte.{◌⊕◌}
use Rattle.aes.specs.State.{at}
use Rattle.aes.proofs.Part.{back}
use Rattle.aes.proofs.Xor.{xor_zero}
use Rattle.buffer.specs.Wrap.{counted, value, with_values, wrap_step, unwrap_step}
use Rattle.buffer.proofs.Buffer.{counted_size, with_size}

take_over : (x l : List ℕ) (m : ℕ) → take (length x + m) (x ++ l) ≡ x ++ take m l
take_over [] l m = rw zero-add
take_over (a ∷ x) l m = rw suc-add (ap (λ (r : List ℕ). a ∷ r) (take_over x l m))

-- how long a lent value is
pub width : (i : ℕ) → 8 * i + 8 - 8 * i ≡ 8
width i = omega arith

-- two halves of sixteen, A and R[i], lent one after the other
pub halves : (z s : List ℕ) (i : ℕ) {x y : List ℕ} → length z ≡ 16 → 8 * i + 8 ≤ length s
    → x ≡ take 8 s → y ≡ take (8 * i + 8 - 8 * i) (drop (8 * i) s) → back (back z 0 8 x) 8 8 y ≡ take 8 s ++ value i s
unfolding value
halves z s i {x} {y} lz room ex ey =
    let lx : length x ≡ 8 = rw ex (length-take-le 8 s (omega (arith, room))) in
    let e : take 8 (x ++ drop 8 z) ≡ x = take_at x (drop 8 z) 8 lx in
    let d : drop 8 (drop 8 (x ++ drop 8 z)) ≡ [] = ap (drop 8) (drop_at x (drop 8 z) 8 lx) ∙ drop_of_length-le (drop 8 z) {i = 8} (rw (length-drop, lz) (omega arith)) in
    ap₂ (λ (p q : List ℕ). p ++ (y ++ q)) (e ∙ ex) d ∙ ap (λ (q : List ℕ). take 8 s ++ q) (append-nil y ∙ ey ∙ ap (λ (k : ℕ). take k (drop (8 * i) s)) (width i))

-- A and R[i] put back
pub put_back : (i : ℕ) (s x y : List ℕ) → 0 < i → 8 * i + 8 ≤ length s → length x ≡ 8 → back (back s 0 8 x) (8 * i) 8 y ≡ with_values i x y s
unfolding with_values
put_back i s x y pos room lx =
    let s₁ : List ℕ = x ++ drop 8 s in
    let n : 8 + (8 * i - 8) ≡ 8 * i = omega arith in
    let t : take (8 * i) s₁ ≡ x ++ take (8 * i - 8) (drop 8 s) = ap (λ (k : ℕ). take k s₁) (sym n) ∙ ap (λ (k : ℕ). take (k + (8 * i - 8)) s₁) (sym lx) ∙ take_over x (drop 8 s) (8 * i - 8) in
    let d : drop (8 * i) s₁ ≡ drop (8 * i) s =
    ap (λ (k : ℕ). drop k s₁) (sym n) ∙ ap (λ (k : ℕ). drop (k + (8 * i - 8)) s₁) (sym lx) ∙ drop-append-add x (drop 8 s) (8 * i - 8)
    ∙ drop-drop (8 * i - 8) 8 s ∙ ap (λ (k : ℕ). drop k s) n in
    ap₂ (λ (p q : List ℕ). p ++ (y ++ q)) t (ap (drop 8) d ∙ drop-drop 8 (8 * i) s)
    ∙ sym (append_assoc (x ++ take (8 * i - 8) (drop 8 s)) y (drop (8 * i + 8) s))

-- below 256 the counter is all in the last byte
pub counted-last : (t : ℕ) (b : List ℕ) → t < 256 → length b ≡ 16 → set b 7 (at b 7 ⊕ t) ≡ counted t (take 8 b) ++ drop 8 b
unfolding counted
counted-last t [] h l = absurd (omega arith)
counted-last t (b0 ∷ []) h l = absurd (omega arith)
counted-last t (b0 ∷ b1 ∷ []) h l = absurd (omega arith)
counted-last t (b0 ∷ b1 ∷ b2 ∷ []) h l = absurd (omega arith)
counted-last t (b0 ∷ b1 ∷ b2 ∷ b3 ∷ []) h l = absurd (omega arith)
counted-last t (b0 ∷ b1 ∷ b2 ∷ b3 ∷ b4 ∷ []) h l = absurd (omega arith)
counted-last t (b0 ∷ b1 ∷ b2 ∷ b3 ∷ b4 ∷ b5 ∷ []) h l = absurd (omega arith)
counted-last t (b0 ∷ b1 ∷ b2 ∷ b3 ∷ b4 ∷ b5 ∷ b6 ∷ []) h l = absurd (omega arith)
counted-last t (b0 ∷ b1 ∷ b2 ∷ b3 ∷ b4 ∷ b5 ∷ b6 ∷ b7 ∷ r) h l =
    λ i. kept b0 (256 ^ 7) (omega arith) i ∷ kept b1 (256 ^ 6) (omega arith) i ∷ kept b2 (256 ^ 5) (omega arith) i ∷ kept b3 (256 ^ 4) (omega arith) i
    ∷ kept b4 (256 ^ 3) (omega arith) i ∷ kept b5 (256 ^ 2) (omega arith) i ∷ kept b6 (256 ^ 1) (omega arith) i ∷ last i ∷ r
  where
    kept : (b d : ℕ) → t / d % 256 ≡ 0 → b ≡ b ⊕ t / d % 256
    kept b d e = sym (ap (λ (x : ℕ). b ⊕ x) e ∙ xor_zero b)

    last : b7 ⊕ t ≡ b7 ⊕ t / 256 ^ 0 % 256
    last = ap (λ (x : ℕ). b7 ⊕ x) (omega arith)

-- the halves of what counted gives
pub first_part : (t : ℕ) (b : List ℕ) → take 8 (counted t (take 8 b) ++ drop 8 b) ≡ counted t (take 8 b)
unfolding counted
first_part t b = refl

pub second_part : (t : ℕ) (b : List ℕ) → drop 8 (counted t (take 8 b) ++ drop 8 b) ≡ drop 8 b
unfolding counted
second_part t b = refl

-- a step keeps a buffer's length, over any codebook of sixteen bytes
module _ (E : List ℕ → List ℕ) (size : (b : List ℕ) → length (E b) ≡ 16) (i t : ℕ) (s : List ℕ) (pos : 0 < i) (long : 8 * i + 8 ≤ length s) where
  pub step_long : length (wrap_step E i t s) ≡ length s
  unfolding wrap_step
  step_long =
      let b : List ℕ = E (take 8 s ++ value i s) in
      with_size i pos s long (counted t (take 8 b)) (drop 8 b) (counted_size t (take 8 b)) (length-drop 8 b ∙ rw (size (take 8 s ++ value i s)))

  pub unstep_long : length (unwrap_step E i t s) ≡ length s
  unfolding unwrap_step
  unstep_long =
      let b : List ℕ = E (counted t (take 8 s) ++ value i s) in
      let l : length b ≡ 16 = size (counted t (take 8 s) ++ value i s) in
      with_size i pos s long (take 8 b) (drop 8 b) (length-take-le 8 b (omega (arith, l))) (length-drop 8 b ∙ rw l)

-- the halves of what gather gives
pub gathered_first : (s r : List ℕ) → 8 ≤ length s → take 8 (take 8 s ++ r) ≡ take 8 s
gathered_first s r l = take_at (take 8 s) r 8 (length-take-le 8 s l)

pub gathered_second : (s r : List ℕ) → 8 ≤ length s → drop 8 (take 8 s ++ r) ≡ r
gathered_second s r l = drop_at (take 8 s) r 8 (length-take-le 8 s l)
