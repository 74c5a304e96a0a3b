-- The pieces of a buffer: A, R[i], and what lies between and behind them.
-- Assumes nothing.
use mathlib.Core.Path.{◌≡◌, refl, ap, ap₂, sym, ◌∙◌}
use mathlib.Core.List.{List, [], ◌∷◌, ◌++◌, append_assoc}
use Prim.Native.Nat.{ℕ, zero, suc, ◌+◌, ◌-◌, ◌*◌, ◌≤◌, ◌<◌}
use native.Mathlib.Omega.{arith}
use lib.ListN.{length, take, drop, length-append, length-drop}
use lib.Seq.{take_at, drop_at, length-take-le, drop-drop, ext_get_or}
use Rattle.aes.specs.Byte.{listed, table}
use Rattle.aes.specs.State.{at}
use Rattle.aes.proofs.Xor.{xor_assoc, xor_self, xor_zero}
use Rattle.aes.proofs.Listed.{table_at, table-length}
use Rattle.buffer.specs.Wrap.{counted, value, with_values}

pub take-drop : (n : ℕ) (s : List ℕ) → take n s ++ drop n s ≡ s
take-drop zero s = refl
take-drop (suc n) [] = refl
take-drop (suc n) (x ∷ s) = ap (λ (l : List ℕ). x ∷ l) (take-drop n s)

-- eight bytes by their entries; and a counter xored twice
pub eight_at : (a : List ℕ) → length a ≡ 8 → listed (at a) 0 8 ≡ a
unfolding table
eight_at a l = ext_get_or 0 (table (at a) 8) a (table-length (at a) 8 ∙ sym l) (λ k lt. table_at (at a) 8 k (let h : k < length (table (at a) 8) = lt in rw (table-length (at a) 8) at h))

pub counted_size : (t : ℕ) (a : List ℕ) → length (counted t a) ≡ 8
unfolding counted
counted_size t a = refl

pub counted-twice : (t : ℕ) (a : List ℕ) → length a ≡ 8 → counted t (counted t a) ≡ a
unfolding counted
counted-twice t a l = simp (xor_assoc, xor_self, xor_zero) (eight_at a l)

-- the pieces of a buffer
module _ (i : ℕ) (pos : 0 < i) (s : List ℕ) (long : 8 * i + 8 ≤ length s) where
  abbrev mid : List ℕ
  mid = take (8 * i - 8) (drop 8 s)

  mid_size : length mid ≡ 8 * i - 8
  mid_size = length-take-le (8 * i - 8) (drop 8 s) (rw length-drop (omega arith))

  abbrev rest : List ℕ
  rest = drop (8 * i + 8) s

  pub value_size : length (value i s) ≡ 8
  unfolding value
  value_size = length-take-le 8 (drop (8 * i) s) (rw length-drop (omega arith))

  -- put back as it was
  pub with_own : with_values i (take 8 s) (value i s) s ≡ s
  unfolding with_values value
  with_own =
      let e : drop (8 * i + 8) s ≡ drop 8 (drop (8 * i) s) = sym (drop-drop 8 (8 * i) s) in
      let n : 8 + (8 * i - 8) ≡ 8 * i = omega arith in
      let d : drop (8 * i) s ≡ drop (8 * i - 8) (drop 8 s) = sym (drop-drop (8 * i - 8) 8 s ∙ ap (λ (k : ℕ). drop k s) n) in
      append_assoc (take 8 s ++ mid) (take 8 (drop (8 * i) s)) (drop (8 * i + 8) s)
      ∙ ap (λ (l : List ℕ). take 8 s ++ mid ++ l) (ap (λ (l : List ℕ). take 8 (drop (8 * i) s) ++ l) e ∙ take-drop 8 (drop (8 * i) s) ∙ d)
      ∙ append_assoc (take 8 s) mid (drop (8 * i - 8) (drop 8 s))
      ∙ ap (λ (l : List ℕ). take 8 s ++ l) (take-drop (8 * i - 8) (drop 8 s)) ∙ take-drop 8 s

  module _ (a r : List ℕ) (la : length a ≡ 8) (lr : length r ≡ 8) where
    abbrev after : List ℕ
    after = with_values i a r s

    pieces : after ≡ a ++ (mid ++ (r ++ rest))
    unfolding with_values
    pieces = append_assoc (a ++ mid) r rest ∙ append_assoc a mid (r ++ rest)

    pub with_size : length after ≡ length s
    unfolding with_values
    with_size = simp (length-append, la, lr, mid_size, length-drop) (omega arith)

    pub with_first : take 8 after ≡ a
    with_first = ap (take 8) pieces ∙ take_at a (mid ++ (r ++ rest)) 8 la

    after_mid : take (8 * i - 8) (drop 8 after) ≡ mid
    after_mid =
        ap (λ (l : List ℕ). take (8 * i - 8) (drop 8 l)) pieces ∙ ap (take (8 * i - 8)) (drop_at a (mid ++ (r ++ rest)) 8 la)
        ∙ take_at mid (r ++ rest) (8 * i - 8) mid_size

    head_size : length (a ++ mid) ≡ 8 * i
    head_size = length-append a mid ∙ ap₂ ◌+◌ la mid_size ∙ omega arith

    pub with_value : value i after ≡ r
    unfolding value with_values
    with_value =
        ap (λ (l : List ℕ). take 8 (drop (8 * i) l)) (append_assoc (a ++ mid) r rest)
        ∙ ap (take 8) (drop_at (a ++ mid) (r ++ rest) (8 * i) head_size) ∙ take_at r rest 8 lr

    after-rest : drop (8 * i + 8) after ≡ rest
    unfolding with_values
    after-rest = drop_at (a ++ mid ++ r) rest (8 * i + 8) (length-append (a ++ mid) r ∙ ap₂ ◌+◌ head_size lr)

    pub with_again : (a' r' : List ℕ) → with_values i a' r' after ≡ with_values i a' r' s
    unfolding with_values
    with_again a' r' = ap₂ (λ (m z : List ℕ). a' ++ m ++ r' ++ z) after_mid after-rest
