-- A sheet: its head, and behind that in version 2 the step.
-- Assumes nothing.
use mathlib.Core.Path.{◌≡◌, refl, sym, ap, ◌∙◌}
use mathlib.Core.List.{List, [], ◌∷◌, ◌++◌}
use Prim.Native.Nat.{ℕ, ◌≤◌}
use native.Mathlib.Omega.{arith}
use borrow.Author.Tests.{eq-eqb, ne_eqb}
use lib.ListN.{length, drop, set, length-drop}
use Rattle.aes.specs.State.{at}
use Rattle.aes.specs.Reply.{version}
use Rattle.aes.proofs.Part.{back}
use Rattle.masks.specs.Sheet.{headed, sheet_of}

-- a sheet's first five bytes, and the rest
pub five : (xs : List ℕ) → 5 ≤ length xs → at xs 0 ∷ at xs 1 ∷ at xs 2 ∷ at xs 3 ∷ at xs 4 ∷ drop 5 xs ≡ xs
five (a ∷ b ∷ c ∷ d ∷ e ∷ xs) l = refl
five (a ∷ b ∷ c ∷ d ∷ []) l = absurd (omega arith)
five (a ∷ b ∷ c ∷ []) l = absurd (omega arith)
five (a ∷ b ∷ []) l = absurd (omega arith)
five (a ∷ []) l = absurd (omega arith)
five [] l = absurd (omega arith)

-- how long a head is
pub head_size : (version : ℕ) (masks : List ℕ) → length masks ≡ 16 → length (headed version masks) ≡ 21
unfolding headed
head_size version masks m = omega arith

-- and behind a whole head the step
last_set : (xs rest : List ℕ) (v : ℕ) → length rest ≡ 1 → set (xs ++ rest) (length xs) v ≡ xs ++ (v ∷ [])
last_set [] (z ∷ []) v l = refl
last_set [] [] v l = absurd (omega arith)
last_set [] (z ∷ y ∷ rest) v l = absurd (omega arith)
last_set (x ∷ xs) rest v l = ap (λ (l : List ℕ). x ∷ l) (last_set xs rest v l)

pub stepped_head : (xs ys masks : List ℕ) (step : ℕ) → length xs ≡ 22 → length masks ≡ 16 → ys ≡ headed 2 masks
    → set (back xs 0 21 ys) 21 step ≡ headed 2 masks ++ (step ∷ [])
stepped_head xs ys masks step l m same =
    let one : length (drop 21 xs) ≡ 1 = simp length-drop (omega (arith, l)) in
    ap (λ (head : List ℕ). set (back xs 0 21 head) 21 step) same
    ∙ ap (λ (n : ℕ). set (headed 2 masks ++ drop 21 xs) n step) (sym (head_size 2 masks m)) ∙ last_set (headed 2 masks) (drop 21 xs) step one

-- which of the two the sheet is
pub first_version : (masks : List ℕ) (step : ℕ) → step ≡ 1 → headed 1 masks ≡ sheet_of masks step
unfolding sheet_of
first_version masks step e = simp (eq-eqb step 1 e)

pub second_version : (masks : List ℕ) (step : ℕ) → (step ≡ 1 → ⊥) → headed 2 masks ++ (step ∷ []) ≡ sheet_of masks step
unfolding sheet_of
second_version masks step e = simp (ne_eqb step 1 e)
