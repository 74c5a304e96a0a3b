-- Fitness: the call gives 1 exactly for a balanced table; what keeps a table fit; examples.
-- Assumes nothing.
use mathlib.Core.Path.{◌≡◌, refl, ap}
use mathlib.Core.Bool.{Bool, true, false, not, cond}
use mathlib.Core.List.{List, [], ◌∷◌}
use Prim.Native.Nat.{ℕ, ◌+◌, ◌%◌}
use native.Mathlib.Omega.{arith}
use lib.Dec.{T, eqb, eqb→eq}
use lib.ListN.{length}
use borrow.Author.Tests.{eq-eqb}
use Rattle.aes.specs.Byte.{◌⊕◌, table, below}
use Rattle.aes.specs.State.{at, state}
use Rattle.aes.specs.Reply.{◌else◌, answer}
use Rattle.aes.proofs.Listed.{table_at}
use Rattle.masks.specs.Mask.{published, one, mask}
use Rattle.beside.specs.Fitness.{pattern, count, even, balanced, fit, fitness_of}
use Rattle.beside.proofs.Even.{not_so}
use Rattle.theorems.specs.Balance.{Balanced}
use Rattle.theorems.proofs.Records.{one-mask}
use Rattle.theorems.proofs.Balancing.{tested_balanced, balanced_tested, balanced_same, balanced_xor, balanced_turn}

value-one : (a b : Bool) → (answer {A = ℕ} ((a else 5) ∷ []) 0 (cond b 1 0)).1 ≡ 1 → T a × T b
value-one true true e = (tt, tt)
value-one true false e = absurd (omega arith)
value-one false b e = absurd (omega arith)

-- Value 1 is given for sixteen masks that are balanced, and 0 for any other sixteen.
pub fit-balanced : (masks : List ℕ) → (fitness_of masks).1 ≡ 1 → (length masks ≡ 16) × Balanced (at masks)
fit-balanced masks e =
    let both = value-one (eqb (length masks) 16) (fit masks) e in
    (eqb→eq (length masks) 16 both.0, tested_balanced (at masks) both.1)

pub balanced-fit : (masks : List ℕ) → length masks ≡ 16 → Balanced (at masks) → fitness_of masks ≡ (0, 1)
balanced-fit masks l b = simp (eq-eqb (length masks) 16 l, balanced_tested (at masks) b)

pub unbalanced_unfit : (masks : List ℕ) → length masks ≡ 16 → (Balanced (at masks) → ⊥) → fitness_of masks ≡ (0, 0)
unbalanced_unfit masks l none = simp (eq-eqb (length masks) 16 l, not_so (fit masks) (λ t. none (tested_balanced (at masks) t)))

-- A fit table stays fit when it is turned, and when one byte is added to all its masks.
state-fit : (g : ℕ → ℕ) → Balanced g → fitness_of (state g) ≡ (0, 1)
unfolding table
state-fit g b = balanced-fit (state g) refl (balanced_same _ g (table_at g 16) b)

pub turned-fit : (masks : List ℕ) (o k : ℕ) → (fitness_of masks).1 ≡ 1 → fitness_of (mask masks (one o) k) ≡ (0, 1)
turned-fit masks o k e =
    rw (one-mask masks o k)
    (state-fit (λ i. at masks ((o + i + k) % 16))
    (balanced_same _ (λ i. at masks ((i + (o + k)) % 16)) (λ i h. ap (at masks) (omega arith)) (balanced_turn (at masks) (fit-balanced masks e).1 (o + k))))

pub added_fit : (masks : List ℕ) (c : ℕ) → (fitness_of masks).1 ≡ 1 → fitness_of (state (λ i. c ⊕ at masks i)) ≡ (0, 1)
added_fit masks c e = state-fit (λ i. c ⊕ at masks i) (balanced_xor c (at masks) (fit-balanced masks e).1)

-- computed: the published masks are fit, and no two of them are equal
pub published-fit : fitness_of published ≡ (0, 1)
unfolding published balanced even below pattern count
published-fit = refl

pub published_distinct : T (below 16 (λ i. below i (λ j. not (eqb (at published i) (at published j)))))
unfolding published below
published_distinct = tt

-- computed: the masks 00 to 0f are unfit, though no two of them are equal, and so is the all-zero table
pub rising_unfit : fitness_of (state (λ i. i)) ≡ (0, 0)
unfolding balanced even below pattern count
rising_unfit = refl

pub zero_unfit : fitness_of (state (λ i. 0)) ≡ (0, 0)
unfolding balanced even below pattern count
zero_unfit = refl
