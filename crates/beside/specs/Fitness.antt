-- The fitness test of a mask table.
-- Assumes nothing.
use Rattle.std.specs.Prelude.{Bool, cond, List, [], ◌∷◌, ℕ, ◌+◌, ◌*◌, eqb}
use Rattle.aes.specs.Byte.{bit, listed, below}
use Rattle.aes.specs.State.{at}
use Rattle.aes.specs.Reply.{answer, is_mask_table}

-- the bits x, y and z of a byte, as a number below 8
unfoldable pub pattern : ℕ → ℕ → ℕ → ℕ → ℕ
pattern x y z b = (bit b z * 2 + bit b y) * 2 + bit b x

-- the patterns that the bits x, y and z of the sixteen values of f show
abbrev pub patterns : (ℕ → ℕ) → ℕ → ℕ → ℕ → List ℕ
patterns f x y z = listed (λ i. pattern x y z (f i)) 0 16

-- how many entries of a list are t
unfoldable pub count : ℕ → List ℕ → ℕ
count t [] = 0
count t (v ∷ l) = cond (eqb v t) 1 0 + count t l

-- each of the eight patterns stands twice in a list
unfoldable pub even : List ℕ → Bool
even l = below 8 (λ t. eqb (count t l) 2)

-- any three of the eight bit positions, named as they rise, show each pattern in exactly two of the sixteen values of f
unfoldable pub balanced : (ℕ → ℕ) → Bool
balanced f = below 8 (λ z. below z (λ y. below y (λ x. even (patterns f x y z))))

-- the rule for masks
abbrev pub fit : List ℕ → Bool
fit masks = balanced (at masks)

abbrev pub fitness_of : List ℕ → ℕ × ℕ
fitness_of masks = answer (is_mask_table masks ∷ []) 0 (cond (fit masks) 1 0)
