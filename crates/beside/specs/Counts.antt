-- Eight counts in one word, a byte each. What inner contracts cite.
-- Assumes nothing.
use Rattle.std.specs.Prelude.{ℕ, zero, suc, ◌+◌, ◌*◌}
use Rattle.aes.specs.Byte.{listed}
use Rattle.beside.specs.Fitness.{count}

-- n numbers of a byte each, the first one lowest
unfoldable pub word : ℕ → (ℕ → ℕ) → ℕ
word zero c = 0
word (suc n) c = c 0 + 256 * word n (λ t. c (suc t))

-- how often 0 to 7 stand among the first n values of g
abbrev pub counted : (ℕ → ℕ) → ℕ → ℕ
counted g n = word 8 (λ t. count t (listed g 0 n))
