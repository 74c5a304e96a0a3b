-- A word held as a number of 32 bits, its first byte lowest, and what MIXCOLUMNS and its inverse make of a word.
-- Assumes nothing.
use Rattle.std.specs.Prelude.{List, ℕ, ◌+◌, ◌*◌, ◌/◌, ◌%◌, ◌^◌}
use Rattle.aes.specs.Field.{x_times}
use Rattle.aes.specs.State.{at, dot}
use Rattle.aes.specs.Key.{word}

-- the word that x holds
unfoldable pub word_of : ℕ → List ℕ
word_of x = word (λ j. x / 2 ^ (8 * j) % 256)

-- XTIMES of each byte
unfoldable pub doubled : List ℕ → List ℕ
doubled a = word (λ j. x_times (at a j))

-- the product with the matrix whose first row is k0 k1 k2 k3 and whose next rows are that one turned
unfoldable pub matrix : ℕ → ℕ → ℕ → ℕ → List ℕ → List ℕ
matrix k0 k1 k2 k3 a = word (λ r. dot k0 k1 k2 k3 (at a r) (at a ((r + 1) % 4)) (at a ((r + 2) % 4)) (at a ((r + 3) % 4)))
