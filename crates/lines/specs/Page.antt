-- How a number of at most three digits is spelt on a page.
-- Assumes nothing.
use Rattle.std.specs.Prelude.{List, [], ◌∷◌, ◌++◌, ℕ, ◌+◌, ◌/◌, ◌%◌, cond, leb}

-- the digit that counts this unit, but for a zero in front
abbrev pub digit : ℕ → ℕ → List ℕ
digit unit n = cond (leb unit n) ((48 + n / unit % 10) ∷ []) []

-- its digits, and a space
abbrev pub spelled : ℕ → List ℕ
spelled n = digit 100 n ++ (digit 10 n ++ ((48 + n % 10) ∷ 32 ∷ []))
