-- How C is given a reply number and a value at once.
-- Assumes nothing.
use Rattle.std.specs.Prelude.{List, ℕ, ◌+◌, ◌*◌}

-- one number of sixteen bits, the reply number in the higher eight
abbrev pub packed : ℕ × ℕ → ℕ
packed (number, value) = number * 256 + value

-- the same beside what a lent buffer holds then
abbrev pub packed_beside : ℕ × (ℕ × List ℕ) → ℕ × List ℕ
packed_beside (number, (value, buffer)) = (packed (number, value), buffer)
