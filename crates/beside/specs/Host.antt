-- How the host sorts reply numbers: go on, a fault of the caller or a fault of the data.
-- Assumes nothing.
use Rattle.std.specs.Prelude.{Bool, cond, ◌&&◌, ◌||◌, ℕ, eqb, leb}
use Rattle.beside.specs.declared.host.Sorted.{Sorted}
use Rattle.beside.specs.declared.host.Sorted.TheVariants.{GoOn, CallerFault, DataFault}

-- the number of each sort
abbrev pub sorted_number : Sorted → ℕ
sorted_number GoOn = 0
sorted_number CallerFault = 1
sorted_number DataFault = 2

-- from low to high, both included
abbrev pub within : ℕ → ℕ → ℕ → Bool
within low high n = leb low n && leb n high

-- 0 go on, 1 to 8 caller fault, 9 to 13, 18, 20, 21 and 23 data fault; any other number above 13 is a caller fault
abbrev pub sort_reply_of : ℕ → ℕ
sort_reply_of n = cond (eqb n 0) 0 (cond (within 1 8 n) 1 (cond (within 9 13 n || eqb n 18 || within 20 21 n || eqb n 23) 2 1))
