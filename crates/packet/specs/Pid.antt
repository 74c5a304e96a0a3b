-- How PIDs are sorted (ISO/IEC 13818-1, table 2-3): 0000 to 000f are reserved, 0010 to 1ffe may be assigned, 1fff is that of null packets,
-- and a greater number is none.
-- Assumes nothing.
use Rattle.std.specs.Prelude.{Bool, cond, ℕ, eqb, leb}
use Rattle.packet.specs.declared.pid.Kind.{Kind}
use Rattle.packet.specs.declared.pid.Kind.TheVariants.{Reserved, Assignable, Null, Beyond}

abbrev pub kind_number : Kind → ℕ
kind_number Reserved = 0
kind_number Assignable = 1
kind_number Null = 2
kind_number Beyond = 3

abbrev pub sort_pid_of : ℕ → ℕ
sort_pid_of n = cond (leb n 0x000f) 0 (cond (leb n 0x1ffe) 1 (cond (eqb n 0x1fff) 2 3))

abbrev pub assignable : ℕ → Bool
assignable n = eqb (sort_pid_of n) 1
