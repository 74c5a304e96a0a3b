-- The transformations as the code makes them: by places, and over a table that is lent to them, where what it has takes the place
-- of S.
-- Assumes nothing.
use Rattle.std.specs.Prelude.{List, ℕ, ◌*◌, ◌%◌}
use Rattle.aes.specs.State.{at, state}

-- the bytes of s, each k places behind the one before, round and round: SHIFTROWS for 5, INVSHIFTROWS for 13
abbrev pub moved : ℕ → List ℕ → List ℕ
moved k s = state (λ i. at s (k * i % 16))

-- each byte of s by the table t
unfoldable pub substituted : List ℕ → List ℕ → List ℕ
substituted t s = state (λ i. at t (at s i))
