-- The state and its transformations, FIPS 197, 5.1 and 5.3. A state is sixteen bytes, column by column (3.4): byte i stands in
-- row i % 4 and column i / 4.
-- Assumes nothing.
use Rattle.std.specs.Prelude.{◌≡◌, List, ℕ, ◌+◌, ◌-◌, ◌*◌, ◌/◌, ◌%◌, ◌<◌, length, get_or}
use Rattle.aes.specs.Byte.{◌⊕◌, listed}
use Rattle.aes.specs.Field.{◌•◌}
use Rattle.aes.specs.Box.{s_box, inv_s_box}

-- byte i of a list
abbrev pub at : List ℕ → ℕ → ℕ
at s i = get_or s i 0

-- the byte of s in row r and column c
abbrev pub cell : List ℕ → ℕ → ℕ → ℕ
cell s r c = at s (r + 4 * c)

-- the state whose byte i is f i, and the one that has f r c in row r and column c
abbrev pub state : (ℕ → ℕ) → List ℕ
state f = listed f 0 16

abbrev pub square : (ℕ → ℕ → ℕ) → List ℕ
square f = state (λ i. f (i % 4) (i / 4))

-- SUBBYTES and INVSUBBYTES
unfoldable pub sub_bytes : List ℕ → List ℕ
sub_bytes s = state (λ i. s_box (at s i))

unfoldable pub inv_sub_bytes : List ℕ → List ℕ
inv_sub_bytes s = state (λ i. inv_s_box (at s i))

-- SHIFTROWS and INVSHIFTROWS: row r moves left, and right, by r, so that column c is taken from here
abbrev pub ahead : ℕ → ℕ → ℕ
ahead r c = (c + r) % 4

abbrev pub behind : ℕ → ℕ → ℕ
behind r c = (c + 4 - r) % 4

unfoldable pub shift_rows : List ℕ → List ℕ
shift_rows s = square (λ r c. cell s r (ahead r c))

unfoldable pub inv_shift_rows : List ℕ → List ℕ
inv_shift_rows s = square (λ r c. cell s r (behind r c))

-- the product of a row of four and a column (4.3), and of the columns of s with the matrix whose first row is k0 k1 k2 k3 and
-- whose next rows are that one turned
unfoldable pub dot : ℕ → ℕ → ℕ → ℕ → ℕ → ℕ → ℕ → ℕ → ℕ
dot k0 k1 k2 k3 a b c d = (k0 • a) ⊕ (k1 • b) ⊕ (k2 • c) ⊕ (k3 • d)

abbrev pub turned : ℕ → ℕ → ℕ → ℕ → List ℕ → List ℕ
turned k0 k1 k2 k3 s =
    square (λ r c. dot k0 k1 k2 k3 (cell s r c) (cell s ((r + 1) % 4) c) (cell s ((r + 2) % 4) c) (cell s ((r + 3) % 4) c))

-- MIXCOLUMNS and INVMIXCOLUMNS
unfoldable pub mix_columns : List ℕ → List ℕ
mix_columns s = turned 0x02 0x03 0x01 0x01 s

unfoldable pub inv_mix_columns : List ℕ → List ℕ
inv_mix_columns s = turned 0x0e 0x0b 0x0d 0x09 s

-- ADDROUNDKEY, which is its own inverse
unfoldable pub add_round_key : List ℕ → List ℕ → List ℕ
add_round_key s k = state (λ i. at s i ⊕ at k i)

-- n bytes
pub record Bytes (n : ℕ) (s : List ℕ) : Type 0 where
  pub size : length s ≡ n
  pub byte : (i : ℕ) → at s i < 256
