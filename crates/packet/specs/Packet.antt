-- The transport packet of ISO/IEC 13818-1, 2.4.3.2, and the list of seven pipes.
-- Assumes nothing.
use Rattle.std.specs.Prelude.{Bool, true, false, cond, ◌&&◌, ◌||◌, List, [], ◌∷◌, ◌++◌, ℕ, ◌+◌, ◌-◌, ◌*◌, ◌/◌, ◌%◌, eqb, leb, take, drop}
use Rattle.aes.specs.Byte.{table, place}
use Rattle.aes.specs.State.{at}
use Rattle.cbc.specs.Cbc.{cbc}

-- the header: PID, transport_scrambling_control and adaptation_field_control
abbrev pub pid : List ℕ → ℕ
pid p = at p 1 % 32 * 256 + at p 2

abbrev pub scrambling : List ℕ → ℕ
scrambling p = at p 3 / 64

abbrev pub adaptation : List ℕ → ℕ
adaptation p = at p 3 / 16 % 4

-- a code that has a meaning, 01, 10 or 11, and for the last two an adaptation_field_length that fits it
abbrev pub field_right : List ℕ → Bool
field_right p = eqb (adaptation p) 1 || (eqb (adaptation p) 2 && eqb (at p 4) 183) || (eqb (adaptation p) 3 && leb (at p 4) 182)

-- where the payload starts: behind the header, or behind an adaptation field and the byte that says its length. Code 10 has no payload
unfoldable pub start : List ℕ → ℕ
start p = cond (eqb (adaptation p) 1) 4 (5 + at p 4)

-- its whole blocks, and where they end
abbrev pub blocks : List ℕ → ℕ
blocks p = (188 - start p) / 16

abbrev pub end : List ℕ → ℕ
end p = start p + 16 * blocks p

abbrev pub payload : List ℕ → List ℕ
payload p = take (16 * blocks p) (drop (start p) p)

-- sixteen bytes of payload or more
abbrev pub long : List ℕ → Bool
long p = leb 16 (188 - start p)

-- a packet with other whole blocks, and with other scrambling bits
unfoldable pub with_payload : List ℕ → List ℕ → List ℕ
with_payload body p = take (start p) p ++ body ++ drop (end p) p

unfoldable pub with_bits : ℕ → List ℕ → List ℕ
with_bits bits p = take 3 p ++ ((bits * 64 + at p 3 % 64) ∷ []) ++ drop 4 p

-- the bits that say even or odd: 10 and 11
abbrev pub parity : Bool → ℕ
parity odd = cond odd 3 2

-- pipe k of a list: 498 bytes, which are its PID, the higher byte first, its even and its odd schedule and its starting block
abbrev pub pid_at : List ℕ → ℕ → ℕ
pid_at pipes k = at pipes (498 * k) * 256 + at pipes (498 * k + 1)

abbrev pub schedule_at : List ℕ → ℕ → Bool → List ℕ
schedule_at pipes k odd = take 240 (drop (498 * k + cond odd 242 2) pipes)

abbrev pub starting_block : List ℕ → ℕ → List ℕ
starting_block pipes k = take 16 (drop (498 * k + 482) pipes)

-- the pipe that a packet belongs to, and 7 where its PID is not listed
unfoldable pub pipe_of : List ℕ → List ℕ → ℕ
pipe_of pipes p = place (pid p) (table (pid_at pipes) 7)

abbrev pub is_listed : List ℕ → List ℕ → Bool
is_listed pipes p = leb (pipe_of pipes p) 6

-- a packet of pipe k whose whole blocks went through CBC, back where back is true, and that has other bits
unfoldable pub changed : Bool → ℕ → Bool → List ℕ → ℕ → List ℕ → List ℕ
changed back bits odd pipes k p = with_bits bits (with_payload (cbc back (schedule_at pipes k odd) (starting_block pipes k) (payload p)) p)

-- what scrambling makes of it, and descrambling, which goes by the bits
abbrev pub scrambled : List ℕ → ℕ → Bool → List ℕ → List ℕ
scrambled pipes k odd p = changed false (parity odd) odd pipes k p

abbrev pub descrambled : List ℕ → ℕ → List ℕ → List ℕ
descrambled pipes k p = changed true 0 (eqb (scrambling p) 3) pipes k p
