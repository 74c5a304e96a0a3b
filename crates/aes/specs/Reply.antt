-- The replies: each number's meaning in a line, and how a call's checks decide its answer.
-- Assumes nothing.
use Rattle.std.specs.Prelude.{Bool, cond, not, ◌&&◌, ◌||◌, List, [], ◌∷◌, ℕ, ◌+◌, ◌-◌, ◌*◌, ◌/◌, ◌%◌, eqb, leb, length, get_or}
use Rattle.aes.specs.Byte.{below}

-- what must hold, and the reply where it does not
infix 20 ◌else◌
pub data Check : Type 0 where
  ◌else◌ : Bool → ℕ → Check

-- The first check that fails gives its reply beside what was there before; past all of them the reply is 0, beside what
-- was done.
abbrev pub answer : {A : Type 0} → List Check → A → A → ℕ × A
answer [] before done = (0, done)
answer ((holds else reply) ∷ checks) before done = cond holds (answer checks before done) (reply, before)

-- the reply of checks alone
abbrev pub refusal : List Check → ℕ
refusal [] = 0
refusal ((holds else reply) ∷ checks) = cond holds (refusal checks) reply

-- a key of one of the three lengths has so many bytes
abbrev pub keyed : ℕ → Bool
keyed n = eqb n 16 || eqb n 24 || eqb n 32

abbrev pub is_key : List ℕ → Check
is_key key = keyed (length key) else 1

-- sixteen bytes for each round of a key's schedule, which are six more than its words, and sixteen more
abbrev pub is_schedule_of : List ℕ → List ℕ → Check
is_schedule_of key schedule = eqb (length schedule) (4 * length key + 112) else 2

-- the schedule of a key of one of the three lengths has so many bytes
abbrev pub scheduled : ℕ → Bool
scheduled n = eqb n 176 || eqb n 208 || eqb n 240

-- the rounds that it is for, which has a round key for each and one more, and none where it is no schedule
abbrev pub rounds_for : ℕ → ℕ
rounds_for n = cond (scheduled n) (n / 16 - 1) 0

abbrev pub is_schedule : List ℕ → Check
is_schedule schedule = scheduled (length schedule) else 2

-- where only the schedule of a 32-byte key will ever do: key wrap, and what keeps to one offset
abbrev pub is_full_schedule : List ℕ → Check
is_full_schedule schedule = eqb (length schedule) 240 else 2

abbrev pub is_input : List ℕ → Check
is_input input = eqb (length input) 16 else 3

abbrev pub is_output : List ℕ → Check
is_output output = eqb (length output) 16 else 4

-- any number of blocks, 256 at most, and room for as many
abbrev pub are_blocks : List ℕ → Check
are_blocks input = eqb (length input % 16) 0 && leb (length input) 4096 else 3

abbrev pub is_as_long : List ℕ → List ℕ → Check
is_as_long input output = eqb (length output) (length input) else 4

abbrev pub is_mask_table : List ℕ → Check
is_mask_table masks = eqb (length masks) 16 else 5

abbrev pub is_offset : ℕ → Check
is_offset offset = leb offset 15 else 6

abbrev pub are_offsets : List ℕ → Check
are_offsets offsets = below (length offsets) (λ k. leb (get_or offsets k 0) 15) else 6

abbrev pub is_form : ℕ → Check
is_form form = eqb form 0 else 7

-- a record of so many bytes
abbrev pub is_record_of : ℕ → List ℕ → Check
is_record_of size states = eqb (length states) size else 8

abbrev pub has_logarithm : ℕ → Check
has_logarithm b = not (eqb b 0) else 9

abbrev pub is_power : ℕ → Check
is_power n = leb n 254 else 10

-- mark and version are there
abbrev pub has_head : List ℕ → Check
has_head sheet = leb 5 (length sheet) else 11

-- the mark "MSK"
abbrev pub marked : List ℕ → Bool
marked sheet = eqb (get_or sheet 0 0) 0x4d && eqb (get_or sheet 1 0) 0x53 && eqb (get_or sheet 2 0) 0x4b

abbrev pub is_marked : List ℕ → Check
is_marked sheet = marked sheet else 12

-- the version in two bytes, the higher first
abbrev pub version : List ℕ → ℕ
version sheet = get_or sheet 3 0 * 256 + get_or sheet 4 0

abbrev pub is_version : List ℕ → Check
is_version sheet = (eqb (version sheet) 1 || eqb (version sheet) 2) else 13

-- 21 bytes where the step is 1, which version 1 means, and else 22
abbrev pub is_whole : List ℕ → Check
is_whole sheet = eqb (length sheet) (cond (eqb (version sheet) 1) 21 22) else 11

abbrev pub is_sheet_of : ℕ → List ℕ → Check
is_sheet_of step sheet = eqb (length sheet) (cond (eqb step 1) 21 22) else 11

-- an offset for each block
abbrev pub has_offsets : List ℕ → List ℕ → Check
has_offsets input offsets = eqb (length offsets) (length input / 16) else 14

-- an offset for each byte of a block
abbrev pub has_byte_offsets : List ℕ → Check
has_byte_offsets offsets = eqb (length offsets) 16 else 24

-- a step is 1, or 4 to 15
abbrev pub taken : ℕ → Bool
taken step = (eqb step 1 || leb 4 step) && leb step 15

abbrev pub is_step : ℕ → Check
is_step step = taken step else 15

-- the step of a sheet: 1 in version 1, and in version 2 the last byte, which is none of 0 to 3
abbrev pub step_of : List ℕ → ℕ
step_of sheet = cond (eqb (version sheet) 1) 1 (get_or sheet 21 0)

abbrev pub has_step : List ℕ → Check
has_step sheet = (eqb (version sheet) 1 || (leb 4 (step_of sheet) && leb (step_of sheet) 15)) else 15

-- key data: 16 to 256 bytes in multiples of 8
abbrev pub is_key_data : List ℕ → Check
is_key_data keys = eqb (length keys % 8) 0 && leb 16 (length keys) && leb (length keys) 256 else 16

abbrev pub is_wrapped_of : List ℕ → List ℕ → Check
is_wrapped_of keys wrapped = eqb (length wrapped) (length keys + 8) else 17

-- the register that unwrapping recovers is RFC 3394's initial value
abbrev pub is_intact : List ℕ → Check
is_intact register = below 8 (λ i. eqb (get_or register i 0) 0xa6) else 18

-- a transport packet, and room for one
abbrev pub are_packets : List ℕ → List ℕ → Check
are_packets packet out = eqb (length packet) 188 && eqb (length out) 188 else 19

abbrev pub is_synced : List ℕ → Check
is_synced packet = eqb (get_or packet 0 0) 0x47 else 20
