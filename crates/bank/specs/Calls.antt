-- What each call of the bank answers for every bank and input: its reply, its number, the bank that it hands back or what the lent output
-- holds then. A refused call hands back the bank as it was, and number 0.
-- Assumes nothing.
use Rattle.std.specs.Prelude.{List, [], ◌∷◌, ◌++◌, ℕ, zero, suc, set, get_or}
use Rattle.aes.specs.Byte.{place, table}
use Rattle.aes.specs.Reply.{Check, answer, is_input, is_output, is_offset}
use Rattle.masked.specs.Calls.{sealed_one}
use Rattle.bank.specs.declared.keys.Schedule.{Schedule}
use Rattle.bank.specs.declared.keys.Bank.{Bank}
use Rattle.bank.specs.Places.{tag, lowest, loaded_at, load_checks, name_checks}

-- what a free place holds
unfoldable pub cleared : Schedule
cleared = record { bytes = table (λ k. 0) 240 }

abbrev pub copies : {A : Type 0} → A → ℕ → List A
copies x zero = []
copies x (suc n) = x ∷ copies x n

unfoldable pub empty_bank : Bank
empty_bank = record { tags = copies 0 16; schedules = copies cleared 16 }

-- the bank with another tag and schedule in place k
abbrev pub placed : Bank → ℕ → ℕ → Schedule → Bank
placed b k t s = record { tags = set b.tags k t; schedules = set b.schedules k s }

-- the schedule in place k, and no bytes where there is no such place
abbrev pub schedule_in : Bank → ℕ → List ℕ
schedule_in b k = (get_or b.schedules k (record { bytes = [] })).bytes

-- into the first free place, under the lowest number
abbrev pub load_of : Bank → ℕ → List ℕ → ℕ × (ℕ × Bank)
load_of b p schedule =
    let n = lowest p b.tags in
    answer (load_checks b.tags p schedule) (0, b) (n, placed b (place 0 b.tags) (tag p n) (record { bytes = schedule }))

abbrev pub drop_of : Bank → ℕ → ℕ → ℕ × (ℕ × Bank)
drop_of b p n = answer (name_checks b.tags p n) (0, b) (0, placed b (loaded_at p n b.tags) 0 cleared)

abbrev pub block_checks : List ℕ → List ℕ → ℕ → List Check
block_checks input output offset = is_input input ∷ is_output output ∷ is_offset offset ∷ []

-- masked encryption under the schedule of that number: published masks, step 1, one offset
abbrev pub run_of : Bank → ℕ → ℕ → List ℕ → List ℕ → ℕ → ℕ × List ℕ
run_of b p n input output offset =
    answer (name_checks b.tags p n ++ block_checks input output offset) output
    (sealed_one offset (schedule_in b (loaded_at p n b.tags)) input)
