-- The report of a mask table: for each covered row of the mask table, each byte and each three of its bits, how often each of their
-- eight patterns shows over the sixteen offsets.
-- Assumes nothing.
use Rattle.std.specs.Prelude.{Bool, cond, ◌&&◌, List, [], ◌∷◌, ◌++◌, ℕ, zero, suc, ◌+◌, ◌-◌, ◌*◌, ◌/◌, ◌%◌, eqb, leb, ltb, get_or}
use Rattle.aes.specs.Byte.{table, below}
use Rattle.aes.specs.State.{at, state, shift_rows, mix_columns}
use Rattle.aes.specs.Record.{Point, block, keyed, boxed, shifted, mixed, compensated, closed}
use Rattle.aes.specs.Reply.{answer, is_mask_table}
use Rattle.masks.specs.Mask.{one, mask, in_row}
use Rattle.masks.specs.MaskTable.{mask_at}
use Rattle.beside.specs.Fitness.{patterns, count}

-- rows 1 to 7, in the order of the mask table: the point of round r of which each speaks
unfoldable pub row_point : ℕ → ℕ → Point
row_point row r = get_or (block ∷ keyed r ∷ boxed r ∷ shifted r ∷ mixed r ∷ compensated r ∷ closed r ∷ []) (row - 1) block

-- the mask over byte i in that row at offset o, with step d
abbrev pub mask_in : List ℕ → ℕ → ℕ → ℕ → ℕ → ℕ → ℕ
mask_in M d row r i o = at (mask_at M (one o) d (row_point row r)) i

-- at how many of the sixteen offsets its bits x, y and z show pattern t, which has the highest bit first
abbrev pub count_in : List ℕ → ℕ → ℕ → ℕ → ℕ → ℕ → ℕ → ℕ → ℕ → ℕ
count_in M d row r i x y z t = count t (patterns (mask_in M d row r i) x y z)

-- where a count is asked for
abbrev pub inside : ℕ → ℕ → ℕ → ℕ → ℕ → Bool
inside row i x y z = leb 1 row && leb row 7 && leb i 15 && ltb x y && ltb y z && leb z 7

-- the eight counts, with step 1 and in round 0, which stands for any
abbrev pub counts_of : List ℕ → ℕ → ℕ → ℕ → ℕ → ℕ → List ℕ
counts_of M row i x y z = table (λ t. cond (inside row i x y z) (count_in M 1 row 0 i x y z t) 0) 8

-- What inner contracts cite: the masks over byte i after MixColumns at the labels 0 to 15, and those over it in any row, whose order
-- makes no difference
unfoldable pub mixed_over : List ℕ → ℕ → List ℕ
mixed_over M i = state (λ l. at (mix_columns (shift_rows (mask M (one 0) l))) i)

abbrev pub values_of : List ℕ → ℕ → ℕ → List ℕ
values_of M row i = cond (eqb row 5) (mixed_over M i) M

-- the call: one of them beside the reply
abbrev pub mask_count_of : List ℕ → ℕ → ℕ → ℕ → ℕ → ℕ → ℕ → ℕ × ℕ
mask_count_of M row i x y z t = answer (is_mask_table M ∷ []) 0 (at (counts_of M row i x y z) t)

-- the 56 triples of bits, as they rise
unfoldable pub triples : List ℕ
triples =
    0 ∷ 1 ∷ 2 ∷ 0 ∷ 1 ∷ 3 ∷ 0 ∷ 1 ∷ 4 ∷ 0 ∷ 1 ∷ 5 ∷ 0 ∷ 1 ∷ 6 ∷ 0 ∷ 1 ∷ 7 ∷ 0 ∷ 2 ∷ 3 ∷
    0 ∷ 2 ∷ 4 ∷ 0 ∷ 2 ∷ 5 ∷ 0 ∷ 2 ∷ 6 ∷ 0 ∷ 2 ∷ 7 ∷ 0 ∷ 3 ∷ 4 ∷ 0 ∷ 3 ∷ 5 ∷ 0 ∷ 3 ∷ 6 ∷
    0 ∷ 3 ∷ 7 ∷ 0 ∷ 4 ∷ 5 ∷ 0 ∷ 4 ∷ 6 ∷ 0 ∷ 4 ∷ 7 ∷ 0 ∷ 5 ∷ 6 ∷ 0 ∷ 5 ∷ 7 ∷ 0 ∷ 6 ∷ 7 ∷
    1 ∷ 2 ∷ 3 ∷ 1 ∷ 2 ∷ 4 ∷ 1 ∷ 2 ∷ 5 ∷ 1 ∷ 2 ∷ 6 ∷ 1 ∷ 2 ∷ 7 ∷ 1 ∷ 3 ∷ 4 ∷ 1 ∷ 3 ∷ 5 ∷
    1 ∷ 3 ∷ 6 ∷ 1 ∷ 3 ∷ 7 ∷ 1 ∷ 4 ∷ 5 ∷ 1 ∷ 4 ∷ 6 ∷ 1 ∷ 4 ∷ 7 ∷ 1 ∷ 5 ∷ 6 ∷ 1 ∷ 5 ∷ 7 ∷
    1 ∷ 6 ∷ 7 ∷ 2 ∷ 3 ∷ 4 ∷ 2 ∷ 3 ∷ 5 ∷ 2 ∷ 3 ∷ 6 ∷ 2 ∷ 3 ∷ 7 ∷ 2 ∷ 4 ∷ 5 ∷ 2 ∷ 4 ∷ 6 ∷
    2 ∷ 4 ∷ 7 ∷ 2 ∷ 5 ∷ 6 ∷ 2 ∷ 5 ∷ 7 ∷ 2 ∷ 6 ∷ 7 ∷ 3 ∷ 4 ∷ 5 ∷ 3 ∷ 4 ∷ 6 ∷ 3 ∷ 4 ∷ 7 ∷
    3 ∷ 5 ∷ 6 ∷ 3 ∷ 5 ∷ 7 ∷ 3 ∷ 6 ∷ 7 ∷ 4 ∷ 5 ∷ 6 ∷ 4 ∷ 5 ∷ 7 ∷ 4 ∷ 6 ∷ 7 ∷ 5 ∷ 6 ∷ 7 ∷ []

-- line n of 6,272, as they rise: row, byte and the three bits, and behind them the eight counts
abbrev pub row_at : ℕ → ℕ
row_at n = n / 896 + 1

abbrev pub byte_at : ℕ → ℕ
byte_at n = n / 56 % 16

abbrev pub bit_at : ℕ → ℕ → ℕ
bit_at n k = at triples (3 * (n % 56) + k)

unfoldable pub counts_at : List ℕ → ℕ → List ℕ
counts_at M n = counts_of M (row_at n) (byte_at n) (bit_at n 0) (bit_at n 1) (bit_at n 2)

abbrev pub line_of : List ℕ → ℕ → List ℕ
line_of M n = (row_at n ∷ byte_at n ∷ bit_at n 0 ∷ bit_at n 1 ∷ bit_at n 2 ∷ []) ++ counts_at M n

-- the counts of all lines, one after the other
abbrev pub all_counts : List ℕ → List ℕ
all_counts M = in_row (counts_at M) 6272

-- of two counts the lower, and the higher
abbrev pub least : ℕ → ℕ → ℕ
least a b = cond (ltb a b) a b

abbrev pub greatest : ℕ → ℕ → ℕ
greatest a b = cond (ltb b a) a b

-- what is picked so of the first t counts of a line, and what was picked before it
unfoldable pub picked : (ℕ → ℕ → ℕ) → List ℕ → ℕ → ℕ → ℕ
picked pick counts zero before = before
picked pick counts (suc t) before = pick (at counts t) (picked pick counts t before)

-- the last line, over the first n of any lines of eight counts: how many are even, all counts two, and what is picked of all
unfoldable pub even_lines : (ℕ → List ℕ) → ℕ → ℕ
even_lines lines zero = 0
even_lines lines (suc n) = even_lines lines n + cond (below 8 (λ t. eqb (at (lines n) t) 2)) 1 0

unfoldable pub picked_of : (ℕ → ℕ → ℕ) → ℕ → (ℕ → List ℕ) → ℕ → ℕ
picked_of pick first lines zero = first
picked_of pick first lines (suc n) = picked pick (lines n) 8 (picked_of pick first lines n)

-- no count is above 16
abbrev pub lowest_of : (ℕ → List ℕ) → ℕ → ℕ
lowest_of = picked_of least 16

abbrev pub highest_of : (ℕ → List ℕ) → ℕ → ℕ
highest_of = picked_of greatest 0

abbrev pub last_line : List ℕ → ℕ × ℕ × ℕ
last_line M = (even_lines (counts_at M) 6272, lowest_of (counts_at M) 6272, highest_of (counts_at M) 6272)
