-- Where the labels of a run begin, as a call tells it to the masks. What inner contracts cite.
-- Assumes nothing.
use Rattle.std.specs.Prelude.{Bool, cond, List, ℕ, ◌+◌, ◌%◌, eqb, Option, None, Some}
use Rattle.aes.specs.Byte.{below}
use Rattle.aes.specs.State.{at}
use Rattle.masks.specs.declared.label.Offsets.{Offsets}
use Rattle.masks.specs.Mask.{one, advanced}
use Rattle.lent.specs.declared.given.Masks.{Masks}
use Rattle.lent.specs.declared.given.Start.{Start}

-- whether sixteen offsets are the record of one
abbrev pub is_one : List ℕ → Bool
is_one v = below 16 (λ i. eqb (at v i) ((at v 0 % 16 + i) % 16))

-- the start that sixteen offsets are
abbrev pub start_of : List ℕ → Start
start_of v = cond (is_one v) (record { offsets = None; on = at v 0 }) (record { offsets = Some (record { 0 = v }); on = 0 })

-- the offsets at which what a run is lent is laid out: those of 0, where no others are named
abbrev pub laid_at : Option Offsets → List ℕ
laid_at None = one 0
laid_at (Some v) = v.0

abbrev pub offsets_of : Masks → List ℕ
offsets_of m = laid_at m.start.offsets

-- the record with which a start begins
abbrev pub record_of : Start → List ℕ
record_of s = advanced (laid_at s.offsets) (s.on % 16)
