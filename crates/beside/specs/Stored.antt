-- The converter for what early modules stored in form 1, which has retired.
-- Assumes nothing.
use Rattle.std.specs.Prelude.{List, [], ◌∷◌, ℕ}
use Rattle.aes.specs.Reply.{answer, is_input, is_output, is_offset}
use Rattle.masks.specs.Mask.{published, one, ◌⊞◌, mask}

-- what an early module stored of a block, with the published masks and step 1: the block under Mask(o+14)
abbrev pub stored : ℕ → List ℕ → List ℕ
stored offset block = block ⊞ mask published (one offset) 14

-- the same sum takes the mask off
abbrev pub convert_of : List ℕ → List ℕ → ℕ → ℕ × List ℕ
convert_of input output offset = answer (is_input input ∷ is_output output ∷ is_offset offset ∷ []) output (input ⊞ mask published (one offset) 14)
