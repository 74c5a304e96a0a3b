-- Many blocks, each in its turn. What inner contracts cite.
-- Assumes nothing.
use Rattle.std.specs.Prelude.{List, ℕ, ◌*◌, take, drop}
use Rattle.aes.specs.State.{at}
use Rattle.aes.specs.Key.{rounds_of}
use Rattle.masks.specs.Mask.{published, one}
use Rattle.runs.specs.Run.{masked_cipher}

-- block k, with the published masks at the record of its own offset
abbrev pub in_turn : List ℕ → List ℕ → List ℕ → ℕ → ℕ → List ℕ
in_turn schedule input offsets step k = masked_cipher (rounds_of schedule) published (one (at offsets k)) step schedule (take 16 (drop (16 * k) input))
