-- Sixteen bytes in a row of them.
-- Assumes nothing.
use Rattle.std.specs.Prelude.{List, ℕ}
use Rattle.aes.specs.Key.{round_key}

-- those of number n
abbrev pub sixteen : List ℕ → ℕ → List ℕ
sixteen = round_key
