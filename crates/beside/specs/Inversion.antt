-- Masked inversion (document 001, section 5).
-- Assumes nothing.
use Rattle.std.specs.Prelude.{ℕ}
use Rattle.aes.specs.Byte.{◌⊕◌}
use Rattle.aes.specs.Field.{inverse}

-- x is a byte covered by r: the inverse of that byte, covered by r
unfoldable pub masked_inverse : ℕ → ℕ → ℕ
masked_inverse x r = inverse (x ⊕ r) ⊕ r
