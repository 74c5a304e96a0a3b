-- The codebook of one block by either engine, and its inverse: the masked one with the published masks, step 1 and one offset.
-- Assumes nothing.
use Rattle.std.specs.Prelude.{List, ℕ}
use Rattle.aes.specs.Cipher.{cipher, inv_cipher}
use Rattle.masked.specs.Calls.{sealed_one, opened_one}
use Rattle.wrap.specs.declared.engine.Engine.{Engine}
use Rattle.wrap.specs.declared.engine.Engine.TheVariants.{Plain, Masked}

-- the plain one has no offset, and 0 stands for it
abbrev pub offset_of : Engine → ℕ
offset_of Plain = 0
offset_of (Masked o) = o

abbrev pub sealed : Engine → List ℕ → List ℕ → List ℕ
sealed Plain w b = cipher 14 w b
sealed (Masked o) w b = sealed_one o w b

abbrev pub opened : Engine → List ℕ → List ℕ → List ℕ
opened Plain w b = inv_cipher 14 w b
opened (Masked o) w b = opened_one o w b
