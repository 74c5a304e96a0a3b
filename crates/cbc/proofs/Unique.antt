-- Uniqueness: whatever the arguments, a promise allows one result, or one content of the lent buffer.
-- Assumes nothing.
use mathlib.Core.Path.{refl, sym, ◌∙◌}
use Rattle.aes.proofs.Unique.{Unique, UniqueWriting}
use Rattle.cbc.proofs.chain.cbc.Reads as cbc
use Rattle.cbc.proofs.chain.copy.Reads as copy
use Rattle.cbc.proofs.chain.sixteen_at.Reads as sixteen-at

pub cbc_unique : UniqueWriting cbc.Post (λ κs e. e.1.1.1.1.0.now)
cbc_unique κs args e f x y p q = (refl, p ∙ sym q)

pub copy_unique : UniqueWriting copy.Post (λ κs e. e.1.0.now)
copy_unique κs args e f x y p q = (refl, p ∙ sym q)

pub sixteen_at_unique : Unique sixteen-at.Post
sixteen_at_unique κs args exit x y p q = p ∙ sym q
