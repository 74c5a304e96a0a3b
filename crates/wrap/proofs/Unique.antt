-- Uniqueness: whatever the arguments, a call's promise allows one reply and one content of the lent buffer.
-- Assumes nothing.
use Rattle.aes.proofs.Outcomes.{told}
use Rattle.aes.proofs.Unique.{UniqueWriting}
use Rattle.wrap.proofs.calls.unwrap.Reads as unwrap
use Rattle.wrap.proofs.calls.unwrap_masked.Reads as unwrap-masked
use Rattle.wrap.proofs.calls.wrap.Reads as wrap
use Rattle.wrap.proofs.calls.wrap_masked.Reads as wrap-masked

pub wrap_unique : UniqueWriting wrap.Post (λ κs e. e.1.1.0.now)
wrap_unique κs args e f x y p q = told x y _ _ _ p q

pub unwrap_unique : UniqueWriting unwrap.Post (λ κs e. e.1.1.0.now)
unwrap_unique κs args e f x y p q = told x y _ _ _ p q

pub wrap_masked_unique : UniqueWriting wrap-masked.Post (λ κs e. e.1.1.0.now)
wrap_masked_unique κs args e f x y p q = told x y _ _ _ p q

pub unwrap_masked_unique : UniqueWriting unwrap-masked.Post (λ κs e. e.1.1.0.now)
unwrap_masked_unique κs args e f x y p q = told x y _ _ _ p q
