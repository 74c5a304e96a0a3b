-- Uniqueness: whatever the arguments, a call's promise allows one reply and one content of the lent buffer.
-- Assumes nothing.
use Rattle.aes.proofs.Outcomes.{told}
use Rattle.aes.proofs.Unique.{UniqueWriting}
use Rattle.packet.proofs.calls.descramble.Reads as descramble
use Rattle.packet.proofs.calls.scramble.Reads as scramble

pub scramble_unique : UniqueWriting scramble.Post (λ κs e. e.1.0.now)
scramble_unique κs args e f x y p q = told x y _ _ _ p q

pub descramble_unique : UniqueWriting descramble.Post (λ κs e. e.1.0.now)
descramble_unique κs args e f x y p q = told x y _ _ _ p q
