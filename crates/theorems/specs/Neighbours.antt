-- Two boxes that a round calls one after the other: what the first gives, xored with what the second takes. They stand at the
-- places k and k + 1 of an order. State q of a record is the one that the boxes of round r take, and the next what they give: q is
-- 5 r + 1 in the record of an encryption, and 6 r + 3 in that of a decryption.
-- Assumes nothing.
use Rattle.std.specs.Prelude.{List, [], ℕ, ◌+◌, get_or}
use Rattle.aes.specs.Record.{keyed, boxed, cipher_at}
use Rattle.masks.specs.Order.{between}
use Rattle.runs.specs.Back.{corrected, unboxed}
use Rattle.masked.specs.Calls.{block_at}
use Rattle.masks.specs.MaskTable.{mask_at}
use Rattle.theorems.specs.BackTable.{mask_back_at, inv_cipher_at}

-- in the states of a run, and in those that a call has written
abbrev pub between_states : List ℕ → List (List ℕ) → ℕ → ℕ → ℕ
between_states order states q k = between order (get_or states q []) (get_or states (q + 1) []) k

abbrev pub between_recorded : List ℕ → List ℕ → ℕ → ℕ → ℕ
between_recorded order written q k = between order (block_at q written) (block_at (q + 1) written) k

-- bare, of CIPHER, and of the masks that lie on those two bytes
abbrev pub between_bare : List ℕ → List ℕ → List ℕ → ℕ → ℕ → ℕ
between_bare order w input r k = between order (cipher_at w input (keyed r)) (cipher_at w input (boxed r)) k

abbrev pub between_masks : List ℕ → List ℕ → List ℕ → ℕ → ℕ → ℕ → ℕ
between_masks order M v d r k = between order (mask_at M v d (keyed r)) (mask_at M v d (boxed r)) k

-- both of a decryption of nr rounds: bare, of INVCIPHER, and of the masks
abbrev pub between_bare_back : List ℕ → ℕ → List ℕ → List ℕ → ℕ → ℕ → ℕ
between_bare_back order nr w input r k = between order (inv_cipher_at nr w input (corrected r)) (inv_cipher_at nr w input (unboxed r)) k

abbrev pub between_masks_back : List ℕ → List ℕ → List ℕ → ℕ → ℕ → ℕ → ℕ
between_masks_back order M v d r k = between order (mask_back_at M v d (corrected r)) (mask_back_at M v d (unboxed r)) k
