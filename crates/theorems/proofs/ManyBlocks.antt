-- Many blocks in one masked call: each is the block that the rack makes, whatever its offset and the step are.
-- Assumes nothing.
use mathlib.Core.Path.{◌≡◌, refl, ap}
use mathlib.Core.Bool.{true, false}
use mathlib.Core.List.{List, [], ◌∷◌}
use Prim.Native.Nat.{ℕ, ◌/◌}
use lib.ListN.{length}
use Rattle.aes.specs.State.{at}
use Rattle.aes.specs.Reply.{Check, ◌else◌, answer}
use Rattle.aes.specs.Calls.{encrypt_of}
use Rattle.aes.proofs.Replies.{AllHold}
use Rattle.masks.specs.Mask.{one, in_row}
use Rattle.masked.specs.Calls.{block_at, blocks_checks, encrypt_blocks_of}
use Rattle.masks.proofs.Row.{row_same}
use Rattle.theorems.proofs.Records.{one_offsets}
use Rattle.theorems.proofs.Result.{encrypt_published_is}

-- what is done matters only where every check holds
done_same : {A : Type 0} (before x y : A) (checks : List Check) → (AllHold checks → x ≡ y) → answer checks before x ≡ answer checks before y
unfolding AllHold
done_same before x y [] h = λ i. (0, h tt i)
done_same before x y ((true else n) ∷ checks) h = done_same before x y checks (λ t. h (tt, t))
done_same before x y ((false else n) ∷ checks) h = refl

pub encrypt_blocks_is : (w b out offsets : List ℕ) (d : ℕ)
    → encrypt_blocks_of w b out offsets d 0
    ≡ answer (blocks_checks w b out offsets d 0) out (in_row (λ k. (encrypt_of w (block_at k b) (block_at k out)).1) (length b / 16))
unfolding AllHold
encrypt_blocks_is w b out offsets d =
    done_same out _ _ (blocks_checks w b out offsets d 0)
    (λ h.
    row_same _ _ (length b / 16)
    (λ k lt.
    ap (λ (r : ℕ × List ℕ). r.1)
    (encrypt_published_is w (block_at k b) (block_at k out) (one (at offsets k)) d (one_offsets (at offsets k)) h.1.1.1.1.1.0)))
