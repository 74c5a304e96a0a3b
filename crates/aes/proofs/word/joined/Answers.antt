-- The bytes of four words, one after the other.
-- Assumes nothing.
use mathlib.Core.List.{List, [], ◌∷◌}
use Prim.Native.Nat.{ℕ}
use Rattle.aes.specs.State.{at}
use Rattle.aes.specs.Word.{word_of}
use Rattle.aes.proofs.word.joined.Goals as goal

four : List ℕ → List ℕ → List ℕ → List ℕ → List ℕ
four p q r s =
    at p 0 ∷ at p 1 ∷ at p 2 ∷ at p 3 ∷ at q 0 ∷ at q 1 ∷ at q 2 ∷ at q 3 ∷ at r 0 ∷ at r 1 ∷ at r 2 ∷ at r 3 ∷ at s 0 ∷ at s 1 ∷ at s 2 ∷ at s 3 ∷ []

pub returns : goal.returns
unfolding word_of four
returns c =
    λ i. four (c.bytes-p.ensures i) (c.bytes-q.ensures i) (c.bytes-r.ensures i) (c.bytes-s.ensures i)
