-- What a call's checks tell where none fails, and how a test on a result is one on what it is.
-- Assumes nothing.
use mathlib.Core.Path.{◌≡◌, refl}
use mathlib.Core.Bool.{Bool, true, false}
use mathlib.Core.List.{List, [], ◌∷◌}
use Prim.Native.Nat.{ℕ, ◌≤◌}
use borrow.Author.Tests.{le-leb}
use native.Mathlib.Omega.{arith}
use lib.Dec.{eqb, leb}
use lib.ListN.{length}
use Rattle.aes.specs.Reply.{◌else◌, refusal, is_full_schedule}

pub upto : {m n : ℕ} (k : ℕ) → m ≡ n → m ≤ k → leb n k ≡ true
upto {m} {n} k e h = rw (← e) (le-leb m k h)

-- a schedule that is not refused
pub is_whole : (w : List ℕ) → 0 ≡ refusal (is_full_schedule w ∷ []) → eqb (length w) 240 ≡ true
is_whole w e = by_case (eqb (length w) 240) e
  where
    by_case : (b : Bool) → 0 ≡ refusal ((b else 2) ∷ []) → b ≡ true
    by_case true h = refl
    by_case false h = absurd (omega (arith, h))
