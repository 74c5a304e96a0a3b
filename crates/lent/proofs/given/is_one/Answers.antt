-- Each turn looks at one offset more.
-- Assumes nothing.
use mathlib.Core.Path.{◌≡◌, refl}
use mathlib.Core.Bool.{Bool, ◌&&◌}
use Prim.Native.Nat.{ℕ, ◌+◌, ◌%◌}
use native.Mathlib.Numerals.{add-one}
use Rattle.aes.specs.Byte.{below}
use Rattle.aes.specs.State.{at}
use Rattle.lent.proofs.given.is_one.Invariants.{so}
use Rattle.lent.proofs.given.is_one.Goals as goal

pub loop-i-init : goal.loop-i-init
unfolding below
loop-i-init c = refl

more : (p : ℕ → Bool) (n : ℕ) (r : Bool) → r ≡ below n p → (p n && r) ≡ below (n + 1) p
unfolding below
more p n r e = rw (add-one, e)

pub loop-i-preserved : goal.loop-i-preserved
loop-i-preserved c =
    let l = c.loop-i in
    more (so c.args.v (at c.args.v 0 % 16)) l.i l.r l.invariant
