-- Each turn looks at one count more.
-- Assumes nothing.
use mathlib.Core.Bool.{Bool, true, false, cond}
use mathlib.Core.Path.{◌≡◌, refl, ap, ◌∙◌}
use Prim.Native.Nat.{ℕ, min, max}
use native.Mathlib.Numerals.{add-one}
use native.Mathlib.Omega.{arith}
use mir.Val.{bool_byte}
use Rattle.std.proofs.lemmas.Bool.Decides.{nat_tests}
use Rattle.aes.specs.Byte.{below}
use Rattle.aes.specs.State.{at}
use Rattle.beside.specs.Report.{least, greatest, picked}
use Rattle.beside.proofs.lines.Summary.with.Goals as goal

least-is : (a b : ℕ) → min a b ≡ least a b
least-is a b = grind (arith, nat_tests)

greatest-is : (a b : ℕ) → max a b ≡ greatest a b
greatest-is a b = grind (arith, nat_tests)

byte_is : (b : Bool) → bool_byte b ≡ cond b 1 0
byte_is true = refl
byte_is false = refl

pub loop-n-init : goal.loop-n-init
unfolding below picked
loop-n-init c = (refl, refl, refl)

pub loop-n-preserved : goal.loop-n-preserved
unfolding below picked
loop-n-preserved c =
    let l = c.loop-n in
    let a = c.args in
    let t : ℕ = l.n-index in (
      rw (add-one, l.invariant.0) refl,
      rw add-one (c.min-lowest.ensures ∙ least-is _ _ ∙ ap (least (at a.c t)) l.invariant.1),
      rw add-one (c.max-highest.ensures ∙ greatest-is _ _ ∙ ap (greatest (at a.c t)) l.invariant.2),
    )
