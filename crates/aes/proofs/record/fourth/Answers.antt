-- The step that the point names.
-- Assumes nothing.
use mathlib.Core.Path.{◌≡◌}
use Prim.Native.Nat.{suc}
use native.Mathlib.Omega.{arith}
use native.Mathlib.Numerals.{add-one}
use borrow.Author.Tests.{eq-eqb, ne_eqb}
use Rattle.aes.specs.Record.{plain}
use Rattle.aes.proofs.record.fourth.Goals as goal

pub returns-then-r-rounds : goal.returns-then-r-rounds
unfolding plain
returns-then-r-rounds c =
    let last : suc c.args.r ≡ c.args.w.now.rounds = omega arith in
    (rw (eq-eqb _ _ last) (rw (← add-one c.args.r) c.key.ensures.0), c.key.ensures.1)

pub returns : goal.returns
unfolding plain
returns c =
    (rw (ne_eqb (suc c.args.r) c.args.w.now.rounds (λ e. absurd (omega arith))) c.mix.ensures.0, c.mix.ensures.1)
