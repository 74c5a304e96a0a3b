-- Each turn of the inner loop fills one more place, and each of the outer one a row.
-- Assumes nothing.
use mathlib.Core.Path.{◌≡◌, sym, ◌∙◌}
use Prim.Native.Nat.{ℕ, ◌+◌, ◌*◌}
use native.Mathlib.Omega.{arith}
use Rattle.aes.specs.Byte.{table}
use Rattle.aes.proofs.Fill.{filled_more, filled_all}
use Rattle.masks.proofs.Rows.{places_bytes, place_is}
use Rattle.masks.proofs.label.Offsets.places.Goals as goal

next : (k i : ℕ) → 16 * k + i + 1 ≡ 16 * k + (i + 1)
next k i = omega arith

pub loop-i-preserved : goal.loop-i-preserved
loop-i-preserved c =
    let inner = c.loop-i in
    let k : ℕ = c.loop-k.k in
    let lt = c.loop-i-test.true in
    rw (next k inner.i) at (filled_more inner.invariant (omega (arith, c.loop-k-test.true, lt)) (place_is _ k inner.i lt))

pub returns : goal.returns
unfolding table
returns c =
    filled_all c.loop-k.invariant (omega (arith, c.loop-k-test.false)) ∙ sym (places_bytes _)
