-- Each turn of the inner loop fills one more mask of a column, and each of the outer one a column.
-- Assumes nothing.
use mathlib.Core.Path.{◌≡◌, refl, sym, ap, ◌∙◌}
use mathlib.Core.List.{List}
use Prim.Native.Nat.{ℕ, ◌+◌, ◌*◌, ◌%◌}
use native.Mathlib.Omega.{arith}
use Rattle.aes.specs.State.{at}
use Rattle.masks.proofs.Rows.{down_more, down_all, covers_bytes, cover_is}
use Rattle.masks.proofs.label.Offsets.covers.Goals as goal

next : (i k : ℕ) → 16 * i + k + 1 ≡ 16 * i + (k + 1)
next i k = omega arith

pub loop-k-preserved : goal.loop-k-preserved
loop-k-preserved c =
    let inner = c.loop-k in
    let v : List ℕ = c.args.self.0 in
    let i : ℕ = c.loop-i.i in
    let k : ℕ = inner.k in
    let lt = c.loop-k-test.true in
    let there = c.loop-i-test.true in
    rw (next i k) at (down_more k i lt there refl (ap (λ (t : List ℕ). at t (at v i % 16 + k)) c.twice-masks.ensures ∙ cover_is c.args.masks v k i lt there) inner.invariant)

pub returns : goal.returns
returns c =
    down_all c.loop-i.invariant (omega (arith, c.loop-i-test.false)) ∙ sym (covers_bytes c.args.masks c.args.self.0)
