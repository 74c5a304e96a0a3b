-- Each turn of the inner loop fills one more byte with what f has there, and each of the outer one a row.
-- Assumes nothing.
use mathlib.Core.Path.{◌≡◌, sym, ap, ◌∙◌}
use Prim.Native.Nat.{ℕ, ◌+◌, ◌*◌, ◌≤◌, ◌<◌}
use native.Mathlib.Omega.{arith}
use lib.Bits.{xor_lt}
use lib.ListN.{length-set}
use Rattle.aes.specs.Byte.{◌⊕◌}
use Rattle.aes.proofs.Fill.{filled_more}
use Rattle.masks.proofs.Turned.{holds_filled, filled_holds, in_row_of}
use Rattle.masks.proofs.boxes.doubled.Goals as goal

pub loop-i-preserved : goal.loop-i-preserved
loop-i-preserved g c =
    let l = c.loop-i in
    let k : ℕ = g.row.K in
    let n : ℕ = c.loop-n.n in
    let hn : n < 16 * k = c.loop-n-test.true in
    let hi : l.i < 16 = c.loop-i-test.true in
    let hk : k < 16 = omega (arith, c.requires) in
    let hx : l.i ⊕ k < 16 = xor_lt 4 l.i k hi hk in
    let next : 256 * k + 16 * n + l.i + 1 ≡ 256 * k + 16 * n + (l.i + 1) = omega arith in
    let place : 256 * k + (16 * n + l.i) ≡ 256 * k + 16 * n + l.i = omega arith in (
      length-set _ _ _ ∙ l.invariant.0,
      λ f h law.
          let filled = l.invariant.1 f h law in
          rw next at (filled_more filled (omega (arith, hn, hi, c.requires))
          (filled.so_far (16 * n + (l.i ⊕ k)) (omega (arith, hn, hx)) ∙ sym (ap f (in_row_of k n l.i hk hi)) ∙ law (16 * n + l.i) (omega (arith, hn, hi)) ∙ ap f place)),
    )

pub returns : goal.returns
returns g c =
    let l = c.loop-n in
    let k : ℕ = g.row.K in
    let end : 256 * k + 16 * l.n ≡ 512 * k = omega (arith, l.auto.n-end, c.loop-n-test.false) in (
      l.invariant.0 ∙ sym c.told-r,
      λ n f h law.
          let size : n ≡ 4096 = omega (arith, h.size, c.told-r) in
          let first : 256 * k ≤ 4096 = omega (arith, c.requires) in
          rw (size, ← end) (filled_holds (l.invariant.1 f (holds_filled first (rw size at h)) law)),
    )
