-- Each turn of the inner loop fills one more byte, and each of the outer one a row.
-- Assumes nothing.
use mathlib.Core.List.{List}
use mathlib.Core.Path.{◌≡◌, ap, ◌∙◌}
use Prim.Native.Nat.{ℕ, ◌+◌, ◌*◌, ◌/◌, ◌%◌, ◌≤◌, ◌<◌}
use native.Mathlib.Omega.{arith}
use borrow.Author.Rules.{rules}
use Rattle.aes.specs.Byte.{◌⊕◌, table}
use Rattle.aes.specs.State.{at}
use Rattle.aes.proofs.Fill.{filled_more, filled_all}
use Rattle.aes.proofs.Listed.{table_at}
use Rattle.masks.specs.Parts.{turned_table}
use Rattle.masks.proofs.Turned.{row_of, row_high, row_below}
use Rattle.masks.proofs.boxes.fill.Goals as goal

pub bounds-tables-row : goal.bounds-tables-row
bounds-tables-row c =
    let high = row_high c.loop-b.b c.args.«from» c.loop-b-test.true (search rules) in omega (arith, high, c.loop-i-test.true)

pub loop-i-preserved : goal.loop-i-preserved
loop-i-preserved c =
    let a = c.args in
    let m : ℕ = a.«from» in
    let b : ℕ = c.loop-b.b in
    let i : ℕ = c.loop-i.i in
    let hb : b < 16 = c.loop-b-test.true in
    let hi : i < 16 = c.loop-i-test.true in
    let p : ℕ = 256 * (m % 16) + 16 * (b ⊕ (m / 16)) in
    let below : p + 16 ≤ 4096 = row_below (m % 16) (b ⊕ (m / 16)) (omega arith) (row_high b m hb (search rules)) in
    let next : 16 * b + i + 1 ≡ 16 * b + (i + 1) = omega arith in
    λ f same.
    rw next at (filled_more (c.loop-i.invariant f same) (omega (arith, hb, hi))
    (ap (λ (x : ℕ). x ⊕ a.to)
    (ap (λ (ts : List ℕ). at ts (p + i)) same ∙ table_at (turned_table f) 4096 (p + i) (omega (arith, below, hi)) ∙ row_of f b i m hb hi (search rules))))

pub returns : goal.returns
unfolding table
returns c = λ f same. filled_all (c.loop-b.invariant f same) (omega (arith, c.loop-b-test.false))
