-- Each turn counts the pattern of one more mask.
-- Assumes nothing.
use mathlib.Core.Path.{refl, sym}
use Prim.Native.Nat.{ℕ, ◌+◌, ◌<◌, ◌^◌}
use borrow.Author.Rules.{rules}
use native.Mathlib.Omega.{arith}
use Rattle.beside.specs.Fitness.{count}
use Rattle.beside.specs.Counts.{word, counted}
use Rattle.beside.proofs.Even.{pattern_lt, counted_lt, counted_more}
use Rattle.beside.proofs.fit.counted.Invariants.{shown}
use Rattle.beside.proofs.fit.counted.Goals as goal

pub loop-m-init : goal.loop-m-init
unfolding word count
loop-m-init c = refl

pub overflow_add-counts : goal.overflow_add-counts
overflow_add-counts c =
    let a = c.args in
    let l = c.loop-m in
    let g : ℕ → ℕ = shown a.masks.now a.x a.y a.z in
    let lt : counted g (l.m-index + 1) < 2 ^ 64 = counted_lt g (l.m-index + 1) (omega (arith, c.loop-m-test.true)) in
    rw (l.invariant, c.tick-counts.ensures, ← counted_more g l.m-index (pattern_lt _ _ _ _)) (search rules)

pub loop-m-preserved : goal.loop-m-preserved
loop-m-preserved c =
    let a = c.args in
    let g : ℕ → ℕ = shown a.masks.now a.x a.y a.z in
    rw (c.loop-m.invariant, c.tick-counts.ensures) (sym (counted_more g c.loop-m.m-index (pattern_lt _ _ _ _)))
