-- Each turn counts one line more.
-- Assumes nothing.
use mathlib.Core.Bool.{cond}
use mathlib.Core.List.{List}
use mathlib.Core.Path.{◌≡◌, refl, ap, ◌∙◌}
use Prim.Native.Nat.{ℕ, zero, suc, ◌+◌, ◌*◌, ◌≤◌, ◌<◌}
use native.Mathlib.Numerals.{add-one}
use native.Mathlib.Omega.{arith}
use lib.Dec.{eqb}
use lib.ListN.{length}
use Rattle.aes.specs.Byte.{table, below}
use Rattle.aes.specs.State.{at}
use Rattle.aes.proofs.Part.{holds_none, holds_all}
use Rattle.masks.specs.Mask.{in_row}
use Rattle.masks.proofs.Row.{ended, row_size, row_lent}
use Rattle.beside.specs.Report.{counts_at, all_counts, least, greatest, picked, even_lines, picked_of, lowest_of, highest_of}
use Rattle.beside.proofs.Even.{one_at_most}
use Rattle.beside.proofs.lines.report.Goals as goal

sized : (M : List ℕ) (n : ℕ) → length (counts_at M n) ≡ 8
unfolding counts_at table
sized M n = refl

pub loop-n-init : goal.loop-n-init
unfolding in_row even_lines picked_of
loop-n-init c = (holds_none 50176 _ c.told-lines, refl, refl, refl)

even-le : (M : List ℕ) (n : ℕ) → even_lines (counts_at M) n ≤ n
unfolding even_lines
even-le M zero = omega arith
even-le M (suc n) = omega (arith, even-le M n, one_at_most (below 8 (λ t. eqb (at (counts_at M n) t) 2)))

pub with-s-requires : goal.with-s-requires
with-s-requires c =
    let l = c.loop-n in
    let a = c.args in
    rw l.invariant.1 (under (even-le a.masks l.n) c.loop-n-test.true)
  where
    under : {k n : ℕ} → k ≤ n → n < 6272 → k < 6272
    under le lt = omega (arith, le, lt)

room : {n : ℕ} → n < 6272 → 8 * n + 8 ≤ 50176
room lt = omega (arith, lt)

pub loop-n-preserved : goal.loop-n-preserved
unfolding even_lines picked_of
loop-n-preserved c =
    let l = c.loop-n in
    let a = c.args in
    let M : List ℕ = a.masks in
    let n : ℕ = l.n in
    let lt = c.loop-n-test.true in
    let one = c.line-c.ensures in (
      row_lent (counts_at M) 8 (sized M) n 50176 l.lines _ (room lt) l.invariant.0 (c.copy_from_slice.ensures.after ∙ one),
      rw add-one (c.with-s.ensures.0 ∙ λ i. l.invariant.1 i + cond (below 8 (λ t. eqb (at (one i) t) 2)) 1 0),
      rw add-one (c.with-s.ensures.1 ∙ λ i. picked least (one i) 8 (l.invariant.2 i)),
      rw add-one (c.with-s.ensures.2 ∙ λ i. picked greatest (one i) 8 (l.invariant.3 i)),
    )

pub returns : goal.returns
returns c =
    let l = c.loop-n in
    let M : List ℕ = c.args.masks in
    let end : l.n ≡ 6272 = ended l.auto.n-end c.loop-n-test.false in (
      holds_all 50176 (all_counts M) l.lines (rw end at l.invariant.0) (row_size (counts_at M) 8 (sized M) 6272),
      λ i. ((l.invariant.1 ∙ ap (even_lines (counts_at M)) end) i, (l.invariant.2 ∙ ap (lowest_of (counts_at M)) end) i, (l.invariant.3 ∙ ap (highest_of (counts_at M)) end) i),
    )
