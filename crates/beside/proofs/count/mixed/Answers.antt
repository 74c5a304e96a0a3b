-- Each turn fills one more byte, of the masks over a state that are moved by the two steps.
-- Assumes nothing.
use mathlib.Core.List.{List}
use mathlib.Core.Path.{◌≡◌, ap, ◌∙◌}
use Prim.Native.Nat.{ℕ, ◌+◌, ◌%◌}
use native.Mathlib.Omega.{arith}
use borrow.Author.Rules.{rules}
use Rattle.aes.specs.Byte.{table}
use Rattle.aes.specs.State.{at, state, shift_rows, mix_columns}
use Rattle.aes.proofs.Fill.{filled_more, filled_all}
use Rattle.aes.proofs.Listed.{table_same}
use Rattle.masks.specs.Mask.{one, mask}
use Rattle.masks.proofs.Stored.{laid_out}
use Rattle.beside.specs.Report.{mixed_over}
use Rattle.beside.proofs.count.mixed.Invariants.{moved}
use Rattle.beside.proofs.count.mixed.Goals as goal

pub loop-n-preserved : goal.loop-n-preserved
loop-n-preserved c =
    let l = c.loop-n in
    let label : c.make.result.0 % 16 ≡ l.n % 16 = ap (λ (n : ℕ). n % 16) c.make.ensures ∙ omega arith in
    let tw : List ℕ = c.twice-twice.result in
    filled_more l.invariant (search rules) (ap (λ (s : List ℕ). at s c.args.byte) (c.mix_columns-m.ensures
    ∙ ap mix_columns (c.shift_rows.ensures ∙ ap shift_rows (c.mask.ensures ∙ ap (λ (k : ℕ). state (λ i. at tw (k + i))) label))))

pub returns : goal.returns
unfolding mixed_over table
returns c =
    let l = c.loop-n in
    let a = c.args in
    let M : List ℕ = a.masks in
    filled_all l.invariant (search rules)
    ∙ table_same (moved c.twice-twice.result a.byte) (λ l. at (mix_columns (shift_rows (mask M (one 0) l))) a.byte) 16
    (λ l h. ap (λ (s : List ℕ). at (mix_columns (shift_rows s)) a.byte) (ap (λ (t : List ℕ). state (λ k. at t (l % 16 + k))) c.twice-twice.ensures ∙ laid_out M l))
