-- The mask, and what is made of it, by the kind.
-- Assumes nothing.
use mathlib.Core.List.{List}
use mathlib.Core.Path.{sym, ap, ◌∙◌}
use Prim.Native.Nat.{ℕ}
use Rattle.aes.specs.State.{mix_columns}
use Rattle.masks.specs.Mask.{◌⊞◌, compensation, after_rows, after_columns}
use Rattle.masks.specs.declared.constants.Kind.{Kind}
use Rattle.masks.specs.Kinds.{constant_of}
use Rattle.masks.proofs.constants.constant.Goals as goal

pub returns-in-Compensation : goal.returns-in-Compensation
unfolding compensation
returns-in-Compensation c =
    let m : List ℕ = c.args.m in
    c.add.ensures ∙ ap (λ (k : List ℕ). m ⊞ k) (c.mix_columns.ensures ∙ ap mix_columns c.shift_rows.ensures)
    ∙ ap (λ (k : Kind). constant_of k m) (sym c.in-Compensation.is)

pub returns-in-AfterRows : goal.returns-in-AfterRows
unfolding after_rows
returns-in-AfterRows c =
    let m : List ℕ = c.args.m in
    c.add-in-AfterRows.ensures ∙ ap (λ (k : List ℕ). m ⊞ k) c.inv_shift_rows.ensures ∙ ap (λ (k : Kind). constant_of k m) (sym c.in-AfterRows.is)

pub returns-in-AfterColumns : goal.returns-in-AfterColumns
unfolding after_columns
returns-in-AfterColumns c =
    let m : List ℕ = c.args.m in
    c.add-in-AfterColumns.ensures ∙ ap (λ (k : List ℕ). m ⊞ k) c.inv_mix_columns.ensures ∙ ap (λ (k : Kind). constant_of k m) (sym c.in-AfterColumns.is)
