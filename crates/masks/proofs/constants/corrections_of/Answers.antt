-- Each turn fills one constant more of each kind, of the masks that lie in its row.
-- Assumes nothing.
use mathlib.Core.Path.{◌≡◌, ap, ◌∙◌}
use mathlib.Core.List.{List}
use Prim.Native.Nat.{ℕ}
use lib.ListN.{length}
use Rattle.aes.specs.Key.{round_key}
use Rattle.aes.proofs.Part.{holds_none, holds_all}
use Rattle.masks.specs.declared.constants.Kind.{Kind}
use Rattle.masks.specs.declared.constants.Kind.TheVariants.{AfterRows, AfterColumns}
use Rattle.masks.specs.Mask.{◌⊞◌, in_row, after_rows, after_columns, constants_of}
use Rattle.masks.proofs.Columns.{kind_sized}
use Rattle.masks.proofs.Row.{row_size, row_lent, ended}
use Rattle.masks.proofs.Rows.{room}
use Rattle.masks.proofs.constants.corrections_of.Goals as goal

abbrev rows_of : List ℕ → ℕ → List ℕ
rows_of c n = after_rows (round_key c n)

abbrev columns_of : List ℕ → ℕ → List ℕ
columns_of c n = after_columns (round_key c n)

row_sized : (c : List ℕ) (n : ℕ) → length (rows_of c n) ≡ 16
row_sized c n = kind_sized AfterRows (round_key c n)

column_sized : (c : List ℕ) (n : ℕ) → length (columns_of c n) ≡ 16
column_sized c n = kind_sized AfterColumns (round_key c n)

pub loop-n-init : goal.loop-n-init
unfolding in_row
loop-n-init c = (holds_none 256 _ c.told-rows, holds_none 256 _ c.told-columns)

pub loop-n-preserved : goal.loop-n-preserved
unfolding after_rows after_columns
loop-n-preserved c =
    let n : ℕ = c.loop-n.n in
    let w : List ℕ = c.args.covers.now in
    let m : List ℕ = c.cover-m.result in
    let row = c.add.ensures ∙ ap (λ (k : List ℕ). m ⊞ k) c.inv_shift_rows.ensures in
    let mix = c.add-in-loop-n.ensures ∙ ap (λ (k : List ℕ). m ⊞ k) c.inv_mix_columns.ensures in (
      row_lent (rows_of w) 16 (row_sized w) n 256 _ _ (room n c.loop-n-test.true) c.loop-n.invariant.0 (c.laid.ensures ∙ row ∙ ap after_rows c.cover-m.ensures),
      row_lent (columns_of w) 16 (column_sized w) n 256 _ _ (room n c.loop-n-test.true) c.loop-n.invariant.1 (c.laid-in-loop-n.ensures ∙ mix ∙ ap after_columns c.cover-m.ensures),
    )

pub returns : goal.returns
unfolding constants_of
returns c =
    let w : List ℕ = c.args.covers.now in
    let end : c.loop-n.n ≡ 16 = ended c.loop-n.auto.n-end c.loop-n-test.false in
    let held = rw end at c.loop-n.invariant in (
      holds_all 256 _ c.loop-n.rows held.0 (row_size (rows_of w) 16 (row_sized w) 16),
      holds_all 256 _ c.loop-n.columns held.1 (row_size (columns_of w) 16 (column_sized w) 16),
    )
