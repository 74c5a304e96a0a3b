-- Each turn fills one constant more, of the masks that lie in its row.
-- Assumes nothing.
use mathlib.Core.Path.{◌≡◌, ap, ◌∙◌}
use mathlib.Core.List.{List}
use Prim.Native.Nat.{ℕ}
use lib.ListN.{length}
use Rattle.aes.specs.Key.{round_key}
use Rattle.aes.proofs.Part.{holds_none, holds_all}
use Rattle.masks.specs.Kinds.{constant_of}
use Rattle.masks.specs.Mask.{in_row, constants_of}
use Rattle.masks.specs.declared.constants.Kind.{Kind}
use Rattle.masks.proofs.Columns.{kind_sized}
use Rattle.masks.proofs.Row.{row_size, row_lent, ended}
use Rattle.masks.proofs.Rows.{room}
use Rattle.masks.proofs.constants.of_covers.Goals as goal

abbrev worked : Kind → List ℕ → ℕ → List ℕ
worked k c n = constant_of k (round_key c n)

sized : (k : Kind) (c : List ℕ) (n : ℕ) → length (worked k c n) ≡ 16
sized k c n = kind_sized k (round_key c n)

pub loop-n-init : goal.loop-n-init
unfolding in_row
loop-n-init c = holds_none 256 _ c.told-r

pub loop-n-preserved : goal.loop-n-preserved
loop-n-preserved c =
    let n : ℕ = c.loop-n.n in
    let a = c.args in
    row_lent (worked a.kind a.covers.now) 16 (sized a.kind a.covers.now) n 256 _ _ (room n c.loop-n-test.true) c.loop-n.invariant
    (c.copy_from_slice.ensures.after ∙ c.constant-c.ensures ∙ ap (constant_of a.kind) c.cover.ensures)

pub returns : goal.returns
unfolding constants_of
returns c =
    let a = c.args in
    let end : c.loop-n.n ≡ 16 = ended c.loop-n.auto.n-end c.loop-n-test.false in
    holds_all 256 _ c.loop-n.r (rw end at c.loop-n.invariant) (row_size (worked a.kind a.covers.now) 16 (sized a.kind a.covers.now) 16)
