-- Each turn fills one row more.
-- Assumes nothing.
use mathlib.Core.Path.{◌≡◌, ◌∙◌}
use mathlib.Core.List.{List}
use Prim.Native.Nat.{ℕ}
use Rattle.aes.proofs.Part.{holds_none, holds_all}
use Rattle.masks.specs.Mask.{one, mask, in_row, covers_of}
use Rattle.masks.proofs.Row.{row_size, row_lent, ended}
use Rattle.masks.proofs.Rows.{mask_size, first_is, room}
use Rattle.masks.proofs.constants.first_covers.Goals as goal

pub loop-n-init : goal.loop-n-init
unfolding in_row
loop-n-init c = holds_none 256 _ c.told-r

pub loop-n-preserved : goal.loop-n-preserved
loop-n-preserved c =
    let n : ℕ = c.loop-n.n in
    let M : List ℕ = c.args.masks in
    let lt = c.loop-n-test.true in
    row_lent (mask M (one 0)) 16 (mask_size M (one 0)) n 256 _ _ (room n lt) c.loop-n.invariant
    (c.copy_from_slice.ensures.after ∙ first_is M n c.twice-masks.ensures lt)

pub returns : goal.returns
unfolding covers_of
returns c =
    let M : List ℕ = c.args.masks in
    let end : c.loop-n.n ≡ 16 = ended c.loop-n.auto.n-end c.loop-n-test.false in
    holds_all 256 _ c.loop-n.r (rw end at c.loop-n.invariant) (row_size (mask M (one 0)) 16 (mask_size M (one 0)) 16)
