-- Each turn fills one constant more, of the masks of its label.
-- Assumes nothing.
use mathlib.Core.Path.{◌≡◌, ap, ◌∙◌}
use Prim.Native.Nat.{ℕ, ◌+◌, ◌%◌, ◌<◌}
use native.Mathlib.Omega.{arith}
use Rattle.aes.specs.State.{at, state}
use Rattle.aes.proofs.Part.{holds_none}
use Rattle.masks.specs.Kinds.{constant_of}
use Rattle.masks.specs.Mask.{one, mask, in_row}
use Rattle.masks.proofs.Columns.{constant, sized}
use Rattle.masks.proofs.Row.{row_lent}
use Rattle.masks.proofs.Rows.{room}
use Rattle.masks.proofs.Stored.{laid_out}
use Rattle.masks.proofs.constants.first_four.Goals as goal

pub loop-n-init : goal.loop-n-init
unfolding in_row
loop-n-init c = holds_none 256 _ c.told-r

pub loop-n-preserved : goal.loop-n-preserved
loop-n-preserved c =
    let n : ℕ = c.loop-n.n in
    let a = c.args in
    let lt : n < 4 = c.loop-n-test.true in
    let label : c.make.result.0 ≡ n = c.make.ensures ∙ omega (arith, lt) in
    let masks = c.mask.ensures ∙ (λ i. state (λ j. at (c.twice-twice.ensures i) (c.make.result.0 % 16 + j))) ∙ laid_out a.masks c.make.result.0 ∙ ap (mask a.masks (one 0)) label in
    row_lent (constant a.kind a.masks (one 0)) 16 (sized a.kind a.masks (one 0)) n 256 _ _ (room n (omega (arith, lt))) c.loop-n.invariant
    (c.copy_from_slice.ensures.after ∙ c.constant-c.ensures ∙ ap (constant_of a.kind) masks)
