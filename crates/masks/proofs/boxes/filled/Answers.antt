-- After n turns the boxes of n labels stand in the array.
-- Assumes nothing.
use mathlib.Core.List.{List}
use mathlib.Core.Path.{◌≡◌, ◌∙◌}
use Prim.Native.Nat.{ℕ, ◌+◌, ◌%◌}
use native.Mathlib.Omega.{arith}
use borrow.Rule.Slice.PartMut.{same_len_mid}
use lib.ListN.{length}
use Rattle.aes.specs.Byte.{◌⊕◌, table}
use Rattle.aes.specs.State.{at}
use Rattle.aes.proofs.Listed.{table-length}
use Rattle.aes.proofs.Part.{holds_none, holds_all}
use Rattle.masks.specs.Mask.{in_row, masked_box, masked_boxes}
use Rattle.masks.proofs.Row.{ended, row_size, row_lent}
use Rattle.masks.proofs.boxes.filled.Invariants.{box}
use Rattle.masks.proofs.boxes.filled.Goals as goal

box-size : (S : ℕ → ℕ) (M : List ℕ) (d j : ℕ) → length (box S M d j) ≡ 256
box-size S M d j = table-length (masked_box S M d j) 256

pub loop-n-init : goal.loop-n-init
unfolding in_row
loop-n-init c = (c.told-boxes, λ S e. holds_none 4096 _ c.told-boxes)

pub loop-n-preserved : goal.loop-n-preserved
unfolding masked_box
loop-n-preserved c =
    let l = c.loop-n in
    let a = c.args in
    let M : List ℕ = a.masks in
    let n : ℕ = l.n in
    let taken : c.read.result ≡ n % 16 = omega (arith, c.read.ensures, c.next-l.ensures.0) in
    let given : c.read-in-loop-n.result ≡ (n + a.step) % 16 = omega (arith, c.read-in-loop-n.ensures, c.next-given.ensures.0, c.next-l.ensures.0) in (
      same_len_mid _ _ l.boxes _ c.fill.auto.part ∙ l.invariant.0,
      λ S e.
          row_lent (box S M a.step) 256 (box-size S M a.step) n 4096 l.boxes _ (omega (arith, c.loop-n-test.true)) (l.invariant.1 S e)
          (c.fill.ensures S (c.turned.ensures S e) ∙ λ i. table (λ x. S (x ⊕ at M (taken i)) ⊕ at M (given i)) 256),
    )

pub returns : goal.returns
unfolding masked_boxes
returns c S e =
    let l = c.loop-n in
    let a = c.args in
    let end : l.n ≡ 16 = ended l.auto.n-end c.loop-n-test.false in
    holds_all 4096 (in_row (box S a.masks a.step) 16) l.boxes (rw end at (l.invariant.1 S e)) (row_size (box S a.masks a.step) 256 (box-size S a.masks a.step) 16)
