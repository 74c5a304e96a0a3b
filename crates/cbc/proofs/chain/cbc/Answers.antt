-- After k turns the first k blocks stand in the output, and the last block of ciphertext is at hand.
-- Assumes nothing.
use mathlib.Core.Path.{◌≡◌, ◌∙◌}
use mathlib.Core.Bool.{cond}
use mathlib.Core.List.{List}
use Prim.Native.Nat.{ℕ, ◌+◌, ◌*◌, ◌/◌, ◌≤◌}
use native.Mathlib.Omega.{arith}
use lib.ListN.{length}
use Rattle.aes.proofs.Part.{holds_none, holds_all}
use Rattle.masks.specs.Mask.{in_row}
use Rattle.masks.proofs.Row.{row_size, row_lent}
use Rattle.cbc.specs.Cbc.{link}
use Rattle.cbc.proofs.Links.{made, link_size, at_first, next_last, whole_row}
use Rattle.cbc.proofs.chain.cbc.Goals as goal
use Rattle.cbc.proofs.chain.cbc.Goals.{then-back, else-back}

pub loop-k-init : goal.loop-k-init
unfolding in_row
loop-k-init c =
    let a = c.args in
    (at_first a.schedule.now a.start a.input.now a.back, holds_none (16 * a.n) a.output.now c.requires.3)

pub loop-k-preserved : goal.loop-k-preserved
loop-k-preserved c =
    let l = c.loop-k in
    let a = c.args in
    let w : List ℕ = a.schedule.now in
    let read : List ℕ = c.sixteen_at-read.result in
    let e : c.link-made.result ≡ made a.back w a.start a.input.now l.k =
    c.link-made.ensures ∙ (λ i. link a.back w (c.sixteen_at-read.ensures i) (l.invariant.0 i)) in
    let next : c.if-back.last ≡ cond a.back read c.link-made.result =
    elim c.if-back.branch [ then-back w ↦ rw w.if-back.true w.last-is | else-back w ↦ rw w.if-back.false w.last-is ] in
    let room : 16 * l.k + 16 ≤ 16 * a.n = omega arith in (
      next ∙ (λ i. cond a.back (c.sixteen_at-read.ensures i) (e i)) ∙ next_last w a.start a.input.now a.back l.k,
      row_lent (made a.back w a.start a.input.now) 16 (λ j. link_size a.back w _ _) l.k (16 * a.n) l.output _ room l.invariant.1 (c.copy_from_slice.ensures.after ∙ e),
    )

pub returns : goal.returns
returns c =
    let l = c.loop-k in
    let a = c.args in
    let f : ℕ → List ℕ = made a.back a.schedule.now a.start a.input.now in
    let all : l.k ≡ a.n = omega arith in
    let n : length a.input.now / 16 ≡ a.n = omega (arith, c.requires.2) in
    holds_all (16 * a.n) (in_row f a.n) l.output (rw all at l.invariant.1) (row_size f 16 (λ j. link_size a.back a.schedule.now _ _) a.n)
    ∙ whole_row a.schedule.now a.start a.input.now a.back n
