-- The copy with its bits, and the whole blocks laid into it.
-- Assumes nothing.
use mathlib.Core.Path.{◌≡◌, ap, ◌∙◌}
use mathlib.Core.Bool.{cond}
use mathlib.Core.List.{List}
use Prim.Native.Nat.{ℕ}
use native.Mathlib.Omega.{arith}
use Rattle.packet.specs.Packet.{parity, with_bits}
use Rattle.packet.proofs.Splice.{changed_laid}
use Rattle.packet.proofs.listed.Listed.changed.Goals as goal
use Rattle.packet.proofs.listed.Listed.changed.Goals.{then-back, else-back}

pub returns : goal.returns
returns c =
    let a = c.args in
    let l = a.self.now in
    let p : List ℕ = l.packet.bytes.now in
    let bits : c.if-back.bits ≡ cond a.back 0 (parity a.odd) =
    elim c.if-back.branch [ then-back w ↦ rw w.if-back.true w.bits-is | else-back w ↦ rw w.if-back.false (w.bits-is ∙ w.parity-bits.ensures) ] in
    let marked : c.marked.new.out ≡ with_bits (cond a.back 0 (parity a.odd)) p = c.marked.ensures ∙ ap (λ (n : ℕ). with_bits n p) bits in
    changed_laid a.back (cond a.back 0 (parity a.odd)) a.odd l.pipes.bytes.now l.k p (omega (arith, l.packet.whole))
    c.start-s.ensures c.schedule-schedule.ensures.0 c.starting_block-start.ensures marked c.cbc.ensures
