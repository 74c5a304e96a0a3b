-- An unlisted packet is copied, a wrong field refused, and the rest goes its way.
-- Assumes nothing.
use mathlib.Core.Path.{◌≡◌, sym, ap, ◌∙◌}
use mathlib.Core.List.{List}
use Prim.Native.Nat.{ℕ}
use lib.Dec.{lit<}
use Rattle.packet.specs.Packet.{pipe_of}
use Rattle.packet.specs.Way.{is_back, odd_of}
use Rattle.packet.proofs.Outcome.{pipe_is, unlisted, field_wrong}
use Rattle.packet.proofs.listed.answered.Goals as goal

pub returns-in_default : goal.returns-in_default
returns-in_default c =
    let a = c.args in
    let none : 7 ≡ pipe_of a.pipes.bytes.now a.packet.bytes.now = pipe_is a.pipes.bytes.now a.packet.bytes.now (sym c.in_default.ensures) c.pid.ensures in
    ap (λ (o : List ℕ). (0, o)) c.copy.ensures
    ∙ unlisted a.packet.bytes.now a.out.now a.pipes.bytes.now (odd_of a.way) none (is_back a.way) (lit< tt)

pub returns-then-not-field_right : goal.returns-then-not-field_right
returns-then-not-field_right c =
    let a = c.args in
    field_wrong a.packet.bytes.now a.out.now a.pipes.bytes.now (odd_of a.way) (pipe_is a.pipes.bytes.now a.packet.bytes.now c.in-Some.ensures.1 c.pid.ensures) c.in-Some.ensures.0 (is_back a.way) (sym c.field_right.ensures ∙ c.if-not-field_right.true)

pub invariant_of-listed : goal.invariant_of-listed
invariant_of-listed c =
    let a = c.args in record {
      own = pipe_is a.pipes.bytes.now a.packet.bytes.now c.in-Some.ensures.1 c.pid.ensures;
      listed = c.in-Some.ensures.0;
      right = sym c.field_right.ensures ∙ c.if-not-field_right.false;
    }
