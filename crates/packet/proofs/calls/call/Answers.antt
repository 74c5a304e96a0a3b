-- A refusal changes nothing; past it stands what is answered for the PID.
-- Assumes nothing.
use Rattle.std.proofs.lemmas.Result.{err_from_is_err_and}
use Rattle.aes.proofs.Outcomes.{refusal_tells}
use Rattle.aes.proofs.Replies.{refused}
use Rattle.packet.specs.Way.{is_back}
use Rattle.packet.specs.Calls.{first_checks, later_checks}
use Rattle.packet.proofs.calls.call.Goals as goal

pub returns-in_err-packet : goal.returns-in_err-packet
returns-in_err-packet c =
    let a = c.args in
    let p = err_from_is_err_and c.from_residual.result c.from_residual.ensures.1 in
    rw (p.1, p.2) (refused a.packet_out.now _ (later_checks (is_back a.way) a.pipes.now a.packet.now) (first_checks a.packet.now a.packet_out.now a.pipes.now) c.in_err-packet.ensures.told (refusal_tells _))
