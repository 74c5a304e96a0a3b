-- The checks, and then the run.
-- Assumes nothing.
use mathlib.Core.List.{List, []}
use mathlib.Core.Path.{◌≡◌, refl}
use Prim.Native.Nat.{ℕ, ◌+◌, ◌*◌}
use borrow.Author.Rules.{rules}
use Rattle.aes.specs.Key.{rounds_of}
use Rattle.aes.specs.Record.{bytes}
use Rattle.aes.specs.Refusal.{number, reply}
use Rattle.aes.specs.Reply.{refusal}
use Rattle.aes.proofs.Outcomes.{refused_by}
use Rattle.runs.specs.Run.{masked_record}
use Rattle.masked.specs.Calls.{record_checks}
use Rattle.masked.proofs.Checked.{states_answer}
use Rattle.masked.proofs.calls.record.record_masked.Goals as goal

pub returns-in_err-check_record : goal.returns-in_err-check_record
returns-in_err-check_record c =
    let a = c.args in
    let gave : reply c.from_residual.result ≡ number c.in_err-check_record.field-0.0 = search rules in
    refused_by a.states.now _ [] (record_checks (16 * (5 * rounds_of a.schedule.now + 1)) a.schedule.now a.input.now a.masks.now a.offsets.now a.step a.states.now) c.in_err-check_record.field-0.0 gave c.in_err-check_record.ensures

pub returns : goal.returns
returns c =
    let a = c.args in
    let told : 0 ≡ refusal (record_checks (16 * (5 * rounds_of a.schedule.now + 1)) a.schedule.now a.input.now a.masks.now a.offsets.now a.step a.states.now) = search rules in
    states_answer (16 * (5 * rounds_of a.schedule.now + 1)) a.schedule.now a.input.now a.masks.now a.offsets.now a.step a.states.now told refl c.lent-start.ensures (λ (v : List ℕ). bytes (masked_record (rounds_of a.schedule.now) a.masks.now v a.step a.schedule.now a.input.now)) c.recorded.ensures
