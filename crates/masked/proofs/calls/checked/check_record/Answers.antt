-- The checks that are told together, and then the record's length.
-- Assumes nothing.
use mathlib.Core.Path.{◌≡◌, ◌∙◌}
use mathlib.Core.List.{List, [], ◌∷◌}
use Prim.Native.Nat.{◌+◌, ◌*◌}
use borrow.Author.Rules.{rules}
use lib.Dec.{eqb}
use lib.ListN.{length}
use Rattle.aes.specs.Key.{rounds_of}
use Rattle.aes.specs.Refusal.{number, reply}
use Rattle.aes.specs.Reply.{Check, ◌else◌, refusal}
use Rattle.aes.proofs.Outcomes.{refusal_tells}
use Rattle.masked.proofs.Checked.{record_first, record_refusal, first_fails}
use Rattle.masked.proofs.calls.checked.check_record.Goals as goal

pub returns-in_err-check : goal.returns-in_err-check
returns-in_err-check c =
    let a = c.args in
    let first : List Check = record_first a.schedule.now a.input.now a.masks.now a.offsets.now a.step in
    let gave : reply c.from_residual-in_err-check.result ≡ number c.in_err-check.field-0.0 = search rules in
    let told : number c.in_err-check.field-0.0 ≡ refusal first = c.in_err-check.ensures ∙ record_refusal a.schedule.now a.input.now a.masks.now a.offsets.now a.step in
    gave ∙ told ∙ first_fails first ((eqb (length a.states.now) (16 * (a.each * rounds_of a.schedule.now + 1)) else 8) ∷ []) (λ none. refusal_tells c.in_err-check.field-0.0 (told ∙ none))
