-- The checks; and then each block as in a call of its own.
-- Assumes nothing.
use mathlib.Core.List.{[]}
use mathlib.Core.Path.{◌≡◌, refl, ◌∙◌}
use borrow.Author.Rules.{rules}
use Rattle.aes.specs.Refusal.{number, reply}
use Rattle.aes.specs.Reply.{refusal}
use Rattle.aes.proofs.Outcomes.{refused_by}
use Rattle.aes.proofs.Replies.{telling, passed}
use Rattle.masked.specs.Calls.{blocks_checks}
use Rattle.masked.proofs.Batch.{passed_blocks, as_single}
use Rattle.masked.proofs.calls.many.encrypt_blocks.Goals as goal

pub returns-in_err-check : goal.returns-in_err-check
returns-in_err-check c =
    let a = c.args in
    let gave : reply c.from_residual.result ≡ number c.in_err-check.field-0.0 = search rules in
    refused_by a.output.now _ [] (blocks_checks a.schedule.now a.input.now a.output.now a.offsets.now a.step a.form) c.in_err-check.field-0.0 gave c.in_err-check.ensures

pub returns : goal.returns
unfolding telling
returns c =
    let a = c.args in
    let told : 0 ≡ refusal (blocks_checks a.schedule.now a.input.now a.output.now a.offsets.now a.step a.form) = search rules in
    (λ i. (0, (c.in_turn.ensures ∙ as_single (passed_blocks a.schedule.now a.input.now a.output.now a.offsets.now a.step a.form told refl)) i))
    ∙ passed a.output.now _ [] (blocks_checks a.schedule.now a.input.now a.output.now a.offsets.now a.step a.form) tt told refl
