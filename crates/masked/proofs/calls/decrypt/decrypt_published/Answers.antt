-- The checks, and then the run.
-- Assumes nothing.
use mathlib.Core.List.{List, []}
use mathlib.Core.Path.{◌≡◌, refl, ap, ◌∙◌}
use Prim.Native.Nat.{ℕ}
use borrow.Author.Rules.{rules}
use Rattle.aes.specs.Key.{rounds_of}
use Rattle.aes.specs.Refusal.{number, reply}
use Rattle.aes.specs.Reply.{refusal}
use Rattle.aes.proofs.Outcomes.{refused_by}
use Rattle.aes.proofs.Replies.{telling, passed}
use Rattle.masks.specs.Mask.{published}
use Rattle.runs.specs.Back.{masked_inv_cipher}
use Rattle.lent.specs.Started.{record_of}
use Rattle.lent.proofs.Begun.{record_lent}
use Rattle.masked.specs.Calls.{checks, published_back_checks}
use Rattle.masked.proofs.Checked.{published-refusal, sizes}
use Rattle.masked.proofs.calls.decrypt.decrypt_published.Goals as goal

pub returns-in_err-check : goal.returns-in_err-check
returns-in_err-check c =
    let a = c.args in
    let gave : reply c.from_residual.result ≡ number c.in_err-check.field-0.0 = search rules in
    refused_by a.output.now _ [] (published_back_checks a.schedule.now a.input.now a.output.now a.offsets.now a.step) c.in_err-check.field-0.0 gave (c.in_err-check.ensures ∙ published-refusal a.schedule.now a.input.now a.output.now a.offsets.now a.step 0)

pub returns : goal.returns
unfolding telling
returns c =
    let a = c.args in
    let told : 0 ≡ refusal (checks a.schedule.now a.input.now a.output.now a.input.now a.offsets.now a.step 0) = search rules in
    let s = sizes a.schedule.now a.input.now a.output.now a.input.now a.offsets.now a.step 0 told refl in
    let v-is = ap record_of c.lent-start.ensures ∙ record_lent a.offsets.now s.offsets in
    (λ i. (0, (c.unsealed.ensures ∙ ap (λ (v : List ℕ). masked_inv_cipher (rounds_of a.schedule.now) published v a.step a.schedule.now a.input.now) v-is) i))
    ∙ passed a.output.now _ [] (published_back_checks a.schedule.now a.input.now a.output.now a.offsets.now a.step) tt (told ∙ published-refusal a.schedule.now a.input.now a.output.now a.offsets.now a.step 0) refl
