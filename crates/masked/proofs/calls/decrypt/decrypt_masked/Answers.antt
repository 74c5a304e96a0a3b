-- The checks, and then the run.
-- Assumes nothing.
use mathlib.Core.List.{List, []}
use mathlib.Core.Path.{◌≡◌, refl}
use Prim.Native.Nat.{ℕ}
use borrow.Author.Rules.{rules}
use Rattle.aes.specs.Key.{rounds_of}
use Rattle.aes.specs.Refusal.{number, reply}
use Rattle.aes.specs.Reply.{refusal}
use Rattle.aes.proofs.Outcomes.{refused_by}
use Rattle.runs.specs.Back.{masked_inv_cipher}
use Rattle.masked.specs.Calls.{back_checks}
use Rattle.masked.proofs.Checked.{block_answer}
use Rattle.masked.proofs.calls.decrypt.decrypt_masked.Goals as goal

pub returns-in_err-check : goal.returns-in_err-check
returns-in_err-check c =
    let a = c.args in
    let gave : reply c.from_residual.result ≡ number c.in_err-check.field-0.0 = search rules in
    refused_by a.output.now _ [] (back_checks a.schedule.now a.input.now a.output.now a.masks.now a.offsets.now a.step) c.in_err-check.field-0.0 gave c.in_err-check.ensures

pub returns : goal.returns
returns c =
    let a = c.args in
    let told : 0 ≡ refusal (back_checks a.schedule.now a.input.now a.output.now a.masks.now a.offsets.now a.step) = search rules in
    block_answer a.schedule.now a.input.now a.output.now a.masks.now a.offsets.now a.step 0 told refl c.lent-start.ensures (λ (v : List ℕ). masked_inv_cipher (rounds_of a.schedule.now) a.masks.now v a.step a.schedule.now a.input.now) c.decrypted.ensures
