-- Past the checks, the sheet's masks and its step.
-- Assumes nothing.
use borrow.Author.Rules.{rules}
use mathlib.Core.List.{List, []}
use mathlib.Core.Path.{◌≡◌, refl, ◌∙◌}
use Prim.Native.Nat.{ℕ}
use Rattle.aes.specs.Refusal.{number, reply, value}
use Rattle.aes.specs.Reply.{step_of, refusal}
use Rattle.aes.proofs.Outcomes.{refused_by}
use Rattle.aes.proofs.Replies.{telling, passed}
use Rattle.masks.specs.Sheet.{masks_of, read_checks}
use Rattle.masks.proofs.sheet.read_sheet.Goals as goal

pub returns-in_err-check_read : goal.returns-in_err-check_read
returns-in_err-check_read c =
    let a = c.args in
    let sheet : List ℕ = a.sheet.now in
    let gave : reply c.from_residual.result ≡ number c.in_err-check_read.field-0.0 = search rules in
    let none : value c.from_residual.result ≡ 0 = search rules in
    (λ i. (reply c.from_residual.result, (none i, a.masks.now)))
    ∙ refused_by (0, a.masks.now) (step_of sheet, masks_of sheet) [] (read_checks sheet a.masks.now) c.in_err-check_read.field-0.0 gave c.in_err-check_read.ensures

pub returns : goal.returns
unfolding telling masks_of
returns c =
    let a = c.args in
    let sheet : List ℕ = a.sheet.now in
    let told : 0 ≡ refusal (read_checks sheet a.masks.now) = search rules in
    (λ i. (0, (c.step.ensures i, c.copy_from_slice.ensures.after i)))
    ∙ passed (0, a.masks.now) (step_of sheet, masks_of sheet) [] (read_checks sheet a.masks.now) tt told refl
