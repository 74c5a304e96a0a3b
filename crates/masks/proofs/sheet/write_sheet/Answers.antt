-- Past the checks, mark, version and masks and, in version 2, the step.
-- Assumes nothing.
use borrow.Author.Rules.{rules}
use mathlib.Core.List.{List, [], ◌∷◌}
use mathlib.Core.Path.{◌≡◌, refl, ◌∙◌}
use Prim.Native.Nat.{ℕ}
use lib.ListN.{length}
use Rattle.aes.specs.Reply.{Check, is_step, is_sheet_of, is_mask_table, refusal}
use Rattle.aes.proofs.Replies.{telling, passed}
use Rattle.masks.specs.Sheet.{sheet_of}
use Rattle.masks.proofs.Headed.{stepped_head, first_version, second_version}
use Rattle.masks.proofs.sheet.write_sheet.Goals as goal

abbrev checks : List ℕ → ℕ → List ℕ → List Check
checks masks step sheet = is_step step ∷ is_sheet_of step sheet ∷ is_mask_table masks ∷ []

pub returns-then-step-eq1 : goal.returns-then-step-eq1
unfolding telling
returns-then-step-eq1 c =
    let a = c.args in
    let told : 0 ≡ refusal (checks a.masks.now a.step a.sheet.now) = search rules in
    (λ i. (0, (c.write_head.ensures ∙ first_version a.masks.now a.step c.if-step-eq1.true) i))
    ∙ passed a.sheet.now (sheet_of a.masks.now a.step) [] (checks a.masks.now a.step a.sheet.now) tt told refl

pub returns : goal.returns
unfolding telling
returns c =
    let a = c.args in
    let told : 0 ≡ refusal (checks a.masks.now a.step a.sheet.now) = search rules in
    let size : length a.sheet.now ≡ 22 = search rules in
    let masks-size : length a.masks.now ≡ 16 = search rules in
    (λ i. (0, (stepped_head a.sheet.now _ a.masks.now a.step size masks-size c.write_head-2.ensures ∙ second_version a.masks.now a.step c.if-step-eq1.false) i))
    ∙ passed a.sheet.now (sheet_of a.masks.now a.step) [] (checks a.masks.now a.step a.sheet.now) tt told refl
