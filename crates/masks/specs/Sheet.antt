-- The mask sheet: the mark "MSK", the version in two bytes, sixteen masks and in version 2 the step, so 21 bytes or 22. A sheet of
-- version 1 means step 1.
-- Assumes nothing.
use Rattle.std.specs.Prelude.{cond, List, [], ◌∷◌, ◌++◌, ℕ, eqb, take, drop}
use Rattle.aes.specs.Reply.{Check, answer, is_step, is_sheet_of, has_head, is_marked, is_version, is_whole, step_of, has_step, is_mask_table}

-- mark, version and masks; and the sheet of masks and a step: version 1 for step 1, and version 2 for any other
unfoldable pub headed : ℕ → List ℕ → List ℕ
headed version masks = (0x4d ∷ 0x53 ∷ 0x4b ∷ []) ++ (0x00 ∷ version ∷ []) ++ masks

unfoldable pub sheet_of : List ℕ → ℕ → List ℕ
sheet_of masks step = cond (eqb step 1) (headed 1 masks) (headed 2 masks ++ (step ∷ []))

-- the masks of a sheet
unfoldable pub masks_of : List ℕ → List ℕ
masks_of sheet = take 16 (drop 5 sheet)

-- what the reader checks, in this order
abbrev pub read_checks : List ℕ → List ℕ → List Check
read_checks sheet masks =
    has_head sheet ∷ is_marked sheet ∷ is_version sheet ∷ is_whole sheet ∷ has_step sheet ∷ is_mask_table masks ∷ []

-- beside the reply the step, 0 where it refuses, and the masks
abbrev pub read_sheet_of : List ℕ → List ℕ → ℕ × (ℕ × List ℕ)
read_sheet_of sheet masks = answer (read_checks sheet masks) (0, masks) (step_of sheet, masks_of sheet)

abbrev pub write_sheet_of : List ℕ → ℕ → List ℕ → ℕ × List ℕ
write_sheet_of masks step sheet = answer (is_step step ∷ is_sheet_of step sheet ∷ is_mask_table masks ∷ []) sheet (sheet_of masks step)
