-- The steps of a masked run over what is lent to them: stored boxes and constants. What inner contracts cite.
-- Assumes nothing.
use Rattle.std.specs.Prelude.{cond, List, [], ◌∷◌, ℕ, suc, ◌+◌, ◌-◌, ◌*◌, ◌/◌, ◌%◌, eqb, get_or}
use Rattle.aes.specs.State.{shift_rows, mix_columns, inv_shift_rows, inv_mix_columns}
use Rattle.aes.specs.Key.{round_key}
use Rattle.aes.specs.Record.{Point, block, keyed, boxed, shifted, mixed, compensated, closed, uncovered, five}
use Rattle.masks.specs.Mask.{◌⊞◌}
use Rattle.masks.specs.Order.{boxed_by, boxes_at}
use Rattle.lent.specs.Sixteen.{sixteen}
use Rattle.runs.specs.Back.{Back}
use Rattle.runs.specs.Back as back

-- the steps at offsets p, from label o on, labels advancing by d, over a schedule w, boxes b and compensations c, with the last
-- constant; the block has been covered
unfoldable pub steps : List ℕ → List ℕ → List ℕ → List ℕ → ℕ → ℕ → List ℕ → Point → List ℕ → List ℕ
steps w b c p o d end block s = s
steps w b c p o d end (keyed r) s = s ⊞ round_key w r
steps w b c p o d end (boxed r) s = boxed_by b (boxes_at p ((o + d * r) % 16)) s
steps w b c p o d end (shifted r) s = shift_rows s
steps w b c p o d end (mixed r) s = mix_columns s
steps w b c p o d end (compensated r) s = s ⊞ sixteen c ((o + d * suc r) % 16)
steps w b c p o d end (closed r) s = s ⊞ round_key w (suc r)
steps w b c p o d end (uncovered r) s = s ⊞ end

-- the same of a decryption of n rounds, over the boxes of the inverse of S and two rows of corrections
unfoldable pub back_steps : ℕ → List ℕ → List ℕ → List ℕ → List ℕ → List ℕ → ℕ → ℕ → List ℕ → Back → List ℕ → List ℕ
back_steps n w b rows columns p o d end back.block s = s
back_steps n w b rows columns p o d end (back.keyed r) s = s ⊞ round_key w (n - r)
back_steps n w b rows columns p o d end (back.unshifted r) s = inv_shift_rows s
back_steps n w b rows columns p o d end (back.corrected r) s = s ⊞ sixteen rows ((o + d * r) % 16)
back_steps n w b rows columns p o d end (back.unboxed r) s = boxed_by b (boxes_at p ((o + d * r) % 16)) s
back_steps n w b rows columns p o d end (back.unmixed r) s = inv_mix_columns s
back_steps n w b rows columns p o d end (back.restored r) s = s ⊞ sixteen columns ((o + d * suc r) % 16)
back_steps n w b rows columns p o d end (back.uncovered r) s = s ⊞ end

-- point m after the covered block of n rounds
unfoldable pub point_after : ℕ → ℕ → Point
point_after n m = get_or (five n (m / 5)) (m % 5) block

-- point m after the covered block of a decryption, except for the last, which uncovers: the first is the first key
abbrev pub around : ℕ → List Back
around r = cond (eqb r 0) (back.keyed 0) (back.restored (r - 1)) ∷ back.unshifted r ∷ back.corrected r ∷ back.unboxed r ∷ back.keyed (suc r) ∷ back.unmixed r ∷ []

unfoldable pub back_point_after : ℕ → Back
back_point_after m = get_or (around (m / 6)) (m % 6) back.block
