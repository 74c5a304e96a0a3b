-- Which mask lies on the state at each recorded point of a masked run.
-- Assumes nothing.
use Rattle.std.specs.Prelude.{List, ℕ, suc, ◌*◌}
use Rattle.aes.specs.State.{state, shift_rows, mix_columns}
use Rattle.aes.specs.Record.{Point, block, keyed, boxed, shifted, mixed, compensated, closed, uncovered}
use Rattle.masks.specs.Mask.{mask}

-- no mask at all
abbrev pub bare : List ℕ
bare = state (λ i. 0)

-- the mask at each point over any sequence K of masks, where K r lies on the state that round r begins with
unfoldable pub mask_by : (ℕ → List ℕ) → Point → List ℕ
mask_by K block = K 0
mask_by K (keyed r) = K r
mask_by K (boxed r) = K (suc r)
mask_by K (shifted r) = shift_rows (K (suc r))
mask_by K (mixed r) = mix_columns (shift_rows (K (suc r)))
mask_by K (compensated r) = K (suc r)
mask_by K (closed r) = shift_rows (K (suc r))
mask_by K (uncovered r) = bare

-- the sequence of a run at the offsets v over the masks M, whose labels advance by d from round to round, and so its mask at each point
abbrev pub stepping : List ℕ → List ℕ → ℕ → ℕ → List ℕ
stepping M v d r = mask M v (d * r)

abbrev pub mask_at : List ℕ → List ℕ → ℕ → Point → List ℕ
mask_at M v d = mask_by (stepping M v d)
