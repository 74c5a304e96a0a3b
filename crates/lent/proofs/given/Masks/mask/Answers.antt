-- The row of the label.
-- Assumes nothing.
use mathlib.Core.Path.{ap, ap₂, ◌∙◌}
use native.Mathlib.Omega.{arith}
use Prim.Native.Nat.{ℕ, ◌%◌}
use Rattle.aes.specs.Key.{round_key}
use Rattle.masks.proofs.Rows.{cover_at}
use Rattle.lent.specs.Started.{offsets_of}
use Rattle.lent.proofs.Whole.{mask_whole}
use Rattle.lent.proofs.given.Masks.mask.Goals as goal

pub returns : goal.returns
returns c =
    let m = c.args.self in
    let l : ℕ = c.args.l.0 in
    c.sixteen.ensures ∙ ap₂ round_key c.requires (ap (λ (k : ℕ). k % 16) c.read.ensures) ∙ cover_at m.bytes (offsets_of m) (l % 16) (omega arith)
    ∙ mask_whole m.bytes (offsets_of m) l
