-- Whether they are the record of one offset.
-- Assumes nothing.
use mathlib.Core.Path.{◌≡◌, sym, ap, ◌∙◌}
use mathlib.Core.Bool.{true, false}
use mathlib.Core.List.{List}
use Prim.Native.Nat.{ℕ}
use Rattle.std.specs.Prelude.{None, Some}
use Rattle.aes.specs.State.{at}
use Rattle.lent.specs.Started.{is_one}
use Rattle.lent.proofs.Whole.{all_sixteen}
use Rattle.lent.proofs.given.Start.lent.Goals as goal

pub returns-then-is_one : goal.returns-then-is_one
returns-then-is_one c =
    let v : List ℕ = c.args.offsets.now in
    let same : c.sixteen-v.result ≡ v = c.sixteen-v.ensures ∙ all_sixteen v c.requires in
    let one : is_one v ≡ true = sym (c.is_one.ensures ∙ ap is_one same) ∙ c.if-is_one.true in
    rw one (c.one.ensures ∙ λ i. record { offsets = None; on = at (same i) 0 })

pub returns : goal.returns
returns c =
    let v : List ℕ = c.args.offsets.now in
    let same : c.sixteen-v.result ≡ v = c.sixteen-v.ensures ∙ all_sixteen v c.requires in
    let other : is_one v ≡ false = sym (c.is_one.ensures ∙ ap is_one same) ∙ c.if-is_one.false in
    rw other (λ i. record { offsets = Some (record { 0 = (c.make.ensures ∙ same) i }); on = 0 })
