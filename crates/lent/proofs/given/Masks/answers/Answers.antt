-- The places of the label.
-- Assumes nothing.
use mathlib.Core.List.{List}
use Prim.Native.Nat.{ℕ}
use mathlib.Core.Path.{ap, ◌∙◌}
use Rattle.masks.specs.Order.{boxed_by, places_at}
use Rattle.masks.proofs.Rows.{places_at_lem, places_below}
use Rattle.lent.specs.Started.{offsets_of}
use Rattle.lent.proofs.given.Masks.answers.Goals as goal

pub answers-requires : goal.answers-requires
answers-requires c =
    rw c.requires (places_below (offsets_of c.args.self) c.args.l.0)

pub returns : goal.returns
returns c =
    let a = c.args in
    let places = ap (λ (p : List ℕ). places_at p a.l.0) c.requires ∙ places_at_lem (offsets_of a.self) a.l.0 in
    c.answers.ensures ∙ ap (λ (p : List ℕ). boxed_by a.boxes.now p a.s) places
