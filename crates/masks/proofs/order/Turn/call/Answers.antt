-- At the position what the box over it answers.
-- Assumes nothing.
use mathlib.Core.List.{List}
use mathlib.Core.Path.{◌≡◌, sym, ap, ◌∙◌}
use Prim.Native.Nat.{ℕ, ◌+◌, ◌<◌}
use lib.ListN.{set}
use Rattle.aes.specs.Byte.{table}
use Rattle.aes.specs.State.{at}
use Rattle.aes.proofs.Listed.{table_at}
use Rattle.masks.specs.Order.{boxed_by, places_at}
use Rattle.masks.proofs.order.Turn.call.Goals as goal

boxed_at : (b p s : List ℕ) (i : ℕ) → i < 16 → at (boxed_by b p s) i ≡ at b (at p i + at s i)
unfolding boxed_by table
boxed_at b p s i h = table_at (λ i. at b (at p i + at s i)) 16 i h

pub returns-clause-answered : goal.returns-clause-answered
returns-clause-answered c =
    let a = c.args in
    let p : ℕ = c.position-p.result.0 in
    let boxed : List ℕ = boxed_by a.boxes.now (places_at a.places.now a.l.0) a.s.now in
    let answer : c.entry.result ≡ at boxed p =
    c.entry.ensures ∙ (λ j. at a.boxes.now (c.over.ensures j + at a.s.now (c.read-i.ensures j)))
    ∙ sym (boxed_at a.boxes.now (places_at a.places.now a.l.0) a.s.now p c.position-p.ensures.1) in
    (λ j. set a.t.now (c.read-i.ensures j) (answer j)) ∙ ap (λ (i : ℕ). set a.t.now i (at boxed i)) c.position-p.ensures.0
