-- Each call fills one more byte, at the next position of the order, by the box over it. Behind the last there is no turn.
-- Assumes nothing.
use Prim.Native.Nat.{ℕ, ◌-◌}
use Rattle.std.specs.Prelude.{Option}
use Rattle.std.specs.Option.{option_map_or}
use Rattle.aes.specs.State.{at}
use Rattle.masks.specs.declared.order.Turn.{Turn}
use Rattle.masks.specs.Order.{boxed_by, places_at}
use Rattle.masks.proofs.Ordered.{Called}
use Rattle.masks.proofs.answers.answers.Given as goal

-- how many boxes were called
abbrev pub before : Option Turn → ℕ
before turn = option_map_or (λ t. t.called) turn 16

abbrev pub invariant-loop-turn : goal.invariant-loop-turn
invariant-loop-turn l = Called (at (boxed_by l.boxes (places_at l.places l.l.0) l.s)) (before l.turn) l.t

abbrev pub decreases-loop-turn : goal.decreases-loop-turn
decreases-loop-turn l = 16 - before l.turn
