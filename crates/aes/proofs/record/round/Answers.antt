-- Five states, each in its part.
-- Assumes nothing.
use mathlib.Core.List.{List}
use mathlib.Core.Path.{sym, ◌∙◌}
use Prim.Native.Nat.{ℕ, suc}
use lib.Dec.{eqb}
use lib.ListN.{get_or}
use Rattle.aes.specs.Record.{block, keyed, boxed, shifted, five, plain}
use Rattle.aes.proofs.Written.{written-five}
use Rattle.aes.proofs.PlainRun.{plain_sized, repeats}
use Rattle.aes.proofs.record.round.Goals as goal

pub returns : goal.returns
unfolding plain
returns c =
    let s : List ℕ = c.args.s in
    let w : List ℕ = c.args.w.now.bytes.now in
    let n : ℕ = c.args.w.now.rounds in
    let r : ℕ = c.args.r in
    written-five (plain_sized w) s c.well_formed.0.1.0.1 c.args.states.now c.requires.1 (keyed r) (boxed r) (shifted r) (get_or (five n r) 3 block) (get_or (five n r) 4 block)
    c.key-t.ensures.0 c.key-t.ensures.1 c.boxes-u.ensures.0 c.boxes-u.ensures.1 c.shift-v.ensures.0 c.shift-v.ensures.1
    c.fourth-x.ensures.0 c.fourth-x.ensures.1 (c.put.ensures.0 ∙ sym (repeats w c.fourth-x.result (eqb (suc r) n) r)) c.put.ensures.1
