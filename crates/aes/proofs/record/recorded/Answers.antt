-- After r turns the block and the states of r rounds stand in the record.
-- Assumes nothing.
use mathlib.Core.List.{List}
use mathlib.Core.Path.{refl, ap, ◌∙◌}
use Prim.Native.Nat.{ℕ}
use native.Mathlib.Omega.{arith}
use Rattle.aes.specs.Record.{block, five, points, plain, plain_record, bytes}
use Rattle.aes.proofs.Written.{rounds_all, rounds-bytes, written_first, written_turn, written-whole}
use Rattle.aes.proofs.PlainRun.{plain_sized}
use Rattle.aes.proofs.Given.{array_bytes}
use Rattle.aes.proofs.record.recorded.Goals as goal

pub loop-r-init : goal.loop-r-init
unfolding plain
loop-r-init c =
    written_first (plain_sized c.args.w.now.bytes.now) (array_bytes c.put-s.type_inv).size block c.args.states.now (omega arith) c.requires refl c.put-s.ensures.1

pub loop-r-preserved : goal.loop-r-preserved
loop-r-preserved c =
    let l = c.loop-r in
    written_turn (plain_sized _) (array_bytes c.put-s.type_inv).size block (five c.args.w.now.rounds) 80 (λ i. refl) l.r (omega arith) l.invariant c.round-t.ensures

pub returns : goal.returns
unfolding plain_record
returns c =
    let l = c.loop-r in
    let w : List ℕ = c.args.w.now.bytes.now in
    let n : ℕ = c.args.w.now.rounds in
    written-whole (plain_sized w) (array_bytes c.put-s.type_inv).size block (five n) n (points n) (rounds_all n c.args.w.now.some) (rounds-bytes n c.args.w.now.some) l.r (omega arith) (omega arith) l.invariant
    ∙ ap (λ (s : List ℕ). bytes (plain_record n w s)) c.put-s.ensures.0
