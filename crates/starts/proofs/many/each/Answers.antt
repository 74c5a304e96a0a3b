-- After k turns the first k blocks stand in the output.
-- Assumes nothing.
use mathlib.Core.List.{List}
use mathlib.Core.Path.{◌≡◌, ap, ◌∙◌}
use Prim.Native.Nat.{ℕ, ◌+◌, ◌-◌, ◌*◌, ◌%◌, ◌≤◌, ◌<◌}
use native.Mathlib.Omega.{arith}
use lib.ListN.{length, take, drop}
use Rattle.aes.specs.State.{at}
use Rattle.aes.specs.Key.{rounds_of}
use Rattle.aes.proofs.Part.{holds_none, holds_all}
use Rattle.masks.specs.Mask.{published, one, advanced, in_row}
use Rattle.lent.proofs.Begun.{one_from}
use Rattle.runs.specs.Run.{masked_cipher}
use Rattle.starts.specs.Each.{in_turn}
use Rattle.masks.proofs.Row.{ended, row_size, row_lent}
use Rattle.starts.proofs.Sizes.{masked_size}
use Rattle.starts.proofs.many.each.Goals as goal

pub loop-k-init : goal.loop-k-init
unfolding in_row
loop-k-init c =
    holds_none (16 * length c.args.offsets.now) c.args.output.now c.requires.2

-- a part of sixteen bytes
width : (k : ℕ) → 16 * k + 16 - 16 * k ≡ 16
width k = omega arith

room : {k n : ℕ} → k < n → 16 * k + 16 ≤ 16 * n
room lt = omega (arith, lt)

pub loop-k-preserved : goal.loop-k-preserved
loop-k-preserved c =
    let l = c.loop-k in
    let a = c.args in
    let w : List ℕ = a.schedule.now in
    let b : List ℕ = a.input.now in
    let os : List ℕ = a.offsets.now in
    let d : ℕ = a.t.now.laid.masks.step in
    let s = c.lent-w.ensures in
    let same : c.lent.result.0 ≡ take 16 (drop (16 * l.k) b) = c.lent.ensures ∙ λ i. take (width l.k i) (drop (16 * l.k) b) in
    let first = c.make.ensures ∙ ap (λ (o : ℕ). o % 16) c.offset.ensures in
    let v-is = (λ i. advanced (c.requires.4 i) (first i)) ∙ one_from (at os l.k) in
    row_lent (in_turn w b os d) 16 (λ j. masked_size (rounds_of w) published (one (at os j)) d w _) l.k (16 * length os) l.output _ (room c.loop-k-test.true) l.invariant
    (c.unrecorded.ensures ∙ λ i. masked_cipher (s.1 i) (c.requires.3 i) (v-is i) d (s.0 i) (same i))

pub returns : goal.returns
returns c =
    let l = c.loop-k in
    let a = c.args in
    let w : List ℕ = a.schedule.now in
    let os : List ℕ = a.offsets.now in
    let n : ℕ = length os in
    let d : ℕ = a.t.now.laid.masks.step in
    let f : ℕ → List ℕ = in_turn w a.input.now os d in
    let all : l.k ≡ n = ended l.auto.k-end c.loop-k-test.false in
    holds_all (16 * n) (in_row f n) l.output (rw all at l.invariant) (row_size f 16 (λ j. masked_size (rounds_of w) published (one (at os j)) d w _) n)
