-- After each turn one round more is whole.
-- Assumes nothing.
use mathlib.Core.Path.{◌≡◌, ap, ◌∙◌}
use Prim.Native.Nat.{ℕ, ◌+◌, ◌-◌, ◌≤◌, ◌<◌}
use native.Mathlib.Omega.{arith}
use Rattle.lent.proofs.Owned.{field_bytes}
use Rattle.runs.specs.declared.steps.Covered.{Covered}
use Rattle.runs.proofs.BackRounds.{covered_is, begun, first_key, round_more, run_is}
use Rattle.runs.proofs.back.opened.Goals as goal

-- what is left of the rounds, where the loop is or has been
left : (r k : ℕ) {e n : ℕ} → r + k ≡ n + 1 → 1 ≤ k → (1 ≤ e → k ≤ e) → e ≡ n → 0 < n → (0 < r) × (r ≤ n) × (r - 1 ≤ n)
left r k h ge le e some =
    let top : k ≤ _ = le (omega (arith, e, some)) in
    (omega (arith, h, top, e), omega (arith, h, ge), omega (arith, h, ge))

pub loop-init : goal.loop-init
loop-init c =
    let w = c.args.w.now in
    let t = c.args.t.now in
    let round : c.add_key-s.result.round.0 ≡ w.rounds = ap (λ (s : Covered). s.round.0) (c.add_key-s.ensures ∙ ap (begun w t) (covered_is w t c.args.first c.args.block.0 c.cover-covered.ensures c.last.ensures c.rounds.ensures)) in
    (ap (λ (r : ℕ). r + 1) round, λ s e h. rw h (first_key w t s e))

pub half-u-requires : goal.half-u-requires
half-u-requires c =
    let l = c.loop in
    (left l.s.round.0 l.counter l.invariant.0 l.auto.counter l.auto.counter-end c.rounds-end.ensures c.args.w.now.some).0

pub rest-s-requires : goal.rest-s-requires
rest-s-requires c =
    let l = c.loop in
    rw c.half-u.ensures (left l.s.round.0 l.counter l.invariant.0 l.auto.counter l.auto.counter-end c.rounds-end.ensures c.args.w.now.some).2

pub loop-preserved : goal.loop-preserved
loop-preserved c =
    let l = c.loop in
    let some = (left l.s.round.0 l.counter l.invariant.0 l.auto.counter l.auto.counter-end c.rounds-end.ensures c.args.w.now.some).0 in
    rw (c.rest-s.ensures, c.half-u.ensures) (next l.s.round.0 l.counter some l.invariant.0, λ s e h. round_more c.args.w.now c.args.t.now s l.s some (l.invariant.1 s e h))
  where
    next : (r k : ℕ) {n : ℕ} → 0 < r → r + k ≡ n → r - 1 + (k + 1) ≡ n
    next r k some h = omega (arith, some, h)

pub half-u-requires-2 : goal.half-u-requires-2
half-u-requires-2 c =
    let l = c.loop in
    (left l.s.round.0 l.counter l.invariant.0 l.auto.counter l.auto.counter-end c.rounds-end.ensures c.args.w.now.some).0

pub add_key-v-requires : goal.add_key-v-requires
add_key-v-requires c =
    let l = c.loop in
    rw c.half-u-2.ensures (left l.s.round.0 l.counter l.invariant.0 l.auto.counter l.auto.counter-end c.rounds-end.ensures c.args.w.now.some).2

-- the loop leaves one round
one_left : (r : ℕ) {k e n : ℕ} → r + k ≡ n + 1 → (1 ≤ e → k ≤ e) → e ≤ k → e ≡ n → 0 < n → r ≡ 1
one_left r h le ge e some = omega (arith, h, le, ge, e, some)

pub uncover_plain-requires : goal.uncover_plain-requires
uncover_plain-requires c =
    let l = c.loop in
    let one = one_left l.s.round.0 l.invariant.0 l.auto.counter-end c.loop-test.false c.rounds-end.ensures c.args.w.now.some in
    rw (c.add_key-v.ensures, c.half-u-2.ensures) (ap (λ (r : ℕ). r - 1) one, c.requires)

pub returns : goal.returns
returns c =
    let a = c.args in
    let l = c.loop in
    let w = a.w.now in
    let t = a.t.now in
    let one = one_left l.s.round.0 l.invariant.0 l.auto.counter-end c.loop-test.false c.rounds-end.ensures w.some in
    let first = covered_is w t c.args.first c.args.block.0 c.cover-covered.ensures c.last.ensures c.rounds.ensures in
    rw (c.add_key-v.ensures, c.half-u-2.ensures) at c.uncover_plain.ensures
    ∙ run_is w t (field_bytes {xs = a.block.0} c.well_formed.0.1.1.0) a.first c.cover-covered.result l.s first (l.invariant.1 c.cover-covered.result (ap (λ (s : Covered). s.round.0) first) c.add_key-s.ensures) one
