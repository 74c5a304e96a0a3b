-- After k turns it is none of the first k pipes.
-- Assumes nothing.
use mathlib.Core.Path.{◌≡◌, sym, ap, ◌∙◌}
use Prim.Native.Nat.{ℕ, suc, ◌+◌, ◌-◌}
use native.Mathlib.Omega.{arith}
use Rattle.aes.specs.Byte.{listed, table, place}
use Rattle.packet.specs.Packet.{pid_at}
use Rattle.packet.proofs.Places.{found, passed}
use Rattle.packet.proofs.pipes.Pipes.pipe_of.Goals as goal

pub loop-k-init : goal.loop-k-init
unfolding table
loop-k-init c = omega arith

pub returns-then-pid_at-pid : goal.returns-then-pid_at-pid
returns-then-pid_at-pid c =
    let l = c.loop-k in
    let a = c.args in
    let f : ℕ → ℕ = pid_at a.self.now.bytes.now in
    let e : 7 - l.k ≡ suc (6 - l.k) = omega arith in
    let z : place a.pid (listed f l.k (7 - l.k)) ≡ 0 = ap (λ (m : ℕ). place a.pid (listed f l.k m)) e ∙ found f a.pid l.k (6 - l.k) (sym c.pid_at.ensures ∙ c.if-pid_at-pid.true) in
    (omega arith, sym (l.invariant ∙ ap (λ (x : ℕ). l.k + x) z ∙ omega arith))

pub loop-k-preserved : goal.loop-k-preserved
loop-k-preserved c =
    let l = c.loop-k in
    let a = c.args in
    let f : ℕ → ℕ = pid_at a.self.now.bytes.now in
    let e : 7 - l.k ≡ suc (6 - l.k) = omega arith in
    let n : 6 - l.k ≡ 7 - (l.k + 1) = omega arith in
    let q : suc l.k ≡ l.k + 1 = omega arith in
    let z : place a.pid (listed f l.k (7 - l.k)) ≡ suc (place a.pid (listed f (l.k + 1) (7 - (l.k + 1)))) =
    ap (λ (m : ℕ). place a.pid (listed f l.k m)) e ∙ passed f a.pid l.k (6 - l.k) (λ h. c.if-pid_at-pid.false (c.pid_at.ensures ∙ h)) ∙ (λ i. suc (place a.pid (listed f (q i) (n i)))) in
    l.invariant ∙ ap (λ (x : ℕ). l.k + x) z ∙ omega arith

pub returns : goal.returns
unfolding place
returns c =
    let l = c.loop-k in
    let all : l.k ≡ 7 = omega arith in
    rw all at l.invariant
