-- Even or odd.
-- Assumes nothing.
use mathlib.Core.Path.{◌≡◌, ap, ◌∙◌}
use mathlib.Core.Bool.{cond}
use mathlib.Core.List.{List}
use Prim.Native.Nat.{ℕ, ◌+◌, ◌-◌, ◌*◌, ◌≤◌}
use native.Mathlib.Omega.{arith}
use lib.ListN.{length, take, drop, length-drop}
use lib.Seq.{length-take-le}
use Rattle.packet.proofs.Splice.{inside}
use Rattle.packet.proofs.pipes.Pipes.schedule.Goals as goal
use Rattle.packet.proofs.pipes.Pipes.schedule.Goals.{then-odd, else-odd}

-- a schedule that lies in the list
lying : (pipes : List ℕ) (a : ℕ) {s : List ℕ} → a + 240 ≤ length pipes → s ≡ take 240 (drop a pipes) → length s ≡ 240
lying pipes a room e = ap length e ∙ length-take-le 240 (drop a pipes) (rw length-drop (omega (arith, room)))

pub returns : goal.returns
returns c =
    let a = c.args in
    let p : List ℕ = a.self.now.bytes.now in
    let at : ℕ = 498 * a.k + cond a.odd 242 2 in
    let e : 498 * a.k + c.if-odd.a ≡ at =
    ap (λ (x : ℕ). 498 * a.k + x) (elim c.if-odd.branch as (λ _. c.if-odd.a ≡ cond a.odd 242 2) [ then-odd w ↦ rw w.if-odd.true w.a-is | else-odd w ↦ rw w.if-odd.false w.a-is ]) in
    let wide : (x : ℕ) → x + 240 - x ≡ 240 = λ x. omega arith in
    let same = ap (λ (n : ℕ). take n (drop (498 * a.k + c.if-odd.a) p)) (wide (498 * a.k + c.if-odd.a)) ∙ ap (λ (x : ℕ). take 240 (drop x p)) e in
    let room : at + 240 ≤ length p = omega (arith, inside a.k a.odd c.requires, a.self.now.whole) in
    (same, lying p at room same)
