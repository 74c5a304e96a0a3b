-- Past the checks, the schedule stands in the first free place, under the lowest number.
-- Assumes nothing.
use mathlib.Core.Path.{◌≡◌, ap, ◌∙◌}
use mathlib.Core.Bool.{false}
use mathlib.Core.List.{List}
use Prim.Native.Nat.{ℕ, ◌≤◌}
use native.Mathlib.Omega.{arith}
use borrow.Author.Rules.{rules}
use borrow.Author.Tests.{eq-eqb, le-leb, lt-leb}
use lib.Dec.{leb}
use lib.ListN.{length}
use Rattle.aes.specs.Byte.{place}
use Rattle.bank.specs.Places.{tag, held, lowest}
use Rattle.bank.specs.Calls.{placed}
use Rattle.bank.proofs.Walk.{found}
use Rattle.bank.proofs.Admitted.{upto}
use Rattle.bank.proofs.keys.Bank.place.Goals as goal

pub returns-in_default : goal.returns-in_default
returns-in_default c =
    let a = c.args in
    let tags : List ℕ = a.self.now.tags in
    let q : ℕ = c.in_ok-party.party.id in
    let same : q ≡ a.party = c.in_ok-party.ensures.same in
    let known : a.party ≤ 1 = rw same at c.in_ok-party.party.known in
    let size : length tags ≡ 16 = search rules in
    let none : place 0 tags ≡ 16 = rw c.in_default.is at (found 0 tags size c.place_of.ensures) in
    let full : leb (place 0 tags) 15 ≡ false = lt-leb (place 0 tags) 15 (omega arith) in
    simp (le-leb a.party 1 known, eq-eqb (length a.schedule.now) 240 (search rules), upto 11 (c.held.ensures ∙ ap (λ (x : ℕ). held x tags) same) c.if-held-gt11.false, full)

pub returns : goal.returns
returns c =
    let a = c.args in
    let tags : List ℕ = a.self.now.tags in
    let q : ℕ = c.in_ok-party.party.id in
    let same : q ≡ a.party = c.in_ok-party.ensures.same in
    let known : a.party ≤ 1 = rw same at c.in_ok-party.party.known in
    let size : length tags ≡ 16 = search rules in
    let there = rw c.in-Some.is at (found 0 tags size c.place_of.ensures) in
    let n : c.lowest-number.result ≡ lowest a.party tags = c.lowest-number.ensures.0 ∙ ap (λ (x : ℕ). lowest x tags) same in
    let t : c.tag.result ≡ tag a.party (lowest a.party tags) = c.tag.ensures ∙ (λ i. tag (same i) (n i)) in
    (λ i. (0, (n i, placed a.self.now (there.1 i) (t i) (record { bytes = c.copy_from_slice.ensures.after i }))))
    ∙ simp (le-leb a.party 1 known, eq-eqb (length a.schedule.now) 240 (search rules), upto 11 (c.held.ensures ∙ ap (λ (x : ℕ). held x tags) same) c.if-held-gt11.false, upto 15 there.1 (omega (arith, there.0)))
