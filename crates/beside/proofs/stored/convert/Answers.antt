-- Past the checks, the sum with Mask(o+14).
-- Assumes nothing.
use mathlib.Core.Path.{◌≡◌, sym, ap, ap₂, ◌∙◌}
use mathlib.Core.List.{List}
use Prim.Native.Nat.{ℕ, ◌+◌, ◌%◌}
use native.Mathlib.Omega.{arith}
use borrow.Author.Rules.{rules}
use borrow.Author.Tests.{eq-eqb, le-leb}
use lib.ListN.{length}
use Rattle.aes.specs.State.{at, state}
use Rattle.masks.specs.Mask.{one, published, ◌⊞◌, mask, twice}
use Rattle.masks.proofs.Counted.{mask_turn, one_on}
use Rattle.masks.proofs.Stored.{laid_out}
use Rattle.beside.proofs.stored.convert.Goals as goal

-- the mask of the last label, as it is laid out
last : (o l m : ℕ) (t : List ℕ) → l ≡ o % 16 → m ≡ (l + 14) % 16 → t ≡ twice published → state (λ i. at t (m % 16 + i)) ≡ mask published (one o) 14
last o l m t el em et =
    let e : m ≡ (o + 14) % 16 = omega arith in
    ap (λ (t : List ℕ). state (λ i. at t (m % 16 + i))) et ∙ laid_out published m ∙ ap (mask published (one 0)) e ∙ mask_turn published (one 0) o 14 ∙ ap (λ (v : List ℕ). mask published v 14) (sym (one_on o))

pub returns : goal.returns
returns c =
    let a = c.args in
    let both : c.twice.result ≡ twice published = c.twice.ensures ∙ ap twice c.published.ensures in
    let mask_is = c.mask.ensures ∙ last a.offset c.make.result.0 c.next-last.result.0 c.twice.result c.make.ensures c.next-last.ensures.0 both in
    let long : length a.input.now ≡ 16 = search rules in
    let same : c.in_ok-input.input.now ≡ a.input.now = search rules in
    simp (eq-eqb (length a.input.now) 16 long, eq-eqb (length a.output.now) 16 c.if-output-ne16.false, le-leb a.offset 15 c.if-offset-gt15.false)
    (λ i. (0, (c.copy_from_slice.ensures.after ∙ c.add.ensures ∙ ap₂ (◌⊞◌) same mask_is) i))
