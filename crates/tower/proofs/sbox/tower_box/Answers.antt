-- The mask of the label, the map over the inverse, and the constant of the label.
-- Assumes nothing.
use mathlib.Core.Path.{◌≡◌, refl, ap, ap₂, ◌∙◌}
use Prim.Native.Nat.{ℕ, ◌+◌, ◌/◌, ◌%◌, ◌<◌}
use native.Mathlib.Omega.{arith}
use borrow.Author.Rules.{rules}
use Rattle.aes.specs.Byte.{◌⊕◌, table}
use Rattle.aes.specs.Box.{s_box}
use Rattle.aes.specs.State.{at}
use Rattle.aes.proofs.Listed.{table_at, agree}
use Rattle.masks.specs.Mask.{published, masked_box}
use Rattle.beside.specs.Inversion.{masked_inverse}
use Rattle.tower.specs.Tower.{linear, change}
use Rattle.tower.proofs.Inverted.{tower_box}
use Rattle.tower.proofs.sbox.tower_box.Goals as goal

published-byte : (j : ℕ) → j < 16 → at published j < 256
unfolding published table
published-byte j h = let e : at published j / 256 ≡ 0 = agree (λ k. at published k / 256) (λ k. 0) 16 refl j h in omega (arith, e)

-- the label before or after it is brought below 16
next-label : (j : ℕ) → (j % 16 + 1) % 16 ≡ (j + 1) % 16
next-label j = omega arith

pub returns : goal.returns
unfolding masked_box
returns c =
    let x : ℕ = c.args.x in
    let label : ℕ = c.args.label in
    let l : ℕ = label % 16 in
    let m : ℕ = at published l in
    let l-is = c.read-l.ensures ∙ c.make.ensures in
    let m-is : at c.published-masks.result c.read-l.result ≡ m = ap₂ at c.published-masks.ensures l-is in
    let k-is : at c.changes-changes.result c.read-l.result ≡ change l =
    ap₂ at c.changes-changes.ensures l-is ∙ table_at change 16 l (omega arith) in
    (λ i. (c.linear.ensures ∙ ap linear (c.tower_inverse.ensures ∙ ap (masked_inverse x) m-is)) i ⊕ k-is i)
    ∙ tower_box m (at published ((l + 1) % 16)) x (published-byte l (omega arith)) (search rules)
    ∙ ap (λ (j : ℕ). s_box (x ⊕ m) ⊕ at published j) (next-label label)
