-- What the code looks up, and what its arithmetic comes to.
-- Assumes nothing.
use mathlib.Core.Path.{◌≡◌, refl, ap, ◌∙◌}
use mathlib.Core.List.{List}
use Prim.Native.Nat.{ℕ, ◌+◌, ◌*◌, ◌/◌, ◌%◌, ◌<◌}
use native.Mathlib.Omega.{arith}
use Rattle.aes.specs.Byte.{◌⊕◌, from_bits, table}
use Rattle.aes.specs.Box.{affine}
use Rattle.aes.specs.State.{at}
use Rattle.aes.proofs.Listed.{table_at, agree}
use Rattle.tower.specs.Tower.{brought, pairs, linear}

-- the entry of two halves
pub looked : (f : ℕ → ℕ → ℕ) (t : List ℕ) (a b r : ℕ) → t ≡ pairs f → a < 16 → b < 16 → r ≡ at t (16 * a + b) → r ≡ f a b
looked f t a b r e ha hb er =
    let q : (16 * a + b) / 16 ≡ a = omega arith in
    let m : (16 * a + b) % 16 ≡ b = omega arith in
    er ∙ ap (λ (l : List ℕ). at l (16 * a + b)) e ∙ table_at (λ k. f (k / 16) (k % 16)) 256 (16 * a + b) (omega arith) ∙ rw (q, m)

-- the change of basis as code has it: of a byte the highest bit is what is left
pub highest : (c0 c1 c2 c3 c4 c5 c6 c7 x : ℕ) → x < 256
    → x % 2 * c0 ⊕ x / 2 % 2 * c1 ⊕ x / 4 % 2 * c2 ⊕ x / 8 % 2 * c3 ⊕ x / 16 % 2 * c4 ⊕ x / 32 % 2 * c5 ⊕ x / 64 % 2 * c6 ⊕ x / 128 * c7
    ≡ brought c0 c1 c2 c3 c4 c5 c6 c7 x
highest c0 c1 c2 c3 c4 c5 c6 c7 x h =
    let first : x % 2 ≡ x / 1 % 2 = omega arith in
    let last : x / 128 ≡ x / 128 % 2 = omega (arith, h) in
    λ i. first i * c0 ⊕ x / 2 % 2 * c1 ⊕ x / 4 % 2 * c2 ⊕ x / 8 % 2 * c3 ⊕ x / 16 % 2 * c4 ⊕ x / 32 % 2 * c5 ⊕ x / 64 % 2 * c6 ⊕ last i * c7

-- the affine map without its constant, by turns
abbrev pub moved : ℕ → ℕ
moved b = b ⊕ b * 2 ⊕ b * 4 ⊕ b * 8 ⊕ b * 16

pub moved_byte : (b : ℕ) → b < 256 → moved b / 256 < 256
unfolding table
moved_byte b h = let e : moved b / 256 / 256 ≡ 0 = agree (λ b. moved b / 256 / 256) (λ b. 0) 256 refl b h in omega (arith, e)

pub by_turns : (b : ℕ) → b < 256 → moved b % 256 ⊕ moved b / 256 ≡ linear b
unfolding linear affine from_bits table
by_turns = agree (λ b. moved b % 256 ⊕ moved b / 256) linear 256 refl
