-- The laws of the sum of bytes, which is exclusive or. They hold of all numbers.
-- Assumes nothing.
use mathlib.Core.Path.{◌≡◌, refl, sym, ap, ap₂, ◌∙◌}
use Prim.Native.Nat.{ℕ, zero, suc, ◌+◌, ◌*◌, ◌/◌, ◌%◌, ◌<◌}
use native.Mathlib.Omega.{arith}
use lib.Arith.{bin_ind}
use lib.Bits.{differ, xor_step, xor_shr, xor_mod, xor_lt}
use lib.Bits
use Rattle.aes.specs.Byte.{◌⊕◌}

pub mod_two : (a : ℕ) → a % 2 < 2
mod_two a = omega arith

digit : (x y z : ℕ) → x < 2 → y < 2 → z < 2 → differ (x ⊕ y) z ≡ differ x (y ⊕ z)
digit zero zero z hx hy hz = refl
digit zero (suc zero) zero hx hy hz = refl
digit zero (suc zero) (suc zero) hx hy hz = refl
digit (suc zero) zero z hx hy hz = refl
digit (suc zero) (suc zero) zero hx hy hz = refl
digit (suc zero) (suc zero) (suc zero) hx hy hz = refl
digit zero (suc zero) (suc (suc z)) hx hy hz = omega arith
digit (suc zero) (suc zero) (suc (suc z)) hx hy hz = omega arith
digit zero (suc (suc y)) z hx hy hz = omega arith
digit (suc zero) (suc (suc y)) z hx hy hz = omega arith
digit (suc (suc x)) y z hx hy hz = omega arith

pub xor_assoc : (a b c : ℕ) → a ⊕ b ⊕ c ≡ a ⊕ (b ⊕ c)
xor_assoc a =
    bin_ind (λ (n : ℕ). (b c : ℕ) → n ⊕ b ⊕ c ≡ n ⊕ (b ⊕ c)) (λ b c. refl)
    (λ n ih b c.
    rw (xor_step (n ⊕ b) c, xor_step n (b ⊕ c), xor_shr n b 1, xor_mod n b 1, xor_shr b c 1, xor_mod b c 1)
    (ap₂ (λ (p q : ℕ). p * 2 + q) (ih (b / 2) (c / 2)) (digit (n % 2) (b % 2) (c % 2) (mod_two n) (mod_two b) (mod_two c)))) a

pub xor_comm : (a b : ℕ) → a ⊕ b ≡ b ⊕ a
xor_comm = Bits.xor_comm

pub xor_self : (a : ℕ) → a ⊕ a ≡ 0
xor_self = Bits.xor_self

pub xor_zero : (a : ℕ) → a ⊕ 0 ≡ a
xor_zero = Bits.xor_zero_r

pub xor_left : (a b c : ℕ) → a ⊕ (b ⊕ c) ≡ b ⊕ (a ⊕ c)
xor_left a b c = sym (xor_assoc a b c) ∙ ap (λ (x : ℕ). x ⊕ c) (xor_comm a b) ∙ xor_assoc b a c

-- what is added twice is gone
pub xor_cancel : (a b : ℕ) → a ⊕ (a ⊕ b) ≡ b
xor_cancel a b = sym (xor_assoc a a b) ∙ ap (λ (x : ℕ). x ⊕ b) (xor_self a)

-- for simp: a sum is bracketed to the right, its parts sorted, and equal parts cancel
pub ruleset sums = (xor_assoc, xor_comm, xor_left, xor_cancel, xor_self, xor_zero)

pub xor_byte : (a b : ℕ) → a < 256 → b < 256 → a ⊕ b < 256
xor_byte = xor_lt 8
