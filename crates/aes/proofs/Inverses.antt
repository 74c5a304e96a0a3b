-- The inverse: a nonzero byte times its inverse is 01, no other byte does that, and a product is 00 only where a factor is.
-- Assumes nothing.
use mathlib.Core.Path.{◌≡◌, refl, sym, ap, ◌∙◌}
use mathlib.Core.Logic.{◌⊎◌, inl, inr}
use Prim.Native.Nat.{ℕ, zero, suc, ◌+◌, ◌-◌, ◌*◌, ◌%◌, ◌<◌}
use native.Mathlib.Omega.{arith}
use lib.Dec.{lit<}
use Rattle.aes.specs.Field.{◌•◌, raise, inverse, power, logarithm}
use Rattle.aes.proofs.FieldLaws.{product_zero_left, product_zero_right, product_one, product_one_right, product_comm, product_assoc}
use Rattle.aes.proofs.Powers.{raise_byte, raise-raise, power_byte, power_add, power_mod, power_255, power-logarithm, logarithm-below}

pub inverse_byte : (b : ℕ) → b < 256 → inverse b < 256
unfolding inverse
inverse_byte b = raise_byte b 254

pub inverse_zero : inverse 0 ≡ 0
unfolding inverse raise
inverse_zero = product_zero_left (raise 0 253)

power-inverse : (n : ℕ) → power n • inverse (power n) ≡ 1
unfolding inverse power raise
power-inverse n =
    let e : n + n * 254 ≡ n * 255 = omega arith in
    let f : n * 255 % 255 ≡ 0 = omega arith in
    ap (λ (x : ℕ). power n • x) (raise-raise 3 n 254 (lit< tt)) ∙ sym (power_add n (n * 254))
    ∙ rw (e, ← power_mod (n * 255), f)

pub product_inverse : (b : ℕ) → 0 < b → b < 256 → b • inverse b ≡ 1
product_inverse b p h = rw (power-logarithm b p h) at (power-inverse (logarithm b))

-- a nonzero factor is taken away by its inverse
pub product_cancel : (a b : ℕ) → 0 < a → a < 256 → b < 256 → inverse a • (a • b) ≡ b
product_cancel a b p ha hb =
    let i : inverse a < 256 = inverse_byte a ha in
    sym (product_assoc (inverse a) a b i ha)
    ∙ ap (λ (x : ℕ). x • b) (product_comm (inverse a) a i ha ∙ product_inverse a p ha) ∙ product_one b hb

pub inverse_only : (b c : ℕ) → 0 < b → b < 256 → c < 256 → b • c ≡ 1 → c ≡ inverse b
inverse_only b c p hb hc e =
    sym (product_cancel b c p hb hc) ∙ ap (λ (x : ℕ). inverse b • x) e ∙ product_one_right (inverse b) (inverse_byte b hb)

-- a product is 00 exactly where a factor is: product_zero_left, product_zero_right, and this
pub product_nonzero : (a b : ℕ) → a < 256 → b < 256 → a • b ≡ 0 → (a ≡ 0) ⊎ (b ≡ 0)
product_nonzero zero b ha hb e = inl refl
product_nonzero (suc k) b ha hb e =
    inr
    (sym (product_cancel (suc k) b (omega arith) ha hb) ∙ ap (λ (x : ℕ). inverse (suc k) • x) e
    ∙ product_zero_right (inverse (suc k)))

-- the inverse by logarithms
pub inverse_by_logarithm : (b : ℕ) → 0 < b → b < 256 → power ((255 - logarithm b) % 255) ≡ inverse b
inverse_by_logarithm b p h =
    let l : ℕ = logarithm b in
    let below : l < 255 = logarithm-below b p h in
    let e : l + (255 - l) ≡ 255 = omega arith in
    power_mod (255 - l)
    ∙ inverse_only b (power (255 - l)) p h (power_byte (255 - l))
    (ap (λ (x : ℕ). x • power (255 - l)) (sym (power-logarithm b p h)) ∙ sym (power_add l (255 - l)) ∙ rw (e, power_255))
