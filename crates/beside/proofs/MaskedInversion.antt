-- Masked inversion by logarithms: its answers where a divisor is 00, and its quotients where none is.
-- Assumes nothing.
use mathlib.Core.Path.{◌≡◌, refl, sym, ap, ◌∙◌}
use Prim.Native.Nat.{ℕ, ◌<◌}
use native.Mathlib.Nat.{pos_of_ne-zero}
use native.Mathlib.Omega.{arith}
use Rattle.aes.specs.Byte.{◌⊕◌}
use Rattle.aes.specs.Field.{◌•◌, inverse}
use Rattle.aes.proofs.Xor.{xor_assoc, xor_self, xor_zero, xor_cancel, xor_byte, sums}
use Rattle.aes.proofs.FieldLaws.{product_zero_left, product_xor_left, product_xor_right, product_comm, product_assoc, product_byte}
use Rattle.aes.proofs.Inverses.{inverse_zero, inverse_byte, inverse_only, product_inverse, product_cancel}
use Rattle.beside.specs.Inversion.{masked_inverse}

-- where the mask is 00, where the bare byte is 00, and where x is
pub mask_zero : (x : ℕ) → inverse x ≡ masked_inverse x 0
unfolding masked_inverse
mask_zero x = simp xor_zero

pub bare_zero : (r : ℕ) → r ≡ masked_inverse r r
unfolding masked_inverse
bare_zero r = rw (xor_self r, inverse_zero)

pub covered_zero : (r : ℕ) → inverse r ⊕ r ≡ masked_inverse 0 r
unfolding masked_inverse
covered_zero r = refl

-- a quotient of bytes that are not 00, and the quotient that undoes it
module _ (a b : ℕ) (pa : 0 < a) (ha : a < 256) (pb : 0 < b) (hb : b < 256) where
  turned : a • inverse b • (b • inverse a) ≡ 1
  turned =
      product_assoc a (inverse b) (b • inverse a) ha (inverse_byte b hb)
      ∙ ap (λ (y : ℕ). a • y) (product_cancel b (inverse a) pb hb (inverse_byte a ha)) ∙ product_inverse a pa ha

  quotient_nonzero : a • inverse b ≡ 0 → ⊥
  quotient_nonzero e =
      let f : ◌≡◌ {A = ℕ} 0 1 = rw (e, product_zero_left (b • inverse a)) at turned in
      omega arith

  inverse_quotient : inverse (a • inverse b) ≡ b • inverse a
  inverse_quotient =
      sym
      (inverse_only (a • inverse b) (b • inverse a) (pos_of_ne-zero quotient_nonzero) (product_byte a (inverse b) ha)
      (product_byte b (inverse a) hb) turned)

module _ (x r : ℕ) (px : 0 < x) (hx : x < 256) (pr : 0 < r) (hr : r < 256) (different : x ≡ r → ⊥) where
  abbrev bare : ℕ
  bare = x ⊕ r

  bare_byte : bare < 256
  bare_byte = xor_byte x r hx hr

  bare_nonzero : 0 < bare
  bare_nonzero = pos_of_ne-zero (λ e. different (sym (xor_zero x) ∙ (rw e at (xor_cancel x r))))

  bare_over_mask : x • inverse r ⊕ 1 ≡ bare • inverse r
  bare_over_mask = rw (product_xor_left x r (inverse r), product_inverse r pr hr)

  mask_over_bare : inverse (x • inverse r ⊕ 1) ≡ r • inverse bare
  mask_over_bare = rw bare_over_mask (inverse_quotient bare r bare_nonzero bare_byte pr hr)

  x_over_bare : r • inverse bare ⊕ 1 ≡ x • inverse bare
  x_over_bare = rw (← product_inverse bare bare_nonzero bare_byte, product_xor_left x r (inverse bare)) (simp sums)

  -- the answer times x, and then without x
  times_x : r • inverse bare ⊕ (1 ⊕ x • r) ≡ x • (inverse bare ⊕ r)
  times_x = sym (xor_assoc (r • inverse bare) 1 (x • r)) ∙ rw (x_over_bare, product_xor_right x (inverse bare) r)

  pub by_quotients : (inverse (x • inverse r ⊕ 1) ⊕ (1 ⊕ x • r)) • inverse x ≡ masked_inverse x r
  unfolding masked_inverse
  by_quotients =
      let answer : ℕ = inverse bare ⊕ r in
      rw (mask_over_bare, times_x)
      (product_comm (x • answer) (inverse x) (product_byte x answer hx) (inverse_byte x hx)
      ∙ product_cancel x answer px hx (xor_byte (inverse bare) r (inverse_byte bare bare_byte) hr))
