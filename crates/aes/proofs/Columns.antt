-- Rows and columns of four, and the matrices of MIXCOLUMNS and its inverse.
-- Assumes nothing.
use mathlib.Core.List.{List, ◌++◌}
use mathlib.Core.Path.{◌≡◌, refl, sym, ap, ◌∙◌}
use Prim.Native.Nat.{ℕ, ◌<◌}
use lib.Dec.{lit<}
use Rattle.aes.specs.Byte.{◌⊕◌}
use Rattle.aes.specs.Field.{x_times, times, ◌•◌}
use Rattle.aes.specs.State.{at, dot, turned, add_round_key}
use Rattle.aes.specs.Key.{word_at, sum_word, rot_word}
use Rattle.aes.specs.Word.{word_of, doubled, matrix}
use Rattle.aes.proofs.Xor.{sums, xor_zero, xor_byte}
use Rattle.aes.proofs.Words.{word_sum}
use Rattle.aes.proofs.FieldLaws.{x_times_xor, product_xor_left, product_xor_right, product_assoc, product_one, product_two, product_three, product_zero_left, product_byte, x_times_byte}

-- linear in the column
pub dot_xor : (k0 k1 k2 k3 a b c d a' b' c' d' : ℕ)
    → dot k0 k1 k2 k3 (a ⊕ a') (b ⊕ b') (c ⊕ c') (d ⊕ d') ≡ dot k0 k1 k2 k3 a b c d ⊕ dot k0 k1 k2 k3 a' b' c' d'
unfolding dot
dot_xor k0 k1 k2 k3 a b c d a' b' c' d' = simp (product_xor_right, sums)

-- two matrices, one after the other
pub dot-dot : (k0 k1 k2 k3 l0 l1 l2 l3 a b c d : ℕ)
    → k0 < 256 → k1 < 256 → k2 < 256 → k3 < 256 → l0 < 256 → l1 < 256 → l2 < 256 → l3 < 256
    → dot k0 k1 k2 k3 (dot l0 l1 l2 l3 a b c d) (dot l0 l1 l2 l3 b c d a) (dot l0 l1 l2 l3 c d a b) (dot l0 l1 l2 l3 d a b c)
    ≡ dot (dot k0 k1 k2 k3 l0 l3 l2 l1) (dot k0 k1 k2 k3 l1 l0 l3 l2) (dot k0 k1 k2 k3 l2 l1 l0 l3) (dot k0 k1 k2 k3 l3 l2 l1 l0) a b c d
unfolding dot
dot-dot k0 k1 k2 k3 l0 l1 l2 l3 a b c d hk0 hk1 hk2 hk3 hl0 hl1 hl2 hl3 =
    simp (product_xor_right, product_xor_left, product_assoc, sums)

pub dot_byte : (k0 k1 k2 k3 a b c d : ℕ) → k0 < 256 → k1 < 256 → k2 < 256 → k3 < 256 → dot k0 k1 k2 k3 a b c d < 256
unfolding dot
dot_byte k0 k1 k2 k3 a b c d h0 h1 h2 h3 =
    xor_byte (k0 • a ⊕ k1 • b ⊕ k2 • c) (k3 • d)
    (xor_byte (k0 • a ⊕ k1 • b) (k2 • c) (xor_byte (k0 • a) (k1 • b) (product_byte k0 a h0) (product_byte k1 b h1)) (product_byte k2 c h2))
    (product_byte k3 d h3)

-- by doubling: MIXCOLUMNS, and the matrix 05 00 04 00, which it makes INVMIXCOLUMNS of
mixed_is : (a b c d : ℕ) → a < 256 → b < 256 → c < 256 → d < 256 → b ⊕ (c ⊕ d) ⊕ x_times (a ⊕ b) ≡ dot 2 3 1 1 a b c d
unfolding dot
mixed_is a b c d ha hb hc hd =
    rw (x_times_xor a b, product_two a ha, product_three b hb, product_one c hc, product_one d hd) (simp sums)

two_two : 2 • 2 ≡ 4
unfolding ◌•◌ times x_times
two_two = refl

product_four : (b : ℕ) → b < 256 → 4 • b ≡ x_times (x_times b)
product_four b h =
    rw (← two_two, product_assoc 2 2 b (lit< tt) (lit< tt), product_two b h) (product_two (x_times b) (x_times_byte b h))

spread_is : (a b c d : ℕ) → a < 256 → c < 256 → dot 5 0 4 0 a b c d ≡ a ⊕ x_times (x_times (a ⊕ c))
unfolding dot
spread_is a b c d ha hc =
    rw (
      ← product_four (a ⊕ c) (xor_byte a c ha hc),
      product_xor_right 4 a c,
      product_xor_left 1 4 a,
      product_one a ha,
      product_zero_left b,
      product_zero_left d,
    )
    (simp sums)

pub dot-one : (a b c d : ℕ) → a < 256 → dot 1 0 0 0 a b c d ≡ a
unfolding dot
dot-one a b c d h = rw (product_one a h, product_zero_left b, product_zero_left c, product_zero_left d) (simp xor_zero)

-- one matrix after another is their product
module _ (k0 k1 k2 k3 l0 l1 l2 l3 : ℕ) (hk0 : k0 < 256) (hk1 : k1 < 256) (hk2 : k2 < 256) (hk3 : k3 < 256) (hl0 : l0 < 256)
    (hl1 : l1 < 256) (hl2 : l2 < 256) (hl3 : l3 < 256) where
  pub matrix-matrix : (m0 m1 m2 m3 : ℕ) → dot k0 k1 k2 k3 l0 l3 l2 l1 ≡ m0 → dot k0 k1 k2 k3 l1 l0 l3 l2 ≡ m1
      → dot k0 k1 k2 k3 l2 l1 l0 l3 ≡ m2 → dot k0 k1 k2 k3 l3 l2 l1 l0 ≡ m3
      → (a : List ℕ) → matrix k0 k1 k2 k3 (matrix l0 l1 l2 l3 a) ≡ matrix m0 m1 m2 m3 a
  unfolding matrix
  matrix-matrix m0 m1 m2 m3 e0 e1 e2 e3 a = simp (dot-dot, e0, e1, e2, e3)

-- the coefficients of MIXCOLUMNS times 05 00 04 00
inverse_row : (dot 2 3 1 1 5 0 4 0 ≡ 14) × (dot 2 3 1 1 0 5 0 4 ≡ 11) × (dot 2 3 1 1 4 0 5 0 ≡ 13) × (dot 2 3 1 1 0 4 0 5 ≡ 9)
unfolding dot ◌•◌ times x_times
inverse_row = (refl, refl, refl, refl)

-- a word times a matrix, by sums, turns and doubles of words
pub mixed_word : (a : List ℕ) → ((i : ℕ) → at a i < 256)
    → sum_word (sum_word (rot_word a) (rot_word (rot_word (sum_word a (rot_word a))))) (doubled (sum_word a (rot_word a))) ≡ matrix 2 3 1 1 a
unfolding doubled matrix
mixed_word a h = simp (mixed_is, h)

spread_word : (a : List ℕ) → ((i : ℕ) → at a i < 256) → matrix 5 0 4 0 a ≡ sum_word a (doubled (doubled (sum_word a (rot_word (rot_word a)))))
unfolding doubled matrix
spread_word a h = simp (spread_is, h)

pub inv_mixed_word : (a : List ℕ) → ((i : ℕ) → at a i < 256)
    → matrix 2 3 1 1 (sum_word a (doubled (doubled (sum_word a (rot_word (rot_word a)))))) ≡ matrix 14 11 13 9 a
inv_mixed_word a h =
    ap (matrix 2 3 1 1) (sym (spread_word a h))
    ∙ matrix-matrix 2 3 1 1 5 0 4 0 (lit< tt) (lit< tt) (lit< tt) (lit< tt) (lit< tt) (lit< tt) (lit< tt) (lit< tt) 14 11 13 9 inverse_row.0 inverse_row.1 inverse_row.2 inverse_row.3 a

-- a state whose columns, as numbers hold them, are the sums of those of a and b, and one whose columns are those of s times a matrix
pub sums_are : (a b r : List ℕ) (x0 x1 x2 x3 y0 y1 y2 y3 : ℕ) → r ≡ word_of (x0 ⊕ y0) ++ word_of (x1 ⊕ y1) ++ word_of (x2 ⊕ y2) ++ word_of (x3 ⊕ y3)
    → word_of x0 ≡ word_at a 0 → word_of y0 ≡ word_at b 0 → word_of x1 ≡ word_at a 1 → word_of y1 ≡ word_at b 1
    → word_of x2 ≡ word_at a 2 → word_of y2 ≡ word_at b 2 → word_of x3 ≡ word_at a 3 → word_of y3 ≡ word_at b 3
    → r ≡ add_round_key a b
unfolding add_round_key
sums_are a b r x0 x1 x2 x3 y0 y1 y2 y3 e a0 b0 a1 b1 a2 b2 a3 b3 =
    e ∙ λ i. word_sum x0 y0 a0 b0 i ++ word_sum x1 y1 a1 b1 i ++ word_sum x2 y2 a2 b2 i ++ word_sum x3 y3 a3 b3 i

pub columns_are : (k0 k1 k2 k3 : ℕ) (s r : List ℕ) (x0 x1 x2 x3 y0 y1 y2 y3 : ℕ) → r ≡ word_of y0 ++ word_of y1 ++ word_of y2 ++ word_of y3
    → word_of y0 ≡ matrix k0 k1 k2 k3 (word_of x0) → word_of y1 ≡ matrix k0 k1 k2 k3 (word_of x1)
    → word_of y2 ≡ matrix k0 k1 k2 k3 (word_of x2) → word_of y3 ≡ matrix k0 k1 k2 k3 (word_of x3)
    → word_of x0 ≡ word_at s 0 → word_of x1 ≡ word_at s 1 → word_of x2 ≡ word_at s 2 → word_of x3 ≡ word_at s 3
    → r ≡ turned k0 k1 k2 k3 s
unfolding matrix
columns_are k0 k1 k2 k3 s r x0 x1 x2 x3 y0 y1 y2 y3 e m0 m1 m2 m3 c0 c1 c2 c3 =
    e ∙ (λ i. m0 i ++ m1 i ++ m2 i ++ m3 i) ∙ λ i. mixed (c0 i) ++ mixed (c1 i) ++ mixed (c2 i) ++ mixed (c3 i)
  where
    mixed : List ℕ → List ℕ
    mixed = matrix k0 k1 k2 k3
