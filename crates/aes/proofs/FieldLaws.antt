-- The field's laws. Those of sums and doubling hold of all numbers; bytes are asked for only where a factor has to be one.
-- Assumes nothing.
use mathlib.Core.Path.{◌≡◌, refl, sym, ap, ap₂, ◌∙◌}
use Prim.Native.Nat.{ℕ, zero, suc, ◌*◌, ◌/◌, ◌%◌, ◌<◌}
use native.Mathlib.Nat.{mul-zero, mul-one, zero-mul, add-zero}
use native.Mathlib.Omega.{arith}
use lib.Bits.{xor_shr, xor_mod, xor_block}
use lib.Dec.{lit<}
use Rattle.aes.specs.Byte.{◌⊕◌, bit, table}
use Rattle.aes.specs.Field.{modulus, x_times, times, ◌•◌}
use Rattle.aes.proofs.Xor.{mod_two, sums, xor_self, xor_zero, xor_byte}
use Rattle.aes.proofs.Listed.{agree}

-- A bit p passes through what keeps 0, and spreads over a sum on either side of it.
bit_through : (f : ℕ → ℕ) → f 0 ≡ 0 → (x p : ℕ) → p < 2 → f (x * p) ≡ f x * p
bit_through f e x zero h = simp (mul-zero, e)
bit_through f e x (suc zero) h = simp mul-one
bit_through f e x (suc (suc p)) h = absurd (omega arith)

bit_right : (a b p : ℕ) → p < 2 → (a ⊕ b) * p ≡ a * p ⊕ b * p
bit_right a b zero h = simp mul-zero
bit_right a b (suc zero) h = simp mul-one
bit_right a b (suc (suc p)) h = absurd (omega arith)

bit_left : (c p q : ℕ) → p < 2 → q < 2 → c * (p ⊕ q) ≡ c * p ⊕ c * q
bit_left c zero q hp hq = rw mul-zero
bit_left c (suc zero) zero hp hq = rw mul-zero (sym (xor_zero (c * 1)))
bit_left c (suc zero) (suc zero) hp hq = rw (mul-zero, xor_self (c * 1))
bit_left c (suc zero) (suc (suc q)) hp hq = absurd (omega arith)
bit_left c (suc (suc p)) q hp hq = absurd (omega arith)

twice : (a b : ℕ) → (a ⊕ b) * 2 ≡ a * 2 ⊕ b * 2
twice a b = sym (simp add-zero at (xor_block 1 a b 0 0 (lit< tt) (lit< tt)))

pub x_times_xor : (a b : ℕ) → x_times (a ⊕ b) ≡ x_times a ⊕ x_times b
unfolding x_times
x_times_xor a b =
    rw (twice a b, xor_shr a b 7, xor_mod (a / 128) (b / 128) 1, bit_left modulus (a / 128 % 2) (b / 128 % 2) (mod_two _) (mod_two _))
    (simp sums)

times_xor_left : (n a b c : ℕ) → times n (a ⊕ b) c ≡ times n a c ⊕ times n b c
unfolding times
times_xor_left zero a b c = refl
times_xor_left (suc n) a b c =
    rw (bit_right a b (c % 2) (mod_two c), x_times_xor a b, times_xor_left n (x_times a) (x_times b) (c / 2)) (simp sums)

times_xor_right : (n a b c : ℕ) → times n a (b ⊕ c) ≡ times n a b ⊕ times n a c
unfolding times
times_xor_right zero a b c = refl
times_xor_right (suc n) a b c =
    rw (xor_mod b c 1, xor_shr b c 1, bit_left a (b % 2) (c % 2) (mod_two b) (mod_two c), times_xor_right n (x_times a) (b / 2) (c / 2))
    (simp sums)

times_zero : (n c : ℕ) → times n 0 c ≡ 0
unfolding times x_times
times_zero zero c = refl
times_zero (suc n) c = rw (zero-mul (c % 2), times_zero n (c / 2))

x_times_zero : x_times 0 ≡ 0
unfolding x_times
x_times_zero = refl

times-x_times : (n b c : ℕ) → times n (x_times b) c ≡ x_times (times n b c)
unfolding times
times-x_times zero b c = sym x_times_zero
times-x_times (suc n) b c =
    rw (
      x_times_xor (b * (c % 2)) (times n (x_times b) (c / 2)),
      bit_through x_times x_times_zero b (c % 2) (mod_two c),
      times-x_times n (x_times b) (c / 2),
    )

times-times : (n m a b c : ℕ) → times n (times m a b) c ≡ times m (times n a c) b
unfolding times
times-times n zero a b c = times_zero n c
times-times n (suc m) a b c =
    rw (
      times_xor_left n (a * (b % 2)) (times m (x_times a) (b / 2)) c,
      bit_through (λ x. times n x c) (times_zero n c) a (b % 2) (mod_two b),
      times-times n m (x_times a) (b / 2) c,
      times-x_times n a c,
    )

-- The product distributes over the sum.
pub product_xor_left : (a b c : ℕ) → (a ⊕ b) • c ≡ a • c ⊕ b • c
unfolding ◌•◌
product_xor_left = times_xor_left 8

pub product_xor_right : (a b c : ℕ) → a • (b ⊕ c) ≡ a • b ⊕ a • c
unfolding ◌•◌
product_xor_right = times_xor_right 8

pub product_zero_left : (b : ℕ) → 0 • b ≡ 0
unfolding ◌•◌
product_zero_left = times_zero 8

pub product_zero_right : (b : ℕ) → b • 0 ≡ 0
product_zero_right b = product_xor_right b 0 0 ∙ xor_self (b • 0)

pub product_one : (b : ℕ) → b < 256 → 1 • b ≡ b
unfolding ◌•◌ times x_times table
product_one = agree (λ b. 1 • b) (λ b. b) 256 refl

-- Two factors change places behind a third, whatever numbers they are; behind 1 that is commutativity.
pub product_swap : (a b c : ℕ) → a • b • c ≡ a • c • b
unfolding ◌•◌
product_swap = times-times 8 8

pub product_comm : (a b : ℕ) → a < 256 → b < 256 → a • b ≡ b • a
product_comm a b ha hb =
    ap (λ (x : ℕ). x • b) (sym (product_one a ha)) ∙ product_swap 1 a b ∙ ap (λ (x : ℕ). x • a) (product_one b hb)

pub product_one_right : (b : ℕ) → b < 256 → b • 1 ≡ b
product_one_right b h = product_comm b 1 h (lit< tt) ∙ product_one b h

bit_byte : (b p : ℕ) → b < 256 → p < 2 → b * p < 256
bit_byte b zero h hp = rw mul-zero (lit< tt)
bit_byte b (suc zero) h hp = rw mul-one h
bit_byte b (suc (suc p)) h hp = absurd (omega arith)

-- doubling in FIPS 197's words (4.2): the bits move up by one, and 1b is added where bit 7 was set
pub x_times_shift : (b : ℕ) → b < 256 → x_times b ≡ (0x1b * bit b 7) ⊕ (b * 2 % 256)
unfolding x_times table
x_times_shift = agree x_times (λ b. (0x1b * bit b 7) ⊕ (b * 2 % 256)) 256 refl

pub x_times_byte : (b : ℕ) → b < 256 → x_times b < 256
x_times_byte b h = rw (x_times_shift b h) (xor_byte (0x1b * bit b 7) (b * 2 % 256) (omega arith) (omega arith))

times_byte : (n b c : ℕ) → b < 256 → times n b c < 256
unfolding times
times_byte zero b c h = lit< tt
times_byte (suc n) b c h =
    xor_byte (b * (c % 2)) (times n (x_times b) (c / 2)) (bit_byte b (c % 2) h (mod_two c))
    (times_byte n (x_times b) (c / 2) (x_times_byte b h))

pub product_byte : (a b : ℕ) → a < 256 → a • b < 256
unfolding ◌•◌
product_byte = times_byte 8

pub product_assoc : (a b c : ℕ) → a < 256 → b < 256 → a • b • c ≡ a • (b • c)
product_assoc a b c ha hb =
    ap (λ (x : ℕ). x • c) (product_comm a b ha hb) ∙ product_swap b a c ∙ product_comm (b • c) a (product_byte b c hb) ha

-- doubling is the product with 02
pub product_two : (b : ℕ) → b < 256 → 2 • b ≡ x_times b
unfolding ◌•◌ times x_times table
product_two = agree (λ b. 2 • b) x_times 256 refl

pub product_three : (b : ℕ) → b < 256 → 3 • b ≡ b ⊕ x_times b
product_three b h = product_xor_left 1 2 b ∙ ap₂ (λ (x y : ℕ). x ⊕ y) (product_one b h) (product_two b h)
