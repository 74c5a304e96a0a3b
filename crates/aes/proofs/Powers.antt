-- Powers of a byte, the 255 powers of the generator 03, and logarithms.
-- Assumes nothing.
use mathlib.Core.Path.{◌≡◌, refl, sym, ap, ap₂, ◌∙◌}
use mathlib.Core.List.{List, [], ◌∷◌}
use Prim.Native.Nat.{ℕ, zero, suc, ◌+◌, ◌-◌, ◌*◌, ◌/◌, ◌%◌, ◌<◌}
use native.Mathlib.Nat.{mul-zero, mul-suc, add_comm, zero-mul, zero-add, suc-add, div-add-mod'}
use native.Mathlib.Omega.{arith}
use lib.Dec.{lit<}
use lib.ListN.{get_or}
use Rattle.aes.specs.Byte.{◌⊕◌, listed, table, place}
use Rattle.aes.specs.Field.{x_times, times, ◌•◌, raise, power, logarithm, logarithms}
use Rattle.aes.proofs.Listed.{Inverted, table_at, table_same, place-below, place_right, place_only}
use Rattle.aes.proofs.FieldLaws.{product_one, product_three, product_byte, product_assoc}

pub raise_byte : (b n : ℕ) → b < 256 → raise b n < 256
unfolding raise
raise_byte b zero h = lit< tt
raise_byte b (suc n) h = product_byte b (raise b n) h

pub raise_add : (b i j : ℕ) → b < 256 → raise b (i + j) ≡ raise b i • raise b j
unfolding raise
raise_add b zero j h = rw zero-add (sym (product_one (raise b j) (raise_byte b j h)))
raise_add b (suc i) j h = rw (suc-add, raise_add b i j h, product_assoc b (raise b i) (raise b j) h (raise_byte b i h))

pub raise-raise : (b i n : ℕ) → b < 256 → raise (raise b i) n ≡ raise b (i * n)
unfolding raise
raise-raise b i zero h = rw mul-zero
raise-raise b i (suc n) h = rw (mul-suc, add_comm (i * n) i, raise_add b i (i * n) h, raise-raise b i n h)

pub power_byte : (n : ℕ) → power n < 256
unfolding power
power_byte n = raise_byte 3 n (lit< tt)

pub power_add : (i j : ℕ) → power (i + j) ≡ power i • power j
unfolding power
power_add i j = raise_add 3 i j (lit< tt)

-- 03 has order 255
pub power_255 : power 255 ≡ 1
unfolding power raise ◌•◌ times x_times
power_255 = refl

power_turns : (q n : ℕ) → power (q * 255 + n) ≡ power n
power_turns zero n = rw (zero-mul, zero-add)
power_turns (suc q) n =
    let e : suc q * 255 + n ≡ 255 + (q * 255 + n) = omega arith in
    rw (e, power_add 255 (q * 255 + n), power_255, power_turns q n, product_one (power n) (power_byte n))

pub power_mod : (n : ℕ) → power (n % 255) ≡ power n
power_mod n = sym (power_turns (n / 255) (n % 255)) ∙ ap power (div-add-mod' n 255)

-- b, 03 • b, 03 • 03 • b, .. n entries, worked out by doubling
unfoldable pub tripled : ℕ → ℕ → List ℕ
unfolding x_times
tripled zero b = []
tripled (suc n) b = b ∷ tripled n (b ⊕ x_times b)

listed_tripled : (i n : ℕ) → listed power i n ≡ tripled n (power i)
unfolding tripled power raise
listed_tripled i zero = refl
listed_tripled i (suc n) =
    ap (λ (l : List ℕ). power i ∷ l) (listed_tripled (suc i) n ∙ ap (tripled n) (product_three (power i) (power_byte i)))

-- the table of powers, as antt works it out
unfoldable pub powers : List ℕ
unfolding tripled
powers = tripled 255 1

pub powers_are : table power 255 ≡ powers
unfolding table power raise powers
powers_are = listed_tripled 0 255

pub powers_at : (n : ℕ) → n < 255 → get_or powers n 0 ≡ power n
powers_at n h = rw powers_are at (table_at power 255 n h)

pub logarithm_is : (b : ℕ) → logarithm b ≡ place b powers
unfolding logarithm
logarithm_is b = ap (place b) powers_are

-- the table of logarithms, as antt works it out, and the entry for b in it
pub logarithms_are : logarithms ≡ (let l : List ℕ = powers in table (λ k. place (k + 1) l) 255)
logarithms_are = table_same (λ k. logarithm (k + 1)) (λ k. place (k + 1) powers) 255 (λ k h. logarithm_is (k + 1))

pub logarithm-at : (b : ℕ) → 0 < b → b < 256 → get_or logarithms (b - 1) 0 ≡ logarithm b
logarithm-at b p h =
    let e : b - 1 + 1 ≡ b = omega arith in
    table_at (λ k. logarithm (k + 1)) 255 (b - 1) (omega arith) ∙ ap logarithm e

-- the test over all 255 powers: each of 01 to ff stands among them, and once
test : Inverted suc 255 powers
unfolding table place powers
test = (refl, refl, refl)

inverted : Inverted suc 255 (table power 255)
inverted = rw powers_are test

pub logarithm-below : (b : ℕ) → 0 < b → b < 256 → logarithm b < 255
unfolding logarithm
logarithm-below zero p h = absurd (omega arith)
logarithm-below (suc k) p h = place-below power suc 255 inverted k (omega arith)

-- the power at a byte's logarithm is the byte, and the logarithm of a power is its place
pub power-logarithm : (b : ℕ) → 0 < b → b < 256 → power (logarithm b) ≡ b
unfolding logarithm
power-logarithm zero p h = absurd (omega arith)
power-logarithm (suc k) p h = place_right power suc 255 inverted k (omega arith)

pub logarithm-power : (n : ℕ) → n < 255 → logarithm (power n) ≡ n
unfolding logarithm
logarithm-power n h = place_only power suc 255 inverted n h

-- a product by logarithms
pub product_by_logarithms : (a b : ℕ) → 0 < a → a < 256 → 0 < b → b < 256 → power ((logarithm a + logarithm b) % 255) ≡ a • b
product_by_logarithms a b pa ha pb hb =
    power_mod (logarithm a + logarithm b) ∙ power_add (logarithm a) (logarithm b)
    ∙ ap₂ (◌•◌) (power-logarithm a pa ha) (power-logarithm b pb hb)
