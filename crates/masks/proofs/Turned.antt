-- Tables that are filled part by part.
-- Assumes nothing.
use mathlib.Core.Path.{◌≡◌, refl, sym, ap, ap₂, ◌∙◌}
use mathlib.Core.List.{List}
use Prim.Native.Nat.{ℕ, ◌+◌, ◌*◌, ◌/◌, ◌%◌, ◌≤◌, ◌<◌}
use native.Mathlib.Omega.{arith}
use lib.Dec.{lit<}
use lib.ListN.{length, take}
use lib.Bits.{xor_shr, xor_mod, xor_lt}
use lib.Seq.{length-take-le, get_or-take, ext_get_or}
use Rattle.aes.specs.Byte.{◌⊕◌, table}
use Rattle.aes.specs.State.{at}
use Rattle.aes.specs.Held.{Holds}
use Rattle.aes.proofs.Listed.{table_at, table-length, table_same, agree}
use Rattle.aes.proofs.Xor.{xor_zero, xor_assoc, xor_byte}
use Rattle.aes.proofs.Part.{holds_read}
use Rattle.aes.proofs.Fill.{Filled}
use Rattle.masks.specs.Parts.{turned_table, Exchanged}

pub holds_filled : {f : ℕ → ℕ} {n i : ℕ} {r : List ℕ} → i ≤ n → Holds n (table f i) r → Filled f n i r
holds_filled {f} {n} {i} {r} le h =
    record {
      room = h.size;
      within = le;
      so_far = λ k lt. holds_read n (table f i) r k h (rw (table-length f i) lt) ∙ table_at f i k lt;
    }

pub filled_holds : {f : ℕ → ℕ} {n i : ℕ} {r : List ℕ} → Filled f n i r → Holds n (table f i) r
filled_holds {f} {n} {i} {r} p =
    let size : length (take i r) ≡ i = length-take-le i r (omega (arith, p.room, p.within)) in
    record {
      size = p.room;
      head =
          rw (table-length f i)
          (ext_get_or 0 (take i r) (table f i) (size ∙ sym (table-length f i))
          (λ k lt. let below : k < i = omega (arith, lt, size) in get_or-take i r k 0 below ∙ p.so_far k below ∙ sym (table_at f i k below)));
    }

-- two numbers are the same by their digits of sixteen
by_nibbles : (x y : ℕ) → x / 16 ≡ y / 16 → x % 16 ≡ y % 16 → x ≡ y
by_nibbles x y h l = omega (arith, h, l)

high_xor : (x y : ℕ) → (x ⊕ y) / 16 ≡ (x / 16) ⊕ (y / 16)
high_xor x y = xor_shr x y 4

low_xor : (x y : ℕ) → (x ⊕ y) % 16 ≡ (x % 16) ⊕ (y % 16)
low_xor x y = xor_mod x y 4

high_of : (b i : ℕ) → i < 16 → (16 * b + i) / 16 ≡ b
high_of b i lt = omega (arith, lt)

low_of : (b i : ℕ) → i < 16 → (16 * b + i) % 16 ≡ i
low_of b i lt = omega (arith, lt)

none : (m : ℕ) → m % 16 / 16 ≡ 0
none m = omega arith

same_low : (m : ℕ) → m % 16 % 16 ≡ m % 16
same_low m = omega arith

-- row b of what a mask m takes: entries of table m % 16, in row b xor m / 16
across : (b i m : ℕ) → i < 16 → (16 * (b ⊕ (m / 16)) + i) ⊕ (m % 16) ≡ (16 * b + i) ⊕ m
across b i m lt =
    by_nibbles ((16 * (b ⊕ (m / 16)) + i) ⊕ (m % 16)) ((16 * b + i) ⊕ m)
    (high_xor (16 * (b ⊕ (m / 16)) + i) (m % 16) ∙ ap₂ (◌⊕◌) (high_of (b ⊕ (m / 16)) i lt) (none m) ∙ xor_zero (b ⊕ (m / 16))
    ∙ sym (high_xor (16 * b + i) m ∙ ap (λ (x : ℕ). x ⊕ (m / 16)) (high_of b i lt)))
    (low_xor (16 * (b ⊕ (m / 16)) + i) (m % 16) ∙ ap₂ (◌⊕◌) (low_of (b ⊕ (m / 16)) i lt) (same_low m)
    ∙ sym (low_xor (16 * b + i) m ∙ ap (λ (x : ℕ). x ⊕ (m % 16)) (low_of b i lt)))

pub row_high : (b m : ℕ) → b < 16 → m < 256 → b ⊕ (m / 16) < 16
row_high b m hb hm = xor_lt 4 b (m / 16) hb (omega (arith, hm))

-- a row of sixteen bytes lies in the tables
pub row_below : (l c : ℕ) → l < 16 → c < 16 → 256 * l + 16 * c + 16 ≤ 4096
row_below l c hl hc = omega (arith, hl, hc)

in_table : (c i l : ℕ) → c < 16 → i < 16 → (256 * l + 16 * c + i) % 256 ≡ 16 * c + i
in_table c i l hc hi = omega (arith, hc, hi)

which_table : (c i l : ℕ) → c < 16 → i < 16 → (256 * l + 16 * c + i) / 256 ≡ l
which_table c i l hc hi = omega (arith, hc, hi)

pub row_of : (f : ℕ → ℕ) (b i m : ℕ) → b < 16 → i < 16 → m < 256 → turned_table f (256 * (m % 16) + 16 * (b ⊕ (m / 16)) + i) ≡ f ((16 * b + i) ⊕ m)
unfolding turned_table
row_of f b i m hb hi hm =
    let high = row_high b m hb hm in
    ap f (ap₂ (◌⊕◌) (in_table (b ⊕ (m / 16)) i (m % 16) high hi) (which_table (b ⊕ (m / 16)) i (m % 16) high hi) ∙ across b i m hi)

-- tables of what a list has are those of what it is the table of
pub turned_same : (f : ℕ → ℕ) (t : List ℕ) → t ≡ table f 256 → table (turned_table (at t)) 4096 ≡ table (turned_table f) 4096
unfolding turned_table
turned_same f t e =
    table_same _ _ 4096
    (λ q lt.
    let i : ℕ = (q % 256) ⊕ (q / 256) in
    ap (λ (l : List ℕ). at l i) e ∙ table_at f 256 i (xor_byte (q % 256) (q / 256) (omega arith) (omega (arith, lt))))

-- the first table is the lent one
pub first_table : (f : ℕ → ℕ) (x : ℕ) → x < 256 → f x ≡ turned_table f x
unfolding turned_table
first_table f x lt =
    let low : x % 256 ≡ x = omega (arith, lt) in
    let high : x / 256 ≡ 0 = omega (arith, lt) in
    ap f (sym (ap₂ (◌⊕◌) low high ∙ xor_zero x))

-- the second has its neighbours exchanged
pub second_table : (f : ℕ → ℕ) (x : ℕ) → x < 256 → f (x ⊕ 1) ≡ turned_table f (256 + x)
unfolding turned_table
second_table f x lt =
    let low : (256 + x) % 256 ≡ x = omega (arith, lt) in
    let high : (256 + x) / 256 ≡ 1 = omega (arith, lt) in
    ap f (sym (ap₂ (◌⊕◌) low high))

-- where an entry is taken from
abbrev index : ℕ → ℕ
index q = (q % 256) ⊕ (q / 256)

-- k is a power of two below sixteen, so that below k sums with k carry nothing, which a small test tells
abbrev pub Doubling : ℕ → ℕ → Type 0
Doubling k end = (f : ℕ → ℕ) → Exchanged k end (turned_table f)

module _ (k : ℕ) (small : k < 16) (sums : table (λ j. k + j) k ≡ table (λ j. k ⊕ j) k) where
  in_byte : k % 256 ≡ k
  in_byte = omega (arith, small)

  no_byte : k / 256 ≡ 0
  no_byte = omega (arith, small)

  doubling : Doubling k (256 * k)
  unfolding turned_table
  doubling f y lt =
      let x : ℕ = y % 256 in
      let j : ℕ = y / 256 in
      let hj : j < k = omega (arith, lt) in
      let low : (256 * k + y) % 256 ≡ x = omega arith in
      let high : (256 * k + y) / 256 ≡ k + j = omega arith in
      ap f
      (ap₂ (◌⊕◌) (xor_mod y k 8 ∙ ap (λ (z : ℕ). x ⊕ z) in_byte) (xor_shr y k 8 ∙ ap (λ (z : ℕ). j ⊕ z) no_byte ∙ xor_zero j) ∙ xor_assoc x k j
      ∙ sym (ap₂ (◌⊕◌) low (high ∙ agree (λ i. k + i) (λ i. k ⊕ i) k sums j hj)))

pub by_one : Doubling 1 256
unfolding table
by_one = doubling 1 (lit< tt) refl

pub by_two : Doubling 2 512
unfolding table
by_two = doubling 2 (lit< tt) refl

pub by_four : Doubling 4 1024
unfolding table
by_four = doubling 4 (lit< tt) refl

pub by_eight : Doubling 8 2048
unfolding table
by_eight = doubling 8 (lit< tt) refl

-- within a row of sixteen the exchange is the same in every row
pub in_row_of : (k n i : ℕ) → k < 16 → i < 16 → (16 * n + i) ⊕ k ≡ 16 * n + (i ⊕ k)
in_row_of k n i hk hi =
    let z : ℕ = i ⊕ k in
    let hz : z < 16 = xor_lt 4 i k hi hk in
    let none : k / 16 ≡ 0 = omega (arith, hk) in
    let digit : k % 16 ≡ k = omega (arith, hk) in
    by_nibbles ((16 * n + i) ⊕ k) (16 * n + z)
    (high_xor (16 * n + i) k ∙ ap₂ (◌⊕◌) (high_of n i hi) none ∙ xor_zero n ∙ sym (high_of n z hz))
    (low_xor (16 * n + i) k ∙ ap₂ (◌⊕◌) (low_of n i hi) digit ∙ sym (low_of n z hz))
