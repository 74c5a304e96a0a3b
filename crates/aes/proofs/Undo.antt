-- Each transformation of a state of bytes gives one, is linear where a mask has to go through it, and, but for SUBBYTES, is undone
-- by its inverse.
-- Assumes nothing.
use mathlib.Core.Path.{◌≡◌, refl, sym, ◌∙◌}
use mathlib.Core.List.{List, ◌++◌}
use Prim.Native.Nat.{ℕ, ◌+◌, ◌*◌, ◌/◌, ◌%◌, ◌<◌}
use native.Mathlib.Omega.{arith}
use native.Mathlib.Decide.{dec_lt}
use lib.Dec.{lit<}
use lib.ListN.{length, get_or-eq_default}
use Rattle.aes.specs.Byte.{◌⊕◌, table}
use Rattle.aes.specs.Field.{x_times, times, ◌•◌}
use Rattle.aes.specs.Box.{s_box}
use Rattle.aes.specs.State.{at, cell, ahead, behind, state, square, dot, turned, sub_bytes, shift_rows, inv_shift_rows, mix_columns, inv_mix_columns, add_round_key, Bytes}
use Rattle.aes.specs.Key.{word_at, round_key}
use Rattle.aes.specs.Word.{matrix}
use Rattle.aes.proofs.Xor.{sums, xor_byte}
use Rattle.aes.proofs.Listed.{table_at}
use Rattle.aes.proofs.Fill.{filled_all}
use Rattle.aes.proofs.Boxes.{s_box_byte}
use Rattle.aes.proofs.Columns.{dot_xor, dot_byte, dot-one, matrix-matrix}

-- sixteen bytes are the state of them
pub state-at : (s : List ℕ) → length s ≡ 16 → state (at s) ≡ s
state-at s l = sym (filled_all {i = 16} (record { room = l; within = omega arith; so_far = λ k h. refl }) (omega arith))

pub state-bytes : (f : ℕ → ℕ) → ((i : ℕ) → f i < 256) → Bytes 16 (state f)
unfolding table
state-bytes f h = record { size = refl; byte = at_k }
  where
    at_k : (k : ℕ) → at (state f) k < 256
    at_k k =
        elim (dec_lt k 16) [
          | yes q ↦ rw (table_at f 16 k q) (h k)
          | no q ↦ rw (get_or-eq_default (state f) 0 {n = k} (omega arith)) (lit< tt)
        ]

pub add_bytes : {a b : List ℕ} → Bytes 16 a → Bytes 16 b → Bytes 16 (add_round_key a b)
unfolding add_round_key
add_bytes {a} {b} p q = state-bytes (λ i. at a i ⊕ at b i) (λ i. xor_byte (at a i) (at b i) (p.byte i) (q.byte i))

pub add_size : (a b : List ℕ) → length (add_round_key a b) ≡ 16
unfolding add_round_key
add_size a b = refl

pub sub_bytes_lem : {s : List ℕ} → Bytes 16 s → Bytes 16 (sub_bytes s)
unfolding sub_bytes
sub_bytes_lem {s} p = state-bytes (λ i. s_box (at s i)) (λ i. s_box_byte (at s i) (p.byte i))

pub key_bytes : (n : ℕ) (w : List ℕ) → Bytes n w → (r : ℕ) → Bytes 16 (round_key w r)
unfolding round_key
key_bytes n w h r = state-bytes (λ i. at w (16 * r + i)) (λ i. h.byte (16 * r + i))

square-bytes : (f : ℕ → ℕ → ℕ) → ((r c : ℕ) → f r c < 256) → Bytes 16 (square f)
square-bytes f h = state-bytes (λ i. f (i % 4) (i / 4)) (λ i. h (i % 4) (i / 4))

pub shift_bytes : {s : List ℕ} → Bytes 16 s → Bytes 16 (shift_rows s)
unfolding shift_rows
shift_bytes {s} p = square-bytes (λ r c. cell s r (ahead r c)) (λ r c. p.byte (r + 4 * ahead r c))

pub inv_shift_bytes : {s : List ℕ} → Bytes 16 s → Bytes 16 (inv_shift_rows s)
unfolding inv_shift_rows
inv_shift_bytes {s} p = square-bytes (λ r c. cell s r (behind r c)) (λ r c. p.byte (r + 4 * behind r c))

pub turned-bytes : (k0 k1 k2 k3 : ℕ) → k0 < 256 → k1 < 256 → k2 < 256 → k3 < 256 → (s : List ℕ) → Bytes 16 (turned k0 k1 k2 k3 s)
turned-bytes k0 k1 k2 k3 h0 h1 h2 h3 s =
    square-bytes
    (λ r c. dot k0 k1 k2 k3 (cell s r c) (cell s ((r + 1) % 4) c) (cell s ((r + 2) % 4) c) (cell s ((r + 3) % 4) c))
    (λ r c. dot_byte k0 k1 k2 k3 _ _ _ _ h0 h1 h2 h3)

pub mix_bytes : (s : List ℕ) → Bytes 16 (mix_columns s)
unfolding mix_columns
mix_bytes = turned-bytes 2 3 1 1 (lit< tt) (lit< tt) (lit< tt) (lit< tt)

pub inv_mix_bytes : (s : List ℕ) → Bytes 16 (inv_mix_columns s)
unfolding inv_mix_columns
inv_mix_bytes = turned-bytes 14 11 13 9 (lit< tt) (lit< tt) (lit< tt) (lit< tt)

-- linear over the sum
pub mix_add : (a b : List ℕ) → mix_columns (add_round_key a b) ≡ add_round_key (mix_columns a) (mix_columns b)
unfolding mix_columns add_round_key
mix_add a b = simp dot_xor

pub inv_mix_add : (a b : List ℕ) → inv_mix_columns (add_round_key a b) ≡ add_round_key (inv_mix_columns a) (inv_mix_columns b)
unfolding inv_mix_columns add_round_key
inv_mix_add a b = simp dot_xor

pub shift_add : (a b : List ℕ) → shift_rows (add_round_key a b) ≡ add_round_key (shift_rows a) (shift_rows b)
unfolding shift_rows add_round_key
shift_add a b = refl

pub inv_shift_add : (a b : List ℕ) → inv_shift_rows (add_round_key a b) ≡ add_round_key (inv_shift_rows a) (inv_shift_rows b)
unfolding inv_shift_rows add_round_key
inv_shift_add a b = refl

-- undone
pub add_twice : {a : List ℕ} (b : List ℕ) → Bytes 16 a → add_round_key (add_round_key a b) b ≡ a
unfolding add_round_key
add_twice {a} b h = simp sums (state-at a h.size)

pub inv_shift_shift : {s : List ℕ} → Bytes 16 s → inv_shift_rows (shift_rows s) ≡ s
unfolding shift_rows inv_shift_rows
inv_shift_shift {s} h = state-at s h.size

pub shift_inv_shift : {s : List ℕ} → Bytes 16 s → shift_rows (inv_shift_rows s) ≡ s
unfolding shift_rows inv_shift_rows
shift_inv_shift {s} h = state-at s h.size

-- one matrix after another, in every column
turned-turned : (k0 k1 k2 k3 l0 l1 l2 l3 m0 m1 m2 m3 : ℕ)
    → ((a : List ℕ) → matrix k0 k1 k2 k3 (matrix l0 l1 l2 l3 a) ≡ matrix m0 m1 m2 m3 a)
    → (s : List ℕ) → turned k0 k1 k2 k3 (turned l0 l1 l2 l3 s) ≡ turned m0 m1 m2 m3 s
unfolding matrix
turned-turned k0 k1 k2 k3 l0 l1 l2 l3 m0 m1 m2 m3 each s =
    λ i. each (word_at s 0) i ++ each (word_at s 1) i ++ each (word_at s 2) i ++ each (word_at s 3) i

turned-one : {s : List ℕ} → Bytes 16 s → turned 1 0 0 0 s ≡ s
turned-one {s} h = simp (dot-one, h.byte) (state-at s h.size)

-- the coefficients of INVMIXCOLUMNS times MIXCOLUMNS
ones : (dot 14 11 13 9 2 1 1 3 ≡ 1) × (dot 14 11 13 9 3 2 1 1 ≡ 0) × (dot 14 11 13 9 1 3 2 1 ≡ 0) × (dot 14 11 13 9 1 1 3 2 ≡ 0)
unfolding dot ◌•◌ times x_times
ones = (refl, refl, refl, refl)

ones_back : (dot 2 3 1 1 14 9 13 11 ≡ 1) × (dot 2 3 1 1 11 14 9 13 ≡ 0) × (dot 2 3 1 1 13 11 14 9 ≡ 0) × (dot 2 3 1 1 9 13 11 14 ≡ 0)
unfolding dot ◌•◌ times x_times
ones_back = (refl, refl, refl, refl)

pub inv_mix_mix : {s : List ℕ} → Bytes 16 s → inv_mix_columns (mix_columns s) ≡ s
unfolding mix_columns inv_mix_columns
inv_mix_mix {s} h =
    turned-turned 14 11 13 9 2 3 1 1 1 0 0 0
    (matrix-matrix 14 11 13 9 2 3 1 1 (lit< tt) (lit< tt) (lit< tt) (lit< tt) (lit< tt) (lit< tt) (lit< tt) (lit< tt) 1 0 0 0 ones.0 ones.1 ones.2 ones.3) s
    ∙ turned-one h

pub mix_inv_mix : {s : List ℕ} → Bytes 16 s → mix_columns (inv_mix_columns s) ≡ s
unfolding mix_columns inv_mix_columns
mix_inv_mix {s} h =
    turned-turned 2 3 1 1 14 11 13 9 1 0 0 0
    (matrix-matrix 2 3 1 1 14 11 13 9 (lit< tt) (lit< tt) (lit< tt) (lit< tt) (lit< tt) (lit< tt) (lit< tt) (lit< tt) 1 0 0 0 ones_back.0 ones_back.1 ones_back.2 ones_back.3) s
    ∙ turned-one h
