-- Records of offsets: what the checks say of them, which ones the calls take, and which mask lies on a state at the record of one
-- offset.
-- Assumes nothing.
use mathlib.Core.Path.{◌≡◌, refl, sym, ap, ◌∙◌}
use mathlib.Core.Bool.{true}
use mathlib.Core.List.{List}
use Prim.Native.Nat.{ℕ, ◌+◌, ◌*◌, ◌%◌}
use native.Mathlib.Nat.{add-zero, mul-one}
use native.Mathlib.Omega.{arith}
use borrow.Author.Tests.{le-leb}
use lib.Dec.{leb}
use lib.ListN.{length}
use Rattle.aes.specs.Byte.{table, below}
use Rattle.aes.specs.State.{at, state}
use Rattle.aes.proofs.Below.{below_all}
use Rattle.aes.proofs.Listed.{table_same}
use Rattle.masks.specs.Mask.{one, label, advanced, mask}
use Rattle.masks.proofs.Counted.{advanced-at, one_at, mask_one}
use Rattle.theorems.specs.Ways.{Offsets}

pub low_offsets : (v : List ℕ) → Offsets v → below (length v) (λ k. leb (at v k) 15) ≡ true
low_offsets v h = below_all (λ k. leb (at v k) 15) (length v) (λ k lt. le-leb (at v k) 15 (h.1 k (rw h.0 at lt)))

-- the record of any offset, and any record that is so many labels on from another
pub one_offsets : (o : ℕ) → Offsets (one o)
unfolding table
one_offsets o = (refl, λ i h. rw (one_at o i h) (omega arith))

pub on_offsets : (v : List ℕ) (k : ℕ) → Offsets (advanced v k)
unfolding table
on_offsets v k = (refl, λ i h. rw (advanced-at v k i h) (omega arith))

-- Mask(o+k): M(o+k), M(o+k+1) .. M(o+k+15) at the bytes 0 to 15
pub one-mask : (M : List ℕ) (o k : ℕ) → mask M (one o) k ≡ state (λ i. at M ((o + i + k) % 16))
unfolding mask table
one-mask M o k =
    table_same (λ i. at M (label (one o) k i)) (λ i. at M ((o + i + k) % 16)) 16 (λ i h. ap (at M) (ap (λ (a : ℕ). (a + k) % 16) (one_at o i h) ∙ far i))
  where
    far : (i : ℕ) → ((o + i) % 16 + k) % 16 ≡ (o + i + k) % 16
    far i = omega arith

-- that of round 1 is that of round 0 at another offset
pub next_one : (M : List ℕ) (o d : ℕ) → mask M (one o) (d * 1) ≡ mask M (one ((o + d) % 16)) 0
next_one M o d = ap (mask M (one o)) (mul-one d ∙ sym (add-zero d)) ∙ mask_one M o d 0
