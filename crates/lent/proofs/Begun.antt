-- The record that a start begins with is the one that was lent, or that of the one offset.
-- Assumes nothing.
use mathlib.Core.Path.{◌≡◌, refl, sym, ◌∙◌}
use mathlib.Core.Bool.{Bool, true, false}
use mathlib.Core.List.{List}
use Prim.Native.Nat.{ℕ, ◌+◌, ◌%◌, ◌≤◌, ◌<◌}
use native.Mathlib.Omega.{arith}
use lib.Dec.{eqb, eqb→eq}
use lib.ListN.{length}
use Rattle.aes.specs.Byte.{table}
use Rattle.aes.specs.State.{at}
use Rattle.aes.proofs.Listed.{table_same}
use Rattle.aes.proofs.Undo.{state-at}
use Rattle.aes.proofs.Below.{under}
use Rattle.masks.specs.Mask.{one, advanced}
use Rattle.masks.proofs.Counted.{advanced_none, one_on}
use Rattle.std.specs.Prelude.{None}
use Rattle.lent.specs.Started.{is_one, start_of, record_of}

one_turn : (o : ℕ) → one (o % 16) ≡ one o
unfolding table
one_turn o = table_same (λ i. (o % 16 + i) % 16) (λ i. (o + i) % 16) 16 (λ i h. omega arith)

-- one offset is counted on from the offsets of 0
pub one_from : (o : ℕ) → advanced (one 0) (o % 16) ≡ one o
one_from o = sym (one_on (o % 16)) ∙ one_turn o

-- of one offset
pub record_one : (o : ℕ) → record_of (record { offsets = None; on = o }) ≡ one o
record_one = one_from

-- of an offset for each byte
pub record Low (v : List ℕ) : Type 0 where
  pub sixteen : length v ≡ 16
  pub low : (i : ℕ) → i < 16 → at v i ≤ 15

are_one : (v : List ℕ) → length v ≡ 16 → is_one v ≡ true → v ≡ one (at v 0 % 16)
unfolding table
are_one v size e =
    sym (state-at v size)
    ∙ table_same (at v) (λ i. (at v 0 % 16 + i) % 16) 16 (λ i h. eqb→eq (at v i) ((at v 0 % 16 + i) % 16) (under (λ i. eqb (at v i) ((at v 0 % 16 + i) % 16)) 16 (rw e tt) i h))

pub record_lent : (v : List ℕ) → Low v → record_of (start_of v) ≡ v
record_lent v h = either (is_one v) refl
  where
    either : (b : Bool) → is_one v ≡ b → record_of (start_of v) ≡ v
    either true e = rw e (one_from (at v 0) ∙ sym (are_one v h.sixteen e ∙ one_turn (at v 0)))
    either false e = rw e (advanced_none v h.sixteen h.low)
