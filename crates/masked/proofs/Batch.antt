-- Many blocks in one call: what its checks tell of each block, and why each comes out as in a call of its own.
-- Assumes nothing.
use mathlib.Core.Path.{◌≡◌, ap, sym, subst, ◌∙◌}
use mathlib.Core.Bool.{true}
use mathlib.Core.List.{List}
use Prim.Native.Nat.{ℕ, ◌*◌, ◌/◌, ◌%◌, ◌<◌}
use native.Mathlib.Omega.{arith}
use lib.Dec.{T, eqb, leb, eqb→eq}
use lib.ListN.{length, drop, length-drop}
use lib.Seq.{length-take-le}
use mir.Facts.{and_yes}
use borrow.Author.Tests.{le-leb}
use Rattle.aes.specs.State.{at}
use Rattle.aes.specs.Reply.{refusal, scheduled}
use Rattle.aes.specs.Byte.{below}
use Rattle.aes.proofs.Below.{below_all}
use Rattle.aes.proofs.Replies.{AllHold, telling, holds_done, all_hold, is_true}
use Rattle.masks.specs.Mask.{one, in_row}
use Rattle.masked.specs.Calls.{published_checks, block_at, blocks_checks, encrypt_published_of}
use Rattle.starts.specs.Each.{in_turn}
use Rattle.masks.proofs.Row.{row_same}
use Rattle.masks.proofs.Counted.{one_at}

block_size : (k n : ℕ) (xs : List ℕ) → length xs ≡ 16 * n → k < n → length (block_at k xs) ≡ 16
block_size k n xs l lt = length-take-le 16 (drop (16 * k) xs) (rw length-drop (omega arith))

-- the record of any offset has sixteen offsets below 16
one-low : (o : ℕ) → T (below 16 (λ j. leb (at (one o) j) 15))
one-low o = subst T (sym (below_all (λ j. leb (at (one o) j) 15) 16 (λ j h. le-leb (at (one o) j) 15 (rw (one_at o j h) (omega arith))))) tt

-- what the checks tell of a call that they let pass
pub record Passed (w b out offsets : List ℕ) (d form : ℕ) : Type 0 where
  pub schedule : scheduled (length w) ≡ true
  pub input : length b ≡ 16 * length offsets
  pub output : length out ≡ 16 * length offsets
  pub blocks : length b / 16 ≡ length offsets
  pub alone : (k : ℕ) → k < length offsets → AllHold (published_checks w (block_at k b) (block_at k out) (one (at offsets k)) d form)

pub passed_blocks : (w b out offsets : List ℕ) (d form : ℕ) {r : ℕ} → r ≡ refusal (blocks_checks w b out offsets d form) → r ≡ 0 → Passed w b out offsets d form
unfolding AllHold telling
passed_blocks w b out offsets d form told e =
    let h = all_hold (blocks_checks w b out offsets d form) tt (sym told ∙ e) in
    let whole : length b % 16 ≡ 0 = eqb→eq (length b % 16) 0 (and_yes (eqb (length b % 16) 0) (leb (length b) 4096) h.1.0).0 in
    let long : length out ≡ length b = eqb→eq (length out) (length b) h.1.1.0 in
    let n : length offsets ≡ length b / 16 = eqb→eq (length offsets) (length b / 16) h.1.1.1.0 in
    let lb : length b ≡ 16 * length offsets = omega (arith, whole, n) in
    let lo : length out ≡ 16 * length offsets = long ∙ lb in
    record {
      schedule = is_true (scheduled (length w)) h.0;
      input = lb;
      output = lo;
      blocks = sym n;
      alone = λ k lt.
          (h.0, (rw (block_size k (length offsets) b lb lt) tt, (rw (block_size k (length offsets) out lo lt) tt, (tt, (one-low (at offsets k), h.1.1.1.1.1)))));
    }

-- what the loop makes is what single calls do
pub as_single : {w b out offsets : List ℕ} {d form : ℕ} → Passed w b out offsets d form
    → in_row (in_turn w b offsets d) (length offsets)
    ≡ in_row (λ k. (encrypt_published_of w (block_at k b) (block_at k out) (one (at offsets k)) d form).1) (length b / 16)
as_single {w} {b} {out} {offsets} {d} {form} p =
    rw p.blocks
    (row_same _ _ (length offsets) (λ k lt. sym (ap (λ (r : ℕ × List ℕ). r.1) (holds_done (block_at k out) _ _ (p.alone k lt)))))
