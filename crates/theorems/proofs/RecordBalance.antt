-- The balance of a masked record: over the sixteen records that are 0 to 15 on from any one, of each byte that
-- one mask covers; and that it fails after MIXCOLUMNS.
-- Assumes nothing.
use mathlib.Core.Path.{◌≡◌, refl, ap, ◌∙◌}
use mathlib.Core.Bool.{true}
use mathlib.Core.List.{List}
use Prim.Native.Nat.{ℕ, zero, suc, ◌+◌, ◌-◌, ◌*◌, ◌<◌}
use native.Mathlib.Omega.{arith}
use lib.Dec.{T, lit<}
use lib.ListN.{length, get_or}
use Rattle.aes.specs.Byte.{◌⊕◌}
use Rattle.aes.specs.Field.{x_times, times as product, ◌•◌}
use Rattle.aes.specs.State.{at, dot, shift_rows, mix_columns}
use Rattle.aes.specs.Key.{rounds_of}
use Rattle.aes.specs.Record.{Point, block, keyed, boxed, shifted, mixed, compensated, closed, uncovered, whole, final, wholes, points, cipher_at}
use Rattle.aes.specs.Reply.{scheduled, taken}
use Rattle.aes.proofs.Schedule.{some_rounds, more_rounds}
use Rattle.masks.specs.Mask.{published, one, advanced, mask}
use Rattle.masks.specs.MaskTable.{mask_by, mask_at}
use Rattle.theorems.specs.Balance.{times, Balanced, single, how_many}
use Rattle.masked.specs.Calls.{record_masked_of}
use Rattle.beside.specs.Fitness.{pattern, count, fitness_of}
use Rattle.theorems.proofs.Records.{one_offsets, on_offsets, next_one}
use Rattle.theorems.proofs.Balancing.{upper_unbalanced, how_many-append}
use Rattle.theorems.proofs.RoundPoints.{mixed_at}
use Rattle.theorems.proofs.OneMask.{OneMask, own, moved_left, one_balance}
use Rattle.theorems.proofs.Fit.{fit-balanced, published-fit}
use Rattle.theorems.proofs.RecordStates.{published-length, record_byte}

one_of : (p : Point) (i : ℕ) → T (single p) → i < 16 → OneMask mask_by p i
unfolding single mask_by
one_of block i t h = own 0 h (λ K. refl)
one_of (keyed r) i t h = own r h (λ K. refl)
one_of (boxed r) i t h = own (suc r) h (λ K. refl)
one_of (shifted r) i t h = moved_left (suc r) h (λ K. refl)
one_of (mixed r) i t h = absurd t
one_of (compensated r) i t h = own (suc r) h (λ K. refl)
one_of (closed r) i t h = moved_left (suc r) h (λ K. refl)
one_of (uncovered r) i t h = absurd t

-- for every table that the fitness test passes
pub fit_balance : (M : List ℕ) → (fitness_of M).1 ≡ 1 → (v : List ℕ) (d : ℕ) → T (taken d) → (w b states : List ℕ) → scheduled (length w) ≡ true → length b ≡ 16 → length states ≡ 16 * (5 * rounds_of w + 1)
    → (q i : ℕ) → q < 5 * rounds_of w + 1 → T (single (get_or (points (rounds_of w)) q block)) → i < 16
    → Balanced (λ o. at (record_masked_of w b M (advanced v o) d states).1 (16 * q + i))
fit_balance M fit v d td w b states lw lb ls q i hq t hi =
    one_balance M (fit-balanced M fit).1 v d (one_of (get_or (points (rounds_of w)) q block) i t hi) _ (at (cipher_at w b (get_or (points (rounds_of w)) q block)) i)
    (λ o h. record_byte w b states lw lb ls M (fit-balanced M fit).0 (advanced v o) (on_offsets v o) d td q i hq hi)

-- one mask covers each byte at 4 n + 1 of the 5 n + 1 points of n rounds
how_many-wholes : (k : ℕ) → how_many single (wholes k) ≡ 4 * k
unfolding how_many single wholes
how_many-wholes zero = refl
how_many-wholes (suc k) = how_many-append single (wholes k) (whole k) ∙ omega (arith, how_many-wholes k)

pub how_many-single : (n : ℕ) → 0 < n → how_many single (points n) ≡ 4 * n + 1
unfolding how_many single points
how_many-single n pos = ap (λ (k : ℕ). 1 + k) (how_many-append single (wholes (n - 1)) (final (n - 1))) ∙ omega (arith, pos, how_many-wholes (n - 1))

-- computed: of what MIXCOLUMNS makes of a mask, the upper three bits of byte 0 are 111 at three of the sixteen labels
abbrev mixture_at : ℕ → ℕ
mixture_at o = at (mix_columns (shift_rows (mask published (one o) 0))) 0

pub mixture : times mixture_at 5 6 7 7 ≡ 3
unfolding mask published shift_rows mix_columns dot ◌•◌ product x_times pattern count
mixture = refl

-- the published masks, with any step that is taken
module _ (d : ℕ) (t : T (taken d)) (w b states : List ℕ) (lw : scheduled (length w) ≡ true) (lb : length b ≡ 16) (ls : length states ≡ 16 * (5 * rounds_of w + 1)) where
  pub published_balance : (v : List ℕ) (q i : ℕ) → q < 5 * rounds_of w + 1 → T (single (get_or (points (rounds_of w)) q block)) → i < 16
      → Balanced (λ o. at (record_masked_of w b published (advanced v o) d states).1 (16 * q + i))
  published_balance v = fit_balance published (ap (λ (r : ℕ × ℕ). r.1) published-fit) v d t w b states lw lb ls

  -- after the first MIXCOLUMNS, at point 4, balance fails over the records of one offset, for every schedule and block
  pub mixture_unbalanced : Balanced (λ o. at (record_masked_of w b published (one o) d states).1 (16 * 4 + 0)) → ⊥
  unfolding mask_by
  mixture_unbalanced =
      let few = some_rounds (length w) lw in
      let four : 4 < 5 * rounds_of w + 1 = omega (arith, few.0) in
      let here : get_or (points (rounds_of w)) 4 block ≡ mixed 0 = mixed_at (rounds_of w) 0 (more_rounds (length w) lw) in
      upper_unbalanced (λ o. at (record_masked_of w b published (one o) d states).1 (16 * 4 + 0)) mixture_at (at (cipher_at w b (mixed 0)) 0) d 3
      (λ o h. record_byte w b states lw lb ls published published-length (one o) (one_offsets o) d t 4 0 four (lit< tt)
      ∙ ap (λ (p : Point). at (cipher_at w b p) 0 ⊕ at (mask_at published (one o) d p) 0) here ∙ ap (λ (m : List ℕ). at (cipher_at w b (mixed 0)) 0 ⊕ at (mix_columns (shift_rows m)) 0) (next_one published o d))
      mixture (λ e. omega arith)
