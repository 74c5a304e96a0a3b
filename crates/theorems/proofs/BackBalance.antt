-- The balance of the record of a masked decryption: over the sixteen records that are 0 to 15 on from any one, of each byte that
-- one mask covers; and that it fails after INVMIXCOLUMNS.
-- Assumes nothing.
use mathlib.Core.Path.{◌≡◌, refl, ap, ◌∙◌}
use mathlib.Core.Bool.{true}
use mathlib.Core.List.{List}
use Prim.Native.Nat.{ℕ, zero, suc, ◌+◌, ◌-◌, ◌*◌, ◌<◌}
use native.Mathlib.Omega.{arith}
use lib.Dec.{T, lit<}
use lib.ListN.{length, get_or}
use Rattle.aes.specs.Byte.{◌⊕◌}
use Rattle.aes.specs.Field.{x_times, times as product, ◌•◌}
use Rattle.aes.specs.State.{at, dot, inv_mix_columns}
use Rattle.aes.specs.Key.{rounds_of}
use Rattle.aes.specs.Reply.{scheduled, taken}
use Rattle.aes.proofs.Schedule.{some_rounds, more_rounds}
use Rattle.masks.specs.Mask.{published, one, advanced, mask}
use Rattle.runs.specs.Back.{Back, block, keyed, unshifted, corrected, unboxed, unmixed, restored, uncovered, six, closing, sixes, back_points}
use Rattle.masked.specs.Calls.{record_masked_decryption_of}
use Rattle.beside.specs.Fitness.{pattern, count, fitness_of}
use Rattle.theorems.specs.BackTable.{mask_back_by, mask_back_at, inv_cipher_at}
use Rattle.theorems.specs.Balance.{times, Balanced, single_back, how_many}
use Rattle.theorems.proofs.Records.{one_offsets, on_offsets, next_one}
use Rattle.theorems.proofs.Balancing.{upper_unbalanced, how_many-append}
use Rattle.theorems.proofs.RoundPoints.{unmixed_at}
use Rattle.theorems.proofs.OneMask.{OneMask, own, moved_right, one_balance}
use Rattle.theorems.proofs.Fit.{fit-balanced, published-fit}
use Rattle.theorems.proofs.RecordStates.{published-length}
use Rattle.theorems.proofs.BackStates.{back_byte}

one_of : (p : Back) (i : ℕ) → T (single_back p) → i < 16 → OneMask mask_back_by p i
unfolding single_back mask_back_by
one_of block i t h = own 0 h (λ K. refl)
one_of (keyed r) i t h = own r h (λ K. refl)
one_of (unshifted r) i t h = moved_right r h (λ K. refl)
one_of (corrected r) i t h = own r h (λ K. refl)
one_of (unboxed r) i t h = own (suc r) h (λ K. refl)
one_of (unmixed r) i t h = absurd t
one_of (restored r) i t h = own (suc r) h (λ K. refl)
one_of (uncovered r) i t h = absurd t

-- for every table that the fitness test passes
pub back_balance : (M : List ℕ) → (fitness_of M).1 ≡ 1 → (v : List ℕ) (d : ℕ) → T (taken d) → (w b states : List ℕ) → scheduled (length w) ≡ true → length b ≡ 16 → length states ≡ 16 * (6 * rounds_of w + 1)
    → (q i : ℕ) → q < 6 * rounds_of w + 1 → T (single_back (get_or (back_points (rounds_of w)) q block)) → i < 16
    → Balanced (λ o. at (record_masked_decryption_of w b M (advanced v o) d states).1 (16 * q + i))
back_balance M fit v d td w b states lw lb ls q i hq t hi =
    one_balance M (fit-balanced M fit).1 v d (one_of (get_or (back_points (rounds_of w)) q block) i t hi) _ (at (inv_cipher_at (rounds_of w) w b (get_or (back_points (rounds_of w)) q block)) i)
    (λ o h. back_byte w b states lw lb ls M (fit-balanced M fit).0 (advanced v o) (on_offsets v o) d td q i hq hi)

-- one mask covers each byte at 5 n + 1 of the 6 n + 1 points of n rounds
how_many-sixes : (k : ℕ) → how_many single_back (sixes k) ≡ 5 * k
unfolding how_many single_back sixes
how_many-sixes zero = refl
how_many-sixes (suc k) = how_many-append single_back (sixes k) (six k) ∙ omega (arith, how_many-sixes k)

pub how_many_back : (n : ℕ) → 0 < n → how_many single_back (back_points n) ≡ 5 * n + 1
unfolding how_many single_back back_points
how_many_back n pos = ap (λ (k : ℕ). 1 + (1 + k)) (how_many-append single_back (sixes (n - 1)) (closing (n - 1))) ∙ omega (arith, pos, how_many-sixes (n - 1))

-- computed: of what INVMIXCOLUMNS makes of a mask, the upper three bits of byte 0 are 111 at none of the sixteen labels
abbrev unmixture_at : ℕ → ℕ
unmixture_at o = at (inv_mix_columns (mask published (one o) 0)) 0

pub unmixture : times unmixture_at 5 6 7 7 ≡ 0
unfolding mask published inv_mix_columns dot ◌•◌ product x_times pattern count
unmixture = refl

-- the published masks, with any step that is taken
module _ (d : ℕ) (t : T (taken d)) (w b states : List ℕ) (lw : scheduled (length w) ≡ true) (lb : length b ≡ 16) (ls : length states ≡ 16 * (6 * rounds_of w + 1)) where
  pub published_back_balance : (v : List ℕ) (q i : ℕ) → q < 6 * rounds_of w + 1 → T (single_back (get_or (back_points (rounds_of w)) q block)) → i < 16
      → Balanced (λ o. at (record_masked_decryption_of w b published (advanced v o) d states).1 (16 * q + i))
  published_back_balance v = back_balance published (ap (λ (r : ℕ × ℕ). r.1) published-fit) v d t w b states lw lb ls

  -- after the first INVMIXCOLUMNS, at point 6, balance fails over the records of one offset, for every schedule and block
  pub unmixture_unbalanced : Balanced (λ o. at (record_masked_decryption_of w b published (one o) d states).1 (16 * 6 + 0)) → ⊥
  unfolding mask_back_by
  unmixture_unbalanced =
      let six-in : 6 < 6 * rounds_of w + 1 = omega (arith, (some_rounds (length w) lw).0) in
      let here : get_or (back_points (rounds_of w)) 6 block ≡ unmixed 0 = unmixed_at (rounds_of w) 0 (more_rounds (length w) lw) in
      upper_unbalanced (λ o. at (record_masked_decryption_of w b published (one o) d states).1 (16 * 6 + 0)) unmixture_at (at (inv_cipher_at (rounds_of w) w b (unmixed 0)) 0) d 0
      (λ o h. back_byte w b states lw lb ls published published-length (one o) (one_offsets o) d t 6 0 six-in (lit< tt)
      ∙ ap (λ (p : Back). at (inv_cipher_at (rounds_of w) w b p) 0 ⊕ at (mask_back_at published (one o) d p) 0) here ∙ ap (λ (m : List ℕ). at (inv_cipher_at (rounds_of w) w b (unmixed 0)) 0 ⊕ at (inv_mix_columns m) 0) (next_one published o d))
      unmixture (λ e. omega arith)
