-- Where the points of round r stand in the list of all points of a run, and in that of a decryption.
-- Assumes nothing.
use mathlib.Core.Path.{◌≡◌, refl, sym, ap, ◌∙◌}
use mathlib.Core.List.{List, [], ◌∷◌, ◌++◌, append_assoc, append-nil}
use Prim.Native.Nat.{ℕ, zero, suc, ◌+◌, ◌-◌, ◌*◌, ◌≤◌, ◌<◌}
use native.Mathlib.Nat.{mul-zero, mul-suc}
use native.Mathlib.Omega.{arith}
use native.Mathlib.Decide.{ℕ_discrete}
use lib.Dec.{lit<}
use lib.ListN.{length, get_or, length-append, get_or-append}
use lib.Seq.{get_or-append-add}
use Rattle.aes.specs.Record.{Point, block, keyed, boxed, shifted, mixed, compensated, uncovered, final, whole, wholes, points}
use Rattle.runs.specs.Back.{Back, corrected, unboxed, six, closing, sixes, back_points}
use Rattle.runs.specs.Back as back

-- rounds of k points each, all of which begin alike
module _ {P : Type 0} (rounds round begun rest : ℕ → List P) (k : ℕ) (empty : rounds 0 ≡ []) (more : (n : ℕ) → rounds (suc n) ≡ rounds n ++ round n)
    (begins : (n : ℕ) → round n ≡ begun n ++ rest n) (size : (n : ℕ) → length (round n) ≡ k) where
  rounds-length : (n : ℕ) → length (rounds n) ≡ k * n
  rounds-length zero = rw (empty, mul-zero)
  rounds-length (suc n) = rw (more n, length-append (rounds n) (round n), rounds-length n, size n, mul-suc)

  round_here : (none : P) (n r i : ℕ) (ps : List P) → r ≡ n → i < length (begun r) → get_or (rounds n ++ (begun n ++ ps)) (k * r + i) none ≡ get_or (begun r) i none
  round_here none n r i ps e h =
      rw (sym e, ← rounds-length r) (get_or-append-add (rounds r) (begun r ++ ps) i none ∙ get_or-append (begun r) ps none i h)

  -- round r of n whole ones and one more that begins as they do
  round_in : (none : P) (n r i : ℕ) (ps : List P) → r ≤ n → i < length (begun r) → get_or (rounds n ++ (begun n ++ ps)) (k * r + i) none ≡ get_or (begun r) i none
  round_in none zero r i ps le h = round_here none 0 r i ps (omega arith) h
  round_in none (suc n) r i ps le h =
      elim (ℕ_discrete r (suc n)) [
        | yes e ↦ round_here none (suc n) r i ps e h
        | no e ↦
            rw (more n, begins n, append_assoc (rounds n) (begun n ++ rest n) (begun (suc n) ++ ps), append_assoc (begun n) (rest n) (begun (suc n) ++ ps))
            (round_in none n r i _ (omega arith) h)
      ]

-- all of them, and the last, which is the finished block
pub run_length : (n : ℕ) → 0 < n → length (points n) ≡ 5 * n + 1
unfolding points wholes
run_length n pos =
    rw (length-append (wholes (n - 1)) (final (n - 1)), rounds-length wholes whole (λ r. []) whole 5 refl (λ n. refl) (λ n. refl) (λ n. refl) (n - 1)) (omega (arith, pos))

pub run_end : (n : ℕ) → 0 < n → get_or (points n) (5 * n) block ≡ uncovered (n - 1)
unfolding points wholes
run_end n pos =
    let before : List Point = block ∷ wholes (n - 1) in
    let size : length before ≡ 5 * (n - 1) + 1 = rw (rounds-length wholes whole (λ r. []) whole 5 refl (λ n. refl) (λ n. refl) (λ n. refl) (n - 1)) (omega arith) in
    let e : 5 * n ≡ length before + 4 = rw size (omega (arith, pos)) in
    ap (λ (q : ℕ). get_or (points n) q block) e ∙ get_or-append-add before (final (n - 1)) 4 block

-- in a round that is whole MIXCOLUMNS is made at point 5 r + 4
pub mixed_at : (n r : ℕ) → suc r < n → get_or (points n) (5 * r + 4) block ≡ mixed r
unfolding points wholes
mixed_at n r lt =
    let m : ℕ = n - 2 in
    let e : n - 1 ≡ suc m = omega (arith, lt) in
    let q : 5 * r + 4 ≡ suc (5 * r + 3) = omega arith in
    rw (q, e, append_assoc (wholes m) (whole m) (final (suc m)))
    (round_in wholes whole whole (λ r. []) 5 refl (λ n. refl) (λ n. sym (append-nil (whole n))) (λ n. refl) block m r 3 (final (suc m)) (omega (arith, lt)) (lit< tt))

-- in a run: state 5 r + 1 is that after the key of round r, and the next that after its boxes
in_run : (nr r i q : ℕ) → r < nr → i < 2 → q ≡ suc (5 * r + i) → get_or (points nr) q block ≡ get_or (keyed r ∷ boxed r ∷ []) i block
unfolding points wholes
in_run nr r i q lt h e =
    rw e
    (round_in wholes whole (λ r. keyed r ∷ boxed r ∷ []) (λ r. shifted r ∷ mixed r ∷ compensated r ∷ []) 5 refl (λ n. refl) (λ n. refl) (λ n. refl) block (nr - 1) r i _
    (omega arith) h)

module _ (nr r : ℕ) (lt : r < nr) where
  pub keyed-at : get_or (points nr) (5 * r + 1) block ≡ keyed r
  keyed-at = in_run nr r 0 (5 * r + 1) lt (lit< tt) (omega arith)

  pub boxed_at : get_or (points nr) (5 * r + 1 + 1) block ≡ boxed r
  boxed_at = in_run nr r 1 (5 * r + 1 + 1) lt (lit< tt) (omega arith)

  pub within-run : 5 * r + 1 + 1 < length (points nr)
  unfolding points wholes
  within-run =
      rw (length-append (wholes (nr - 1)) (final (nr - 1)), rounds-length wholes whole (λ r. []) whole 5 refl (λ n. refl) (λ n. refl) (λ n. refl) (nr - 1))
      (omega arith)

-- the same of a decryption
pub back_length : (n : ℕ) → 0 < n → length (back_points n) ≡ 6 * n + 1
unfolding back_points sixes
back_length n pos =
    rw (length-append (sixes (n - 1)) (closing (n - 1)), rounds-length sixes six (λ r. []) six 6 refl (λ n. refl) (λ n. refl) (λ n. refl) (n - 1)) (omega (arith, pos))

pub back_end : (n : ℕ) → 0 < n → get_or (back_points n) (6 * n) back.block ≡ back.uncovered (n - 1)
unfolding back_points sixes
back_end n pos =
    let before : List Back = back.block ∷ back.keyed 0 ∷ sixes (n - 1) in
    let size : length before ≡ 6 * (n - 1) + 2 = rw (rounds-length sixes six (λ r. []) six 6 refl (λ n. refl) (λ n. refl) (λ n. refl) (n - 1)) (omega arith) in
    let e : 6 * n ≡ length before + 4 = rw size (omega (arith, pos)) in
    ap (λ (q : ℕ). get_or (back_points n) q back.block) e ∙ get_or-append-add before (closing (n - 1)) 4 back.block

pub unmixed_at : (n r : ℕ) → suc r < n → get_or (back_points n) (6 * r + 6) back.block ≡ back.unmixed r
unfolding back_points sixes
unmixed_at n r lt =
    let m : ℕ = n - 2 in
    let e : n - 1 ≡ suc m = omega (arith, lt) in
    let q : 6 * r + 6 ≡ suc (suc (6 * r + 4)) = omega arith in
    rw (q, e, append_assoc (sixes m) (six m) (closing (suc m)))
    (round_in sixes six six (λ r. []) 6 refl (λ n. refl) (λ n. sym (append-nil (six n))) (λ n. refl) back.block m r 4 (closing (suc m)) (omega (arith, lt)) (lit< tt))

-- in a decryption: state 6 r + 3 is that after the first correction of round r, and the next that after its boxes
in_back : (nr r i q : ℕ) → r < nr → i < 4 → q ≡ suc (suc (6 * r + i))
    → get_or (back_points nr) q back.block ≡ get_or (back.unshifted r ∷ corrected r ∷ unboxed r ∷ back.keyed (suc r) ∷ []) i back.block
unfolding back_points sixes
in_back nr r i q lt h e =
    rw e
    (round_in sixes six (λ r. back.unshifted r ∷ corrected r ∷ unboxed r ∷ back.keyed (suc r) ∷ []) (λ r. back.unmixed r ∷ back.restored r ∷ []) 6 refl (λ n. refl) (λ n. refl)
    (λ n. refl) back.block (nr - 1) r i _ (omega arith) h)

module _ (nr r : ℕ) (lt : r < nr) where
  pub corrected_at : get_or (back_points nr) (6 * r + 3) back.block ≡ corrected r
  corrected_at = in_back nr r 1 (6 * r + 3) lt (lit< tt) (omega arith)

  pub unboxed_at : get_or (back_points nr) (6 * r + 3 + 1) back.block ≡ unboxed r
  unboxed_at = in_back nr r 2 (6 * r + 3 + 1) lt (lit< tt) (omega arith)

  pub within_back : 6 * r + 3 + 1 < length (back_points nr)
  unfolding back_points sixes
  within_back =
      rw (length-append (sixes (nr - 1)) (closing (nr - 1)), rounds-length sixes six (λ r. []) six 6 refl (λ n. refl) (λ n. refl) (λ n. refl) (nr - 1))
      (omega arith)
