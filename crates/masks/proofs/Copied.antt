-- What a buffer holds once a part of it was copied from somewhere else, or from further ahead in it.
-- Assumes nothing.
use mathlib.Core.Path.{◌≡◌, sym, ap, ◌∙◌}
use mathlib.Core.List.{List, ◌++◌}
use Prim.Native.Nat.{ℕ, ◌+◌, ◌-◌, ◌≤◌, ◌<◌}
use native.Mathlib.Omega.{arith}
use native.Mathlib.Decide.{dec_lt}
use lib.ListN.{length, take, drop, length-drop, length-append, get_or-append}
use lib.Seq.{paste, length-take-le, length-paste, get_or-take, get_or-drop, get_or-append-add, ext_get_or}
use Rattle.std.specs.List.{copy_within}
use Rattle.aes.specs.Byte.{table}
use Rattle.aes.specs.State.{at, state}
use Rattle.aes.proofs.Listed.{table_at, table-length}
use Rattle.aes.proofs.Fill.{Filled}

-- n bytes of xs from a on
pub part_listed : (xs : List ℕ) (a n : ℕ) → a + n ≤ length xs → take n (drop a xs) ≡ table (λ i. at xs (a + i)) n
part_listed xs a n le =
    let size : length (take n (drop a xs)) ≡ n = length-take-le n (drop a xs) (simp length-drop (omega (arith, le))) in
    ext_get_or 0 (take n (drop a xs)) (table (λ i. at xs (a + i)) n) (size ∙ sym (table-length (λ i. at xs (a + i)) n))
    (λ i lt. let h : i < n = omega (arith, lt, size) in get_or-take n (drop a xs) i 0 h ∙ get_or-drop a xs i 0 ∙ sym (table_at (λ i. at xs (a + i)) n i h))

-- sixteen of them, as a slice of the code has them
pub sixteen : (xs : List ℕ) (a : ℕ) → a + 16 ≤ length xs → take (a + 16 - a) (drop a xs) ≡ state (λ i. at xs (a + i))
unfolding table
sixteen xs a le = let n : a + 16 - a ≡ 16 = omega arith in ap (λ (k : ℕ). take k (drop a xs)) n ∙ part_listed xs a 16 le

-- what stands in xs once k bytes of ys lie in it from a on, below them and in them
module _ (xs ys : List ℕ) (a k : ℕ) (room : a + k ≤ length xs) (enough : k ≤ length ys) where
  before : length (take a xs) ≡ a
  before = length-take-le a xs (omega (arith, room))

  head : length (take a xs ++ take k ys) ≡ a + k
  head = length-append (take a xs) (take k ys) ∙ rw (before, length-take-le k ys enough)

  below : (i : ℕ) → i < a → at (paste xs a ys k) i ≡ at xs i
  below i lt =
      get_or-append (take a xs ++ take k ys) (drop (a + k) xs) 0 i (omega (arith, lt, head))
      ∙ get_or-append (take a xs) (take k ys) 0 i (omega (arith, lt, before)) ∙ get_or-take a xs i 0 lt

  inside : (i : ℕ) → i < k → at (paste xs a ys k) (a + i) ≡ at ys i
  inside i lt =
      get_or-append (take a xs ++ take k ys) (drop (a + k) xs) 0 (a + i) (omega (arith, lt, head))
      ∙ ap (λ (n : ℕ). at (take a xs ++ take k ys) (n + i)) (sym before) ∙ get_or-append-add (take a xs) (take k ys) i 0 ∙ get_or-take k ys i 0 lt

  pub filled_on : {f : ℕ → ℕ} {n : ℕ} → Filled f n a xs → ((i : ℕ) → i < k → at ys i ≡ f (a + i)) → Filled f n (a + k) (paste xs a ys k)
  filled_on {f} {n} p told =
      record {
        room = length-paste xs a ys k room enough ∙ p.room;
        within = omega (arith, room, p.room);
        so_far = λ i lt. elim (dec_lt i a) [
          | yes q ↦ below i q ∙ p.so_far i q
          | no q ↦ let e : i ≡ a + (i - a) = omega arith in rw e (inside (i - a) (omega arith) ∙ told (i - a) (omega arith))
        ];
      }

-- k bytes that stand there, up to e, once more from a on, where f has them too
pub filled_within : {f : ℕ → ℕ} {n : ℕ} {xs ys : List ℕ} (a b e k : ℕ) → Filled f n a xs → ys ≡ copy_within xs b e a → b + k ≡ e → e ≤ a → a + k ≤ n
    → ((i : ℕ) → i < k → f (b + i) ≡ f (a + i)) → Filled f n (a + k) ys
filled_within {f} {n} {xs} a b e k p same end ahead room told =
    let size : e - b ≡ k = omega (arith, end) in
    let fits : a + k ≤ length xs = omega (arith, room, p.room) in
    rw (same, size)
    (filled_on xs (drop b xs) a k fits (simp length-drop (omega (arith, fits, ahead, end))) p
    (λ i lt. get_or-drop b xs i 0 ∙ p.so_far (b + i) (omega (arith, lt, ahead, end)) ∙ told i lt))
