-- Unwrapping undoes wrapping, and the reverse, step by step, over any codebook of blocks and its inverse.
-- Assumes nothing.
use mathlib.Core.Path.{◌≡◌, refl, ap, ap₂, sym, ◌∙◌}
use mathlib.Core.List.{List, [], ◌∷◌, ◌++◌}
use Prim.Native.Nat.{ℕ, zero, suc, ◌+◌, ◌-◌, ◌*◌, ◌/◌, ◌%◌, ◌≤◌, ◌<◌}
use native.Mathlib.Nat.{mod-lt}
use native.Mathlib.Omega.{arith}
use lib.Dec.{lit<}
use lib.ListN.{length, take, drop, length-append, length-drop}
use lib.Seq.{take_at, drop_at, length-take-le}
use Rattle.aes.specs.Byte.{◌⊕◌, listed}
use Rattle.aes.specs.State.{at, Bytes}
use Rattle.aes.proofs.Xor.{xor_byte}
use Rattle.buffer.specs.Wrap.{initial, counter, counted, value, with_values, place, number, wrap_step, unwrap_step, wrap_steps, unwrap_steps, wrapped, unwrapped}
use Rattle.buffer.proofs.Buffer.{take-drop, counted_size, counted-twice, value_size, with_own, with_first, with_value, with_again}
use Rattle.buffer.proofs.Pieces.{step_long, unstep_long}

-- bytes, however many
unfoldable pub Small : List ℕ → Type 0
Small [] = Unit
Small (x ∷ s) = (x < 256) × Small s

small_at : (s : List ℕ) → Small s → (i : ℕ) → at s i < 256
unfolding Small
small_at [] h i = lit< tt
small_at (x ∷ s) h zero = h.0
small_at (x ∷ s) h (suc i) = small_at s h.1 i

pub at_small : (s : List ℕ) → ((i : ℕ) → at s i < 256) → Small s
unfolding Small
at_small [] h = tt
at_small (x ∷ s) h = (h 0, at_small s (λ i. h (suc i)))

pub small_append : (s r : List ℕ) → Small s → Small r → Small (s ++ r)
unfolding Small
small_append [] r hs hr = hr
small_append (x ∷ s) r hs hr = (hs.0, small_append s r hs.1 hr)

small_take : (n : ℕ) (s : List ℕ) → Small s → Small (take n s)
unfolding Small
small_take zero s h = tt
small_take (suc n) [] h = tt
small_take (suc n) (x ∷ s) h = (h.0, small_take n s h.1)

small_drop : (n : ℕ) (s : List ℕ) → Small s → Small (drop n s)
unfolding Small
small_drop zero s h = h
small_drop (suc n) [] h = tt
small_drop (suc n) (x ∷ s) h = small_drop n s h.1

pub small_listed : (f : ℕ → ℕ) (i n : ℕ) → ((k : ℕ) → f k < 256) → Small (listed f i n)
unfolding Small
small_listed f i zero h = tt
small_listed f i (suc n) h = (h i, small_listed f (suc i) n h)

small_counted : (t : ℕ) (a : List ℕ) → Small a → Small (counted t a)
unfolding counted
small_counted t a h = small_listed (λ i. at a i ⊕ counter t i) 0 8 (λ i. xor_byte (at a i) (counter t i) (small_at a h i) (omega arith))

-- a buffer of n values behind A
pub record Held (n : ℕ) (s : List ℕ) : Type 0 where
  pub size : length s ≡ 8 * n + 8
  pub small : Small s

-- a codebook of blocks, and what undoes it
pub record Undone (E D : List ℕ → List ℕ) : Type 0 where
  pub size : (b : List ℕ) → length (E b) ≡ 16
  pub kept : {b : List ℕ} → Bytes 16 b → Bytes 16 (E b)
  pub undo : {b : List ℕ} → Bytes 16 b → D (E b) ≡ b

-- one step at R[i], in a buffer that has it
module _ (n : ℕ) (s : List ℕ) (h : Held n s) (i t : ℕ) (pos : 0 < i) (most : i ≤ n) where
  long : 8 * i + 8 ≤ length s
  long = rw h.size (omega arith)

  abbrev x : List ℕ
  x = take 8 s

  first : length x ≡ 8
  first = length-take-le 8 s (omega (arith, long))

  -- a block of A, or what is as long, and R[i]
  block : (a : List ℕ) → length a ≡ 8 → Small a → Bytes 16 (a ++ value i s)
  unfolding value
  block a l ha = record {
    size = length-append a (value i s) ∙ ap₂ ◌+◌ l (value_size i pos s long);
    byte = small_at (a ++ value i s) (small_append a (value i s) ha (small_take 8 (drop (8 * i) s) (small_drop (8 * i) s h.small)));
  }

  plain : Bytes 16 (x ++ value i s)
  plain = block x first (small_take 8 s h.small)

  marked : Bytes 16 (counted t x ++ value i s)
  marked = block (counted t x) (counted_size t x) (small_counted t x (small_take 8 s h.small))

  -- the halves of a block, and a buffer that they are put into
  module _ {b : List ℕ} (hb : Bytes 16 b) where
    left : length (take 8 b) ≡ 8
    left = length-take-le 8 b (omega (arith, hb.size))

    right : length (drop 8 b) ≡ 8
    right = length-drop 8 b ∙ rw hb.size

    with_small : (a : List ℕ) → Small a → Small (with_values i a (drop 8 b) s)
    unfolding with_values
    with_small a ha =
        let m : List ℕ = take (8 * i - 8) (drop 8 s) in
        let r : Small (drop 8 b) = small_drop 8 b (at_small b hb.byte) in
        small_append (a ++ m ++ drop 8 b) (drop (8 * i + 8) s)
        (small_append (a ++ m) (drop 8 b) (small_append a m ha (small_take (8 * i - 8) (drop 8 s) (small_drop 8 s h.small))) r)
        (small_drop (8 * i + 8) s h.small)

  module _ {E D : List ℕ → List ℕ} (u : Undone E D) where
    pub step_held : Held n (wrap_step E i t s)
    unfolding wrap_step
    step_held =
        let hb : Bytes 16 (E (x ++ value i s)) = u.kept plain in
        let b : List ℕ = E (x ++ value i s) in
        record {
          size = step_long E u.size i t s pos long ∙ h.size;
          small = with_small hb (counted t (take 8 b)) (small_counted t (take 8 b) (small_take 8 b (at_small b hb.byte)));
        }

    pub unstep_held : Held n (unwrap_step E i t s)
    unfolding unwrap_step
    unstep_held =
        let hb : Bytes 16 (E (counted t x ++ value i s)) = u.kept marked in
        let b : List ℕ = E (counted t x ++ value i s) in
        record { size = unstep_long E u.size i t s pos long ∙ h.size; small = with_small hb (take 8 b) (small_take 8 b (at_small b hb.byte)) }

    -- what was put in is found again, and what was there before is put back
    module _ (a r : List ℕ) (la : length a ≡ 8) (lr : length r ≡ 8) where
      found : (g : List ℕ → List ℕ) → g (take 8 (with_values i a r s)) ++ value i (with_values i a r s) ≡ g a ++ r
      found g = ap₂ (λ (p q : List ℕ). g p ++ q) (with_first i pos s long a r la lr) (with_value i pos s long a r la lr)

      restored : with_values i x (value i s) (with_values i a r s) ≡ s
      restored = with_again i pos s long a r la lr x (value i s) ∙ with_own i pos s long

    pub undone_step : unwrap_step D i t (wrap_step E i t s) ≡ s
    unfolding wrap_step unwrap_step
    undone_step =
        let b : List ℕ = E (x ++ value i s) in
        let hb : Bytes 16 b = u.kept plain in
        let a : List ℕ = counted t (take 8 b) in
        let la : length a ≡ 8 = counted_size t (take 8 b) in
        let s' : List ℕ = with_values i a (drop 8 b) s in
        let back : D (counted t (take 8 s') ++ value i s') ≡ x ++ value i s =
        ap D (found a (drop 8 b) la (right hb) (counted t) ∙ ap (λ (p : List ℕ). p ++ drop 8 b) (counted-twice t (take 8 b) (left hb)) ∙ take-drop 8 b) ∙ u.undo plain in
        ap₂ (λ (p q : List ℕ). with_values i p q s') (ap (take 8) back ∙ take_at x (value i s) 8 first) (ap (drop 8) back ∙ drop_at x (value i s) 8 first)
        ∙ restored a (drop 8 b) la (right hb)

    pub redone_step : wrap_step D i t (unwrap_step E i t s) ≡ s
    unfolding wrap_step unwrap_step
    redone_step =
        let c : List ℕ = counted t x in
        let lc : length c ≡ 8 = counted_size t x in
        let b : List ℕ = E (c ++ value i s) in
        let hb : Bytes 16 b = u.kept marked in
        let s' : List ℕ = with_values i (take 8 b) (drop 8 b) s in
        let back : D (take 8 s' ++ value i s') ≡ c ++ value i s = ap D (found (take 8 b) (drop 8 b) (left hb) (right hb) (λ p. p) ∙ take-drop 8 b) ∙ u.undo marked in
        ap₂ (λ (p q : List ℕ). with_values i p q s')
        (ap (λ (p : List ℕ). counted t (take 8 p)) back ∙ ap (counted t) (take_at c (value i s) 8 lc) ∙ counted-twice t x first)
        (ap (drop 8) back ∙ drop_at c (value i s) 8 lc) ∙ restored (take 8 b) (drop 8 b) (left hb) (right hb)

-- all steps
module _ (n : ℕ) (pos : 0 < n) where
  within : (k : ℕ) → (0 < place n k) × (place n k ≤ n)
  within k = let m : k % n < n = mod-lt k pos in (omega arith, omega (arith, m))

  module _ {E D : List ℕ → List ℕ} (u : Undone E D) where
    pub steps-held : (k : ℕ) (s : List ℕ) → Held n s → Held n (wrap_steps E n k s)
    unfolding wrap_steps
    steps-held zero s h = h
    steps-held (suc k) s h = step_held n (wrap_steps E n k s) (steps-held k s h) (place n k) (number n k) (within k).0 (within k).1 u

    pub undone_steps : (k : ℕ) (s : List ℕ) → Held n s → unwrap_steps D n k (wrap_steps E n k s) ≡ s
    unfolding wrap_steps unwrap_steps
    undone_steps zero s h = refl
    undone_steps (suc k) s h =
        ap (unwrap_steps D n k) (undone_step n (wrap_steps E n k s) (steps-held k s h) (place n k) (number n k) (within k).0 (within k).1 u) ∙ undone_steps k s h

    pub unsteps_held : (k : ℕ) (s : List ℕ) → Held n s → Held n (unwrap_steps E n k s)
    unfolding unwrap_steps
    unsteps_held zero s h = h
    unsteps_held (suc k) s h = unsteps_held k (unwrap_step E (place n k) (number n k) s) (unstep_held n s h (place n k) (number n k) (within k).0 (within k).1 u)

    pub redone_steps : (k : ℕ) (s : List ℕ) → Held n s → wrap_steps D n k (unwrap_steps E n k s) ≡ s
    unfolding wrap_steps unwrap_steps
    redone_steps zero s h = refl
    redone_steps (suc k) s h =
        let i : ℕ = place n k in
        ap (wrap_step D i (number n k)) (redone_steps k (unwrap_step E i (number n k) s) (unstep_held n s h i (number n k) (within k).0 (within k).1 u))
        ∙ redone_step n s h i (number n k) (within k).0 (within k).1 u

-- unwrapping a wrap gives the initial value and the key data
module _ {E D : List ℕ → List ℕ} (u : Undone E D) (n : ℕ) (pos : 0 < n) where
  module _ (keys : List ℕ) (h : Held n (initial ++ keys)) where
    count : length keys / 8 ≡ n
    count = omega (arith, length-append initial keys, h.size)

    pub wrapped-held : Held n (wrapped E keys)
    unfolding wrapped
    wrapped-held = rw count (steps-held n pos u (6 * n) (initial ++ keys) h)

    pub undone_wrap : unwrapped D (wrapped E keys) ≡ initial ++ keys
    unfolding wrapped unwrapped
    undone_wrap =
        let f : length (wrap_steps E n (6 * n) (initial ++ keys)) / 8 - 1 ≡ n = rw (steps-held n pos u (6 * n) (initial ++ keys) h).size (omega arith) in
        rw (count, f) (undone_steps n pos u (6 * n) (initial ++ keys) h)

  -- what is unwrapped is as long, and wrapping its key data gives the wrap again, if its register is the initial value
  module _ (sealed : List ℕ) (h : Held n sealed) where
    values : length sealed / 8 - 1 ≡ n
    values = rw h.size (omega arith)

    pub unwrapped-held : Held n (unwrapped E sealed)
    unfolding unwrapped
    unwrapped-held = rw values (unsteps_held n pos u (6 * n) sealed h)

    pub redone_wrap : take 8 (unwrapped E sealed) ≡ initial → wrapped D (drop 8 (unwrapped E sealed)) ≡ sealed
    unfolding wrapped unwrapped
    redone_wrap intact =
        let r : List ℕ = unwrapped E sealed in
        let l : length (drop 8 r) / 8 ≡ n = rw (length-drop 8 r, unwrapped-held.size) (omega arith) in
        let whole : initial ++ drop 8 r ≡ r = ap (λ (a : List ℕ). a ++ drop 8 r) (sym intact) ∙ take-drop 8 r in
        ap (λ (k : ℕ). wrap_steps D k (6 * k) (initial ++ drop 8 r)) l ∙ ap (wrap_steps D n (6 * n)) (whole ∙ ap (λ (k : ℕ). unwrap_steps E k (6 * k) sealed) values)
        ∙ redone_steps n pos u (6 * n) sealed h
