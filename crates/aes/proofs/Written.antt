-- A run written into a lent buffer, some points at a time.
-- Assumes nothing.
use mathlib.Core.Path.{◌≡◌, refl, sym, ap, ◌∙◌}
use mathlib.Core.List.{List, [], ◌∷◌, ◌++◌, append_assoc, append-nil}
use Prim.Native.Nat.{ℕ, zero, suc, ◌+◌, ◌*◌, ◌-◌, ◌≤◌, ◌<◌}
use native.Mathlib.Nat.{mul-zero, mul-suc}
use native.Mathlib.Numerals.{add-one}
use native.Mathlib.Omega.{arith}
use lib.Dec.{lit≤}
use borrow.Author.Tests.{eq-eqb, ne_eqb}
use lib.ListN.{length, length-append}
use Rattle.aes.specs.Record.{Point, block, whole, final, wholes, five, points, run, last, bytes, Recorded}
use Rattle.aes.specs.Held.{Holds}
use Rattle.aes.proofs.Part.{holds_none, holds_all, lent, back}

-- each step makes sixteen bytes of sixteen
abbrev pub Sized : {P : Type 0} → (P → List ℕ → List ℕ) → Type 0
Sized {P} f = (p : P) (s : List ℕ) → length s ≡ 16 → length (f p s) ≡ 16

module _ {P : Type 0} (f : P → List ℕ → List ℕ) where
  pub run-append : (ps qs : List P) (s : List ℕ) → run f s (ps ++ qs) ≡ run f s ps ++ run f (last s (run f s ps)) qs
  unfolding run last
  run-append [] qs s = refl
  run-append (p ∷ ps) qs s = ap (λ (u : List (List ℕ)). f p s ∷ u) (run-append ps qs (f p s))

  pub last_size : Sized f → (ps : List P) (s : List ℕ) → length s ≡ 16 → length (last s (run f s ps)) ≡ 16
  unfolding run last
  last_size h [] s l = l
  last_size h (p ∷ ps) s l = last_size h ps (f p s) (h p s l)

  pub run_size : Sized f → (ps : List P) (s : List ℕ) → length s ≡ 16 → length (bytes (run f s ps)) ≡ 16 * length ps
  unfolding run bytes
  run_size h [] s l = refl
  run_size h (p ∷ ps) s l = simp (length-append, h p s l, run_size h ps (f p s) (h p s l)) (omega arith)

bytes-append : (u v : List (List ℕ)) → bytes (u ++ v) ≡ bytes u ++ bytes v
unfolding bytes
bytes-append [] v = refl
bytes-append (s ∷ u) v = rw (bytes-append u v) (sym (append_assoc s (bytes u) (bytes v)))

pub last-append : (s : List ℕ) (u v : List (List ℕ)) → last s (u ++ v) ≡ last (last s u) v
unfolding last
last-append s [] v = refl
last-append s (t ∷ u) v = last-append t u v

-- xs, of n bytes, begins with the states at the points ps of a run from s, and t is the last of them
pub record Written {P : Type 0} (f : P → List ℕ → List ℕ) (s : List ℕ) (n : ℕ) (ps : List P) (t xs : List ℕ) : Type 0 where
  pub state : t ≡ last s (run f s ps)
  pub held : Holds n (bytes (run f s ps)) xs

pub written_none : {P : Type 0} (f : P → List ℕ → List ℕ) (s : List ℕ) (n : ℕ) (xs : List ℕ) → length xs ≡ n → Written f s n [] s xs
unfolding run last bytes
written_none f s n xs l = record { state = refl; held = holds_none n xs l }

pub recorded_one : {P : Type 0} {f : P → List ℕ → List ℕ} {t t' ys : List ℕ} {p : P} → t' ≡ f p t → ys ≡ t' → Recorded f t (p ∷ []) t' ys
unfolding run last bytes
recorded_one et ey = record { end = et; held = ey ∙ et ∙ sym (append-nil _) }

module _ {P : Type 0} {f : P → List ℕ → List ℕ} (h : Sized f) {s : List ℕ} (l : length s ≡ 16) where
  -- the part from a to e is lent for the points qs
  pub written_more : {n : ℕ} {ps : List P} {t xs : List ℕ} → Written f s n ps t xs → (qs : List P) (a e : ℕ) {t' ys : List ℕ}
      → 16 * length ps ≡ a → 16 * length qs ≡ e - a → a ≤ e → e ≤ n → Recorded f t qs t' ys → Written f s n (ps ++ qs) t' (back xs a (e - a) ys)
  written_more {n} {ps} {t} {xs} w qs a e {t'} {ys} ha he le ln r =
      let lt : length t ≡ 16 = rw w.state (last_size f h ps s l) in
      record {
        state = r.end ∙ rw (run-append f ps qs s, last-append s (run f s ps) (run f (last s (run f s ps)) qs), w.state);
        held =
            rw (run-append f ps qs s, bytes-append (run f s ps) (run f (last s (run f s ps)) qs), ← w.state)
            (lent n a e (bytes (run f s ps)) (bytes (run f t qs)) xs ys w.held (run_size f h ps s l ∙ ha) r.held (run_size f h qs t lt ∙ he) le ln);
      }

  -- the part is lent for one point
  pub written_step : {n : ℕ} {ps : List P} {t xs : List ℕ} → Written f s n ps t xs → (p : P) (a e : ℕ) {t' ys : List ℕ}
      → 16 * length ps ≡ a → 16 ≡ e - a → a ≤ e → e ≤ n → t' ≡ f p t → ys ≡ t' → Written f s n (ps ++ (p ∷ [])) t' (back xs a (e - a) ys)
  written_step w p a e ha he le ln et ey = written_more w (p ∷ []) a e ha he le ln (recorded_one et ey)

  pub written_all : {n : ℕ} {ps : List P} {t xs : List ℕ} → Written f s n ps t xs → 16 * length ps ≡ n → Recorded f s ps t xs
  written_all {n} {ps} {t} {xs} w e =
      record { end = w.state; held = holds_all n (bytes (run f s ps)) xs w.held (run_size f h ps s l ∙ e) }

-- the five parts of 80 bytes are lent one after the other
pub written-five : {f : Point → List ℕ → List ℕ} → Sized f → (s : List ℕ) → length s ≡ 16 → (xs : List ℕ) → length xs ≡ 80 → (p q r u v : Point)
    → {t1 t2 t3 t4 t5 y1 y2 y3 y4 y5 : List ℕ} → t1 ≡ f p s → y1 ≡ t1 → t2 ≡ f q t1 → y2 ≡ t2 → t3 ≡ f r t2 → y3 ≡ t3 → t4 ≡ f u t3 → y4 ≡ t4
    → t5 ≡ f v t4 → y5 ≡ t5
    → Recorded f s (p ∷ q ∷ r ∷ u ∷ v ∷ []) t5 (back (back (back (back (back xs 0 16 y1) 16 16 y2) 32 16 y3) 48 16 y4) 64 16 y5)
written-five {f} h s l xs room p q r u v e1 k1 e2 k2 e3 k3 e4 k4 e5 k5 =
    let h1 = written_step h l (written_none f s 80 xs room) p 0 16 refl refl (lit≤ tt) (lit≤ tt) e1 k1 in
    let h2 = written_step h l h1 q 16 32 refl refl (lit≤ tt) (lit≤ tt) e2 k2 in
    let h3 = written_step h l h2 r 32 48 refl refl (lit≤ tt) (lit≤ tt) e3 k3 in
    let h4 = written_step h l h3 u 48 64 refl refl (lit≤ tt) (lit≤ tt) e4 k4 in
    written_all h l (written_step h l h4 v 64 80 refl refl (lit≤ tt) (lit≤ tt) e5 k5) refl

-- the points of n turns, and how many bytes they take behind a first point where each takes k
abbrev pub turns : {P : Type 0} → (ℕ → List P) → ℕ → List P
turns ps zero = []
turns ps (suc n) = turns ps n ++ ps n

turns_more : {P : Type 0} (ps : ℕ → List P) (n : ℕ) → turns ps (n + 1) ≡ turns ps n ++ ps n
turns_more ps n = rw add-one

pub turns_length : {P : Type 0} (b : P) (ps : ℕ → List P) (k : ℕ) → ((i : ℕ) → 16 * length (ps i) ≡ k) → (n : ℕ) → 16 * length (b ∷ turns ps n) ≡ k * n + 16
turns_length b ps k e zero = rw mul-zero
turns_length b ps k e (suc n) = simp (length-append, mul-suc) (omega (arith, turns_length b ps k e n, e n))

-- the points of n rounds, five for each and one before them
wholes_turns : (n r : ℕ) → r < n → turns (five n) r ≡ wholes r
unfolding wholes
wholes_turns n zero h = refl
wholes_turns n (suc r) h = λ i. wholes_turns n r (omega arith) i ++ five-whole i
  where
    five-whole : five n r ≡ whole r
    five-whole = simp (ne_eqb (suc r) n (λ e. absurd (omega arith)))

pub rounds_all : (n : ℕ) → 0 < n → block ∷ turns (five n) n ≡ points n
unfolding points
rounds_all n h =
    let r : ℕ = n - 1 in
    let e : suc r ≡ n = omega (arith, h) in
    ap (λ (m : ℕ). block ∷ turns (five n) m) (sym e) ∙ λ i. block ∷ (wholes_turns n r (omega (arith, h)) i ++ five-final r e i)
  where
    five-final : (r : ℕ) → suc r ≡ n → five n r ≡ final r
    five-final r e = simp (eq-eqb (suc r) n e)

pub rounds-bytes : (n : ℕ) → 0 < n → 16 * length (points n) ≡ 80 * n + 16
rounds-bytes n h = ap (λ (ps : List Point). 16 * length ps) (sym (rounds_all n h)) ∙ turns_length block (five n) 80 (λ i. refl) n

module _ {P : Type 0} {f : P → List ℕ → List ℕ} (h : Sized f) {s : List ℕ} (l : length s ≡ 16) (b : P) {size : ℕ} where
  -- the first point, a turn more in the k bytes behind what is written, and all points gone through after m turns
  pub written_first : {t ys : List ℕ} (xs : List ℕ) → 16 ≤ size → length xs ≡ size → t ≡ f b s → ys ≡ t → Written f s size (b ∷ []) t (back xs 0 16 ys)
  written_first xs le room et ey = written_step h l (written_none f s size xs room) b 0 16 refl refl (lit≤ tt) le et ey

  pub written_turn : (ps : ℕ → List P) (k : ℕ) → ((i : ℕ) → 16 * length (ps i) ≡ k) → {t t' xs ys : List ℕ} (n : ℕ) → k * n + 16 + k ≤ size
      → Written f s size (b ∷ turns ps n) t xs → Recorded f t (ps n) t' ys
      → Written f s size (b ∷ turns ps (n + 1)) t' (back xs (k * n + 16) (k * n + 16 + k - (k * n + 16)) ys)
  written_turn ps k e n le w d =
      rw turns_more (written_more h l w (ps n) (k * n + 16) (k * n + 16 + k) (turns_length b ps k e n) (e n ∙ omega arith) (omega arith) le d)

  pub written-whole : (ps : ℕ → List P) (m : ℕ) (qs : List P) → b ∷ turns ps m ≡ qs → 16 * length qs ≡ size → {t xs : List ℕ} (n : ℕ) → n ≤ m → m ≤ n
      → Written f s size (b ∷ turns ps n) t xs → xs ≡ bytes (run f s qs)
  written-whole ps m qs all total n le ge w =
      let e : n ≡ m = omega (arith, le, ge) in
      (written_all h l (rw (e, all) at w) total).held
