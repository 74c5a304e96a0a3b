-- Runs, whatever their points are: if each step makes the state at its point of the one before, the whole record has these states; if
-- each takes the mask before its point to the mask at it, the whole record is covered.
-- Assumes nothing.
use mathlib.Core.Path.{◌≡◌, refl, ap, ◌∙◌}
use mathlib.Core.List.{List, [], ◌∷◌, ◌++◌, map, map-append, append_assoc}
use Prim.Native.Nat.{ℕ, zero, suc, ◌<◌}
use native.Mathlib.Omega.{arith}
use lib.ListN.{length, get_or}
use Rattle.aes.specs.Record.{run, last}
use Rattle.aes.proofs.Written.{last-append}
use Rattle.masks.specs.Mask.{◌⊞◌}
use Rattle.theorems.specs.Summed.{summed}

-- what is before each point, a mask or a state, is what is there at the point before it; m is before all of them
abbrev pub Linked : {P : Type 0} → (P → List ℕ) → (P → List ℕ) → List ℕ → List P → Type 0
Linked before there m [] = Unit
Linked before there m (p ∷ ps) = (before p ≡ m) × Linked before there (there p) ps

module _ {P : Type 0} (before there : P → List ℕ) where
  linked_append : (ps qs : List P) (m : List ℕ) → Linked before there m ps → Linked before there (last m (map there ps)) qs → Linked before there m (ps ++ qs)
  unfolding last
  linked_append [] qs m l k = k
  linked_append (p ∷ ps) qs m l k = (l.0, linked_append ps qs (there p) l.1 k)

  -- rounds one after the other, each from what the one before has left
  module _ (rounds round : ℕ → List P) (none : rounds 0 ≡ []) (more : (n : ℕ) → rounds (suc n) ≡ rounds n ++ round n) (left : ℕ → List ℕ)
      (linked : (n : ℕ) → Linked before there (left n) (round n)) (leaves : (n : ℕ) → last (left n) (map there (round n)) ≡ left (suc n)) where
    pub linked_rounds : (n : ℕ) (qs : List P) → Linked before there (left n) qs → Linked before there (left 0) (rounds n ++ qs)
    linked_rounds zero qs l = rw none l
    linked_rounds (suc n) qs l = rw (more n, append_assoc) (linked_rounds n (round n ++ qs) (linked_append (round n) qs (left n) (linked n) (rw (leaves n) l)))

pub followed : {P : Type 0} (f : P → List ℕ → List ℕ) (before there : P → List ℕ) → ((p : P) → f p (before p) ≡ there p)
    → (ps : List P) (s : List ℕ) → Linked before there s ps → run f s ps ≡ map there ps
unfolding run
followed f before there step [] s l = refl
followed f before there step (p ∷ ps) s l = rw (← l.0, step p) (ap (λ (u : List (List ℕ)). there p ∷ u) (followed f before there step ps (there p) l.1))

pub cover : {P : Type 0} (plain covered : P → List ℕ → List ℕ) (before mask : P → List ℕ)
    → ((p : P) (s : List ℕ) → covered p (s ⊞ before p) ≡ plain p s ⊞ mask p)
    → (ps : List P) (m s : List ℕ) → Linked before mask m ps → run covered (s ⊞ m) ps ≡ summed (run plain s ps) (map mask ps)
unfolding run summed
cover plain covered before mask step [] m s l = refl
cover plain covered before mask step (p ∷ ps) m s l =
    rw (← l.0, step p s)
    (ap (λ (u : List (List ℕ)). plain p s ⊞ mask p ∷ u) (cover plain covered before mask step ps (mask p) (plain p s) l.1))

-- the last of what is there at several points and at more of them
pub last-map : {P : Type 0} (there : P → List ℕ) (ps qs : List P) (m : List ℕ) → last m (map there (ps ++ qs)) ≡ last (last m (map there ps)) (map there qs)
last-map there ps qs m = ap (last m) (map-append there ps qs) ∙ last-append m (map there ps) (map there qs)

-- the last state of a covered record
pub last-summed : {P : Type 0} (f : P → List ℕ → List ℕ) (mask : P → List ℕ) (ps : List P) (m s : List ℕ)
    → last (s ⊞ m) (summed (run f s ps) (map mask ps)) ≡ last s (run f s ps) ⊞ last m (map mask ps)
unfolding run summed last
last-summed f mask [] m s = refl
last-summed f mask (p ∷ ps) m s = last-summed f mask ps (mask p) (f p s)

-- and state q of it
pub at-summed : {P : Type 0} (f : P → List ℕ → List ℕ) (mask : P → List ℕ) (d : P) (ps : List P) (s : List ℕ) (q : ℕ)
    → q < length ps → get_or (summed (run f s ps) (map mask ps)) q [] ≡ get_or (run f s ps) q [] ⊞ mask (get_or ps q d)
unfolding run summed
at-summed f mask d [] s q h = absurd (omega arith)
at-summed f mask d (p ∷ ps) s zero h = refl
at-summed f mask d (p ∷ ps) s (suc q) h = at-summed f mask d ps (f p s) q (omega arith)

pub map_at : {P : Type 0} (f : P → List ℕ) (ps : List P) (q : ℕ) (d : P) → q < length ps → get_or (map f ps) q [] ≡ f (get_or ps q d)
map_at f [] q d h = absurd (omega arith)
map_at f (p ∷ ps) zero d h = refl
map_at f (p ∷ ps) (suc q) d h = map_at f ps q d (omega arith)
