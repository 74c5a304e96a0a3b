-- Two runs through the same points record the same where their steps agree: on states of sixteen bytes, at the points that are due.
-- Assumes nothing.
use mathlib.Core.Path.{◌≡◌, refl, ap}
use mathlib.Core.Bool.{Bool, true, false, ◌&&◌}
use mathlib.Core.List.{List, [], ◌∷◌, ◌++◌}
use Prim.Native.Nat.{ℕ}
use lib.Dec.{T}
use mir.Facts.{and_yes}
use Rattle.aes.specs.State.{Bytes}
use Rattle.aes.specs.Record.{run}

unfoldable pub all_due : {P : Type 0} → (P → Bool) → List P → Bool
all_due due [] = true
all_due due (p ∷ ps) = due p && all_due due ps

pub both : (a b : Bool) → T a → T b → T (a && b)
both true b t u = u
both false b t u = elim t [ ]

pub due_append : {P : Type 0} (due : P → Bool) (ps qs : List P) → T (all_due due ps) → T (all_due due qs) → T (all_due due (ps ++ qs))
unfolding all_due
due_append due [] qs t u = u
due_append due (p ∷ ps) qs t u =
    let h = and_yes (due p) (all_due due ps) t in
    both (due p) (all_due due (ps ++ qs)) h.0 (due_append due ps qs h.1 u)

pub run_is : {P : Type 0} (f g : P → List ℕ → List ℕ) (due : P → Bool)
    → ((p : P) → T (due p) → (s : List ℕ) → Bytes 16 s → f p s ≡ g p s) → ((p : P) (s : List ℕ) → Bytes 16 s → Bytes 16 (g p s))
    → (ps : List P) → T (all_due due ps) → (s : List ℕ) → Bytes 16 s → run f s ps ≡ run g s ps
unfolding all_due run
run_is f g due agree kept [] t s h = refl
run_is f g due agree kept (p ∷ ps) t s h =
    let d = and_yes (due p) (all_due due ps) t in
    rw (agree p d.0 s h) (ap (λ (u : List (List ℕ)). g p s ∷ u) (run_is f g due agree kept ps d.1 (g p s) (kept p s h)))
