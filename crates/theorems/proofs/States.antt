-- What is written state by state, whatever the points are: where state q stands, and byte i of it.
-- Assumes nothing.
use mathlib.Core.Path.{◌≡◌, refl, sym, ap, ◌∙◌}
use mathlib.Core.List.{List, [], ◌∷◌}
use Prim.Native.Nat.{ℕ, zero, suc, ◌+◌, ◌*◌, ◌<◌}
use native.Mathlib.Omega.{arith}
use lib.ListN.{length, get_or, drop}
use lib.Seq.{drop-nil, take_at, drop-append-add, get_or-take, get_or-drop}
use Rattle.aes.specs.Byte.{◌⊕◌, table}
use Rattle.aes.specs.State.{at, add_round_key}
use Rattle.aes.specs.Record.{run, bytes}
use Rattle.aes.proofs.Listed.{table_at}
use Rattle.aes.proofs.Written.{Sized}
use Rattle.masks.specs.Mask.{◌⊞◌}
use Rattle.masked.specs.Calls.{block_at}
use Rattle.theorems.specs.Summed.{summed}

-- sixteen bytes in each state
abbrev pub Sizes : List (List ℕ) → Type 0
Sizes [] = Unit
Sizes (s ∷ u) = (length s ≡ 16) × Sizes u

pub run_sizes : {P : Type 0} (f : P → List ℕ → List ℕ) → Sized f → (ps : List P) (s : List ℕ) → length s ≡ 16 → Sizes (run f s ps)
unfolding run
run_sizes f h [] s l = tt
run_sizes f h (p ∷ ps) s l = (h p s l, run_sizes f h ps (f p s) (h p s l))

pub summed_sizes : (u v : List (List ℕ)) → Sizes (summed u v)
unfolding summed add_round_key
summed_sizes [] v = tt
summed_sizes (s ∷ u) [] = tt
summed_sizes (s ∷ u) (t ∷ v) = (refl, summed_sizes u v)

-- one state behind the other
pub state_in : (u : List (List ℕ)) → Sizes u → (q : ℕ) → block_at q (bytes u) ≡ get_or u q []
unfolding bytes
state_in [] h q = rw drop-nil
state_in (s ∷ u) h zero = take_at s (bytes u) 16 h.0
state_in (s ∷ u) h (suc q) =
    let e : 16 * suc q ≡ length s + 16 * q = rw h.0 (omega arith) in
    rw (e, drop-append-add s (bytes u) (16 * q)) (state_in u h.1 q)

pub add_at : (a b : List ℕ) (k : ℕ) → k < 16 → at (a ⊞ b) k ≡ at a k ⊕ at b k
unfolding add_round_key table
add_at a b = table_at (λ i. at a i ⊕ at b i) 16

-- byte i of state q stands at 16 q + i
pub byte_in : (written s m : List ℕ) (q i : ℕ) → i < 16 → block_at q written ≡ s ⊞ m → at written (16 * q + i) ≡ at s i ⊕ at m i
byte_in written s m q i h e =
    sym (get_or-take 16 (drop (16 * q) written) i 0 h ∙ get_or-drop (16 * q) written i 0) ∙ ap (λ (t : List ℕ). at t i) e ∙ add_at s m i h
