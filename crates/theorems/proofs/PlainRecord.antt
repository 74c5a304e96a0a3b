-- The plain record: its points are the states of CIPHER.
-- Assumes nothing.
use mathlib.Core.Path.{◌≡◌, refl, ap, ◌∙◌}
use mathlib.Core.List.{List, [], ◌∷◌, ◌++◌, map}
use Prim.Native.Nat.{ℕ, zero, suc, ◌-◌}
use native.Mathlib.Omega.{arith}
use lib.ListN.{get_or}
use Rattle.aes.specs.Cipher.{rounds, cipher}
use Rattle.aes.specs.Record.{Point, block, keyed, boxed, shifted, mixed, compensated, closed, uncovered, whole, final, wholes, points, run, last, plain, plain_record, cipher_at}
use Rattle.theorems.proofs.Cover.{Linked, linked_rounds, followed, last-map}

module _ (w input : List ℕ) where
  -- the state that key n is added to
  entered : ℕ → List ℕ
  entered zero = input
  entered (suc n) = cipher_at w input (mixed n)

  -- the state before each point
  before : Point → List ℕ
  before block = input
  before (keyed r) = entered r
  before (boxed r) = cipher_at w input (keyed r)
  before (shifted r) = cipher_at w input (boxed r)
  before (mixed r) = cipher_at w input (shifted r)
  before (compensated r) = cipher_at w input (mixed r)
  before (closed r) = cipher_at w input (shifted r)
  before (uncovered r) = cipher_at w input (closed r)

  step : (p : Point) → plain w p (before p) ≡ cipher_at w input p
  unfolding before entered plain cipher_at rounds cipher
  step block = refl
  step (keyed zero) = refl
  step (keyed (suc r)) = refl
  step (boxed r) = refl
  step (shifted r) = refl
  step (mixed r) = refl
  step (compensated r) = refl
  step (closed r) = let e : suc r - 1 ≡ r = omega arith in rw e
  step (uncovered r) = refl

  linked : (n : ℕ) → Linked before (cipher_at w input) input (block ∷ (wholes n ++ final n))
  unfolding wholes last before entered cipher_at
  linked n = (
    refl,
    linked_rounds before (cipher_at w input) wholes whole refl (λ n. refl) entered (λ n. (refl, (refl, (refl, (refl, (refl, tt)))))) (λ n. refl) n (final n)
        (refl, (refl, (refl, (refl, (refl, tt))))),
  )

  -- every recorded state is that of CIPHER at its point
  pub record_is : (nr : ℕ) → plain_record nr w input ≡ map (cipher_at w input) (points nr)
  unfolding plain_record points
  record_is nr = followed (plain w) before (cipher_at w input) step (points nr) input (linked (nr - 1))

  -- the first is the input, and the last what CIPHER gives
  pub record_first_lem : (nr : ℕ) → get_or (plain_record nr w input) 0 [] ≡ input
  unfolding plain_record points run plain
  record_first_lem nr = refl

  pub record_last : (n : ℕ) → last input (plain_record (suc n) w input) ≡ cipher (suc n) w input
  unfolding points last cipher_at
  record_last n =
      let e : suc n - 1 ≡ n = omega arith in
      ap (last input) (record_is (suc n)) ∙ rw e (last-map (cipher_at w input) (block ∷ wholes n) (final n) input)
