-- The recorded points of a run, and the record of a plain one.
-- Assumes nothing.
use Rattle.std.specs.Prelude.{cond, List, [], ◌∷◌, ◌++◌, ◌≡◌, ℕ, zero, suc, ◌-◌, eqb}
use Rattle.aes.specs.State.{sub_bytes, shift_rows, mix_columns, add_round_key}
use Rattle.aes.specs.Key.{round_key}
use Rattle.aes.specs.Cipher.{rounds, cipher}

-- the points at which a state is recorded, each with its round, counted from 0
pub data Point : Type 0 where
  block : Point
  keyed boxed shifted mixed compensated closed uncovered : ℕ → Point

-- a whole round, and the last one, which has no MIXCOLUMNS and two keys
abbrev pub whole : ℕ → List Point
whole r = keyed r ∷ boxed r ∷ shifted r ∷ mixed r ∷ compensated r ∷ []

abbrev pub final : ℕ → List Point
final r = keyed r ∷ boxed r ∷ shifted r ∷ closed r ∷ uncovered r ∷ []

-- the whole rounds 0 to n - 1
unfoldable pub wholes : ℕ → List Point
wholes zero = []
wholes (suc n) = wholes n ++ whole n

-- the points of a run of nr rounds, 5 nr + 1
unfoldable pub points : ℕ → List Point
points nr = (block ∷ wholes (nr - 1)) ++ final (nr - 1)

-- the five points of round r of nr, whole or final
abbrev pub five : ℕ → ℕ → List Point
five nr r = keyed r ∷ boxed r ∷ shifted r ∷ cond (eqb (suc r) nr) (closed r) (mixed r) ∷ cond (eqb (suc r) nr) (uncovered r) (compensated r) ∷ []

-- the states of a run from s on, where f p makes the state at p from the one before; and the last of them
unfoldable pub run : {P : Type 0} → (P → List ℕ → List ℕ) → List ℕ → List P → List (List ℕ)
run f s [] = []
run f s (p ∷ ps) = f p s ∷ run f (f p s) ps

unfoldable pub last : List ℕ → List (List ℕ) → List ℕ
last s [] = s
last s (t ∷ ts) = last t ts

-- the bytes of a record, state by state
unfoldable pub bytes : List (List ℕ) → List ℕ
bytes [] = []
bytes (s ∷ ss) = s ++ bytes ss

-- what a plain run does at each point: nothing covers its states, so three kinds repeat the state before
unfoldable pub plain : List ℕ → Point → List ℕ → List ℕ
plain w block s = s
plain w (keyed r) s = add_round_key s (round_key w r)
plain w (boxed r) s = sub_bytes s
plain w (shifted r) s = shift_rows s
plain w (mixed r) s = mix_columns s
plain w (compensated r) s = s
plain w (closed r) s = add_round_key s (round_key w (suc r))
plain w (uncovered r) s = s

unfoldable pub plain_record : ℕ → List ℕ → List ℕ → List (List ℕ)
plain_record nr w input = run (plain w) input (points nr)

-- a run from s through the points ps ends in t and has left its states in xs, one after the other
pub record Recorded {P : Type 0} (f : P → List ℕ → List ℕ) (s : List ℕ) (ps : List P) (t xs : List ℕ) : Type 0 where
  pub end : t ≡ last s (run f s ps)
  pub held : xs ≡ bytes (run f s ps)

-- the state of CIPHER at each point, over the rounds that it is made of: after key r a round begins
unfoldable pub cipher_at : List ℕ → List ℕ → Point → List ℕ
cipher_at w input block = input
cipher_at w input (keyed r) = rounds w (add_round_key input (round_key w 0)) r
cipher_at w input (boxed r) = sub_bytes (rounds w (add_round_key input (round_key w 0)) r)
cipher_at w input (shifted r) = shift_rows (sub_bytes (rounds w (add_round_key input (round_key w 0)) r))
cipher_at w input (mixed r) = mix_columns (shift_rows (sub_bytes (rounds w (add_round_key input (round_key w 0)) r)))
cipher_at w input (compensated r) = mix_columns (shift_rows (sub_bytes (rounds w (add_round_key input (round_key w 0)) r)))
cipher_at w input (closed r) = cipher (suc r) w input
cipher_at w input (uncovered r) = cipher (suc r) w input
