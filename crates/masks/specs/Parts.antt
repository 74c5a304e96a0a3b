-- What a buffer holds that is filled part by part. What inner contracts cite.
-- Assumes nothing.
use Rattle.std.specs.Prelude.{List, ◌≡◌, ℕ, ◌+◌, ◌/◌, ◌%◌, ◌<◌, length}
use Rattle.aes.specs.Byte.{◌⊕◌, table}
use Rattle.aes.specs.Held.{Holds}

-- xs has become ys: where it began with the first a entries of f, it begins with the first b, if f is as told
abbrev pub Further : List ℕ → List ℕ → ℕ → ℕ → ((ℕ → ℕ) → Type 0) → Type 0
Further xs ys a b told =
    (length ys ≡ length xs) × ((n : ℕ) (f : ℕ → ℕ) → Holds n (table f a) xs → told f → Holds n (table f b) ys)

-- Sixteen tables in a row: table l has at x what f gives for x xor l.
unfoldable pub turned_table : (ℕ → ℕ) → ℕ → ℕ
turned_table f q = f ((q % 256) ⊕ (q / 256))

-- From `end` on f has once more what it has before it, exchanged: at y what stands at y xor k.
abbrev pub Exchanged : ℕ → ℕ → (ℕ → ℕ) → Type 0
Exchanged k end f = (y : ℕ) → y < end → f (y ⊕ k) ≡ f (end + y)
