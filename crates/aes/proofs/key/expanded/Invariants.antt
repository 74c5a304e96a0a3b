-- The array holds the key and as many words more as turns were made.
-- Assumes nothing.
use mathlib.Core.Path.{◌≡◌}
use Prim.Native.Nat.{◌-◌}
use Rattle.aes.specs.Key.{word_at, expanded}
use Rattle.aes.specs.Word.{word_of}
use Rattle.aes.specs.Held.{Holds}
use Rattle.aes.proofs.key.expanded.Given as goal

abbrev pub invariant-loop-i : goal.invariant-loop-i
invariant-loop-i l =
    Holds 240 (expanded l.nk l.key (l.i - l.nk)) l.w × (word_of l.before ≡ word_at (expanded l.nk l.key (l.i - l.nk)) (l.i - 1))
