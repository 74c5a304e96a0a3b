-- What a call that its checks let pass is lent.
-- Assumes nothing.
use mathlib.Core.Path.{◌≡◌}
use mathlib.Core.List.{List, [], ◌∷◌}
use mathlib.Core.Bool.{◌&&◌}
use Prim.Native.Nat.{ℕ, ◌+◌, ◌%◌, ◌≤◌}
use lib.Dec.{eqb, leb, eqb→eq, leb→le}
use lib.ListN.{length}
use mir.Facts.{and_yes}
use Rattle.aes.specs.Reply.{Check, is_full_schedule, is_offset, is_key_data, is_wrapped_of}
use Rattle.aes.proofs.Replies.{AllHold}

-- the checks of both calls, before that of the register
abbrev pub checks : List ℕ → ℕ → List ℕ → List ℕ → List Check
checks w o keys sealed = is_full_schedule w ∷ is_offset o ∷ is_key_data keys ∷ is_wrapped_of keys sealed ∷ []

pub record Sizes (w : List ℕ) (o : ℕ) (keys sealed : List ℕ) : Type 0 where
  pub schedule : length w ≡ 240
  pub offset : o ≤ 15
  pub least : 16 ≤ length keys
  pub most : length keys ≤ 256
  pub eights : length keys % 8 ≡ 0
  pub wrapped : length sealed ≡ length keys + 8

pub held_sizes : (w : List ℕ) (o : ℕ) (keys sealed : List ℕ) → AllHold (checks w o keys sealed) → Sizes w o keys sealed
unfolding AllHold
held_sizes w o keys sealed h =
    let both = and_yes (eqb (length keys % 8) 0 && leb 16 (length keys)) (leb (length keys) 256) h.1.1.0 in
    let first = and_yes (eqb (length keys % 8) 0) (leb 16 (length keys)) both.0 in
    record {
      schedule = eqb→eq (length w) 240 h.0;
      offset = leb→le o 15 h.1.0;
      least = leb→le 16 (length keys) first.1;
      most = leb→le (length keys) 256 both.1;
      eights = eqb→eq (length keys % 8) 0 first.0;
      wrapped = eqb→eq (length sealed) (length keys + 8) h.1.1.1.0;
    }
