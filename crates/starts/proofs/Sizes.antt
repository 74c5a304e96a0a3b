-- A masked run ends in sixteen bytes, each way.
-- Assumes nothing.
use mathlib.Core.Path.{◌≡◌, refl}
use mathlib.Core.List.{List, ◌∷◌}
use Prim.Native.Nat.{ℕ, ◌-◌}
use lib.ListN.{length}
use Rattle.aes.specs.State.{add_round_key}
use Rattle.aes.specs.Record.{final, block, wholes, points, run, last}
use Rattle.aes.proofs.Written.{run-append, last-append}
use Rattle.runs.specs.Run.{covered, masked_record, masked_cipher}
use Rattle.runs.specs.Back.{block as first, keyed, sixes, closing, back_points, uncovering, masked_back_record, masked_inv_cipher}

pub masked_size : (nr : ℕ) (M v : List ℕ) (d : ℕ) (w b : List ℕ) → length (masked_cipher nr M v d w b) ≡ 16
unfolding masked_cipher masked_record points run last covered add_round_key
masked_size nr M v d w b =
    let f = covered M v d w in
    let ps = block ∷ wholes (nr - 1) in
    rw (run-append f ps (final (nr - 1)) b, last-append b (run f b ps) (run f (last b (run f b ps)) (final (nr - 1)))) refl

pub opened_size : (nr : ℕ) (M v : List ℕ) (d : ℕ) (w b : List ℕ) → length (masked_inv_cipher nr M v d w b) ≡ 16
unfolding masked_inv_cipher masked_back_record back_points run last uncovering add_round_key
opened_size nr M v d w b =
    let f = uncovering nr M v d w in
    let ps = first ∷ keyed 0 ∷ sixes (nr - 1) in
    rw (run-append f ps (closing (nr - 1)) b, last-append b (run f b ps) (run f (last b (run f b ps)) (closing (nr - 1)))) refl
