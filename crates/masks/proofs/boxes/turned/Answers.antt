-- The lent table, and then twice as many four times.
-- Assumes nothing.
use mathlib.Core.List.{List, ◌++◌}
use mathlib.Core.Path.{◌≡◌, ◌∙◌}
use Prim.Native.Nat.{ℕ}
use native.Mathlib.Omega.{arith}
use lib.Dec.{lit≤}
use lib.ListN.{length, drop, length-append, length-drop, get_or-append}
use Rattle.aes.specs.Byte.{table}
use Rattle.aes.specs.State.{at}
use Rattle.aes.proofs.Listed.{table-length}
use Rattle.aes.proofs.Part.{holds_all}
use Rattle.aes.proofs.Fill.{Filled}
use Rattle.masks.specs.Parts.{turned_table}
use Rattle.masks.proofs.Turned.{first_table, turned_same, filled_holds, by_one, by_two, by_four, by_eight}
use Rattle.masks.proofs.boxes.turned.Goals as goal

-- the lent table in its place
first_filled : (t r : List ℕ) → length t ≡ 256 → length r ≡ 4096 → Filled (turned_table (at t)) 4096 256 (t ++ drop 256 r)
first_filled t r lt lr =
    record {
      room = length-append t (drop 256 r) ∙ simp length-drop (omega (arith, lt, lr));
      within = lit≤ tt;
      so_far = λ k h. get_or-append t (drop 256 r) 0 k (omega (arith, h, lt)) ∙ first_table (at t) k h;
    }

pub returns : goal.returns
returns c =
    let t : List ℕ = c.args.t.now in
    let f = turned_table (at t) in
    let two =
    c.doubled.ensures.1 4096 f (rw c.copy_from_slice.ensures.after (filled_holds (first_filled t c.args.r.now c.told-t c.told-r))) (by_one (at t)) in
    let four = c.doubled-2.ensures.1 4096 f two (by_two (at t)) in
    let eight = c.doubled-3.ensures.1 4096 f four (by_four (at t)) in
    λ g same. holds_all 4096 (table f 4096) _ (c.doubled-4.ensures.1 4096 f eight (by_eight (at t))) (table-length f 4096) ∙ turned_same g t same
