-- Mark and version, and the masks behind them.
-- Assumes nothing.
use mathlib.Core.Path.{◌≡◌, refl, ap, ◌∙◌}
use mathlib.Core.List.{List, [], ◌∷◌, ◌++◌, append-nil}
use Prim.Native.Nat.{ℕ, ◌-◌}
use native.Mathlib.Omega.{arith}
use borrow.Rule.Slice.PartMut.{put_mid}
use lib.ListN.{length, take, drop, length-drop, drop_of_length-le}
use Rattle.masks.specs.Sheet.{headed}
use Rattle.masks.proofs.sheet.write_head.Goals as goal

-- two parts that fill a buffer, the first of five bytes
joined : (a b c d e : ℕ) (part ys : List ℕ) → length ys ≡ length part - 5
    → take 5 ((a ∷ b ∷ c ∷ d ∷ e ∷ []) ++ drop 5 part) ++ (ys ++ drop (length ((a ∷ b ∷ c ∷ d ∷ e ∷ []) ++ drop 5 part) - 5) (drop 5 part)) ≡ a ∷ b ∷ c ∷ d ∷ e ∷ ys
joined a b c d e part ys size =
    let none : drop (length ((a ∷ b ∷ c ∷ d ∷ e ∷ []) ++ drop 5 part) - 5) (drop 5 part) ≡ [] = drop_of_length-le (drop 5 part) (omega (arith, length-drop {A = ℕ})) in
    rw (none, append-nil) refl

pub returns : goal.returns
unfolding headed
returns c =
    let a = c.args in
    let masks = c.copy_from_slice-2.ensures.after in
    ap (λ (head : List ℕ). put_mid 5 (length (head ++ drop 5 a.part.now) - 5) (head ++ drop 5 a.part.now) c.copy_from_slice-2.new.self) c.copy_from_slice.ensures.after
    ∙ joined 0x4d 0x53 0x4b 0 a.version a.part.now c.copy_from_slice-2.new.self (omega (arith, ap length masks, c.requires)) ∙ ap (λ (ms : List ℕ). 0x4d ∷ 0x53 ∷ 0x4b ∷ 0 ∷ a.version ∷ ms) masks
