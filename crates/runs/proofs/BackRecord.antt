-- The points of a decryption, gone through one by one.
-- Assumes nothing.
use mathlib.Core.Path.{◌≡◌, refl, ap, ◌∙◌}
use mathlib.Core.List.{List, [], ◌∷◌, ◌++◌, append_assoc}
use Prim.Native.Nat.{ℕ, zero, suc, ◌+◌, ◌-◌, ◌*◌, ◌/◌, ◌%◌, ◌<◌}
use native.Mathlib.Omega.{arith}
use lib.ListN.{get_or}
use Rattle.aes.specs.State.{inv_shift_rows, inv_mix_columns, add_round_key}
use Rattle.aes.proofs.Written.{Sized, turns}
use Rattle.masks.specs.Order.{boxed_by}
use Rattle.runs.specs.Back.{Back, block, keyed, unshifted, corrected, unboxed, unmixed, restored, uncovered, sixes, back_points}
use Rattle.runs.specs.Lent.{back_steps, around, back_point_after}
use Rattle.runs.proofs.BackPointSteps.{at_point, at_restored}

pub back_sized : (n : ℕ) (w b rows columns p : List ℕ) (o d : ℕ) (end : List ℕ) → Sized (back_steps n w b rows columns p o d end)
unfolding back_steps add_round_key boxed_by inv_shift_rows inv_mix_columns
back_sized n w b rows columns p o d end block s l = l
back_sized n w b rows columns p o d end (keyed r) s l = refl
back_sized n w b rows columns p o d end (unshifted r) s l = refl
back_sized n w b rows columns p o d end (corrected r) s l = refl
back_sized n w b rows columns p o d end (unboxed r) s l = refl
back_sized n w b rows columns p o d end (unmixed r) s l = refl
back_sized n w b rows columns p o d end (restored r) s l = refl
back_sized n w b rows columns p o d end (uncovered r) s l = refl

-- the points behind the covered block, one a turn
abbrev pub after : ℕ → List Back
after m = back_point_after m ∷ []

-- four of them, and six
four_more : (x : ℕ) → turns after (suc (suc (suc (suc x)))) ≡ turns after x ++ (back_point_after x ∷ back_point_after (suc x) ∷ back_point_after (suc (suc x)) ∷ back_point_after (suc (suc (suc x))) ∷ [])
four_more x = simp append_assoc

six_more : (x : ℕ) → turns after (suc (suc (suc (suc (suc (suc x))))))
    ≡ turns after x ++ (back_point_after x ∷ back_point_after (suc x) ∷ back_point_after (suc (suc x)) ∷ back_point_after (suc (suc (suc x))) ∷ back_point_after (suc (suc (suc (suc x)))) ∷ back_point_after (suc (suc (suc (suc (suc x))))) ∷ [])
six_more x = simp append_assoc

-- which they are in round r
module _ (r x : ℕ) (e : x ≡ 6 * r + 1) where
  in_round : (m k : ℕ) → m / 6 ≡ r → m % 6 ≡ k → back_point_after m ≡ get_or (around r) k block
  in_round m k hr hk = at_point m k hk ∙ ap (λ (j : ℕ). get_or (around j) k block) hr

  first : back_point_after x ≡ unshifted r
  first = in_round x 1 (omega (arith, e)) (omega (arith, e))

  second : back_point_after (suc x) ≡ corrected r
  second = in_round (suc x) 2 (omega (arith, e)) (omega (arith, e))

  third : back_point_after (suc (suc x)) ≡ unboxed r
  third = in_round (suc (suc x)) 3 (omega (arith, e)) (omega (arith, e))

  fourth : back_point_after (suc (suc (suc x))) ≡ keyed (suc r)
  fourth = in_round (suc (suc (suc x))) 4 (omega (arith, e)) (omega (arith, e))

  fifth : back_point_after (suc (suc (suc (suc x)))) ≡ unmixed r
  fifth = in_round (suc (suc (suc (suc x)))) 5 (omega (arith, e)) (omega (arith, e))

  sixth : back_point_after (suc (suc (suc (suc (suc x))))) ≡ restored r
  sixth = at_restored (suc (suc (suc (suc (suc x))))) (omega (arith, e)) (λ z. omega (arith, e, z)) ∙ ap restored (omega (arith, e))

-- so many turns are the first key and whole rounds
behind : (r x : ℕ) → x ≡ 6 * r + 1 → turns after x ≡ keyed 0 ∷ sixes r
unfolding sixes back_point_after
behind zero x e = let one : x ≡ 1 = omega (arith, e) in ap (turns after) one
behind (suc r) x e =
    let y : ℕ = 6 * r + 1 in
    let y-is : y ≡ 6 * r + 1 = refl in
    let x-is : x ≡ suc (suc (suc (suc (suc (suc y))))) = omega (arith, e) in
    ap (turns after) x-is ∙ six_more y
    ∙ (λ i. behind r y y-is i ++ (first r y y-is i ∷ second r y y-is i ∷ third r y y-is i ∷ fourth r y y-is i ∷ fifth r y y-is i ∷ sixth r y y-is i ∷ []))

-- and all points, with the last one behind
pub all_points : (n : ℕ) → 0 < n → (block ∷ turns after (6 * n - 1)) ++ (uncovered (n - 1) ∷ []) ≡ back_points n
unfolding back_points
all_points n lt =
    let r : ℕ = n - 1 in
    let y : ℕ = 6 * r + 1 in
    let y-is : y ≡ 6 * r + 1 = refl in
    let x-is : 6 * n - 1 ≡ suc (suc (suc (suc y))) = omega (arith, lt) in
    let turned : turns after (6 * n - 1) ≡ (keyed 0 ∷ sixes r) ++ (unshifted r ∷ corrected r ∷ unboxed r ∷ keyed (suc r) ∷ []) =
    ap (turns after) x-is ∙ four_more y
    ∙ (λ i. behind r y y-is i ++ (first r y y-is i ∷ second r y y-is i ∷ third r y y-is i ∷ fourth r y y-is i ∷ [])) in
    ap (λ (ps : List Back). (block ∷ ps) ++ (uncovered r ∷ [])) turned
    ∙ append_assoc (block ∷ keyed 0 ∷ sixes r) (unshifted r ∷ corrected r ∷ unboxed r ∷ keyed (suc r) ∷ []) (uncovered r ∷ [])
