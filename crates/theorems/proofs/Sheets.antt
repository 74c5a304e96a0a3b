-- The mask sheet: writing and reading undo each other, for every step.
-- Assumes nothing.
use mathlib.Core.Path.{◌≡◌, sym, ap, subst, ◌∙◌}
use mathlib.Core.List.{List, [], ◌∷◌, ◌++◌}
use mathlib.Core.Bool.{Bool, true, false, cond, ◌&&◌, ◌||◌}
use Prim.Native.Nat.{ℕ, ◌≤◌}
use native.Mathlib.Decide.{ℕ_discrete}
use native.Mathlib.Omega.{arith}
use lib.Dec.{T, eqb, leb, eqb→eq, leb→le, lit≤}
use lib.ListN.{length, take, drop, length-drop, length-append}
use lib.Seq.{take_all, take_at, take-suc, length-take-le, get_or_at, get_or-drop}
use mir.Facts.{and_yes}
use borrow.Author.Tests.{eq-eqb, ne_eqb}
use Rattle.aes.specs.State.{at}
use Rattle.aes.specs.Reply.{marked, version, step_of, taken}
use Rattle.aes.proofs.Replies.{AllHold, telling, done_holds, holds_done, is_true}
use Rattle.masks.proofs.Headed.{five, first_version, second_version}
use Rattle.masks.specs.Sheet.{headed, sheet_of, masks_of, read_checks, read_sheet_of, write_sheet_of}

-- what the reader makes of sixteen masks under a head of version 1, and of version 2 with a step behind them
module _ (masks other : List ℕ) (m : length masks ≡ 16) (o : length other ≡ 16) where
  read_first : read_sheet_of (headed 1 masks) other ≡ (0, (1, masks))
  unfolding headed masks_of AllHold
  read_first =
      holds_done _ _ (read_checks (headed 1 masks) other) (rw m tt, (tt, (tt, (rw m tt, (tt, (rw o tt, tt))))))
      ∙ ap (λ (l : List ℕ). (0, (1, l))) (take_all 16 masks (omega arith))

  read_second : (d : ℕ) → T (leb 4 d && leb d 15) → read_sheet_of (headed 2 masks ++ (d ∷ [])) other ≡ (0, (d, masks))
  unfolding headed masks_of AllHold
  read_second d t =
      let long : length (masks ++ (d ∷ [])) ≡ 17 = length-append masks (d ∷ []) ∙ omega (arith, m) in
      let last : at (masks ++ (d ∷ [])) 16 ≡ d = get_or_at masks d [] 0 16 m in
      holds_done _ _ (read_checks (headed 2 masks ++ (d ∷ [])) other) (rw long tt, (tt, (tt, (rw long tt, (rw last t, (rw o tt, tt))))))
      ∙ λ i. (0, (last i, take_at masks (d ∷ []) 16 m i))

-- a step that is taken, and not 1, is one of version 2
others : (one more high : Bool) → one ≡ false → T ((one || more) && high) → T (more && high)
others false more high e t = t
others true more high e t = absurd (subst T e tt)

or_else : (a b : Bool) → a ≡ false → T (a || b) → T b
or_else false b e t = t
or_else true b e t = absurd (subst T e tt)

-- Writing sixteen masks and a step, and reading the sheet, gives masks and step.
pub read_write : (masks sheet other : List ℕ) (d : ℕ) → length masks ≡ 16 → T (taken d) → length sheet ≡ cond (eqb d 1) 21 22 → length other ≡ 16
    → read_sheet_of (write_sheet_of masks d sheet).1 other ≡ (0, (d, masks))
read_write masks sheet other d m t s o =
    let written : (write_sheet_of masks d sheet).1 ≡ sheet_of masks d = simp (is_true (taken d) t, eq-eqb (length sheet) _ s, eq-eqb (length masks) 16 m) in
    ap (λ (x : List ℕ). read_sheet_of x other) written
    ∙ elim (ℕ_discrete d 1) [
      | yes e ↦ ap (λ (x : List ℕ). read_sheet_of x other) (sym (first_version masks d e)) ∙ read_first masks other m o ∙ ap (λ (n : ℕ). (0, (n, masks))) (sym e)
      | no e ↦ ap (λ (x : List ℕ). read_sheet_of x other) (sym (second_version masks d e)) ∙ read_second masks other m o d (others (eqb d 1) (leb 4 d) (leb d 15) (ne_eqb d 1 e) t)
    ]

-- a sheet by its parts: the bytes of its head, and what stands behind them
parts : (v : ℕ) (sheet : List ℕ) → 5 ≤ length sheet → T (marked sheet) → version sheet ≡ v → v ≤ 2 → headed v (drop 5 sheet) ≡ sheet
unfolding headed
parts v sheet l h e small =
    let three = and_yes (eqb (at sheet 0) 0x4d && eqb (at sheet 1) 0x53) (eqb (at sheet 2) 0x4b) h in
    let two = and_yes (eqb (at sheet 0) 0x4d) (eqb (at sheet 1) 0x53) three.0 in
    let e3 : at sheet 3 ≡ 0 = omega arith in
    let e4 : at sheet 4 ≡ v = omega arith in
    let e0 = eqb→eq (at sheet 0) 0x4d two.0 in
    let e1 = eqb→eq (at sheet 1) 0x53 two.1 in
    let e2 = eqb→eq (at sheet 2) 0x4b three.1 in
    sym (λ i. e0 i ∷ e1 i ∷ e2 i ∷ e3 i ∷ e4 i ∷ drop 5 sheet) ∙ five sheet l

-- what the writer makes of the masks and the step of a sheet that the reader takes: in version 1, and in version 2
module _ (sheet other : List ℕ) (h : T (marked sheet)) where
  write_first : version sheet ≡ 1 → length sheet ≡ 21 → length other ≡ 21 → write_sheet_of (masks_of sheet) 1 other ≡ (0, sheet)
  unfolding masks_of sheet_of
  write_first v l o =
      let room : length (drop 5 sheet) ≡ 16 = simp length-drop (omega (arith, l)) in
      let all : take 16 (drop 5 sheet) ≡ drop 5 sheet = take_all 16 (drop 5 sheet) (omega (arith, room)) in
      rw all (simp (eq-eqb (length other) 21 o, eq-eqb (length (drop 5 sheet)) 16 room) (ap (λ (x : List ℕ). (0, x)) (parts 1 sheet (omega (arith, l)) h v (lit≤ tt))))

  write_second : (d : ℕ) → version sheet ≡ 2 → length sheet ≡ 22 → length other ≡ 22 → d ≡ at sheet 21 → T (leb 4 d && leb d 15)
      → write_sheet_of (masks_of sheet) d other ≡ (0, sheet)
  unfolding masks_of sheet_of headed
  write_second d v l o last t =
      let room : length (drop 5 sheet) ≡ 17 = simp length-drop (omega (arith, l)) in
      let masks_are : length (take 16 (drop 5 sheet)) ≡ 16 = length-take-le 16 (drop 5 sheet) (omega (arith, room)) in
      let high = and_yes (leb 4 d) (leb d 15) t in
      let four : 4 ≤ d = leb→le 4 d high.0 in
      let whole : take 16 (drop 5 sheet) ++ (d ∷ []) ≡ drop 5 sheet =
      ap (λ (x : ℕ). take 16 (drop 5 sheet) ++ (x ∷ [])) (last ∙ sym (get_or-drop 5 sheet 16 0))
      ∙ sym (take-suc (drop 5 sheet) 16 0 (omega (arith, room))) ∙ take_all 17 (drop 5 sheet) (omega (arith, room)) in
      simp (ne_eqb d 1 (λ e. omega (arith, four, e)), is_true (leb 4 d) high.0, is_true (leb d 15) high.1, eq-eqb (length other) 22 o, eq-eqb (length (take 16 (drop 5 sheet))) 16 masks_are)
      (ap (λ (x : List ℕ). (0, headed 2 x)) whole ∙ ap (λ (x : List ℕ). (0, x)) (parts 2 sheet (omega (arith, l)) h v (lit≤ tt)))

-- Reading a sheet that the reader takes, and writing its masks and its step, gives the sheet.
pub write_read : (sheet masks other : List ℕ) → (read_sheet_of sheet masks).0 ≡ 0 → length other ≡ length sheet
    → write_sheet_of (read_sheet_of sheet masks).1.1 (read_sheet_of sheet masks).1.0 other ≡ (0, sheet)
unfolding AllHold telling
write_read sheet masks other e o =
    let r = done_holds (0, masks) (step_of sheet, masks_of sheet) (read_checks sheet masks) tt e in
    let held = r.0 in
    let size : length sheet ≡ cond (eqb (version sheet) 1) 21 22 = eqb→eq (length sheet) _ held.1.1.1.0 in
    let again : ℕ → ℕ × List ℕ = λ d. write_sheet_of (masks_of sheet) d other in
    rw r.1
    (elim (ℕ_discrete (version sheet) 1) [
      | yes v ↦
          let one : eqb (version sheet) 1 ≡ true = eq-eqb (version sheet) 1 v in
          let l : length sheet ≡ 21 = rw one at size in
          ap again (ap (λ (b : Bool). cond b 1 (at sheet 21)) one) ∙ write_first sheet other held.1.0 v l (o ∙ l)
      | no v ↦
          let two : eqb (version sheet) 1 ≡ false = ne_eqb (version sheet) 1 v in
          let l : length sheet ≡ 22 = rw two at size in
          let step : step_of sheet ≡ at sheet 21 = ap (λ (b : Bool). cond b 1 (at sheet 21)) two in
          write_second sheet other held.1.0 (step_of sheet) (eqb→eq (version sheet) 2 (or_else _ _ two held.1.1.0)) l (o ∙ l) step
          (or_else _ _ two held.1.1.1.1.0)
    ])
