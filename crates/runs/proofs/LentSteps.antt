-- The steps over stored boxes and constants are those of the masked run, and how a run of them goes on.
-- Assumes nothing.
use mathlib.Core.Path.{◌≡◌, refl, sym, ap, subst, ◌∙◌}
use mathlib.Core.Bool.{Bool, true, false, cond}
use mathlib.Core.List.{List, [], ◌∷◌, ◌++◌, append_assoc}
use Prim.Native.Nat.{ℕ, zero, suc, ◌+◌, ◌-◌, ◌*◌, ◌/◌, ◌%◌, ◌<◌}
use native.Mathlib.Omega.{arith}
use lib.Dec.{T, eqb, eqb→eq}
use lib.ListN.{length, get_or}
use borrow.Author.Tests.{eq-eqb, ne_eqb}
use Rattle.aes.specs.Byte.{◌⊕◌}
use Rattle.aes.specs.Box.{s_box}
use Rattle.aes.specs.State.{at, shift_rows, mix_columns, add_round_key, Bytes}
use Rattle.aes.specs.Record.{Point, block, keyed, boxed, shifted, mixed, compensated, closed, uncovered, whole, final, wholes, five, points, run, last}
use Rattle.aes.proofs.Xor.{xor_byte}
use Rattle.aes.proofs.Boxes.{s_box_byte}
use Rattle.aes.proofs.Undo.{state-bytes, add_bytes, key_bytes, shift_bytes, mix_bytes}
use Rattle.aes.proofs.Part.{back}
use Rattle.aes.proofs.Written.{Sized, Written, turns, recorded_one, written_turn, rounds_all, run-append, last-append}
use Rattle.masks.specs.Mask.{◌⊞◌, label, advanced, mask, masked_box, masked_boxes, compensation, constants}
use Rattle.runs.specs.Run.{covered, masked_record}
use Rattle.masks.specs.Order.{boxed_by}
use Rattle.runs.specs.Lent.{steps, point_after}
use Rattle.runs.proofs.Agreeing.{all_due, both, due_append, run_is}
use Rattle.masks.proofs.Counted.{mask_first, mask_turn, boxes_turn}
use Rattle.masks.proofs.Stored.{boxed_is, compensation_sized, constant-at}

pub steps_sized : (w b c p : List ℕ) (o d : ℕ) (end : List ℕ) → Sized (steps w b c p o d end)
unfolding steps add_round_key boxed_by shift_rows mix_columns
steps_sized w b c p o d end block s l = l
steps_sized w b c p o d end (keyed r) s l = refl
steps_sized w b c p o d end (boxed r) s l = refl
steps_sized w b c p o d end (shifted r) s l = refl
steps_sized w b c p o d end (mixed r) s l = refl
steps_sized w b c p o d end (compensated r) s l = refl
steps_sized w b c p o d end (closed r) s l = refl
steps_sized w b c p o d end (uncovered r) s l = refl

-- where a run goes on from
pub reached_more : {P : Type 0} (f : P → List ℕ → List ℕ) (ps qs : List P) (s t u : List ℕ)
    → t ≡ last s (run f s ps) → u ≡ last t (run f t qs) → u ≡ last s (run f s (ps ++ qs))
reached_more f ps qs s t u p q =
    q ∙ ap (λ (v : List ℕ). last v (run f v qs)) p
    ∙ sym (ap (last s) (run-append f ps qs s) ∙ last-append s (run f s ps) (run f (last s (run f s ps)) qs))

-- behind a point the last state is of the run, whatever was there before it
pub last_any : {P : Type 0} (f : P → List ℕ → List ℕ) (s t u : List ℕ) (p : P) (ps : List P) → last s (run f u (p ∷ ps)) ≡ last t (run f u (p ∷ ps))
unfolding run last
last_any f s t u p ps = refl

-- the points behind the covered block of n rounds, one a turn
abbrev pub after : ℕ → ℕ → List Point
after n m = point_after n m ∷ []

-- which points these are, by the remainder of their number
pub after-at : (n m k : ℕ) → m % 5 ≡ k → point_after n m ≡ get_or (five n (m / 5)) k block
unfolding point_after
after-at n m k e = ap (λ (j : ℕ). get_or (five n (m / 5)) j block) e

pub not_last : (n r : ℕ) (p q : Point) → (suc r ≡ n → ⊥) → cond (eqb (suc r) n) p q ≡ q
not_last n r p q h = ap (λ (b : Bool). cond b p q) (ne_eqb (suc r) n h)

-- point j of round r
point_at : (n r j m : ℕ) → j < 5 → m ≡ 5 * r + j → point_after n m ≡ get_or (five n r) j block
unfolding point_after
point_at n r j m h e =
    let q : m / 5 ≡ r = omega (arith, h, e) in
    let k : m % 5 ≡ j = omega (arith, h, e) in
    rw (q, k)

five_more : (ps : ℕ → List Point) (m : ℕ)
    → turns ps (suc (suc (suc (suc (suc m))))) ≡ turns ps m ++ (ps m ++ (ps (suc m) ++ (ps (suc (suc m)) ++ (ps (suc (suc (suc m))) ++ ps (suc (suc (suc (suc m))))))))
five_more ps m = simp append_assoc

by_rounds : (n r : ℕ) → turns (after n) (5 * r) ≡ turns (five n) r
by_rounds n zero = refl
by_rounds n (suc r) =
    let x : ℕ = 5 * r in
    let e : 5 * suc r ≡ suc (suc (suc (suc (suc x)))) = omega arith in
    ap (turns (after n)) e ∙ five_more (after n) x
    ∙ λ i. by_rounds n r i ++ (point_at n r 0 x (omega arith) (omega arith) i ∷ point_at n r 1 (suc x) (omega arith) (omega arith) i ∷ point_at n r 2 (suc (suc x)) (omega arith) (omega arith) i
    ∷ point_at n r 3 (suc (suc (suc x))) (omega arith) (omega arith) i ∷ point_at n r 4 (suc (suc (suc (suc x)))) (omega arith) (omega arith) i ∷ [])

pub after_all : (n : ℕ) → 0 < n → block ∷ turns (after n) (5 * n) ≡ points n
after_all n pos = ap (λ (ps : List Point). block ∷ ps) (by_rounds n n) ∙ rounds_all n pos

-- what uncovers is the last step
pub uncovering-last : (n : ℕ) → 0 < n → (w b c p : List ℕ) (o d : ℕ) (end s : List ℕ) → s ⊞ end ≡ steps w b c p o d end (point_after n (5 * n - 1)) s
unfolding steps
uncovering-last n pos w b c p o d end s =
    let r : ℕ = n - 1 in
    let e : suc r ≡ n = omega (arith, pos) in
    rw (point_at n r 4 (5 * n - 1) (omega arith) (omega (arith, pos)) ∙ ap (λ (q : Bool). cond q (uncovered r) (compensated r)) (eq-eqb (suc r) n e)) refl

-- one state more, in the sixteen bytes behind those that are written
pub after-written : {f : Point → List ℕ → List ℕ} → Sized f → {s t t' xs ys : List ℕ} → length s ≡ 16 → (n m : ℕ) → m < 5 * n
    → Written f s (80 * n + 16) (block ∷ turns (after n) m) t xs → t' ≡ f (point_after n m) t → ys ≡ t'
    → Written f s (80 * n + 16) (block ∷ turns (after n) (m + 1)) t' (back xs (16 * m + 16) (16 * m + 16 + 16 - (16 * m + 16)) ys)
after-written size l n m lt w et ey = written_turn size l block (after n) 16 (λ i. refl) m (omega (arith, lt)) w (recorded_one et ey)

module _ {M w : List ℕ} {size : ℕ} (hM : Bytes 16 M) (hw : Bytes size w) (p : List ℕ) (o d n : ℕ) where
  -- the record of a run that begins o labels on from the offsets p
  abbrev v : List ℕ
  v = advanced p o

  mask-bytes : (k : ℕ) → Bytes 16 (mask M v k)
  unfolding mask
  mask-bytes k = state-bytes (λ i. at M (label v k i)) (λ i. hM.byte _)

  box_byte : (j x : ℕ) → x < 256 → masked_box s_box M d j x < 256
  unfolding masked_box
  box_byte j x h =
      xor_byte (s_box (x ⊕ at M (j % 16))) (at M ((j + d) % 16)) (s_box_byte (x ⊕ at M (j % 16)) (xor_byte x (at M (j % 16)) h (hM.byte (j % 16)))) (hM.byte ((j + d) % 16))

  compensation-bytes : (k : ℕ) → Bytes 16 (compensation (mask M v k))
  unfolding compensation
  compensation-bytes k = add_bytes (mask-bytes k) (mix_bytes (shift_rows (mask M v k)))

  covered-bytes : (q : Point) {s : List ℕ} → Bytes 16 s → Bytes 16 (covered M v d w q s)
  unfolding covered
  covered-bytes block h = add_bytes h (mask-bytes 0)
  covered-bytes (keyed r) h = add_bytes h (key_bytes size w hw r)
  covered-bytes (boxed r) {s} h =
      state-bytes (λ i. masked_box s_box M d (label v (d * r) i) (at s i)) (λ i. box_byte (label v (d * r) i) (at s i) (h.byte i))
  covered-bytes (shifted r) h = shift_bytes h
  covered-bytes (mixed r) {s} h = mix_bytes s
  covered-bytes (compensated r) h = add_bytes h (compensation-bytes (d * suc r))
  covered-bytes (closed r) h = add_bytes h (key_bytes size w hw (suc r))
  covered-bytes (uncovered r) h = add_bytes h (shift_bytes (mask-bytes (d * suc r)))

  -- the steps as a run of n rounds has them
  abbrev lent : Point → List ℕ → List ℕ
  lent = steps w (masked_boxes s_box M d) (constants compensation M p) p o d (shift_rows (mask M p ((o + d * n) % 16)))

  -- behind the covered block, and uncovered after the last round alone
  due : Point → Bool
  due block = false
  due (keyed r) = true
  due (boxed r) = true
  due (shifted r) = true
  due (mixed r) = true
  due (compensated r) = true
  due (closed r) = true
  due (uncovered r) = eqb (suc r) n

  lent_is : (q : Point) → T (due q) → (s : List ℕ) → Bytes 16 s → lent q s ≡ covered M v d w q s
  unfolding due steps covered
  lent_is block t s h = elim t [ ]
  lent_is (keyed r) t s h = refl
  lent_is (boxed r) t s h = ap (λ (l : List ℕ). boxed_by (masked_boxes s_box M d) l s) (boxes_turn p o (d * r)) ∙ boxed_is s_box M v d (d * r) s h.byte
  lent_is (shifted r) t s h = refl
  lent_is (mixed r) t s h = refl
  lent_is (compensated r) t s h =
      ap (λ (k : List ℕ). s ⊞ k) (constant-at compensation compensation_sized M p ((o + d * suc r) % 16) (omega arith) ∙ ap compensation (mask_turn M p o (d * suc r)))
  lent_is (closed r) t s h = refl
  lent_is (uncovered r) t s h =
      ap (λ (m : List ℕ). s ⊞ shift_rows m) (mask_turn M p o (d * n) ∙ ap (λ (k : ℕ). mask M v (d * k)) (sym (eqb→eq (suc r) n t)))

  wholes_due : (k : ℕ) → T (all_due due (wholes k))
  unfolding wholes all_due due
  wholes_due zero = tt
  wholes_due (suc k) = due_append due (wholes k) (whole k) (wholes_due k) tt

  final_due : (k : ℕ) → suc k ≡ n → T (all_due due (final k))
  unfolding all_due due
  final_due k e = both (eqb (suc k) n) true (subst T (sym (eq-eqb (suc k) n e)) tt) tt

  -- the points behind the covered block
  abbrev behind : List Point
  behind = wholes (n - 1) ++ final (n - 1)

  behind_due : 0 < n → T (all_due due behind)
  behind_due pos = due_append due (wholes (n - 1)) (final (n - 1)) (wholes_due (n - 1)) (final_due (n - 1) (omega (arith, pos)))

  -- what a run of the steps records, where it is lent the right tables and starts from the covered block
  pub lent_record : {input : List ℕ} → Bytes 16 input → 0 < n → (s b c end : List ℕ) → s ≡ input ⊞ mask M p o → b ≡ masked_boxes s_box M d
      → c ≡ constants compensation M p → end ≡ shift_rows (mask M p ((o + d * n) % 16))
      → run (steps w b c p o d end) s (points n) ≡ masked_record n M v d w input
  unfolding masked_record points run steps covered
  lent_record {input} h pos s b c end es eb ec ee =
      let start : s ≡ input ⊞ mask M v 0 = es ∙ ap (λ (m : List ℕ). input ⊞ m) (mask_first M p o) in
      (λ i. run (steps w (eb i) (ec i) p o d (ee i)) (start i) (points n))
      ∙ ap (λ (u : List (List ℕ)). (input ⊞ mask M v 0) ∷ u)
      (run_is lent (covered M v d w) due lent_is (λ q s h. covered-bytes q h) behind (behind_due pos) (input ⊞ mask M v 0) (add_bytes h (mask-bytes 0)))
