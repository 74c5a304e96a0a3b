-- A packet with other bits and other whole blocks: as the code lays it, and as it is defined.
-- Assumes nothing.
use mathlib.Core.Path.{◌≡◌, refl, ap, sym, ◌∙◌}
use mathlib.Core.Bool.{Bool, true, false, cond}
use mathlib.Core.List.{List, [], ◌∷◌, ◌++◌, append_assoc}
use Prim.Native.Nat.{ℕ, zero, suc, ◌+◌, ◌-◌, ◌*◌, ◌/◌, ◌%◌, ◌≤◌, ◌<◌}
use native.Mathlib.Omega.{arith}
use lib.Dec.{eqb, lit≤}
use lib.ListN.{length, set, take, drop}
use lib.Seq.{drop-drop}
use Rattle.aes.specs.State.{at}
use Rattle.aes.proofs.Part.{back}
use Rattle.cbc.specs.Cbc.{cbc}
use Rattle.packet.specs.Packet.{adaptation, start, blocks, payload, with_payload, with_bits, schedule_at, starting_block, changed}

-- byte 3 is set
pub set_bits : (bits : ℕ) (p : List ℕ) → 4 ≤ length p → set p 3 (bits * 64 + at p 3 % 64) ≡ with_bits bits p
unfolding with_bits
set_bits bits [] h = absurd (omega arith)
set_bits bits (a ∷ []) h = absurd (omega arith)
set_bits bits (a ∷ b ∷ []) h = absurd (omega arith)
set_bits bits (a ∷ b ∷ c ∷ []) h = absurd (omega arith)
set_bits bits (a ∷ b ∷ c ∷ d ∷ p) h = refl

-- a part behind byte 3 comes back
laid : (bits s m : ℕ) (body p : List ℕ) → 4 ≤ s → 4 ≤ length p → back (with_bits bits p) s m body ≡ with_bits bits (take s p ++ body ++ drop (s + m) p)
unfolding with_bits
laid bits zero m body p hs h = absurd (omega arith)
laid bits (suc zero) m body p hs h = absurd (omega arith)
laid bits (suc (suc zero)) m body p hs h = absurd (omega arith)
laid bits (suc (suc (suc zero))) m body p hs h = absurd (omega arith)
laid bits (suc (suc (suc (suc s)))) m body [] hs h = absurd (omega arith)
laid bits (suc (suc (suc (suc s)))) m body (a ∷ []) hs h = absurd (omega arith)
laid bits (suc (suc (suc (suc s)))) m body (a ∷ b ∷ []) hs h = absurd (omega arith)
laid bits (suc (suc (suc (suc s)))) m body (a ∷ b ∷ c ∷ []) hs h = absurd (omega arith)
laid bits (suc (suc (suc (suc s)))) m body (a ∷ b ∷ c ∷ d ∷ p) hs h =
    ap (λ (z : List ℕ). a ∷ b ∷ c ∷ (bits * 64 + d % 64) ∷ z)
    (sym (append_assoc (take s p) body (drop m (drop s p))) ∙ ap (λ (z : List ℕ). take s p ++ body ++ z) (drop-drop m (suc (suc (suc (suc s)))) (a ∷ b ∷ c ∷ d ∷ p)))

-- the payload starts behind the header
pub low : (p : List ℕ) → 4 ≤ start p
unfolding start
low p = by_case (eqb (adaptation p) 1)
  where
    by_case : (b : Bool) → 4 ≤ cond b 4 (5 + at p 4)
    by_case true = lit≤ tt
    by_case false = omega arith

-- where the schedules lie
pub inside : (k : ℕ) (odd : Bool) → k < 7 → 498 * k + cond odd 242 2 + 240 ≤ 3486
inside k true lt = omega (arith, lt)
inside k false lt = omega (arith, lt)

pub changed_laid : (way : Bool) (bits : ℕ) (odd : Bool) (pipes : List ℕ) (k : ℕ) (p : List ℕ) {s : ℕ} {w c m body : List ℕ}
    → 4 ≤ length p → s ≡ start p → w ≡ schedule_at pipes k odd → c ≡ starting_block pipes k → m ≡ with_bits bits p
    → body ≡ cbc way w c (take (s + 16 * ((188 - s) / 16) - s) (drop s p))
    → back m s (s + 16 * ((188 - s) / 16) - s) body ≡ changed way bits odd pipes k p
unfolding changed with_payload
changed_laid way bits odd pipes k p {s} {w} {c} {m} {body} four es ew ec em eb =
    let whole : s + 16 * ((188 - s) / 16) - s ≡ 16 * ((188 - s) / 16) = omega arith in
    let made : body ≡ cbc way (schedule_at pipes k odd) (starting_block pipes k) (payload p) =
    eb ∙ ap (λ (y : ℕ). cbc way w c (take y (drop s p))) whole ∙ (λ i. cbc way (ew i) (ec i) (take (16 * ((188 - es i) / 16)) (drop (es i) p))) in
    ap (λ (x : ℕ). back m s x body) whole ∙ (λ i. back (em i) (es i) (16 * ((188 - es i) / 16)) (made i))
    ∙ laid bits (start p) (16 * blocks p) (cbc way (schedule_at pipes k odd) (starting_block pipes k) (payload p)) p (low p) four
