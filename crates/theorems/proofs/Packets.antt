-- Packets at the calls: descrambling restores what scrambling accepted, and an unlisted PID is copied.
-- Assumes nothing.
use mathlib.Core.Path.{◌≡◌, refl, sym, ap, ap₂, subst, ◌∙◌}
use mathlib.Core.Bool.{Bool, true, false, cond, not, ◌&&◌, ◌||◌}
use mathlib.Core.List.{List, [], ◌∷◌, ◌++◌}
use Prim.Native.Nat.{ℕ, ◌-◌, ◌≤◌, ◌<◌}
use native.Mathlib.Omega.{arith}
use borrow.Author.Tests.{eq-eqb, le-leb}
use lib.Dec.{T, eqb, leb, eqb→eq, leb→le, nleb→lt, lit≤}
use lib.ListN.{length}
use Rattle.aes.specs.Byte.{place, table}
use Rattle.aes.specs.State.{at}
use Rattle.aes.specs.Reply.{Check, ◌else◌, answer}
use Rattle.aes.proofs.Replies.{AllHold, telling, done_holds, is_true}
use Rattle.packet.specs.Packet.{pid, scrambling, field_right, start, long, parity, pid_at, pipe_of, is_listed, scrambled, descrambled}
use Rattle.packet.specs.Calls.{first_checks, later_checks, written, answered_of, call_of, scramble_of, descramble_of}
use Rattle.packet.proofs.Checked.{held_sizes}
use Rattle.packet.proofs.Splice.{low}
use Rattle.packet.proofs.Outcome.{unlisted, clear, opened}
use Rattle.theorems.proofs.Restored.{sent, sent_size, sent_bits, before-start, sent_pid, sent_start, sent_field, sent_is, restored}

-- past checks that hold, those behind them decide
past : {A : Type 0} (before done : A) (cs more : List Check) → AllHold cs → answer (cs ++ more) before done ≡ answer more before done
unfolding AllHold
past before done [] more h = refl
past before done ((true else n) ∷ cs) more h = past before done cs more h.1
past before done ((false else n) ∷ cs) more h = absurd h.0

-- so 21 and 23, once 19, 20 and 22 have passed
past_first : (back : Bool) (p out pipes : List ℕ) (odd : Bool) → AllHold (first_checks p out pipes) → call_of back p out pipes odd ≡ answered_of back p out pipes odd
past_first back p out pipes odd h = past out (written back pipes odd p) (first_checks p out pipes) (later_checks back pipes p) h

-- an unlisted PID is copied then, whatever else the packet holds
module _ (p out pipes : List ℕ) (h : AllHold (first_checks p out pipes)) (un : is_listed pipes p ≡ false) where
  copied : (back odd : Bool) → call_of back p out pipes odd ≡ (0, p)
  copied back odd = past_first back p out pipes odd h ∙ sym (unlisted p out pipes odd refl back (nleb→lt (pipe_of pipes p) 6 (subst (λ (b : Bool). T (not b)) (sym un) tt)))

  pub unlisted_scrambled : (odd : Bool) → scramble_of p out pipes odd ≡ (0, p)
  unlisted_scrambled odd = copied false odd

  pub unlisted_descrambled : descramble_of p out pipes ≡ (0, p)
  unlisted_descrambled = copied true false

-- the first checks, of another packet of the same length and sync
other_first : (p q out out' pipes : List ℕ) → AllHold (first_checks p out pipes) → length q ≡ 188 → length out' ≡ 188 → at q 0 ≡ at p 0 → AllHold (first_checks q out' pipes)
unfolding AllHold
other_first p q out out' pipes h lq lo sync =
    (subst T (sym (ap₂ ◌&&◌ (eq-eqb (length q) 188 lq) (eq-eqb (length out') 188 lo))) tt, (subst (λ (x : ℕ). T (eqb x 0x47)) (sym sync) h.1.0, (h.1.1.0, tt)))

-- Descrambling restores every packet that scrambling accepted.
module _ (p pipes : List ℕ) (hp : (i : ℕ) → at p i < 256) (hl : (i : ℕ) → at pipes i < 256) (out out' : List ℕ) (room : length out' ≡ 188) (odd : Bool) where
  pipe_same : (q : List ℕ) → pid q ≡ pid p → pipe_of pipes q ≡ pipe_of pipes p
  unfolding pipe_of
  pipe_same q e = ap (λ (x : ℕ). place x (table (pid_at pipes) 7)) e

  parity_two : (o : Bool) → 2 ≤ parity o
  parity_two true = lit≤ tt
  parity_two false = lit≤ tt

  abbrev sent_of : List ℕ
  sent_of = cond (is_listed pipes p && long p) (scrambled pipes (pipe_of pipes p) odd p) p

  module _ (h : AllHold (first_checks p out pipes)) (f : T (not (is_listed pipes p) || field_right p)) (c : T (not (is_listed pipes p) || eqb (scrambling p) 0)) where
    again : AllHold (first_checks p out' pipes)
    again = other_first p p out out' pipes h (held_sizes p out pipes h).packet room refl

    seven : is_listed pipes p ≡ true → pipe_of pipes p < 7
    seven li = let m : pipe_of pipes p ≤ 6 = leb→le (pipe_of pipes p) 6 (subst T (sym li) tt) in omega (arith, m)

    by_length : is_listed pipes p ≡ true → field_right p ≡ true → scrambling p ≡ 0 → (g : Bool) → long p ≡ g → descramble_of sent_of out' pipes ≡ (0, p)
    by_length li fi z false e = let s : sent_of ≡ p = rw (li, e) in ap (λ (x : List ℕ). descramble_of x out' pipes) s ∙ past_first true p out' pipes false again ∙ sym (clear p out' pipes false refl (seven li) fi refl z)
    by_length li fi z true e =
        let k : ℕ = pipe_of pipes p in
        let near : start p ≤ 172 = let m : 16 ≤ 188 - start p = leb→le 16 (188 - start p) (subst T (sym e) tt) in omega (arith, m) in
        let lp : length p ≡ 188 = (held_sizes p out pipes h).packet in
        let ll : length pipes ≡ 3486 = (held_sizes p out pipes h).list in
        let q : List ℕ = sent pipes p k odd lp hp ll hl (seven li) z near in
        let same : pipe_of pipes q ≡ k = pipe_same q (sent_pid pipes p k odd lp hp ll hl (seven li) z near) in
        let bits : scrambling q ≡ parity odd = sent_bits pipes p k odd lp hp ll hl (seven li) z near in
        let two : 2 ≤ scrambling q = rw bits (parity_two odd) in
        let n0 : scrambling q ≡ 0 → ⊥ = λ x. absurd (omega (arith, two, x)) in
        let lt : pipe_of pipes q < 7 = rw same (seven li) in
        let fi' : field_right q ≡ true = sent_field pipes p k odd lp hp ll hl (seven li) z near ∙ fi in
        let g' : long q ≡ true = ap (λ (x : ℕ). leb 16 (188 - x)) (sent_start pipes p k odd lp hp ll hl (seven li) z near) ∙ e in
        let first : AllHold (first_checks q out' pipes) =
        other_first p q out out' pipes h (sent_size pipes p k odd lp hp ll hl (seven li) z near) room (before-start pipes p k odd lp hp ll hl (seven li) z near 0 (omega (arith, low p)) (λ x. absurd (omega (arith, x)))) in
        let s : sent_of ≡ q = rw (li, e) (sent_is pipes p k odd lp hp ll hl (seven li) z near) in
        ap (λ (x : List ℕ). descramble_of x out' pipes) s ∙ past_first true q out' pipes false first
        ∙ sym (opened q out' pipes false refl lt fi' refl refl n0 (ap₂ ◌&&◌ (le-leb 2 (scrambling q) two) g') refl) ∙ ap (λ (x : List ℕ). (0, x)) (ap (λ (j : ℕ). descrambled pipes j q) same ∙ ap (descrambled pipes k) (sym (sent_is pipes p k odd lp hp ll hl (seven li) z near)) ∙ restored pipes p k odd lp hp ll hl (seven li) z near)

    by_list : (x : Bool) → is_listed pipes p ≡ x → descramble_of sent_of out' pipes ≡ (0, p)
    by_list false e = let s : sent_of ≡ p = rw e in ap (λ (x : List ℕ). descramble_of x out' pipes) s ∙ unlisted_descrambled p out' pipes again e
    by_list true e =
        by_length e (is_true (field_right p) (subst (λ (x : Bool). T (not x || field_right p)) e f)) (eqb→eq (scrambling p) 0 (subst (λ (x : Bool). T (not x || eqb (scrambling p) 0)) e c)) (long p) refl

  pub restored_call : (scramble_of p out pipes odd).0 ≡ 0 → descramble_of (scramble_of p out pipes odd).1 out' pipes ≡ (0, p)
  unfolding AllHold telling
  restored_call done =
      let d = done_holds out sent_of (first_checks p out pipes ++ later_checks false pipes p) tt done in
      ap (λ (x : List ℕ). descramble_of x out' pipes) d.1 ∙ by_list (d.0.0, (d.0.1.0, (d.0.1.1.0, tt))) d.0.1.1.1.0 d.0.1.1.1.1.0 (is_listed pipes p) refl
