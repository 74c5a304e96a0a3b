-- A reply number tells the outcome: no two outcomes of a call have the same one.
-- Assumes nothing.
use mathlib.Core.Path.{◌≡◌, refl, sym, ap, subst, ◌∙◌}
use mathlib.Core.Bool.{Bool, true, false, not}
use lib.Dec.{T}
use mathlib.Core.List.{List, [], ◌∷◌, ◌++◌}
use Prim.Native.Nat.{ℕ, zero, suc, ◌<◌}
use native.Mathlib.Omega.{arith}
use Rattle.std.specs.Prelude.{Option, Some, None, Result, Ok, Err, unwrap_or, IfSome, get_or}
use Rattle.aes.specs.declared.reply.Refusal.{Refusal}
use Rattle.aes.specs.declared.reply.Refusal.TheVariants.{KeyLength, ScheduleLength, InputLength, OutputLength, MasksLength, OffsetRange, FormUnknown, RecordLength, NoLogarithm, PowerRange, SheetLength, MarkWrong, VersionUnknown, OffsetsLength, StepWrong, KeyDataLength, WrappedLength, Integrity, PacketLength, SyncLost, FieldWrong, PipesWrong, BitsWrong, OffsetPerByte, PartyFull, BankFull, NotLoaded, PartyUnknown}
use Rattle.aes.specs.Reply.{Check, answer, refusal as refusal_of}
use Rattle.aes.proofs.Replies.{refused}
use Rattle.aes.specs.Refusal.{number, reply, value}

-- each refusal at its number; none has 0
abbrev refusals : List Refusal
refusals =
    KeyLength ∷ KeyLength ∷ ScheduleLength ∷ InputLength ∷ OutputLength ∷ MasksLength ∷ OffsetRange ∷ FormUnknown ∷ RecordLength ∷ NoLogarithm ∷ PowerRange
    ∷ SheetLength ∷ MarkWrong ∷ VersionUnknown ∷ OffsetsLength ∷ StepWrong ∷ KeyDataLength ∷ WrappedLength ∷ Integrity ∷ PacketLength ∷ SyncLost
    ∷ FieldWrong ∷ PipesWrong ∷ BitsWrong ∷ OffsetPerByte ∷ PartyFull ∷ BankFull ∷ NotLoaded ∷ PartyUnknown ∷ []

-- the outcome of a reply number, with the value of a call that is done
abbrev outcome : {A : Type 0} → ℕ → A → Result A Refusal
outcome zero done = Ok done
outcome (suc n) done = Err (get_or refusals (suc n) KeyLength)

outcome_told : {A : Type 0} (x : Result A Refusal) (done : A) → ((a : A) → x ≡ Ok a → a ≡ done) → x ≡ outcome (reply x) done
outcome_told (Ok a) done h = ap Ok (h a refl)
outcome_told (Err KeyLength) done h = refl
outcome_told (Err ScheduleLength) done h = refl
outcome_told (Err InputLength) done h = refl
outcome_told (Err OutputLength) done h = refl
outcome_told (Err MasksLength) done h = refl
outcome_told (Err OffsetRange) done h = refl
outcome_told (Err FormUnknown) done h = refl
outcome_told (Err RecordLength) done h = refl
outcome_told (Err NoLogarithm) done h = refl
outcome_told (Err PowerRange) done h = refl
outcome_told (Err SheetLength) done h = refl
outcome_told (Err MarkWrong) done h = refl
outcome_told (Err VersionUnknown) done h = refl
outcome_told (Err OffsetsLength) done h = refl
outcome_told (Err StepWrong) done h = refl
outcome_told (Err KeyDataLength) done h = refl
outcome_told (Err WrappedLength) done h = refl
outcome_told (Err Integrity) done h = refl
outcome_told (Err PacketLength) done h = refl
outcome_told (Err SyncLost) done h = refl
outcome_told (Err FieldWrong) done h = refl
outcome_told (Err PipesWrong) done h = refl
outcome_told (Err BitsWrong) done h = refl
outcome_told (Err OffsetPerByte) done h = refl
outcome_told (Err PartyFull) done h = refl
outcome_told (Err BankFull) done h = refl
outcome_told (Err NotLoaded) done h = refl
outcome_told (Err PartyUnknown) done h = refl

abbrev done : {A : Type 0} → Result A Refusal → Bool
done (Ok a) = true
done (Err refusal) = false

-- no refusal has the number of a call that is done
pub refusal_tells : (refusal : Refusal) → number refusal ≡ 0 → ⊥
refusal_tells refusal none =
    let e : ◌≡◌ {A = Result Unit Refusal} (Err refusal) (Ok tt) = outcome_told (Err refusal) tt (λ u h. refl) ∙ ap (λ (n : ℕ). outcome n tt) none in
    subst (λ (x : Result Unit Refusal). T (not (done x))) e tt

-- a call hands on the refusal of checks that are told together
pub refused_by : {A : Type 0} (before done : A) (more cs : List Check) (refusal : Refusal) {r : ℕ} → r ≡ number refusal → number refusal ≡ refusal_of cs
    → (r, before) ≡ answer (cs ++ more) before done
refused_by before done more cs refusal gave told = ap (λ (n : ℕ). (n, before)) gave ∙ refused before done more cs told (refusal_tells refusal)

-- of calls that are done or refused
pub told : {B : Type 0} (x y : Result Unit Refusal) (a b : B) (z : ℕ × B) → ◌≡◌ {A = ℕ × B} (reply x, a) z → ◌≡◌ {A = ℕ × B} (reply y, b) z → (x ≡ y) × (a ≡ b)
told {B} x y a b z p q =
    let e : ◌≡◌ {A = ℕ × B} (reply x, a) (reply y, b) = p ∙ sym q in
    (outcome_told x tt (λ u h. refl) ∙ ap (λ (n : ℕ). outcome n tt) (λ i. (e i).0) ∙ sym (outcome_told y tt (λ u h. refl)), λ i. (e i).1)

-- of calls that give a value, which shows beside the reply
valued : (x : Result ℕ Refusal) (a : ℕ) → x ≡ Ok a → a ≡ value x
valued x a h = sym (ap value h)

pub told_value : (x y : Result ℕ Refusal) (z : ℕ × ℕ) → ◌≡◌ {A = ℕ × ℕ} (reply x, value x) z → ◌≡◌ {A = ℕ × ℕ} (reply y, value y) z → x ≡ y
told_value x y z p q =
    let e : ◌≡◌ {A = ℕ × ℕ} (reply x, value x) (reply y, value y) = p ∙ sym q in
    outcome_told x (value x) (valued x) ∙ (λ i. outcome (e i).0 (e i).1) ∙ sym (outcome_told y (value y) (valued y))

-- and that write a lent buffer beside it
pub told_value_beside : {B : Type 0} (x y : Result ℕ Refusal) (a b : B) (z : ℕ × (ℕ × B))
    → ◌≡◌ {A = ℕ × (ℕ × B)} (reply x, (value x, a)) z → ◌≡◌ {A = ℕ × (ℕ × B)} (reply y, (value y, b)) z → (x ≡ y) × (a ≡ b)
told_value_beside {B} x y a b z p q =
    let e : ◌≡◌ {A = ℕ × (ℕ × B)} (reply x, (value x, a)) (reply y, (value y, b)) = p ∙ sym q in
    (told_value x y _ (λ i. ((e i).0, (e i).1.0)) refl, λ i. (e i).1.1)

-- the rounds of a schedule, of which none has 0
pub told_rounds : (x y : Option ℕ) → unwrap_or x 0 ≡ unwrap_or y 0 → IfSome x (λ n. (0 < n) × (n < 15)) → IfSome y (λ n. (0 < n) × (n < 15)) → x ≡ y
told_rounds None None e p q = refl
told_rounds (Some n) (Some m) e p q = ap Some e
told_rounds None (Some m) e p q = absurd (omega (arith, e, q.0))
told_rounds (Some n) None e p q = absurd (omega (arith, e, p.0))
