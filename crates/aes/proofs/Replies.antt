-- What a reply tells, for any list of checks and any work past them: a refusal is given only for its cause and changes nothing,
-- and 0 where every check holds, and only there.
-- Assumes nothing.
use mathlib.Core.Path.{◌≡◌, refl, sym, ap, subst, ◌∙◌}
use mathlib.Core.Bool.{Bool, true, false, not, ◌&&◌}
use mathlib.Core.List.{List, [], ◌∷◌, ◌++◌}
use Prim.Native.Nat.{ℕ}
use lib.Dec.{T, eqb}
use mir.Facts.{and_yes}
use Rattle.aes.specs.Reply.{Check, ◌else◌, answer, refusal}

-- what holds is true
pub is_true : (b : Bool) → T b → b ≡ true
is_true true t = refl
is_true false t = absurd t

unfoldable pub AllHold : List Check → Type 0
AllHold [] = Unit
AllHold ((holds else reply) ∷ checks) = T holds × AllHold checks

-- no check of the list replies 0
unfoldable pub telling : List Check → Bool
telling [] = true
telling ((holds else reply) ∷ checks) = not (eqb reply 0) && telling checks

pub nonzero : (n : ℕ) → T (not (eqb n 0)) → n ≡ 0 → ⊥
nonzero n t e = subst (λ (k : ℕ). T (not (eqb k 0))) e t

-- the cause of reply n: a check that fails and has that number, where all before it hold
pub record Cause (n : ℕ) (checks : List Check) : Type 0 where
  pub earlier : List Check
  pub later : List Check
  pub order : checks ≡ earlier ++ (false else n) ∷ later
  pub held : AllHold earlier

passed_on : {n m : ℕ} {checks : List Check} → Cause n checks → Cause n ((true else m) ∷ checks)
unfolding AllHold
passed_on {n} {m} c =
    record { earlier = (true else m) ∷ c.earlier; later = c.later; order = ap (λ (cs : List Check). (true else m) ∷ cs) c.order; held = (tt, c.held) }

module _ {A : Type 0} (before done : A) where
  pub refusal_cause : (checks : List Check) → ((answer checks before done).0 ≡ 0 → ⊥)
      → Cause (answer checks before done).0 checks × ((answer checks before done).1 ≡ before)
  unfolding AllHold
  refusal_cause [] h = absurd (h refl)
  refusal_cause ((true else m) ∷ checks) h = let r = refusal_cause checks h in (passed_on r.0, r.1)
  refusal_cause ((false else m) ∷ checks) h = (record { earlier = []; later = checks; order = refl; held = tt }, refl)

  pub done_holds : (checks : List Check) → T (telling checks) → (answer checks before done).0 ≡ 0
      → AllHold checks × ((answer checks before done).1 ≡ done)
  unfolding AllHold telling
  done_holds [] t e = (tt, refl)
  done_holds ((true else m) ∷ checks) t e = let r = done_holds checks (and_yes (not (eqb m 0)) (telling checks) t).1 e in ((tt, r.0), r.1)
  done_holds ((false else m) ∷ checks) t e = absurd (nonzero m (and_yes (not (eqb m 0)) (telling checks) t).0 e)

  pub holds_done : (checks : List Check) → AllHold checks → answer checks before done ≡ (0, done)
  unfolding AllHold
  holds_done [] h = refl
  holds_done ((true else m) ∷ checks) h = holds_done checks h.1
  holds_done ((false else m) ∷ checks) h = absurd h.0

-- checks that are told together, by the number r, and what is checked after them
module _ {A : Type 0} (before done : A) (more : List Check) where
  fails : (cs : List Check) → (refusal cs ≡ 0 → ⊥) → (refusal cs, before) ≡ answer (cs ++ more) before done
  fails [] h = absurd (h refl)
  fails ((true else reply) ∷ cs) h = fails cs h
  fails ((false else reply) ∷ cs) h = refl

  pub refused : {r : ℕ} (cs : List Check) → r ≡ refusal cs → (r ≡ 0 → ⊥) → (r, before) ≡ answer (cs ++ more) before done
  refused cs told h = ap (λ (n : ℕ). (n, before)) told ∙ fails cs (λ e. h (told ∙ e))

  hold : (cs : List Check) → T (telling cs) → refusal cs ≡ 0 → answer more before done ≡ answer (cs ++ more) before done
  unfolding telling
  hold [] t e = refl
  hold ((true else reply) ∷ cs) t e = hold cs (and_yes (not (eqb reply 0)) (telling cs) t).1 e
  hold ((false else reply) ∷ cs) t e = absurd (nonzero reply (and_yes (not (eqb reply 0)) (telling cs) t).0 e)

  pub passed : {r : ℕ} (cs : List Check) → T (telling cs) → r ≡ refusal cs → r ≡ 0 → answer more before done ≡ answer (cs ++ more) before done
  passed cs t told e = hold cs t (sym told ∙ e)

-- what is not refused has passed every check
pub all_hold : (cs : List Check) → T (telling cs) → refusal cs ≡ 0 → AllHold cs
unfolding AllHold telling
all_hold [] t e = tt
all_hold ((true else reply) ∷ cs) t e = (tt, all_hold cs (and_yes (not (eqb reply 0)) (telling cs) t).1 e)
all_hold ((false else reply) ∷ cs) t e = absurd (nonzero reply (and_yes (not (eqb reply 0)) (telling cs) t).0 e)
