-- Constants at the offsets of masks: those that lie there already, or those that are worked out of the masks over a state.
-- Assumes nothing.
use mathlib.Core.Path.{◌≡◌, sym, ap, ◌∙◌}
use mathlib.Core.List.{List}
use Prim.Native.Nat.{ℕ}
use Rattle.std.specs.Prelude.{Option, None, Some}
use Rattle.masks.specs.declared.label.Offsets.{Offsets}
use Rattle.masks.specs.Mask.{one, covers_of, constants, constants_of}
use Rattle.masks.proofs.Rows.{constants-covered}
use Rattle.lent.specs.Started.{laid_at}

module _ (f : List ℕ → List ℕ) (M : List ℕ) {o : Option Offsets} {r : List ℕ} where
  pub stays : o ≡ None → r ≡ constants f M (one 0) → r ≡ constants f M (laid_at o)
  stays e h = h ∙ sym (ap (λ (q : Option Offsets). constants f M (laid_at q)) e)

  pub worked : (v : Offsets) {c : List ℕ} → o ≡ Some v → c ≡ covers_of M v.0 → r ≡ constants_of f c → r ≡ constants f M (laid_at o)
  worked v e hc h = h ∙ ap (constants_of f) hc ∙ constants-covered f M v.0 ∙ sym (ap (λ (q : Option Offsets). constants f M (laid_at q)) e)
