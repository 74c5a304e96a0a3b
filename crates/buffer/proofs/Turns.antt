-- The turns of both loops over the steps: what each adds.
-- Assumes nothing.
use mathlib.Core.Path.{◌≡◌, ap, sym, ◌∙◌}
use mathlib.Core.List.{List}
use Prim.Native.Nat.{ℕ, suc, ◌+◌}
use native.Mathlib.Nat.{mod-add-div}
use native.Mathlib.Omega.{arith}
use Rattle.buffer.specs.Wrap.{place, number, wrap_step, unwrap_step, wrap_steps, unwrap_steps}

-- t counts the steps
pub counts : (n k : ℕ) → number n k ≡ k + 1
counts n k = omega (arith, mod-add-div k n)

module _ (E : List ℕ → List ℕ) (n k : ℕ) (s : List ℕ) where
  next : suc k ≡ k + 1
  next = omega arith

  pub one_more : wrap_step E (place n k) (k + 1) (wrap_steps E n k s) ≡ wrap_steps E n (k + 1) s
  unfolding wrap_steps
  one_more = ap (λ (t : ℕ). wrap_step E (place n k) t (wrap_steps E n k s)) (sym (counts n k)) ∙ ap (λ (j : ℕ). wrap_steps E n j s) next

  pub one_less : unwrap_steps E n k (unwrap_step E (place n k) (k + 1) s) ≡ unwrap_steps E n (k + 1) s
  unfolding unwrap_steps
  one_less = ap (λ (t : ℕ). unwrap_steps E n k (unwrap_step E (place n k) t s)) (sym (counts n k)) ∙ ap (λ (j : ℕ). unwrap_steps E n j s) next
