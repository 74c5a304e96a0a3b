-- The steps in the scratch, whose two parts are judged and handed out.
-- Assumes nothing.
use mathlib.Core.Path.{◌≡◌, ap, ◌∙◌}
use mathlib.Core.List.{List, [], ◌∷◌}
use Prim.Native.Nat.{ℕ, ◌+◌, ◌-◌, ◌*◌, ◌/◌}
use native.Mathlib.Omega.{arith}
use lib.ListN.{length, take, drop, length-drop}
use lib.Seq.{take_all}
use Rattle.aes.specs.Reply.{answer, is_intact}
use Rattle.buffer.specs.Wrap.{unwrap_steps, unwrapped}
use Rattle.wrap.specs.Engines.{opened}
use Rattle.wrap.proofs.engine.Keyed.opened_in.Goals as goal

-- what the steps recover
recovered : (D : List ℕ → List ℕ) (n : ℕ) (sealed x s : List ℕ) → length sealed ≡ 8 * n + 8 → s ≡ unwrap_steps D n (6 * n) x → x ≡ sealed → s ≡ unwrapped D sealed
unfolding unwrapped
recovered D n sealed x s long es ex =
    let e : n ≡ length sealed / 8 - 1 = omega (arith, long) in
    es ∙ λ i. unwrap_steps D (e i) (6 * e i) (ex i)

pub returns : goal.returns
returns c =
    let a = c.args in
    let k = a.self.now in
    let s : List ℕ = c.unwrap_steps.new.buffer in
    let e = recovered (opened k.engine k.schedule.now) k.n a.wrapped.now c.copy_from_slice.new.self s c.requires.1 c.unwrap_steps.ensures c.copy_from_slice.ensures.after in
    c.handed_out.ensures
    ∙ ap (λ (o : List ℕ). answer (is_intact (take 8 s) ∷ []) a.keys.now o) (take_all (length s - 8) (drop 8 s) (omega (arith, length-drop 8 s)))
    ∙ ap (λ (r : List ℕ). answer (is_intact (take 8 r) ∷ []) a.keys.now (drop 8 r)) e
