-- Past the checks, the run.
-- Assumes nothing.
use mathlib.Core.List.{List}
use mathlib.Core.Path.{◌≡◌, refl, ap, ◌∙◌}
use Prim.Native.Nat.{ℕ}
use borrow.Author.Rules.{rules}
use Rattle.aes.specs.Reply.{refusal}
use Rattle.masks.specs.Mask.{published}
use Rattle.runs.specs.Back.{masked_inv_cipher}
use Rattle.lent.specs.Started.{record_of}
use Rattle.masked.specs.Calls.{one_checks}
use Rattle.masked.proofs.Checked.{one-rounds, one_answer}
use Rattle.masked.proofs.calls.one.decrypt_one.Goals as goal

pub returns : goal.returns
returns c =
    let a = c.args in
    let told : 0 ≡ refusal (one_checks a.schedule.now a.input.now a.output.now a.offset) = search rules in
    let rounds = one-rounds a.schedule.now a.input.now a.output.now a.offset told refl in
    one_answer a.schedule.now a.input.now a.output.now a.offset told refl c.one.ensures (λ (v : List ℕ). masked_inv_cipher 14 published v 1 a.schedule.now a.input.now)
    (c.unsealed.ensures ∙ ap (λ (n : ℕ). masked_inv_cipher n published (record_of c.one.result) 1 a.schedule.now a.input.now) rounds)
