-- The counts at its row, byte and triple.
-- Assumes nothing.
use mathlib.Core.Path.{◌≡◌, sym, ◌∙◌}
use Prim.Native.Nat.{ℕ, ◌+◌, ◌*◌, ◌%◌}
use native.Mathlib.Nat.{add-zero}
use Rattle.aes.specs.State.{at}
use Rattle.beside.specs.Report.{triples, counts_of, counts_at, row_at, byte_at}
use Rattle.beside.proofs.lines.line.Goals as goal

pub returns : goal.returns
unfolding counts_at
returns c =
    let a = c.args in
    let list : a.list.now ≡ triples = c.requires.0 in
    let k : ℕ = 3 * (a.n % 56) in
    let here : k ≡ k + 0 = sym (add-zero k) in
    c.counts.ensures ∙ λ i. counts_of a.masks (row_at a.n) (byte_at a.n) (at (list i) (here i)) (at (list i) (k + 1)) (at (list i) (k + 2))
