-- The word of the counts, taken apart.
-- Assumes nothing.
use mathlib.Core.Bool.{Bool, true, false, cond}
use mathlib.Core.List.{List}
use mathlib.Core.Path.{◌≡◌, refl, sym, ap, ◌∙◌}
use Prim.Native.Nat.{ℕ}
use native.Mathlib.Omega.{arith}
use Rattle.std.proofs.Common.{w64}
use Rattle.std.specs.Int.{to_le_bytes}
use Rattle.aes.specs.Byte.{listed, table}
use Rattle.aes.specs.State.{at}
use Rattle.aes.proofs.Listed.{table_same}
use Rattle.beside.specs.Fitness.{pattern, count}
use Rattle.beside.specs.Counts.{counted}
use Rattle.beside.specs.Report.{inside, values_of, count_in, counts_of}
use Rattle.beside.proofs.Even.{count_le, bytes-word}
use Rattle.beside.proofs.Alike.{alike, within}
use Rattle.beside.proofs.count.counts.Goals as goal

pub returns-then-not-inside : goal.returns-then-not-inside
unfolding table
returns-then-not-inside c =
    let a = c.args in
    let none : inside a.row a.byte a.x a.y a.z ≡ false = sym c.inside.ensures ∙ c.if-not-inside.true in
    rw none refl

-- where there is such a row, byte and triple
told : (M : List ℕ) (row i x y z : ℕ) → inside row i x y z ≡ true → to_le_bytes w64 (counted (λ k. pattern x y z (at (values_of M row i) k)) 16) ≡ counts_of M row i x y z
unfolding table
told M row i x y z e =
    let w = within row i x y z e in
    let g : ℕ → ℕ = λ k. pattern x y z (at (values_of M row i) k) in
    bytes-word (λ t. count t (listed g 0 16)) (λ t. omega (arith, count_le t g 0 16))
    ∙ table_same (λ t. count t (listed g 0 16)) (λ t. cond (inside row i x y z) (count_in M 1 row 0 i x y z t) 0) 8
    (λ t h. sym (alike M x y z t 1 row 0 i w.low w.high w.byte) ∙ ap (λ (b : Bool). cond b (count_in M 1 row 0 i x y z t) 0) (sym e))

pub returns : goal.returns
returns c =
    let a = c.args in
    c.to_le_bytes.ensures
    ∙ ap (to_le_bytes w64) (c.counted.ensures ∙ ap (λ (v : List ℕ). counted (λ k. pattern a.x a.y a.z (at v k)) 16) c.values.ensures)
    ∙ told a.masks a.row a.byte a.x a.y a.z (sym c.inside.ensures ∙ c.if-not-inside.false)
