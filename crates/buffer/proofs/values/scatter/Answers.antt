-- Two parts come back one after the other.
-- Assumes nothing.
use mathlib.Core.Path.{◌≡◌, ap, ap₂, ◌∙◌}
use mathlib.Core.List.{List, ◌++◌}
use Prim.Native.Nat.{ℕ, ◌*◌}
use native.Mathlib.Omega.{arith}
use lib.ListN.{length, take, drop, length-drop}
use lib.Seq.{length-take-le, take_all}
use Rattle.aes.specs.State.{Bytes}
use Rattle.aes.proofs.Given.{array_bytes}
use Rattle.aes.proofs.Part.{back}
use Rattle.buffer.specs.Wrap.{with_values}
use Rattle.buffer.proofs.Pieces.{width, put_back}
use Rattle.buffer.proofs.values.scatter.Goals as goal

pub returns : goal.returns
returns c =
    let s : List ℕ = c.args.buffer.now in
    let i : ℕ = c.args.i in
    let b : Bytes 16 c.args.b = array_bytes c.well_formed.0 in
    let x : List ℕ = c.copy_from_slice.new.self in
    let y : List ℕ = c.copy_from_slice-2.new.self in
    let ex : x ≡ take 8 c.args.b = c.copy_from_slice.ensures.after in
    let ey : y ≡ drop 8 c.args.b = c.copy_from_slice-2.ensures.after ∙ take_all 8 (drop 8 c.args.b) (rw length-drop (omega (arith, b.size))) in
    let lx : length x ≡ 8 = rw ex (length-take-le 8 c.args.b (omega (arith, b.size))) in
    ap (λ (k : ℕ). back (x ++ drop 8 s) (8 * i) k y) (width i) ∙ put_back i s x y c.requires.0 c.requires.1 lx ∙ ap₂ (λ (p q : List ℕ). with_values i p q s) ex ey
