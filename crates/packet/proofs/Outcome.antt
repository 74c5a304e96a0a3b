-- What is answered past the first checks, by what the code finds out: the pipe, the bits, and whether the payload is long.
-- Assumes nothing.
use mathlib.Core.Path.{◌≡◌, sym, ap, ◌∙◌}
use mathlib.Core.Bool.{Bool, true, false, ◌&&◌}
use mathlib.Core.List.{List}
use Prim.Native.Nat.{ℕ, ◌<◌}
use native.Mathlib.Omega.{arith}
use borrow.Author.Tests.{eq-eqb, ne_eqb, le-leb, lt-leb}
use lib.Dec.{eqb, leb}
use Rattle.aes.specs.Byte.{table, place}
use Rattle.packet.specs.Packet.{pid, scrambling, field_right, long, pid_at, pipe_of, is_listed, changed}
use Rattle.packet.specs.Calls.{answered_of}

pub pipe_is : (pipes p : List ℕ) {k n : ℕ} → k ≡ place n (table (pid_at pipes) 7) → n ≡ pid p → k ≡ pipe_of pipes p
unfolding pipe_of
pipe_is pipes p ek en = ek ∙ ap (λ (x : ℕ). place x (table (pid_at pipes) 7)) en

-- some of the answers, of which both calls have the first two and descrambling the others
module _ (p out pipes : List ℕ) (odd : Bool) {k : ℕ} (ek : k ≡ pipe_of pipes p) where
  pub unlisted : (back : Bool) → 6 < k → ◌≡◌ {A = ℕ × List ℕ} (0, p) (answered_of back p out pipes odd)
  unlisted back lt = by_case back (lt-leb (pipe_of pipes p) 6 (omega (arith, lt, ek)))
    where
      by_case : (back : Bool) → is_listed pipes p ≡ false → ◌≡◌ {A = ℕ × List ℕ} (0, p) (answered_of back p out pipes odd)
      by_case true el = rw el
      by_case false el = rw el

  module _ (lt : k < 7) where
    listed : is_listed pipes p ≡ true
    listed = le-leb (pipe_of pipes p) 6 (omega (arith, lt, ek))

    pub field_wrong : (back : Bool) → field_right p ≡ false → ◌≡◌ {A = ℕ × List ℕ} (21, out) (answered_of back p out pipes odd)
    field_wrong true ef = rw (listed, ef)
    field_wrong false ef = rw (listed, ef)

    module _ (ef : field_right p ≡ true) {n : ℕ} (en : n ≡ scrambling p) where
      pub clear : n ≡ 0 → ◌≡◌ {A = ℕ × List ℕ} (0, p) (answered_of true p out pipes odd)
      clear none = rw (listed, ef, eq-eqb (scrambling p) 0 (sym en ∙ none))

      module _ {g : Bool} (eg : g ≡ long p) (some : n ≡ 0 → ⊥) where
        other : eqb (scrambling p) 0 ≡ false
        other = ne_eqb (scrambling p) 0 (λ e. some (en ∙ e))

        opening : (leb 2 n && g) ≡ (leb 2 (scrambling p) && long p)
        opening i = leb 2 (en i) && eg i

        pub opened : (leb 2 n && g) ≡ true → {o : List ℕ} → o ≡ changed true 0 (eqb n 3) pipes k p → ◌≡◌ {A = ℕ × List ℕ} (0, o) (answered_of true p out pipes odd)
        opened e eo = rw (listed, ef, other, sym opening ∙ e) (ap (λ (o : List ℕ). (0, o)) (eo ∙ (λ i. changed true 0 (eqb (en i) 3) pipes (ek i) p)))
