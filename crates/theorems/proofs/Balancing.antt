-- Balance: the test tells of any three bits, and a turn of the offsets and a fixed byte added to all keep it.
-- Assumes nothing.
use mathlib.Core.Path.{◌≡◌, refl, sym, ap, fun_ext, ◌∙◌}
use mathlib.Core.Bool.{Bool, true, not, ◌&&◌}
use mathlib.Core.List.{List, [], ◌∷◌, ◌++◌}
use Prim.Native.Nat.{ℕ, zero, suc, ◌+◌, ◌*◌, ◌/◌, ◌%◌, ◌^◌, ◌<◌}
use native.Mathlib.Omega.{arith}
use native.Mathlib.Decide.{ℕ_discrete, dec_lt}
use lib.Dec.{T, eqb, eqb→eq, lit<}
use lib.Bits.{xor_shr, xor_mod, xor_block, xor_lt}
use mir.Facts.{and_yes, eqb_no}
use borrow.Author.Tests.{eq-eqb, ne_eqb}
use Rattle.aes.specs.Byte.{◌⊕◌, bit, listed, table, below}
use Rattle.aes.proofs.Xor.{mod_two, xor_cancel}
use Rattle.aes.proofs.Listed.{table_same}
use Rattle.aes.proofs.Below.{below_all, under}
use Rattle.beside.specs.Fitness.{pattern, count, even, balanced}
use Rattle.beside.proofs.Even.{pattern_lt}
use Rattle.beside.proofs.Alike.{turns}
use Rattle.theorems.specs.Balance.{times, different, Balanced, how_many}

-- Where σ undoes itself, the counts move with the patterns.
module _ (σ : ℕ → ℕ) (undone : (v : ℕ) → v < 8 → σ (σ v) ≡ v) where
  same_eqb : (v t : ℕ) → v < 8 → t < 8 → eqb (σ v) t ≡ eqb v (σ t)
  same_eqb v t hv ht =
      elim (ℕ_discrete v (σ t)) [
        | yes e ↦ rw (eq-eqb v (σ t) e) (eq-eqb (σ v) t (rw e (undone t ht)))
        | no e ↦ rw (ne_eqb v (σ t) e) (ne_eqb (σ v) t (λ q. e (rw (← q) (sym (undone v hv)))))
      ]

  count-moved : (t : ℕ) → t < 8 → (g : ℕ → ℕ) → ((o : ℕ) → g o < 8) → (i n : ℕ)
      → count t (listed (λ o. σ (g o)) i n) ≡ count (σ t) (listed g i n)
  unfolding count
  count-moved t ht g hg i zero = refl
  count-moved t ht g hg i (suc n) = rw (same_eqb (g i) t (hg i) ht, count-moved t ht g hg (suc i) n)

-- the bits x, y and z show each of their patterns twice
Twice : (ℕ → ℕ) → ℕ → ℕ → ℕ → Type 0
Twice f x y z = (t : ℕ) → t < 8 → times f x y z t ≡ 2

moved : (σ : ℕ → ℕ) → ((v : ℕ) → v < 8 → σ (σ v) ≡ v) → ((v : ℕ) → v < 8 → σ v < 8)
    → (f g : ℕ → ℕ) (x y z x' y' z' : ℕ) → ((o : ℕ) → pattern x' y' z' (g o) ≡ σ (pattern x y z (f o))) → Twice f x y z → Twice g x' y' z'
unfolding Twice
moved σ undone lt f g x y z x' y' z' e twice t ht =
    ap (λ (k : ℕ → ℕ). count t (listed k 0 16)) (fun_ext e)
    ∙ count-moved σ undone t ht (λ o. pattern x y z (f o)) (λ o. pattern_lt x y z (f o)) 0 16
    ∙ twice (σ t) (lt t ht)

-- the same three bits in another order: the lower two exchanged, or the upper two
module _ (f : ℕ → ℕ) where
  lower : (x y z : ℕ) → Twice f x y z → Twice f y x z
  unfolding pattern below
  lower x y z =
      moved σ (λ v h. eqb→eq (σ (σ v)) v (under (λ v. eqb (σ (σ v)) v) 8 tt v h)) (λ v h. omega arith) f f x y z y x z (λ o. omega arith)
    where
      σ : ℕ → ℕ
      σ v = v / 4 * 4 + v % 2 * 2 + v / 2 % 2

  upper : (x y z : ℕ) → Twice f x y z → Twice f x z y
  unfolding pattern below
  upper x y z =
      moved σ (λ v h. eqb→eq (σ (σ v)) v (under (λ v. eqb (σ (σ v)) v) 8 tt v h)) (λ v h. omega arith) f f x y z x z y
      (λ o. bits (bit (f o) x) (bit (f o) y) (bit (f o) z) (mod_two _) (mod_two _) (mod_two _))
    where
      σ : ℕ → ℕ
      σ v = v / 2 % 2 * 4 + v / 4 * 2 + v % 2

      bits : (a b c : ℕ) → a < 2 → b < 2 → c < 2 → (b * 2 + c) * 2 + a ≡ σ ((c * 2 + b) * 2 + a)
      bits a b c ha hb hc =
          let half : ((c * 2 + b) * 2 + a) / 2 ≡ c * 2 + b = omega arith in
          let odd : (c * 2 + b) % 2 ≡ b = omega arith in
          rw (half, odd) (omega arith)

  -- the test is of three bits as they rise, and tells of any three
  rising : T (balanced f) → (x y z : ℕ) → x < y → y < z → z < 8 → Twice f x y z
  unfolding Twice balanced even
  rising h x y z hx hy hz t ht = eqb→eq (times f x y z t) 2 (under _ 8 (under _ y (under _ z (under _ 8 h z hz) y hy) x hx) t ht)

  third : T (balanced f) → (x y z : ℕ) → x < y → y < 8 → z < 8 → (y ≡ z → ⊥) → (x ≡ z → ⊥) → Twice f x y z
  third h x y z xy hy hz yz xz =
      elim (dec_lt y z) [
        | yes a ↦ rising h x y z xy a hz
        | no a ↦
            elim (dec_lt x z) [
              | yes b ↦ upper x z y (rising h x z y b (omega arith) hy)
              | no b ↦ upper x z y (lower z x y (rising h z x y (omega arith) xy hy))
            ]
      ]

  any_order : T (balanced f) → (x y z : ℕ) → x < 8 → y < 8 → z < 8 → (x ≡ y → ⊥) → (y ≡ z → ⊥) → (x ≡ z → ⊥) → Twice f x y z
  any_order h x y z hx hy hz xy yz xz =
      elim (dec_lt x y) [
        | yes a ↦ third h x y z a hy hz yz xz
        | no a ↦ lower y x z (third h y x z (omega arith) hx hz xz yz)
      ]

-- the test says it, both ways
pub tested_balanced : (f : ℕ → ℕ) → T (balanced f) → Balanced f
unfolding different Twice
tested_balanced f h =
    record {
      twice = λ x y z t hx hy hz hd ht.
          let last = and_yes (not (eqb x y) && not (eqb y z)) (not (eqb x z)) hd in
          let rest = and_yes (not (eqb x y)) (not (eqb y z)) last.0 in
          any_order f h x y z hx hy hz (eqb_no rest.0) (eqb_no rest.1) (eqb_no last.1) t ht;
    }

pub rising_different : (x y z : ℕ) → x < y → y < z → T (different x y z)
unfolding different
rising_different x y z hx hy =
    rw (ne_eqb x y (λ e. absurd (omega arith)), ne_eqb y z (λ e. absurd (omega arith)), ne_eqb x z (λ e. absurd (omega arith))) tt

pub balanced_tested : (f : ℕ → ℕ) → Balanced f → balanced f ≡ true
unfolding balanced even
balanced_tested f b =
    below_all _ 8
    (λ z hz. below_all _ z (λ y hy. below_all _ y (λ x hx. below_all _ 8 (λ t ht. eq-eqb _ 2 (b.twice x y z t (omega arith) (omega arith) hz (rising_different x y z hx hy) ht)))))

-- only the sixteen offsets matter
pub balanced_same : (f g : ℕ → ℕ) → ((o : ℕ) → o < 16 → f o ≡ g o) → Balanced g → Balanced f
unfolding table
balanced_same f g e b =
    record {
      twice = λ x y z t hx hy hz hd ht.
          ap (count t) (table_same (λ o. pattern x y z (f o)) (λ o. pattern x y z (g o)) 16 (λ o h. ap (pattern x y z) (e o h)))
          ∙ b.twice x y z t hx hy hz hd ht;
    }

-- a fixed byte added
bit_xor : (v w x : ℕ) → bit (v ⊕ w) x ≡ bit v x ⊕ bit w x
bit_xor v w x = rw (xor_shr v w x) (xor_mod (v / 2 ^ x) (w / 2 ^ x) 1)

joined : (a b c a' b' c' : ℕ) → b < 2 → c < 2 → b' < 2 → c' < 2
    → ((a * 2 + b) * 2 + c) ⊕ ((a' * 2 + b') * 2 + c') ≡ ((a ⊕ a') * 2 + (b ⊕ b')) * 2 + (c ⊕ c')
joined a b c a' b' c' hb hc hb' hc' =
    xor_block 1 (a * 2 + b) (a' * 2 + b') c c' hc hc' ∙ ap (λ (u : ℕ). u * 2 + (c ⊕ c')) (xor_block 1 a a' b b' hb hb')

pattern_xor : (x y z v w : ℕ) → pattern x y z (v ⊕ w) ≡ pattern x y z v ⊕ pattern x y z w
unfolding pattern
pattern_xor x y z v w =
    rw (bit_xor v w x, bit_xor v w y, bit_xor v w z)
    (sym (joined (bit v z) (bit v y) (bit v x) (bit w z) (bit w y) (bit w x) (mod_two _) (mod_two _) (mod_two _) (mod_two _)))

pub balanced_xor : (c : ℕ) (f : ℕ → ℕ) → Balanced f → Balanced (λ o. c ⊕ f o)
unfolding Twice
balanced_xor c f b =
    record {
      twice = λ x y z t hx hy hz hd ht.
          let p : ℕ = pattern x y z c in
          moved (λ v. p ⊕ v) (λ v h. xor_cancel p v) (λ v h. xor_lt 3 p v (pattern_lt x y z c) h) f (λ o. c ⊕ f o) x y z x y z
          (λ o. pattern_xor x y z c (f o)) (λ u hu. b.twice x y z u hx hy hz hd hu) t ht;
    }

pub balanced_back : (c : ℕ) (f : ℕ → ℕ) → Balanced (λ o. c ⊕ f o) → Balanced f
balanced_back c f b = balanced_same f (λ o. c ⊕ (c ⊕ f o)) (λ o h. sym (xor_cancel c (f o))) (balanced_xor c (λ o. c ⊕ f o) b)

-- the offsets turned
pub balanced_turn : (f : ℕ → ℕ) → Balanced f → (c : ℕ) → Balanced (λ o. f ((o + c) % 16))
balanced_turn f b c =
    record { twice = λ x y z t hx hy hz hd ht. turns t (λ o. pattern x y z (f o)) c ∙ b.twice x y z t hx hy hz hd ht }

-- So what is not balanced is not so from another offset on and under a fixed byte either: if the upper three bits of g are not 111
-- twice, f is not balanced.
pub upper_unbalanced : (f g : ℕ → ℕ) (c d n : ℕ) → ((o : ℕ) → o < 16 → f o ≡ c ⊕ g ((o + d) % 16)) → times g 5 6 7 7 ≡ n → (n ≡ 2 → ⊥) → Balanced f → ⊥
unfolding different
upper_unbalanced f g c d n e found other b =
    let under : Balanced (λ o. c ⊕ g ((o + d) % 16)) = balanced_same (λ o. c ⊕ g ((o + d) % 16)) f (λ o h. sym (e o h)) b in
    let turned = balanced_turn (λ o. g ((o + d) % 16)) (balanced_back c (λ o. g ((o + d) % 16)) under) (15 * d) in
    let around : Balanced g = balanced_same g _ (λ o h. ap g (omega arith)) turned in
    other (sym found ∙ around.twice 5 6 7 7 (lit< tt) (lit< tt) (lit< tt) tt (lit< tt))

-- how many points of two lists
pub how_many-append : {P : Type 0} (so : P → Bool) (ps qs : List P) → how_many so (ps ++ qs) ≡ how_many so ps + how_many so qs
unfolding how_many
how_many-append so [] qs = omega arith
how_many-append so (p ∷ ps) qs = omega (arith, how_many-append so ps qs)
