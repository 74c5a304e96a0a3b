-- Why even boxes go first: what a box gives, xored with what the next one called takes, stays covered; in natural order it does
-- not, nor with the steps 2 and 3. It is said of the states of a masked run, and of those that record_masked writes.
-- Assumes nothing.
use mathlib.Core.Path.{◌≡◌, refl, sym, ap, ◌∙◌}
use mathlib.Core.Bool.{Bool, true, false, not, ◌||◌}
use mathlib.Core.List.{List, []}
use Prim.Native.Nat.{ℕ, suc, ◌+◌, ◌*◌, ◌%◌, ◌<◌}
use native.Mathlib.Nat.{mul-suc, zero-mul}
use native.Mathlib.Omega.{arith}
use lib.Dec.{T, eqb, leb, eqb→eq, lit<, lit≤}
use mir.Facts.{no_eqb}
use lib.ListN.{length, get_or, set}
use Rattle.aes.specs.Byte.{◌⊕◌, table, below}
use Rattle.aes.specs.State.{at}
use Rattle.aes.specs.Key.{rounds_of}
use Rattle.aes.specs.Record.{block, keyed, boxed, points, cipher_at}
use Rattle.aes.specs.Reply.{scheduled, taken}
use Rattle.aes.proofs.Below.{under}
use Rattle.aes.proofs.Xor.{sums, xor_self, xor_zero}
use Rattle.aes.proofs.Listed.{table_at}
use Rattle.masks.specs.Mask.{◌⊞◌, published, one, label, mask}
use Rattle.masks.specs.Order.{box_order, natural, between}
use Rattle.runs.specs.Run.{masked_record}
use Rattle.masked.specs.Calls.{block_at, record_masked_of}
use Rattle.masks.proofs.Counted.{one_at}
use Rattle.masks.proofs.Ordered.{order_below, lucky}
use Rattle.masks.specs.MaskTable.{mask_by, mask_at}
use Rattle.theorems.specs.Neighbours.{between_states, between_recorded, between_bare, between_masks}
use Rattle.theorems.specs.Ways.{Offsets}
use Rattle.theorems.proofs.Records.{one_offsets}
use Rattle.theorems.proofs.Relation.{mask_entry, relation_cipher}
use Rattle.theorems.proofs.States.{add_at}
use Rattle.theorems.proofs.RecordStates.{published-length, masked_states}
use Rattle.theorems.proofs.RoundPoints.{keyed-at, boxed_at, within-run}

-- Any order of the boxes, any masks.
module _ (order : List ℕ) (positions : (k : ℕ) → k < 16 → at order k < 16) where
  -- in states that lie, each at its point, under a mask: at two points one after the other the xor of two bytes, under that of their masks
  pub between-points : {P : Type 0} (there mask : P → List ℕ) (none : P) (ps : List P) (states : ℕ → List ℕ)
      → ((q : ℕ) → q < length ps → states q ≡ there (get_or ps q none) ⊞ mask (get_or ps q none))
      → (q : ℕ) → q + 1 < length ps → (p p' : P) → get_or ps q none ≡ p → get_or ps (q + 1) none ≡ p' → (k : ℕ) → k < 15
      → between order (states q) (states (q + 1)) k ≡ between order (there p) (there p') k ⊕ between order (mask p) (mask p') k
  between-points there mask none ps states covered q within p p' e e' k h =
      let taken : states q ≡ there p ⊞ mask p = covered q (omega arith) ∙ rw e in
      let given : states (q + 1) ≡ there p' ⊞ mask p' = covered (q + 1) within ∙ rw e' in
      rw (taken, given, add_at (there p') (mask p') (at order k) (positions k (omega arith)), add_at (there p) (mask p) (at order (k + 1)) (positions (k + 1) (omega arith)))
      (simp sums)

  module _ (M v : List ℕ) (d : ℕ) (w b : List ℕ) (r k : ℕ) (hk : k < 15) where
    -- in a run of any number of rounds: the xor of the two bytes of CIPHER, under the xor of their masks
    pub between_states_lem : (nr : ℕ) → r < nr
        → between_states order (masked_record nr M v d w b) (5 * r + 1) k ≡ between_bare order w b r k ⊕ between_masks order M v d r k
    between_states_lem nr hr =
        between-points (cipher_at w b) (mask_at M v d) block (points nr) (λ q. get_or (masked_record nr M v d w b) q []) (relation_cipher M v d w nr b) (5 * r + 1)
        (within-run nr r hr) (keyed r) (boxed r) (keyed-at nr r hr) (boxed_at nr r hr) k hk

    -- the same of the states that record_masked writes
    pub between_recorded_lem : length M ≡ 16 → (states : List ℕ) → scheduled (length w) ≡ true → length b ≡ 16 → length states ≡ 16 * (5 * rounds_of w + 1) → Offsets v → T (taken d) → r < rounds_of w
        → between_recorded order (record_masked_of w b M v d states).1 (5 * r + 1) k ≡ between_bare order w b r k ⊕ between_masks order M v d r k
    between_recorded_lem lm states lw lb ls hv t hr =
        let written : (q : ℕ) → block_at q (record_masked_of w b M v d states).1 ≡ get_or (masked_record (rounds_of w) M v d w b) q [] = masked_states w b states lw lb ls M lm v hv d t in
        (λ i. between order (written (5 * r + 1) i) (written (5 * r + 1 + 1) i) k) ∙ between_states_lem (rounds_of w) hr

natural-at : (k : ℕ) → k < 16 → at natural k ≡ k
unfolding table
natural-at = table_at (λ i. i) 16

natural-below : (k : ℕ) → k < 16 → at natural k < 16
natural-below k h = rw (natural-at k h) h

-- where the label of the byte whose box comes next is d on, the mask that is given is the one that it takes, whatever the masks are
pub on_any : (order M v : List ℕ) (d r k : ℕ) → at order k < 16 → at order (k + 1) < 16 → (at v (at order k) + d) % 16 ≡ at v (at order (k + 1)) % 16
    → between_masks order M v d r k ≡ 0
unfolding mask_by
on_any order M v d r k hp hq e =
    let same : label v (d * r + d) (at order k) ≡ label v (d * r) (at order (k + 1)) = ahead (at v (at order k)) (at v (at order (k + 1))) (d * r) d e in
    rw (mask_entry M v (d * suc r) (at order k) hp, mask_entry M v (d * r) (at order (k + 1)) hq, mul-suc, same) (xor_self (at M (label v (d * r) (at order (k + 1)))))
  where
    ahead : (a b n d : ℕ) → (a + d) % 16 ≡ b % 16 → (a + (n + d)) % 16 ≡ (b + n) % 16
    ahead a b n d e = omega arith

-- at the record of one offset: where its position is d on
on : (order M : List ℕ) (o d r k : ℕ) → at order k < 16 → at order (k + 1) < 16 → (at order k + d) % 16 ≡ at order (k + 1) → between_masks order M (one o) d r k ≡ 0
on order M o d r k hp hq e = on_any order M (one o) d r k hp hq (rw (one_at o (at order k) hp, one_at o (at order (k + 1)) hq) (far (at order k) (at order (k + 1)) e))
  where
    left : (p : ℕ) → ((o + p) % 16 + d) % 16 ≡ (o + (p + d)) % 16
    left p = omega arith

    right : (n : ℕ) → (o + n) % 16 ≡ (o + n % 16) % 16 % 16
    right n = omega arith

    far : (p q : ℕ) → (p + d) % 16 ≡ q → ((o + p) % 16 + d) % 16 ≡ (o + q) % 16 % 16
    far p q e = left p ∙ right (p + d) ∙ ap (λ (n : ℕ). (o + n) % 16 % 16) e

-- In the order that every masked run reads, with the published masks, at the record of one offset and with any step that is taken,
-- that mask is never 00.
pub never_bare : (o d r k : ℕ) → T (taken d) → k < 15 → between_masks box_order published (one o) d r k ≡ 0 → ⊥
unfolding mask_by
never_bare o d r k t hk = rw mul-suc (lucky o (d * r) d k t hk)

module _ (o : ℕ) (w b : List ℕ) (r k : ℕ) (hk : k < 15) where
  pub even_first : (d : ℕ) → T (taken d) → (nr : ℕ) → r < nr
      → (between_states box_order (masked_record nr published (one o) d w b) (5 * r + 1) k ≡ between_bare box_order w b r k ⊕ between_masks box_order published (one o) d r k)
      × (between_masks box_order published (one o) d r k ≡ 0 → ⊥)
  even_first d t nr hr = (between_states_lem box_order order_below published (one o) d w b r k hk nr hr, never_bare o d r k t hk)

  -- In natural order, with step 1 and whatever the masks are, it is always 00.
  always_bare : (M : List ℕ) → between_masks natural M (one o) 1 r k ≡ 0
  always_bare M =
      on natural M o 1 r k (natural-below k (omega arith)) (natural-below (k + 1) (omega arith))
      (rw (natural-at k (omega arith), natural-at (k + 1) (omega arith)) (omega arith))

  pub natural-bare : (nr : ℕ) → r < nr → (M : List ℕ)
      → (between_states natural (masked_record nr M (one o) 1 w b) (5 * r + 1) k ≡ between_bare natural w b r k ⊕ between_masks natural M (one o) 1 r k)
      × (between_masks natural M (one o) 1 r k ≡ 0)
  natural-bare nr hr M = (between_states_lem natural natural-below M (one o) 1 w b r k hk nr hr, always_bare M)

  -- both of what record_masked writes
  module _ (states : List ℕ) (lw : scheduled (length w) ≡ true) (lb : length b ≡ 16) (ls : length states ≡ 16 * (5 * rounds_of w + 1)) (hr : r < rounds_of w) where
    pub even_first_recorded : (d : ℕ) → T (taken d)
        → (between_recorded box_order (record_masked_of w b published (one o) d states).1 (5 * r + 1) k ≡ between_bare box_order w b r k ⊕ between_masks box_order published (one o) d r k)
        × (between_masks box_order published (one o) d r k ≡ 0 → ⊥)
    even_first_recorded d t = (between_recorded_lem box_order order_below published (one o) d w b r k hk published-length states lw lb ls (one_offsets o) t hr, never_bare o d r k t hk)

    pub natural_bare_recorded : (M : List ℕ) → length M ≡ 16
        → (between_recorded natural (record_masked_of w b M (one o) 1 states).1 (5 * r + 1) k ≡ between_bare natural w b r k ⊕ between_masks natural M (one o) 1 r k)
        × (between_masks natural M (one o) 1 r k ≡ 0)
    natural_bare_recorded M lm = (between_recorded_lem natural natural-below M (one o) 1 w b r k hk lm states lw lb ls (one_offsets o) tt hr, always_bare M)

-- Why the steps that are not taken are refused. Of the fifteen neighbours of the order fourteen are two positions apart, and one, at
-- place 7, is three: from position 14 to 1.
two_apart : T (below 15 (λ k. eqb k 7 || eqb ((at box_order k + 2) % 16) (at box_order (k + 1))))
unfolding box_order below
two_apart = tt

three_apart : (at box_order 7 + 3) % 16 ≡ at box_order 8
unfolding box_order
three_apart = refl

module _ (M : List ℕ) (o r : ℕ) where
  -- With step 2 the mask between two boxes is 00 at all places but 7, in every round, at every offset, whatever the masks are.
  pub step_two_bare : (k : ℕ) → k < 15 → (k ≡ 7 → ⊥) → between_masks box_order M (one o) 2 r k ≡ 0
  step_two_bare k h other =
      on box_order M o 2 r k (order_below k (omega arith)) (order_below (k + 1) (omega arith))
      (eqb→eq _ _ (others (eqb k 7) _ (no_eqb other) (under _ 15 two_apart k h)))
    where
      others : (a b : Bool) → T (not a) → T (a || b) → T b
      others true b t u = absurd t
      others false b t u = u

  -- With step 3 it is 00 at place 7.
  pub step_three_bare : between_masks box_order M (one o) 3 r 7 ≡ 0
  step_three_bare = on box_order M o 3 r 7 (order_below 7 (lit< tt)) (order_below 8 (lit< tt)) three_apart

  -- With step 0 one mask lies on the state before and after the boxes, and in all rounds.
  pub step_zero_stays : (mask_at M (one o) 0 (boxed r) ≡ mask_at M (one o) 0 (keyed r)) × (mask_at M (one o) 0 (keyed r) ≡ mask M (one o) 0)
  unfolding mask_by
  step_zero_stays = (ap (mask M (one o)) (zero-mul (suc r) ∙ sym (zero-mul r)), ap (mask M (one o)) (zero-mul r))

-- Of other records that is not claimed: at 0, 1, 1, 3 .. 15, where byte 2 has the offset of byte 1, the first two boxes leave 00 with
-- step 1, in every round and whatever the masks are.
abbrev pub unlucky : List ℕ
unlucky = set (one 0) 2 1

pub unlucky_bare : (M : List ℕ) (r : ℕ) → between_masks box_order M unlucky 1 r 0 ≡ 0
unfolding box_order table
unlucky_bare M r = on_any box_order M unlucky 1 r 0 (lit< tt) (lit< tt) refl

unlucky_offsets : Offsets unlucky
unfolding table below
unlucky_offsets = (refl, λ i h. lit≤ (under (λ i. leb (at unlucky i) 15) 16 tt i h))

-- so what record_masked writes shows the xor of two bytes of CIPHER as it is
pub unlucky_recorded : (w b states : List ℕ) → scheduled (length w) ≡ true → length b ≡ 16 → length states ≡ 16 * (5 * rounds_of w + 1) → (r : ℕ) → r < rounds_of w
    → between_recorded box_order (record_masked_of w b published unlucky 1 states).1 (5 * r + 1) 0 ≡ between_bare box_order w b r 0
unlucky_recorded w b states lw lb ls r hr =
    between_recorded_lem box_order order_below published unlucky 1 w b r 0 (lit< tt) published-length states lw lb ls unlucky_offsets tt hr
    ∙ ap (λ (x : ℕ). between_bare box_order w b r 0 ⊕ x) (unlucky_bare published r) ∙ xor_zero _
