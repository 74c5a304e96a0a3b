-- What a call that its checks let pass is lent, and the checks where one buffer stands for another.
-- Assumes nothing.
use mathlib.Core.Path.{◌≡◌, refl, sym, ap, ◌∙◌}
use mathlib.Core.Bool.{Bool, true, false, cond}
use mathlib.Core.List.{List, [], ◌∷◌, ◌++◌}
use Prim.Native.Nat.{ℕ}
use lib.Dec.{T, eqb, leb, eqb→eq, lit≤}
use lib.ListN.{length}
use Rattle.aes.specs.Reply.{Check, ◌else◌, answer, refusal, scheduled, is_schedule, is_input, is_output, is_mask_table, has_byte_offsets, are_offsets, is_step, is_form}
use Rattle.aes.specs.Byte.{below}
use Rattle.aes.specs.State.{at}
use Rattle.aes.specs.Key.{rounds_of}
use Rattle.aes.proofs.Below.{under}
use Rattle.aes.proofs.Schedule.{full}
use Rattle.aes.proofs.Replies.{AllHold, telling, all_hold, holds_done, is_true}
use Rattle.masks.specs.Mask.{one}
use Rattle.lent.specs.declared.given.Start.{Start}
use Rattle.std.specs.Prelude.{None}
use Rattle.lent.specs.Started.{start_of, record_of}
use Rattle.lent.proofs.Begun.{Low, record_lent, record_one}
use Rattle.masked.specs.Calls.{checks, published_checks, record_checks, one_checks}

-- a check that holds is as none, and so is one that was made before
held : (n : ℕ) (cs ds : List Check) → refusal (cs ++ (true else n) ∷ ds) ≡ refusal (cs ++ ds)
held n [] ds = refl
held n ((b else m) ∷ cs) ds = ap (λ (r : ℕ). cond b r m) (held n cs ds)

twice : (b : Bool) (m n : ℕ) (cs ds : List Check) → refusal ((b else m) ∷ (cs ++ (b else n) ∷ ds)) ≡ refusal ((b else m) ∷ (cs ++ ds))
twice true m n cs ds = held n cs ds
twice false m n cs ds = refl

-- what is checked where no masks are lent, and the input stands for them
pub published-refusal : (w b out v : List ℕ) (d form : ℕ) → refusal (checks w b out b v d form) ≡ refusal (published_checks w b out v d form)
published-refusal w b out v d form =
    ap (λ (r : ℕ). cond (scheduled (length w)) r 2) (twice (eqb (length b) 16) 3 5 (is_output out ∷ []) (has_byte_offsets v ∷ are_offsets v ∷ is_step d ∷ is_form form ∷ []))

-- what a record checks before its own length, where no output is lent and the input stands for it
abbrev pub record_first : List ℕ → List ℕ → List ℕ → List ℕ → ℕ → List Check
record_first schedule input masks offsets step =
    is_schedule schedule ∷ is_input input ∷ is_mask_table masks ∷ has_byte_offsets offsets ∷ are_offsets offsets ∷ is_step step ∷ []

pub record_refusal : (w b M v : List ℕ) (d : ℕ) → refusal (checks w b b M v d 0) ≡ refusal (record_first w b M v d)
record_refusal w b M v d =
    ap (λ (r : ℕ). cond (scheduled (length w)) r 2) (twice (eqb (length b) 16) 3 4 [] (is_mask_table M ∷ has_byte_offsets v ∷ are_offsets v ∷ is_step d ∷ []))

-- checks that are told together, and one more
pub first_fails : (cs ds : List Check) → (refusal cs ≡ 0 → ⊥) → refusal cs ≡ refusal (cs ++ ds)
first_fails [] ds h = absurd (h refl)
first_fails ((true else reply) ∷ cs) ds h = first_fails cs ds h
first_fails ((false else reply) ∷ cs) ds h = refl

pub first_hold : (cs ds : List Check) → AllHold cs → refusal ds ≡ refusal (cs ++ ds)
unfolding AllHold
first_hold [] ds h = refl
first_hold ((true else reply) ∷ cs) ds h = first_hold cs ds h.1
first_hold ((false else reply) ∷ cs) ds h = absurd h.0

-- the offsets that a call has checked
offsets_low : (v : List ℕ) → T (eqb (length v) 16) → T (below (length v) (λ k. leb (at v k) 15)) → Low v
offsets_low v t u =
    let size : length v ≡ 16 = eqb→eq (length v) 16 t in
    record { sixteen = size; low = λ i h. lit≤ (under (λ k. leb (at v k) 15) (length v) u i (rw size h)) }

-- and the lengths
pub record Sizes (w b out M v : List ℕ) : Type 0 where
  pub schedule : scheduled (length w) ≡ true
  pub input : length b ≡ 16
  pub output : length out ≡ 16
  pub masks : length M ≡ 16
  pub offsets : Low v

pub sizes : (w b out M v : List ℕ) (d form : ℕ) {r : ℕ} → r ≡ refusal (checks w b out M v d form) → r ≡ 0 → Sizes w b out M v
unfolding AllHold telling
sizes w b out M v d form told e =
    let h = all_hold (checks w b out M v d form) tt (sym told ∙ e) in
    record {
      schedule = is_true (scheduled (length w)) h.0;
      input = eqb→eq (length b) 16 h.1.0;
      output = eqb→eq (length out) 16 h.1.1.0;
      masks = eqb→eq (length M) 16 h.1.1.1.0;
      offsets = offsets_low v h.1.1.1.1.0 h.1.1.1.1.1.0;
    }

pub record RecordSizes (w b M v states : List ℕ) (size : ℕ) : Type 0 where
  pub schedule : scheduled (length w) ≡ true
  pub input : length b ≡ 16
  pub masks : length M ≡ 16
  pub offsets : Low v
  pub room : length states ≡ size

pub record_sizes : (size : ℕ) (w b M v : List ℕ) (d : ℕ) (states : List ℕ) {r : ℕ} → r ≡ refusal (record_checks size w b M v d states) → r ≡ 0 → RecordSizes w b M v states size
unfolding AllHold telling
record_sizes size w b M v d states told e =
    let h = all_hold (record_checks size w b M v d states) tt (sym told ∙ e) in
    record {
      schedule = is_true (scheduled (length w)) h.0;
      input = eqb→eq (length b) 16 h.1.0;
      masks = eqb→eq (length M) 16 h.1.1.0;
      offsets = offsets_low v h.1.1.1.0 h.1.1.1.1.0;
      room = eqb→eq (length states) size h.1.1.1.1.1.1.0;
    }

-- where one offset is kept
one_sizes : (w b out : List ℕ) (o : ℕ) {r : ℕ} → r ≡ refusal (one_checks w b out o) → r ≡ 0 → (length w ≡ 240) × (length b ≡ 16) × (length out ≡ 16)
unfolding AllHold telling
one_sizes w b out o told e =
    let h = all_hold (one_checks w b out o) tt (sym told ∙ e) in
    (eqb→eq (length w) 240 h.0, eqb→eq (length b) 16 h.1.0, eqb→eq (length out) 16 h.1.1.0)

-- A call that is let pass: what its run is lent, and what the call answers once the run from its start is done.
answered : (cs : List Check) → T (telling cs) → (out : List ℕ) (f : List ℕ → List ℕ) {r : ℕ} {p v x : List ℕ} → r ≡ refusal cs → r ≡ 0 → p ≡ v → x ≡ f p → (0, x) ≡ answer cs out (f v)
answered cs t out f told e start done = (λ i. (0, (done ∙ ap f start) i)) ∙ sym (holds_done out _ cs (all_hold cs t (sym told ∙ e)))

-- its start is the one that is lent
begun : {s : Start} {v : List ℕ} → s ≡ start_of v → Low v → record_of s ≡ v
begun {s} {v} from low = ap record_of from ∙ record_lent v low

-- of one block
module _ (w b out M v : List ℕ) (d form : ℕ) {r : ℕ} (told : r ≡ refusal (checks w b out M v d form)) (e : r ≡ 0) where
  pub block_lent : (scheduled (length w) ≡ true) × (length b ≡ 16) × (length out ≡ 16) × (length M ≡ 16)
  block_lent = let z = sizes w b out M v d form told e in (z.schedule, z.input, z.output, z.masks)

  pub block_answer : {s : Start} → s ≡ start_of v → (f : List ℕ → List ℕ) {x : List ℕ} → x ≡ f (record_of s) → (0, x) ≡ answer (checks w b out M v d form) out (f v)
  unfolding telling
  block_answer from f = answered (checks w b out M v d form) tt out f told e (begun from (sizes w b out M v d form told e).offsets)

-- of a record
module _ (size : ℕ) (w b M v : List ℕ) (d : ℕ) (states : List ℕ) {r : ℕ} (told : r ≡ refusal (record_checks size w b M v d states)) (e : r ≡ 0) where
  pub states_lent : (scheduled (length w) ≡ true) × (length b ≡ 16) × (length states ≡ size) × (length M ≡ 16)
  states_lent = let z = record_sizes size w b M v d states told e in (z.schedule, z.input, z.room, z.masks)

  pub states_answer : {s : Start} → s ≡ start_of v → (f : List ℕ → List ℕ) {x : List ℕ} → x ≡ f (record_of s) → (0, x) ≡ answer (record_checks size w b M v d states) states (f v)
  unfolding telling
  states_answer from f = answered (record_checks size w b M v d states) tt states f told e (begun from (record_sizes size w b M v d states told e).offsets)

-- with one offset
module _ (w b out : List ℕ) (o : ℕ) {r : ℕ} (told : r ≡ refusal (one_checks w b out o)) (e : r ≡ 0) where
  pub one_lent : (scheduled (length w) ≡ true) × (length b ≡ 16) × (length out ≡ 16)
  one_lent = let z = one_sizes w b out o told e in ((full w z.0).0, z.1, z.2)

  pub one-rounds : rounds_of w ≡ 14
  one-rounds = (full w (one_sizes w b out o told e).0).1

  pub one_answer : {s : Start} → s ≡ record { offsets = None; on = o } → (f : List ℕ → List ℕ) {x : List ℕ} → x ≡ f (record_of s) → (0, x) ≡ answer (one_checks w b out o) out (f (one o))
  unfolding telling
  one_answer from f = answered (one_checks w b out o) tt out f told e (ap record_of from ∙ record_one o)
