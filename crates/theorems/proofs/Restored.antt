-- Descrambling restores every packet that scrambling accepted.
-- Assumes nothing.
use mathlib.Core.Path.{◌≡◌, refl, ap, ap₂, sym, ◌∙◌}
use mathlib.Core.Bool.{Bool, true, false, ◌&&◌, ◌||◌}
use mathlib.Core.List.{List, ◌++◌, append_assoc}
use Prim.Native.Nat.{ℕ, ◌+◌, ◌-◌, ◌*◌, ◌/◌, ◌%◌, ◌≤◌, ◌<◌}
use native.Mathlib.Omega.{arith}
use native.Mathlib.Decide.{dec_lt, ℕ_discrete}
use borrow.Author.Tests.{eq-eqb, ne_eqb}
use lib.Dec.{eqb, leb, lit≤}
use lib.ListN.{length, take, drop, length-set, length-append, length-drop, get_or-append}
use lib.Seq.{ext_get_or, get_or-set_same, get_or-set_other, take_at, drop_at, length-take-le, get_or-take, get_or-drop, get_or-append-add}
use Rattle.aes.specs.State.{at, Bytes}
use Rattle.aes.specs.Cipher.{cipher, inv_cipher}
use Rattle.cbc.specs.Cbc.{cbc_encrypted, cbc_decrypted}
use Rattle.packet.specs.Packet.{pid, scrambling, adaptation, field_right, start, blocks, payload, with_payload, with_bits, parity, schedule_at, starting_block, changed, scrambled, descrambled}
use Rattle.packet.proofs.Splice.{low, set_bits}
use Rattle.theorems.proofs.CbcTrip.{part_byte, cbc_size, cbc_undone}
use Rattle.theorems.proofs.KeyWrap.{sealing}
use Rattle.theorems.proofs.WrapTrip.{Undone}

-- a packet with other bits: byte 3 alone is another
module _ (bits : ℕ) (p : List ℕ) (four : 4 ≤ length p) where
  bits_at_3 : at (with_bits bits p) 3 ≡ bits * 64 + at p 3 % 64
  bits_at_3 = ap (λ (q : List ℕ). at q 3) (sym (set_bits bits p four)) ∙ get_or-set_same p 3 _ 0 (omega (arith, four))

  bits_else : (i : ℕ) → (i ≡ 3 → ⊥) → at (with_bits bits p) i ≡ at p i
  bits_else i n = ap (λ (q : List ℕ). at q i) (sym (set_bits bits p four)) ∙ get_or-set_other p 3 i _ 0 n

  bits_size : length (with_bits bits p) ≡ length p
  bits_size = ap length (sym (set_bits bits p four)) ∙ length-set p 3 _

-- with another part of m bytes at k
abbrev pub spliced : ℕ → ℕ → List ℕ → List ℕ → List ℕ
spliced k m body p = take k p ++ body ++ drop (k + m) p

module _ (k m : ℕ) (body p : List ℕ) (room : k + m ≤ length p) (lb : length body ≡ m) where
  lk : length (take k p) ≡ k
  lk = length-take-le k p (omega arith)

  lkb : length (take k p ++ body) ≡ k + m
  lkb = length-append (take k p) body ∙ ap₂ ◌+◌ lk lb

  spliced_size : length (spliced k m body p) ≡ length p
  spliced_size = length-append (take k p ++ body) (drop (k + m) p) ∙ rw (lkb, length-drop) (omega arith)

  spliced_before : (i : ℕ) → i < k → at (spliced k m body p) i ≡ at p i
  spliced_before i h =
      get_or-append (take k p ++ body) (drop (k + m) p) 0 i (rw lkb (omega arith))
      ∙ get_or-append (take k p) body 0 i (rw lk h) ∙ get_or-take k p i 0 h

  spliced_in : (j : ℕ) → j < m → at (spliced k m body p) (k + j) ≡ at body j
  spliced_in j h =
      get_or-append (take k p ++ body) (drop (k + m) p) 0 (k + j) (rw lkb (omega arith))
      ∙ ap (λ (x : ℕ). at (take k p ++ body) (x + j)) (sym lk) ∙ get_or-append-add (take k p) body j 0

  spliced_behind : (j : ℕ) → at (spliced k m body p) (k + m + j) ≡ at p (k + m + j)
  spliced_behind j =
      ap (λ (x : ℕ). at (spliced k m body p) (x + j)) (sym lkb) ∙ get_or-append-add (take k p ++ body) (drop (k + m) p) j 0
      ∙ get_or-drop (k + m) p j 0

  -- the part itself
  spliced_part : take m (drop k (spliced k m body p)) ≡ body
  spliced_part =
      ap (λ (l : List ℕ). take m (drop k l)) (append_assoc (take k p) body (drop (k + m) p))
      ∙ ap (take m) (drop_at (take k p) (body ++ drop (k + m) p) k lk) ∙ take_at body (drop (k + m) p) m lb

-- a part of a list that agrees with another from k on
part_same : (k m : ℕ) (p q : List ℕ) → length p ≡ length q → k + m ≤ length p → ((i : ℕ) → k ≤ i → at p i ≡ at q i) → take m (drop k p) ≡ take m (drop k q)
part_same k m p q l room h =
    let lp : length (take m (drop k p)) ≡ m = length-take-le m (drop k p) (rw length-drop (omega arith)) in
    let lq : length (take m (drop k q)) ≡ m = length-take-le m (drop k q) (rw length-drop (omega arith)) in
    ext_get_or 0 (take m (drop k p)) (take m (drop k q)) (lp ∙ sym lq)
    (λ j lt.
    let lm : j < m = rw lp at lt in
    get_or-take m (drop k p) j 0 lm ∙ get_or-drop k p j 0 ∙ h (k + j) (omega arith) ∙ sym (get_or-take m (drop k q) j 0 lm ∙ get_or-drop k q j 0))

-- back and forth: with a part and bits of its own, and then with the first ones again
module _ (k m b : ℕ) (body p : List ℕ) (l : length p ≡ 188) (low : 4 ≤ k) (room : k + m ≤ 188) (lb : length body ≡ m) (clear : at p 3 < 64) where
  abbrev q : List ℕ
  q = with_bits b (spliced k m body p)

  room_p : k + m ≤ length p
  room_p = rw l room

  size_s : length (spliced k m body p) ≡ 188
  size_s = spliced_size k m body p room_p lb ∙ l

  four : 4 ≤ length (spliced k m body p)
  four = rw size_s (lit≤ tt)

  pub q_size : length q ≡ 188
  q_size = bits_size b (spliced k m body p) four ∙ size_s

  pub q_3 : at q 3 ≡ b * 64 + at p 3
  q_3 = bits_at_3 b (spliced k m body p) four ∙ rw (spliced_before k m body p room_p lb 3 (omega arith)) (omega (arith, clear))

  pub q_before : (i : ℕ) → i < k → (i ≡ 3 → ⊥) → at q i ≡ at p i
  q_before i lt n = bits_else b (spliced k m body p) four i n ∙ spliced_before k m body p room_p lb i lt

  pub q_part : take m (drop k q) ≡ body
  q_part =
      part_same k m q (spliced k m body p) (q_size ∙ sym size_s) (rw q_size room) (λ i le. bits_else b (spliced k m body p) four i (λ e. absurd (omega arith)))
      ∙ spliced_part k m body p room_p lb

  pub q_back : with_bits 0 (spliced k m (take m (drop k p)) q) ≡ p
  q_back =
      let lp : length (take m (drop k p)) ≡ m = length-take-le m (drop k p) (rw length-drop (omega (arith, l))) in
      let rq : k + m ≤ length q = rw q_size room in
      let w : List ℕ = spliced k m (take m (drop k p)) q in
      let lw : length w ≡ 188 = spliced_size k m (take m (drop k p)) q rq lp ∙ q_size in
      let f : 4 ≤ length w = rw lw (lit≤ tt) in
      ext_get_or 0 (with_bits 0 w) p (bits_size 0 w f ∙ lw ∙ sym l) (λ i lt.
      elim (ℕ_discrete i 3) [
        | yes e ↦
            rw e
            (bits_at_3 0 w f ∙ ap (λ (x : ℕ). 0 * 64 + x % 64) (spliced_before k m (take m (drop k p)) q rq lp 3 (omega arith) ∙ q_3) ∙ omega (arith, clear))
        | no n ↦
            bits_else 0 w f i n
            ∙ elim (dec_lt i k) [
              | yes h ↦ spliced_before k m (take m (drop k p)) q rq lp i h ∙ q_before i h n
              | no h ↦
                  elim (dec_lt i (k + m)) [
                    | yes g ↦
                        let e : k + (i - k) ≡ i = omega arith in
                        rw e at (spliced_in k m (take m (drop k p)) q rq lp (i - k) (omega arith) ∙ get_or-take m (drop k p) (i - k) 0 (omega arith) ∙ get_or-drop k p (i - k) 0)
                    | no g ↦
                        let e : k + m + (i - (k + m)) ≡ i = omega arith in
                        rw e at (spliced_behind k m (take m (drop k p)) q rq lp (i - (k + m)))
                        ∙ bits_else b (spliced k m body p) four i n ∙ (rw e at (spliced_behind k m body p room_p lb (i - (k + m))))
                  ]
            ]
      ])

start-one : (p : List ℕ) → adaptation p ≡ 1 → start p ≡ 4
unfolding start
start-one p e = rw (eq-eqb (adaptation p) 1 e)

start_field : (p : List ℕ) → (adaptation p ≡ 1 → ⊥) → start p ≡ 5 + at p 4
unfolding start
start_field p n = rw (ne_eqb (adaptation p) 1 n)

-- a packet of pipe k that scrambling takes and changes
module _ (pipes p : List ℕ) (k : ℕ) (odd : Bool) (l : length p ≡ 188) (hp : (i : ℕ) → at p i < 256) (lp : length pipes ≡ 3486) (hpipes : (i : ℕ) → at pipes i < 256)
    (seven : k < 7) (clear : scrambling p ≡ 0) (long : start p ≤ 172) where
  bare : at p 3 < 64
  bare = omega (arith, clear)

  abbrev pub E : List ℕ → List ℕ
  E = cipher 14 (schedule_at pipes k odd)

  abbrev pub body : List ℕ
  body = cbc_encrypted E (starting_block pipes k) (payload p)

  bytes_part : (a m : ℕ) → a + m ≤ 3486 → Bytes m (take m (drop a pipes))
  bytes_part a m room =
      record { size = length-take-le m (drop a pipes) (rw (length-drop, lp) (omega arith)); byte = part_byte m a pipes hpipes }

  schedule_bytes : (o : Bool) → Bytes 240 (schedule_at pipes k o)
  schedule_bytes true = bytes_part (498 * k + 242) 240 (omega arith)
  schedule_bytes false = bytes_part (498 * k + 2) 240 (omega arith)

  room : start p + 16 * blocks p ≤ 188
  room = omega (arith, long)

  payload_size : length (payload p) ≡ 16 * blocks p
  payload_size = length-take-le (16 * blocks p) (drop (start p) p) (rw (length-drop, l) (omega (arith, room)))

  book : Undone E (inv_cipher 14 (schedule_at pipes k odd))
  book = sealing (schedule_bytes odd)

  block_start : Bytes 16 (starting_block pipes k)
  block_start = bytes_part (498 * k + 482) 16 (omega arith)

  pub body_size : length body ≡ 16 * blocks p
  body_size = cbc_size book (starting_block pipes k) (payload p) (blocks p) payload_size block_start (part_byte (16 * blocks p) (start p) p hp)

  abbrev pub sent : List ℕ
  sent = with_bits (parity odd) (spliced (start p) (16 * blocks p) body p)

  pub sent_3 : at sent 3 ≡ parity odd * 64 + at p 3
  sent_3 = q_3 (start p) (16 * blocks p) (parity odd) body p l (low p) room body_size bare

  pub sent_size : length sent ≡ 188
  sent_size = q_size (start p) (16 * blocks p) (parity odd) body p l (low p) room body_size bare

  pub sent_code : adaptation sent ≡ adaptation p
  sent_code = rw sent_3 (let b = bare in by_case odd)
    where
      by_case : (o : Bool) → (parity o * 64 + at p 3) / 16 % 4 ≡ at p 3 / 16 % 4
      by_case true = omega (arith, bare)
      by_case false = omega (arith, bare)

  pub sent_bits : scrambling sent ≡ parity odd
  sent_bits = rw sent_3 (by_case odd)
    where
      by_case : (o : Bool) → (parity o * 64 + at p 3) / 64 ≡ parity o
      by_case true = omega (arith, bare)
      by_case false = omega (arith, bare)

  pub before-start : (i : ℕ) → i < start p → (i ≡ 3 → ⊥) → at sent i ≡ at p i
  before-start = q_before (start p) (16 * blocks p) (parity odd) body p l (low p) room body_size bare

  pub sent_pid : pid sent ≡ pid p
  sent_pid = ap₂ (λ (a b : ℕ). a % 32 * 256 + b) (before-start 1 (omega (arith, (low p))) (λ e. absurd (omega arith))) (before-start 2 (omega (arith, (low p))) (λ e. absurd (omega arith)))

  pub sent_start : start sent ≡ start p
  sent_start =
      elim (ℕ_discrete (adaptation p) 1) [
        | yes e ↦ start-one sent (sent_code ∙ e) ∙ sym (start-one p e)
        | no n ↦
            let g : start p ≡ 5 + at p 4 = start_field p n in
            let f : at sent 4 ≡ at p 4 = before-start 4 (omega (arith, g)) (λ e. absurd (omega arith)) in
            start_field sent (λ e. n (sym sent_code ∙ e)) ∙ ap (λ (x : ℕ). 5 + x) f ∙ sym g
      ]

  sent_parity : eqb (scrambling sent) 3 ≡ odd
  sent_parity = rw sent_bits (by_case odd)
    where
      by_case : (o : Bool) → eqb (parity o) 3 ≡ o
      by_case true = refl
      by_case false = refl

  sent_payload : payload sent ≡ body
  sent_payload =
      ap (λ (a : ℕ). take (16 * ((188 - a) / 16)) (drop a sent)) sent_start
      ∙ q_part (start p) (16 * blocks p) (parity odd) body p l (low p) room body_size bare

  pub sent_field : field_right sent ≡ field_right p
  sent_field =
      elim (ℕ_discrete (adaptation p) 1) [
        | yes e ↦ rw (eq-eqb (adaptation sent) 1 (sent_code ∙ e), eq-eqb (adaptation p) 1 e)
        | no n ↦
            let g : start p ≡ 5 + at p 4 = start_field p n in
            let f : at sent 4 ≡ at p 4 = before-start 4 (omega (arith, g)) (λ e. absurd (omega arith)) in
            ap₂ (λ (c x : ℕ). eqb c 1 || (eqb c 2 && eqb x 183) || (eqb c 3 && leb x 182)) sent_code f
      ]

  pub sent_is : scrambled pipes k odd p ≡ sent
  unfolding changed with_payload
  sent_is = refl

  pub restored : descrambled pipes k (scrambled pipes k odd p) ≡ p
  unfolding changed with_payload
  restored =
      let D : List ℕ → List ℕ = inv_cipher 14 (schedule_at pipes k odd) in
      let e : cbc_decrypted (inv_cipher 14 (schedule_at pipes k (eqb (scrambling sent) 3))) (starting_block pipes k) (payload sent) ≡ payload p =
      ap₂ (λ (o : Bool) (c : List ℕ). cbc_decrypted (inv_cipher 14 (schedule_at pipes k o)) (starting_block pipes k) c) sent_parity sent_payload
      ∙ cbc_undone book (starting_block pipes k) (payload p) (blocks p) payload_size block_start (part_byte (16 * blocks p) (start p) p hp) in
      ap₂ (λ (a : ℕ) (c : List ℕ). with_bits 0 (spliced a (16 * ((188 - a) / 16)) c sent)) sent_start e
      ∙ q_back (start p) (16 * blocks p) (parity odd) body p l (low p) room body_size bare
