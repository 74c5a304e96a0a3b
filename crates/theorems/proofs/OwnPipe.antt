-- Other pipes play no part: two lists that have the same PIDs, and the same 498 bytes at a packet's own pipe, give one outcome.
-- Assumes nothing.
use mathlib.Core.Path.{◌≡◌, refl, sym, ap, ap₂, ◌∙◌}
use mathlib.Core.Bool.{Bool, true, false, cond, not, ◌&&◌, ◌||◌}
use mathlib.Core.List.{List, [], ◌∷◌}
use Prim.Native.Nat.{ℕ, zero, suc, ◌+◌, ◌-◌, ◌*◌, ◌≤◌, ◌<◌}
use native.Mathlib.Omega.{arith}
use lib.Dec.{eqb, leb}
use lib.ListN.{length, take, drop}
use lib.Seq.{drop-drop, take-nil, take-take}
use Rattle.aes.specs.Byte.{below, place}
use Rattle.aes.specs.Reply.{◌else◌, answer, are_packets, is_synced}
use Rattle.aes.proofs.Listed.{table_same}
use Rattle.packet.specs.Packet.{pid, scrambling, field_right, payload, with_payload, with_bits, long, parity, pid_at, schedule_at, starting_block, pipe_of, changed}
use Rattle.aes.specs.Cipher.{cipher, inv_cipher}
use Rattle.cbc.specs.Cbc.{cbc_encrypted, cbc_decrypted}
use Rattle.packet.specs.Pid.{assignable}
use Rattle.packet.specs.Calls.{are_pipes, scramble_of, descramble_of}

-- a part of a part
drop-take : (c n : ℕ) (xs : List ℕ) → drop c (take n xs) ≡ take (n - c) (drop c xs)
drop-take zero n xs = let e : n ≡ n - 0 = omega arith in ap (λ (k : ℕ). take k xs) e
drop-take (suc c) zero xs = let e : 0 ≡ 0 - suc c = omega arith in ap (λ (k : ℕ). take k (drop (suc c) xs)) e
drop-take (suc c) (suc n) [] = sym (take-nil (suc n - suc c))
drop-take (suc c) (suc n) (x ∷ xs) = let e : n - c ≡ suc n - suc c = omega arith in drop-take c n xs ∙ ap (λ (k : ℕ). take k (drop c xs)) e

part_of : (m c n a : ℕ) (xs : List ℕ) → c + m ≤ n → take m (drop c (take n (drop a xs))) ≡ take m (drop (a + c) xs)
part_of m c n a xs h =
    ap (take m) (drop-take c n (drop a xs)) ∙ take-take m (n - c) (drop c (drop a xs)) (omega arith) ∙ ap (take m) (drop-drop c a xs)

below_same : (p q : ℕ → Bool) (n : ℕ) → ((k : ℕ) → k < n → p k ≡ q k) → below n p ≡ below n q
unfolding below
below_same p q zero h = refl
below_same p q (suc n) h = ap₂ ◌&&◌ (h n (omega arith)) (below_same p q n (λ k lt. h k (omega arith)))

module _ (p out pipes pipes' : List ℕ) (same : length pipes ≡ length pipes') (pids : (k : ℕ) → k < 7 → pid_at pipes k ≡ pid_at pipes' k)
    (own : take 498 (drop (498 * pipe_of pipes p) pipes) ≡ take 498 (drop (498 * pipe_of pipes p) pipes')) where
  abbrev j : ℕ
  j = pipe_of pipes p

  pipe_same : pipe_of pipes p ≡ pipe_of pipes' p
  unfolding pipe_of
  pipe_same = ap (place (pid p)) (table_same (pid_at pipes) (pid_at pipes') 7 pids)

  list_same : are_pipes pipes ≡ are_pipes pipes'
  list_same =
      ap (λ (b : Bool). b else 22)
      (ap₂ ◌&&◌ (ap₂ ◌&&◌ (ap (λ (n : ℕ). eqb n 3486) same) (below_same (λ k. assignable (pid_at pipes k)) (λ k. assignable (pid_at pipes' k)) 7 (λ k lt. ap assignable (pids k lt))))
      (below_same (λ k. below k (λ i. not (eqb (pid_at pipes i) (pid_at pipes k)))) (λ k. below k (λ i. not (eqb (pid_at pipes' i) (pid_at pipes' k)))) 7
      (λ k lt.
      below_same (λ i. not (eqb (pid_at pipes i) (pid_at pipes k))) (λ i. not (eqb (pid_at pipes' i) (pid_at pipes' k))) k
      (λ i li. ap₂ (λ (x y : ℕ). not (eqb x y)) (pids i (omega arith)) (pids k lt)))))

  schedule_same : (odd : Bool) → schedule_at pipes j odd ≡ schedule_at pipes' j odd
  schedule_same true = sym (part_of 240 242 498 (498 * j) pipes (omega arith)) ∙ ap (λ (l : List ℕ). take 240 (drop 242 l)) own ∙ part_of 240 242 498 (498 * j) pipes' (omega arith)
  schedule_same false = sym (part_of 240 2 498 (498 * j) pipes (omega arith)) ∙ ap (λ (l : List ℕ). take 240 (drop 2 l)) own ∙ part_of 240 2 498 (498 * j) pipes' (omega arith)

  start_same : starting_block pipes j ≡ starting_block pipes' j
  start_same = sym (part_of 16 482 498 (498 * j) pipes (omega arith)) ∙ ap (λ (l : List ℕ). take 16 (drop 482 l)) own ∙ part_of 16 482 498 (498 * j) pipes' (omega arith)

  changed_same : (back : Bool) (bits : ℕ) (odd : Bool) → changed back bits odd pipes (pipe_of pipes p) p ≡ changed back bits odd pipes' (pipe_of pipes' p) p
  unfolding changed
  changed_same back bits odd =
      (λ i. with_bits bits (with_payload (cond back (cbc_decrypted (inv_cipher 14 (schedule_same odd i)) (start_same i) (payload p)) (cbc_encrypted (cipher 14 (schedule_same odd i)) (start_same i) (payload p))) p))
      ∙ ap (λ (k : ℕ). changed back bits odd pipes' k p) pipe_same

  pub own-scrambled : (odd : Bool) → scramble_of p out pipes odd ≡ scramble_of p out pipes' odd
  own-scrambled odd =
      λ i. answer (are_packets p out ∷ is_synced p ∷ list_same i ∷ (not (leb (pipe_same i) 6) || field_right p else 21) ∷ (not (leb (pipe_same i) 6) || eqb (scrambling p) 0 else 23) ∷ []) out
      (cond (leb (pipe_same i) 6 && long p) (changed_same false (parity odd) odd i) p)

  pub own-descrambled : descramble_of p out pipes ≡ descramble_of p out pipes'
  own-descrambled =
      λ i. answer (are_packets p out ∷ is_synced p ∷ list_same i ∷ (not (leb (pipe_same i) 6) || field_right p else 21) ∷ (not (leb (pipe_same i) 6) || (eqb (scrambling p) 0 || (leb 2 (scrambling p) && long p)) else 23) ∷ []) out
      (cond (leb (pipe_same i) 6 && not (eqb (scrambling p) 0)) (changed_same true 0 (eqb (scrambling p) 3) i) p)
