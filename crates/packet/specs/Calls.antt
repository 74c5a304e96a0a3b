-- What both calls answer: their reply, and what the lent packet holds then.
-- Assumes nothing.
use Rattle.std.specs.Prelude.{Bool, true, false, cond, not, ◌&&◌, ◌||◌, List, [], ◌∷◌, ◌++◌, ℕ, eqb, leb, length}
use Rattle.aes.specs.Byte.{below}
use Rattle.aes.specs.Reply.{Check, ◌else◌, answer, are_packets, is_synced}
use Rattle.packet.specs.Packet.{scrambling, field_right, long, pid_at, pipe_of, is_listed, scrambled, descrambled}
use Rattle.packet.specs.Pid.{assignable}

-- seven pipes, each PID one that may be assigned, and none twice
abbrev pub are_pipes : List ℕ → Check
are_pipes pipes =
    eqb (length pipes) 3486 && below 7 (λ k. assignable (pid_at pipes k)) && below 7 (λ k. below k (λ j. not (eqb (pid_at pipes j) (pid_at pipes k)))) else 22

-- for a listed PID only: an adaptation field that is right, and scrambling bits that can be scrambled over, or descrambled
abbrev pub has_field : List ℕ → List ℕ → Check
has_field pipes p = not (is_listed pipes p) || field_right p else 21

abbrev pub is_clear : List ℕ → List ℕ → Check
is_clear pipes p = not (is_listed pipes p) || eqb (scrambling p) 0 else 23

abbrev pub can_descramble : List ℕ → List ℕ → Check
can_descramble pipes p = not (is_listed pipes p) || (eqb (scrambling p) 0 || (leb 2 (scrambling p) && long p)) else 23

-- the checks that both calls have, and then those for a listed PID, of descrambling where back is true and else of scrambling
abbrev pub first_checks : List ℕ → List ℕ → List ℕ → List Check
first_checks p out pipes = are_packets p out ∷ is_synced p ∷ are_pipes pipes ∷ []

abbrev pub later_checks : Bool → List ℕ → List ℕ → List Check
later_checks true pipes p = has_field pipes p ∷ can_descramble pipes p ∷ []
later_checks false pipes p = has_field pipes p ∷ is_clear pipes p ∷ []

-- a packet of a listed PID is descrambled where its bits are not 00, or scrambled where its payload is long enough, and any other copied
abbrev pub written : Bool → List ℕ → Bool → List ℕ → List ℕ
written true pipes odd p = cond (is_listed pipes p && not (eqb (scrambling p) 0)) (descrambled pipes (pipe_of pipes p) p) p
written false pipes odd p = cond (is_listed pipes p && long p) (scrambled pipes (pipe_of pipes p) odd p) p

-- what is answered past the first checks, and by a whole call
abbrev pub answered_of : Bool → List ℕ → List ℕ → List ℕ → Bool → ℕ × List ℕ
answered_of back p out pipes odd = answer (later_checks back pipes p) out (written back pipes odd p)

abbrev pub call_of : Bool → List ℕ → List ℕ → List ℕ → Bool → ℕ × List ℕ
call_of back p out pipes odd = answer (first_checks p out pipes ++ later_checks back pipes p) out (written back pipes odd p)

abbrev pub scramble_of : List ℕ → List ℕ → List ℕ → Bool → ℕ × List ℕ
scramble_of p out pipes odd = call_of false p out pipes odd

abbrev pub descramble_of : List ℕ → List ℕ → List ℕ → ℕ × List ℕ
descramble_of p out pipes = call_of true p out pipes false
