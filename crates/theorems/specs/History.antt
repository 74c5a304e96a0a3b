-- Histories of a bank: calls of its parties, one after the other; what a party is told in them, and what it knows by that.
-- Assumes nothing.
use Rattle.std.specs.Prelude.{Bool, cond, List, [], ◌∷◌, ℕ, eqb, leb}
use Rattle.bank.specs.declared.keys.Bank.{Bank}
use Rattle.bank.specs.Places.{loaded_at}
use Rattle.bank.specs.Calls.{empty_bank, schedule_in, load_of, drop_of, run_of}

-- each with its party first; then a schedule, or a number, and of a run what it is lent
pub data Call : Type 0 where
  load : ℕ → List ℕ → Call
  run : ℕ → ℕ → List ℕ → List ℕ → ℕ → Call
  drop : ℕ → ℕ → Call

-- whose call it is
unfoldable pub caller : Call → ℕ
caller (load p schedule) = p
caller (run p n input output offset) = p
caller (drop p n) = p

-- what a call is told: its reply, its number, and what the lent output holds then
pub record Told : Type 0 where
  pub reply : ℕ
  pub number : ℕ
  pub block : List ℕ

unfoldable pub told : Bank → Call → Told
told b (load p schedule) = record { reply = (load_of b p schedule).0; number = (load_of b p schedule).1.0; block = [] }
told b (run p n input output offset) =
    let o = run_of b p n input output offset in
    record { reply = o.0; number = 0; block = o.1 }
told b (drop p n) = record { reply = (drop_of b p n).0; number = (drop_of b p n).1.0; block = [] }

-- the bank that a call leaves, and a history
unfoldable pub next : Bank → Call → Bank
next b (load p schedule) = (load_of b p schedule).1.1
next b (run p n input output offset) = b
next b (drop p n) = (drop_of b p n).1.1

unfoldable pub after : Bank → List Call → Bank
after b [] = b
after b (c ∷ h) = after (next b c) h

-- the banks that calls have made
abbrev pub made : List Call → Bank
made h = after empty_bank h

-- of party p in a history: its calls, what it is told at each, and whether that is 26
unfoldable pub calls : ℕ → List Call → List Call
calls p [] = []
calls p (c ∷ h) = cond (eqb (caller c) p) (c ∷ calls p h) (calls p h)

unfoldable pub heard : ℕ → Bank → List Call → List Told
heard p b [] = []
heard p b (c ∷ h) = cond (eqb (caller c) p) (told b c ∷ heard p (next b c) h) (heard p (next b c) h)

unfoldable pub full : ℕ → Bank → List Call → List Bool
full p b [] = []
full p b (c ∷ h) = cond (eqb (caller c) p) (eqb (told b c).reply 26 ∷ full p (next b c) h) (full p (next b c) h)

-- what stands under a number
pub data Entry : Type 0 where
  nothing : Entry
  loaded : List ℕ → Entry

-- what stands under each number of party p in a bank
abbrev pub entry_at : Bank → ℕ → Entry
entry_at b k = cond (leb k 15) (loaded (schedule_in b k)) nothing

unfoldable pub seen : ℕ → Bank → ℕ → Entry
seen p b n = entry_at b (loaded_at p n b.tags)

-- the same as a party keeps account of it, by its own calls and what it is told: what it loaded, and did not drop
unfoldable pub put : (ℕ → Entry) → ℕ → Entry → ℕ → Entry
put v n x m = cond (eqb m n) x (v m)

unfoldable pub noted : (ℕ → Entry) → Call → Told → ℕ → Entry
noted v (load p schedule) t = cond (eqb t.reply 0) (put v t.number (loaded schedule)) v
noted v (run p n input output offset) t = v
noted v (drop p n) t = cond (eqb t.reply 0) (put v n nothing) v

unfoldable pub account : (ℕ → Entry) → List Call → List Told → ℕ → Entry
account v [] ts = v
account v (c ∷ cs) [] = v
account v (c ∷ cs) (t ∷ ts) = account (noted v c t) cs ts
