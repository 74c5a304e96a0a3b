-- The tags of a bank's sixteen places, and what they say of a party.
-- Assumes nothing.
use Rattle.std.specs.Prelude.{Bool, cond, ◌&&◌, List, [], ◌∷◌, ℕ, zero, suc, ◌+◌, ◌*◌, eqb, leb}
use Rattle.aes.specs.Byte.{place}
use Rattle.aes.specs.Reply.{Check, ◌else◌, is_full_schedule}

-- the tag of schedule n of party p; a free place has the tag 0
abbrev pub tag : ℕ → ℕ → ℕ
tag p n = 12 * p + n + 1

-- a tag is one of a party's twelve
abbrev pub own : ℕ → ℕ → Bool
own p t = leb (tag p 0) t && leb t (tag p 11)

-- how many places a party holds
unfoldable pub held : ℕ → List ℕ → ℕ
held p [] = 0
held p (t ∷ tags) = cond (own p t) 1 0 + held p tags

-- the first of the n numbers from i on for which f holds, and i + n where there is none
unfoldable pub first_from : (ℕ → Bool) → ℕ → ℕ → ℕ
first_from f i zero = i
first_from f i (suc n) = cond (f i) i (first_from f (suc i) n)

-- the lowest number that a party does not use
unfoldable pub lowest : ℕ → List ℕ → ℕ
lowest p tags = first_from (λ n. eqb (place (tag p n) tags) 16) 0 12

-- where schedule n of party p stands, and 16 where there is none
unfoldable pub loaded_at : ℕ → ℕ → List ℕ → ℕ
loaded_at p n tags = cond (leb n 11) (place (tag p n) tags) 16

abbrev pub is_party : ℕ → Check
is_party p = leb p 1 else 28

abbrev pub is_loaded : ℕ → ℕ → List ℕ → Check
is_loaded p n tags = leb (loaded_at p n tags) 15 else 27

-- the party holds fewer than twelve
abbrev pub has_number : ℕ → List ℕ → Check
has_number p tags = leb (held p tags) 11 else 25

-- a place is free
abbrev pub has_place : List ℕ → Check
has_place tags = leb (place 0 tags) 15 else 26

abbrev pub load_checks : List ℕ → ℕ → List ℕ → List Check
load_checks tags p schedule = is_party p ∷ is_full_schedule schedule ∷ has_number p tags ∷ has_place tags ∷ []

abbrev pub name_checks : List ℕ → ℕ → ℕ → List Check
name_checks tags p n = is_party p ∷ is_loaded p n tags ∷ []
