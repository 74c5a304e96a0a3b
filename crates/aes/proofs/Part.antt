-- A buffer of n bytes whose first bytes are p, and what lending the next part of it leaves.
-- Assumes nothing.
use mathlib.Core.Path.{◌≡◌, refl, ap, sym, ◌∙◌}
use mathlib.Core.List.{List, [], ◌++◌, append_assoc}
use Prim.Native.Nat.{ℕ, ◌+◌, ◌-◌, ◌≤◌, ◌<◌}
use native.Mathlib.Omega.{arith}
use lib.ListN.{length, get_or, take, drop, length-append, length-drop}
use Rattle.aes.specs.Held.{Holds}
use lib.Seq.{take_at, length-take-le, take_all, get_or-take}

pub holds_none : (n : ℕ) (xs : List ℕ) → length xs ≡ n → Holds n [] xs
holds_none n xs l = record { size = l; head = refl }

pub holds_all : (n : ℕ) (p xs : List ℕ) → Holds n p xs → length p ≡ n → xs ≡ p
holds_all n p xs h l = sym (take_all (length p) xs (omega (arith, h.size))) ∙ h.head

-- what is read below the end of p is p's
pub holds_read : (n : ℕ) (p xs : List ℕ) (i : ℕ) → Holds n p xs → i < length p → get_or xs i 0 ≡ get_or p i 0
holds_read n p xs i h lt = sym (get_or-take (length p) xs i 0 lt) ∙ ap (λ (l : List ℕ). get_or l i 0) h.head

-- what stands in xs once the part from a, of k bytes, has come back as ys
abbrev pub back : List ℕ → ℕ → ℕ → List ℕ → List ℕ
back xs a k ys = take a xs ++ (ys ++ drop k (drop a xs))

-- the size of a buffer, which a part that comes back in its own size leaves
pub record Room (n : ℕ) (xs : List ℕ) : Type 0 where
  pub room : length xs ≡ n

pub back_room : {n : ℕ} {xs ys t : List ℕ} (a k : ℕ) → Room n xs → ys ≡ t → length t ≡ k → a + k ≤ n → Room n (back xs a k ys)
back_room {n} {xs} {ys} {t} a k r same lk le =
    let size : length (take a xs) ≡ a = length-take-le a xs (omega (arith, r.room)) in
    rw same (record { room = simp (length-append, length-drop, size, lk) (omega (arith, r.room)) })

-- the part from a to e, the next after p, is lent and comes back as q
pub lent : (n a e : ℕ) (p q xs ys : List ℕ)
    → Holds n p xs → length p ≡ a → ys ≡ q → length q ≡ e - a → a ≤ e → e ≤ n → Holds n (p ++ q) (back xs a (e - a) ys)
lent n a e p q xs ys h la same lq ae en =
    let room : length xs ≡ n = h.size in
    let hd : take a xs ≡ p = rw la at h.head in
    let size : length (take a xs) ≡ a = length-take-le a xs (omega arith) in
    rw same
    (record {
      size = simp (length-append, length-drop, size, lq) (omega arith);
      head = rw (hd, ← append_assoc) (take_at (p ++ q) (drop (e - a) (drop a xs)) (length (p ++ q)) refl);
    })
