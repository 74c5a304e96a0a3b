-- Uniqueness: whatever the arguments, a promise allows one result, or one content of the lent place.
-- Assumes nothing.
use mathlib.Core.Path.{◌≡◌, refl, sym, ◌∙◌}
use mathlib.Core.List.{List}
use Prim.Native.Nat.{ℕ}
use Rattle.aes.proofs.Outcomes.{told, told_value_beside}
use Rattle.aes.proofs.Unique.{Unique, UniqueWriting}
use Rattle.masks.specs.declared.label.Label.{Label}
use Rattle.masks.specs.declared.label.Offsets.{Offsets}
use Rattle.masks.proofs.answers.answers.Reads as answers
use Rattle.masks.proofs.boxes.made.Reads as made
use Rattle.masks.proofs.boxes.made_inverse.Reads as made-inverse
use Rattle.masks.proofs.constants.first_covers.Reads as first-covers
use Rattle.masks.proofs.constants.made.Reads as constants-made
use Rattle.masks.proofs.constants.mask.Reads as mask
use Rattle.masks.proofs.constants.corrections_of.Reads as corrections-of
use Rattle.masks.proofs.constants.of_covers.Reads as of-covers
use Rattle.masks.proofs.constants.published.Reads as published
use Rattle.masks.proofs.constants.twice.Reads as twice
use Rattle.masks.proofs.label.Label.make.Reads as make
use Rattle.masks.proofs.label.Label.next.Reads as next
use Rattle.masks.proofs.label.Label.read.Reads as read
use Rattle.masks.proofs.label.Offsets.covers.Reads as covers
use Rattle.masks.proofs.label.Offsets.make.Reads as offsets-make
use Rattle.masks.proofs.label.Offsets.of_zero.Reads as of_zero
use Rattle.masks.proofs.label.Offsets.places.Reads as places
use Rattle.masks.proofs.places.first_places.Reads as first-places
use Rattle.masks.proofs.sheet.read_sheet.Reads as read-sheet
use Rattle.masks.proofs.sheet.write_sheet.Reads as write-sheet
use Rattle.masks.proofs.step.taken.Reads as step-taken

one_label : (x y : Label) (z : ℕ) → x.0 ≡ z → y.0 ≡ z → x ≡ y
one_label x y z p q = let e : x.0 ≡ y.0 = p ∙ sym q in λ i. record { 0 = e i }

pub label_make_unique : Unique make.Post
label_make_unique κs args exit x y p q = one_label x y _ p q

pub label_next_unique : Unique next.Post
label_next_unique κs args exit x y p q = one_label x y _ p.0 q.0

pub label_read_unique : Unique read.Post
label_read_unique κs args exit x y p q = p ∙ sym q

same_offsets : (x y : Offsets) (z : List ℕ) → x.0 ≡ z → y.0 ≡ z → x ≡ y
same_offsets x y z p q = let e : x.0 ≡ y.0 = p ∙ sym q in λ i. record { 0 = e i }

pub offsets_make_unique : Unique offsets-make.Post
offsets_make_unique κs args exit x y p q = same_offsets x y _ p q

pub offsets_of_zero_unique : Unique of_zero.Post
offsets_of_zero_unique κs args exit x y p q = same_offsets x y _ p q

pub answers_unique : Unique answers.Post
answers_unique κs args exit x y p q = p ∙ sym q

pub published_unique : Unique published.Post
published_unique κs args exit x y p q = p ∙ sym q

pub twice_unique : Unique twice.Post
twice_unique κs args exit x y p q = p ∙ sym q

pub mask_unique : Unique mask.Post
mask_unique κs args exit x y p q = p ∙ sym q

pub first_places_unique : Unique first-places.Post
first_places_unique κs args exit x y p q = p ∙ sym q

pub offsets_places_unique : UniqueWriting places.Post (λ κs e. e.1.0.now)
offsets_places_unique κs args e f x y p q = (refl, p ∙ sym q)

pub first_covers_unique : UniqueWriting first-covers.Post (λ κs e. e.1.0.now)
first_covers_unique κs args e f x y p q = (refl, p ∙ sym q)

pub offsets_covers_unique : UniqueWriting covers.Post (λ κs e. e.1.1.0.now)
offsets_covers_unique κs args e f x y p q = (refl, p ∙ sym q)

pub of_covers_unique : UniqueWriting of-covers.Post (λ κs e. e.1.1.0.now)
of_covers_unique κs args e f x y p q = (refl, p ∙ sym q)

pub corrections_of_unique : UniqueWriting {Held = List ℕ × List ℕ} corrections-of.Post (λ κs e. (e.1.0.now, e.1.1.0.now))
corrections_of_unique κs args e f x y p q = (refl, λ i. ((p.0 ∙ sym q.0) i, (p.1 ∙ sym q.1) i))

pub constants_made_unique : UniqueWriting constants-made.Post (λ κs e. e.1.1.0.now)
constants_made_unique κs args e f x y p q = (refl, p ∙ sym q)

pub made_inverse_unique : UniqueWriting made-inverse.Post (λ κs e. e.1.1.0.now)
made_inverse_unique κs args e f x y p q = (refl, p ∙ sym q)

pub made_unique : UniqueWriting made.Post (λ κs e. e.1.1.0.now)
made_unique κs args e f x y p q = (refl, p ∙ sym q)

pub read_sheet_unique : UniqueWriting read-sheet.Post (λ κs e. e.1.0.now)
read_sheet_unique κs args e f x y p q = told_value_beside x y _ _ _ p q

pub write_sheet_unique : UniqueWriting write-sheet.Post (λ κs e. e.1.1.0.now)
write_sheet_unique κs args e f x y p q = told x y _ _ _ p q

pub taken_unique : Unique step-taken.Post
taken_unique κs args exit x y p q = p ∙ sym q
