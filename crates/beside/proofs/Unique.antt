-- Uniqueness: whatever the arguments, a call's promise allows one result, or one reply and one content of the lent buffer.
-- Assumes nothing.
use mathlib.Core.Path.{◌≡◌, refl, sym, ap, ◌∙◌}
use Prim.Native.Nat.{ℕ, zero, suc}
use Rattle.aes.proofs.Outcomes.{told, told_value}
use Rattle.aes.proofs.Unique.{Unique, UniqueWriting}
use Rattle.beside.specs.declared.host.Sorted.{Sorted}
use Rattle.beside.specs.declared.host.Sorted.TheVariants.{GoOn, CallerFault, DataFault}
use Rattle.beside.specs.declared.lines.Summary.{Summary}
use Rattle.beside.specs.Host.{sorted_number}
use Rattle.beside.proofs.count.mask_count.Reads as mask-count
use Rattle.beside.proofs.fit.fitness.Reads as fitness
use Rattle.beside.proofs.host.sort_reply.Reads as sort-reply
use Rattle.beside.proofs.inversion.masked_inverse.Reads as masked-inverse
use Rattle.beside.proofs.lines.report.Reads as report
use Rattle.beside.proofs.lines.triples.Reads as triples
use Rattle.beside.proofs.stored.convert.Reads as convert

pub fitness_unique : Unique fitness.Post
fitness_unique κs args exit x y p q = told_value x y _ p q

-- each sort has its own number
abbrev sort_of : ℕ → Sorted
sort_of zero = GoOn
sort_of (suc zero) = CallerFault
sort_of (suc (suc n)) = DataFault

sort_number : (s : Sorted) → sort_of (sorted_number s) ≡ s
sort_number GoOn = refl
sort_number CallerFault = refl
sort_number DataFault = refl

pub sort_reply_unique : Unique sort-reply.Post
sort_reply_unique κs args exit x y p q = sym (sort_number x) ∙ ap sort_of (p ∙ sym q) ∙ sort_number y

pub masked_inverse_unique : Unique masked-inverse.Post
masked_inverse_unique κs args exit x y p q = p ∙ sym q

pub convert_unique : UniqueWriting convert.Post (λ κs e. e.1.0.now)
convert_unique κs args e f x y p q = told x y _ _ _ p q

pub mask_count_unique : Unique mask-count.Post
mask_count_unique κs args exit x y p q = told_value x y _ p q

pub triples_unique : Unique triples.Post
triples_unique κs args exit x y p q = p ∙ sym q

summary : (x y : Summary) → ◌≡◌ {A = ℕ × ℕ × ℕ} (x.even, x.lowest, x.highest) (y.even, y.lowest, y.highest) → x ≡ y
summary x y e i = record { even = (e i).0; lowest = (e i).1; highest = (e i).2 }

pub report_unique : UniqueWriting report.Post (λ κs e. e.1.0.now)
report_unique κs args e f x y p q = (summary x y (p.1 ∙ sym q.1), p.0 ∙ sym q.0)
