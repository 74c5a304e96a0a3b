-- Uniqueness: whatever the arguments, a call's promise allows one result. Each statement is about the call's own promise, the
-- `Post` that the check reads off its contract.
-- Assumes nothing.
use mathlib.Core.Path.{◌≡◌, sym, ◌∙◌}
use mathlib.Core.List.{List}
use Prim.Native.Nat.{ℕ}
use Rattle.aes.proofs.Outcomes.{told, told_value, told_rounds}
use Rattle.aes.proofs.cipher.decrypt.Reads as decrypt
use Rattle.aes.proofs.cipher.encrypt.Reads as encrypt
use Rattle.aes.proofs.field.inverse.Reads as inverse
use Rattle.aes.proofs.field.logarithm.Reads as logarithm
use Rattle.aes.proofs.field.multiply.Reads as multiply
use Rattle.aes.proofs.field.power.Reads as power
use Rattle.aes.proofs.key.expand_key.Reads as expand-key
use Rattle.aes.proofs.record.record_plain.Reads as record-plain
use Rattle.aes.proofs.reply.reply.Reads as reply
use Rattle.aes.proofs.size.rounds_for.Reads as rounds-for
use Rattle.aes.proofs.state.add.Reads as add
use Rattle.aes.proofs.state.inv_mix_columns.Reads as inv-mix-columns
use Rattle.aes.proofs.state.inv_shift_rows.Reads as inv-shift-rows
use Rattle.aes.proofs.state.mix_columns.Reads as mix-columns
use Rattle.aes.proofs.state.shift_rows.Reads as shift-rows
use Rattle.aes.proofs.tables.entry.Reads as entry
use Rattle.aes.proofs.tables.inv_sbox.Reads as inv-sbox
use Rattle.aes.proofs.tables.logarithms.Reads as logarithms
use Rattle.aes.proofs.tables.powers.Reads as powers
use Rattle.aes.proofs.tables.round_constants.Reads as round-constants
use Rattle.aes.proofs.tables.sbox.Reads as sbox

-- for lifetimes and arguments, and what is then left behind the references, there are no two results
abbrev pub Unique :
    {K : Type 0} {Args Result Exit : K → Type 0} → ((κs : K) → Args κs → Result κs → Exit κs → Type 0) → Type 0
Unique {K} {Args} {Result} {Exit} Post =
    (κs : K) (args : Args κs) (exit : Exit κs) (x y : Result κs) → Post κs args x exit → Post κs args y exit → x ≡ y

pub multiply_unique : Unique multiply.Post
multiply_unique κs args exit x y p q = p ∙ sym q

pub inverse_unique : Unique inverse.Post
inverse_unique κs args exit x y p q = p ∙ sym q

pub power_unique : Unique power.Post
power_unique κs args exit x y p q = told_value x y _ p q

pub logarithm_unique : Unique logarithm.Post
logarithm_unique κs args exit x y p q = told_value x y _ p q

pub powers_unique : Unique powers.Post
powers_unique κs args exit x y p q = p ∙ sym q

pub logarithms_unique : Unique logarithms.Post
logarithms_unique κs args exit x y p q = p ∙ sym q

pub sbox_unique : Unique sbox.Post
sbox_unique κs args exit x y p q = p ∙ sym q

pub inv_sbox_unique : Unique inv-sbox.Post
inv_sbox_unique κs args exit x y p q = p ∙ sym q

pub entry_unique : Unique entry.Post
entry_unique κs args exit x y p q = p ∙ sym q

-- the same for a call that writes a lent buffer: neither two results nor two contents of the buffer
abbrev pub UniqueWriting :
    {K Held : Type 0} {Args Result Exit : K → Type 0} → ((κs : K) → Args κs → Result κs → Exit κs → Type 0) → ((κs : K) → Exit κs → Held) → Type 0
UniqueWriting {K} {Held} {Args} {Result} {Exit} Post buffer =
    (κs : K) (args : Args κs) (e f : Exit κs) (x y : Result κs) → Post κs args x e → Post κs args y f → (x ≡ y) × (buffer κs e ≡ buffer κs f)

pub both : (x y : ℕ) (a b : List ℕ) (z : ℕ × List ℕ) → ◌≡◌ {A = ℕ × List ℕ} (x, a) z → ◌≡◌ {A = ℕ × List ℕ} (y, b) z → (x ≡ y) × (a ≡ b)
both x y a b z p q =
    let e : ◌≡◌ {A = ℕ × List ℕ} (x, a) (y, b) = p ∙ sym q in
    (λ i. (e i).0, λ i. (e i).1)

pub expand_key_unique : UniqueWriting expand-key.Post (λ κs e. e.1.0.now)
expand_key_unique κs args e f x y p q = told x y _ _ _ p q

pub reply_unique : Unique reply.Post
reply_unique κs args exit x y p q = p ∙ sym q

pub rounds_for_unique : Unique rounds-for.Post
rounds_for_unique κs args exit x y p q = told_rounds x y (p.0 ∙ sym q.0) p.1 q.1

pub encrypt_unique : UniqueWriting encrypt.Post (λ κs e. e.1.1.0.now)
encrypt_unique κs args e f x y p q = told x y _ _ _ p q

pub decrypt_unique : UniqueWriting decrypt.Post (λ κs e. e.1.1.0.now)
decrypt_unique κs args e f x y p q = told x y _ _ _ p q

pub record_plain_unique : UniqueWriting record-plain.Post (λ κs e. e.1.1.0.now)
record_plain_unique κs args e f x y p q = told x y _ _ _ p q

pub add_unique : Unique add.Post
add_unique κs args exit x y p q = p ∙ sym q

pub shift_rows_unique : Unique shift-rows.Post
shift_rows_unique κs args exit x y p q = p ∙ sym q

pub mix_columns_unique : Unique mix-columns.Post
mix_columns_unique κs args exit x y p q = p ∙ sym q

pub inv_shift_rows_unique : Unique inv-shift-rows.Post
inv_shift_rows_unique κs args exit x y p q = p ∙ sym q

pub inv_mix_columns_unique : Unique inv-mix-columns.Post
inv_mix_columns_unique κs args exit x y p q = p ∙ sym q

pub round_constants_unique : Unique round-constants.Post
round_constants_unique κs args exit x y p q = p ∙ sym q
