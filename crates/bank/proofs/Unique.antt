-- Uniqueness: whatever the bank and the arguments, a call's promise allows one answer, one bank that is handed back, and one content of the
-- lent output.
-- Assumes nothing.
use mathlib.Core.Path.{◌≡◌, sym, ◌∙◌}
use Prim.Native.Nat.{ℕ}
use Rattle.aes.proofs.Outcomes.{told}
use Rattle.aes.proofs.Unique.{Unique, UniqueWriting}
use Rattle.bank.specs.declared.keys.Bank.{Bank}
use Rattle.bank.specs.declared.keys.Handed.{Handed}
use Rattle.bank.proofs.keys.Bank.drop.Reads as drop
use Rattle.bank.proofs.keys.Bank.empty.Reads as empty
use Rattle.bank.proofs.keys.Bank.load.Reads as load
use Rattle.bank.proofs.keys.Bank.run.Reads as run

pub handed : (x y : Handed) (z : ℕ × (ℕ × Bank)) → (x.reply, (x.number, x.bank)) ≡ z → (y.reply, (y.number, y.bank)) ≡ z → x ≡ y
handed x y z p q =
    let e : ◌≡◌ {A = ℕ × (ℕ × Bank)} (x.reply, (x.number, x.bank)) (y.reply, (y.number, y.bank)) = p ∙ sym q in
    λ i. record { bank = (e i).1.1; reply = (e i).0; number = (e i).1.0 }

pub bank_empty_unique : Unique empty.Post
bank_empty_unique κs args exit x y p q = p ∙ sym q

pub bank_load_unique : Unique load.Post
bank_load_unique κs args exit x y p q = handed x y _ p q

pub bank_drop_unique : Unique drop.Post
bank_drop_unique κs args exit x y p q = handed x y _ p q

pub bank_run_unique : UniqueWriting run.Post (λ κs e. e.1.1.1.1.0.now)
bank_run_unique κs args e f x y p q = told x y _ _ _ p q
