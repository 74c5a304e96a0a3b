-- What the checks that both calls make first tell.
-- Assumes nothing.
use mathlib.Core.Path.{◌≡◌, sym, subst}
use mathlib.Core.Bool.{Bool, true, not, ◌&&◌}
use mathlib.Core.List.{List}
use Prim.Native.Nat.{ℕ}
use lib.Dec.{T, eqb, eqb→eq}
use lib.ListN.{length}
use mir.Facts.{and_yes}
use Rattle.aes.proofs.Replies.{AllHold}
use Rattle.aes.specs.Byte.{below}
use Rattle.packet.specs.Packet.{pid_at}
use Rattle.packet.specs.Pid.{assignable}
use Rattle.packet.specs.Calls.{first_checks}

holds : {b : Bool} → b ≡ true → T b
holds e = subst T (sym e) tt

pub record Sizes (p out pipes : List ℕ) : Type 0 where
  pub packet : length p ≡ 188
  pub room : length out ≡ 188
  pub list : length pipes ≡ 3486

pub held_sizes : (p out pipes : List ℕ) → AllHold (first_checks p out pipes) → Sizes p out pipes
unfolding AllHold
held_sizes p out pipes h =
    let both = and_yes (eqb (length p) 188) (eqb (length out) 188) h.0 in
    let list = and_yes (eqb (length pipes) 3486 && below 7 (λ k. assignable (pid_at pipes k))) (below 7 (λ k. below k (λ j. not (eqb (pid_at pipes j) (pid_at pipes k))))) h.1.1.0 in
    record {
      packet = eqb→eq (length p) 188 both.0;
      room = eqb→eq (length out) 188 both.1;
      list = eqb→eq (length pipes) 3486 (and_yes (eqb (length pipes) 3486) (below 7 (λ k. assignable (pid_at pipes k))) list.0).0;
    }
