-- Before round r, the rounds below it are done.
-- Assumes nothing.
use mathlib.Core.Path.{◌≡◌}
use Prim.Native.Nat.{◌+◌, ◌-◌}
use native.Mathlib.Omega.{arith}
use Rattle.aes.specs.Cipher.{cipher}
use Rattle.aes.proofs.Rounds.{rounds_none, rounds_more}
use Rattle.aes.proofs.cipher.encrypted.Goals as goal

pub loop-r-init : goal.loop-r-init
loop-r-init c = rounds_none _ _

pub loop-r-preserved : goal.loop-r-preserved
loop-r-preserved c =
    let l = c.loop-r in
    let done : l.r + 1 - 1 ≡ l.r = omega arith in
    let more = rounds_more c.args.w.now.bytes.now c.add-s.result l.r (omega arith) in
    rw done (cc)

pub returns : goal.returns
unfolding cipher
returns c =
    let all : c.loop-r.r ≡ c.args.w.now.rounds = omega arith in
    cc
