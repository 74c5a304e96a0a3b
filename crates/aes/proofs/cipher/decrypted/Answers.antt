-- What the rounds left would make of the state is what they all would have made of the first.
-- Assumes nothing.
use mathlib.Core.Path.{◌≡◌}
use Prim.Native.Nat.{◌+◌, ◌-◌}
use native.Mathlib.Omega.{arith}
use Rattle.aes.specs.Cipher.{inv_cipher}
use Rattle.aes.proofs.Rounds.{inv_rounds_none, inv_rounds_more}
use Rattle.aes.proofs.cipher.decrypted.Goals as goal

pub loop-r-preserved : goal.loop-r-preserved
loop-r-preserved c =
    let l = c.loop-r in
    let n = c.args.w.now.rounds in
    let less : n - (l.r + 1) ≡ n - l.r - 1 = omega arith in
    let more = inv_rounds_more c.args.w.now.bytes.now l.s (n - l.r) (omega arith) in
    rw less (cc)

pub returns : goal.returns
unfolding inv_cipher
returns c =
    let l = c.loop-r in
    let all : c.args.w.now.rounds - l.r ≡ 0 = omega arith in
    let none = inv_rounds_none c.args.w.now.bytes.now l.s in
    cc
