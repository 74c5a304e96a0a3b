-- 00 is refused, and every other byte has its logarithm.
-- Assumes nothing.
use borrow.Author.Rules.{rules}
use borrow.Author.Tests.{ne_eqb}
use Rattle.aes.proofs.Powers.{logarithm-at}
use Rattle.aes.proofs.field.logarithm.Goals as goal

pub returns : goal.returns
returns c =
    let b = c.args.b in
    simp (ne_eqb b 0 c.if-b-eq0.false, c.logarithms-logarithms.ensures, logarithm-at b (search rules) (search rules))
