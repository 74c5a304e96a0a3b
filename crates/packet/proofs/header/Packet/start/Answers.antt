-- Behind the header, or behind the field.
-- Assumes nothing.
use mathlib.Core.Path.{sym, ◌∙◌}
use borrow.Author.Tests.{eq-eqb, ne_eqb}
use Rattle.packet.specs.Packet.{start}
use Rattle.packet.proofs.header.Packet.start.Goals as goal

pub returns-then-code-eq1 : goal.returns-then-code-eq1
unfolding start
returns-then-code-eq1 c = rw (eq-eqb _ 1 (sym c.code.ensures ∙ c.if-code-eq1.true))

pub returns : goal.returns
unfolding start
returns c = rw (ne_eqb _ 1 (λ e. c.if-code-eq1.false (c.code.ensures ∙ e)))
