-- The code names the pattern as the definition does; no sum leaves its byte, and no shift its word.
-- Assumes nothing.
use Rattle.beside.specs.Fitness.{pattern}
use Rattle.beside.proofs.Even.{ticked}
use Rattle.beside.proofs.fit.tick.Goals as goal

pub returns : goal.returns
unfolding pattern
returns c = ticked c.args.x c.args.y c.args.z c.args.b
