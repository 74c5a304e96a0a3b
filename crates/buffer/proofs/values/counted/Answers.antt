-- The counter is in the last byte.
-- Assumes nothing.
use Rattle.aes.specs.State.{Bytes}
use Rattle.aes.proofs.Given.{array_bytes}
use Rattle.buffer.proofs.Pieces.{counted-last}
use Rattle.buffer.proofs.values.counted.Goals as goal

pub returns : goal.returns
returns c =
    let b : Bytes 16 c.args.b = array_bytes c.well_formed.0 in
    counted-last c.args.t c.args.b c.requires b.size
