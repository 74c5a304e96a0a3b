-- The two ways through a packet, as the answers are stated: whether it goes back, and whether the schedule that it is told is the odd one.
-- Assumes nothing.
use Rattle.std.specs.Prelude.{Bool, true, false}
use Rattle.packet.specs.declared.way.Way.{Way}
use Rattle.packet.specs.declared.way.Way.TheVariants.{Scramble, Descramble}

abbrev pub is_back : Way → Bool
is_back (Scramble odd) = false
is_back Descramble = true

abbrev pub odd_of : Way → Bool
odd_of (Scramble odd) = odd
odd_of Descramble = false
