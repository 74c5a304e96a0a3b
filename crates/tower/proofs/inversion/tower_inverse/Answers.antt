-- Into the tower, (4.7) to (4.10), and back.
-- Assumes nothing.
use borrow.Author.Rules.{rules}
use Rattle.tower.specs.Tower.{covered_inverse}
use Rattle.tower.proofs.Inverted.{tower_covered}
use Rattle.tower.proofs.inversion.tower_inverse.Goals as goal

pub returns : goal.returns
unfolding covered_inverse
returns c =
    let whole = tower_covered c.args.x c.args.r (search rules) (search rules) in
    cc (whole, c.both.ensures.0, c.both.ensures.1, c.both-2.ensures.0, c.both-2.ensures.1)
