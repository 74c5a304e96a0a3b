-- Each bit brings its image.
-- Assumes nothing.
use borrow.Author.Rules.{rules}
use Rattle.tower.proofs.Looked.{highest}
use Rattle.tower.proofs.basis.brought.Goals as goal

pub returns : goal.returns
returns c = highest _ _ _ _ _ _ _ _ c.args.x (search rules)
