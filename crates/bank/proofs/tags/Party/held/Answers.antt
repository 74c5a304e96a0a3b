-- The library's count.
-- Assumes nothing.
use mathlib.Core.Path.{◌≡◌, ◌∙◌}
use mathlib.Core.Bool.{◌&&◌}
use Rattle.std.proofs.Common.{rules, count_by, nat_le}
use Rattle.bank.proofs.Walk.{counted}
use Rattle.bank.proofs.tags.Party.held.Goals as goal

pub returns : goal.returns
returns c =
    let l = c.args.tags.now in
    let e : c.count.result ≡ count_by (λ t. nat_le c.tag-first.result t && nat_le t c.tag-last.result) l = search rules in
    e ∙ (λ i. count_by (λ t. nat_le (c.tag-first.ensures i) t && nat_le t (c.tag-last.ensures i)) l) ∙ counted c.args.self.id l
