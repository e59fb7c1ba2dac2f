use Rattle.std.proofs.Common.{◌≡◌, [], ◌∷◌, ◌++◌, ap, ◌∙◌}
use Rattle.std.specs.FinSet as set
use Rattle.cfdp_extents.specs.Offsets.{range}
use Rattle.cfdp_extents.specs.Forgotten.{NumberSet}
use Rattle.cfdp_extents.proofs.forgotten.insert_first_range.Goals as goal

pub returns-clause-ok : goal.returns-clause-ok
returns-clause-ok c =
    let numbers : c.insert_range.new.self ≡ set.union set.empty (range c.args.start c.args.end)
    = c.in_ok-insert_range.ensures.ok ∙ ap (λ (s : NumberSet). set.union s (range c.args.start c.args.end)) c.new-numbers.ensures in
    c.push.ensures ∙ (λ i. c.reserve.ensures.entries i ++ (c.args.source, numbers i) ∷ [])
