use Rattle.std.proofs.Common.{◌≡◌, [], ◌∷◌, ◌++◌, ap, ◌∙◌}
use Rattle.std.specs.FinSet as set
use Rattle.cfdp_extents.specs.Forgotten.{NumberSet}
use Rattle.cfdp_extents.proofs.forgotten.insert_first.Goals as goal

pub returns-clause-ok : goal.returns-clause-ok
returns-clause-ok c =
    let numbers : c.insert.new.self ≡ set.insert set.empty c.args.id.number
    = c.in_ok-insert.ensures.ok ∙ ap (λ (s : NumberSet). set.insert s c.args.id.number) c.new-numbers.ensures in
    c.push.ensures ∙ (λ i. c.reserve.ensures.entries i ++ (c.args.id.source, numbers i) ∷ [])
