use Rattle.std.proofs.Common.{sym, ap, ◌∙◌}
use Rattle.std.specs.FinSet as set
use Rattle.cfdp_extents.proofs.Last.{on_ok}
use Rattle.cfdp_extents.specs.Offsets.{range}
use Rattle.cfdp_extents.specs.Forgotten.{IdSet, ids_in, ids_of, numbers_at}
use Rattle.cfdp_extents.proofs.Sets.{position-at}
use Rattle.cfdp_extents.proofs.JoinedNumbers.{any-join, any-append, ids-joined}
use Rattle.cfdp_extents.proofs.forgotten.Forgotten.insert_range.Goals as goal

pub returns-in-Some-clause-ok : goal.returns-in-Some-clause-ok
returns-in-Some-clause-ok c =
    let es = c.self.inside.by_source.entries in
    let place = c.in-Some.place in
    let at = position-at c.args.source es place (sym c.in-Some.ensures.index) in
    let t = range c.args.start c.args.end in
    on_ok c.insert_range_at.result
    (λ is. ap ids_of is ∙ ids-joined es _ c.args.source t (λ q. any-join q c.args.source t es place (numbers_at es place) at)
    ∙ ap (λ (s : IdSet). set.union s (ids_in c.args.source c.args.start c.args.end)) c.self.view_is)
    c.insert_range_at.ensures.ok

pub returns-in-None-clause-ok : goal.returns-in-None-clause-ok
returns-in-None-clause-ok c =
    let es = c.self.inside.by_source.entries in
    let t = range c.args.start c.args.end in
    on_ok c.insert_first_range.result
    (λ is. ap ids_of is ∙ ids-joined es _ c.args.source t (λ q. any-append q c.args.source t es)
    ∙ ap (λ (s : IdSet). set.union s (ids_in c.args.source c.args.start c.args.end)) c.self.view_is)
    c.insert_first_range.ensures.ok
