use Rattle.std.proofs.Common.{sym, ap, ◌∙◌}
use Rattle.indexmap.specs.IndexMap.{set_value_at}
use Rattle.cfdp_extents.proofs.Last.{on_err}
use Rattle.cfdp_extents.proofs.JoinedNumbers.{same-value}
use Rattle.cfdp_extents.proofs.forgotten.insert_range_at.Goals as goal

pub returns-in-Some-clause-err : goal.returns-in-Some-clause-err
returns-in-Some-clause-err c = on_err c.insert_range.result
    (λ same. ap (set_value_at c.args.by_source.now.entries c.args.place) same ∙ same-value c.args.by_source.now.entries c.args.place c.in-Some.numbers.now (sym c.in-Some.ensures.value)) c.insert_range.ensures.err
