use Rattle.std.proofs.Common.{ap, subst, ◌∙◌, arith}
use Rattle.journal_records.specs.Reading.{Gives, records_in}
use Rattle.journal_records.proofs.Records.{is-found, records-again}
use Rattle.journal_records.proofs.reading.read_records.Goals as goal

pub returns-clause-found : goal.returns-clause-found
returns-clause-found c = is-found c.args.bytes.now c.records_in.result (λ i. omega (arith, c.type_inv.bytes i)) c.records_in.ensures

pub returns-clause-only : goal.returns-clause-only
returns-clause-only c = λ rs fits e. subst (λ f. Gives (λ v. v.items) c.records_in.result f) (ap records_in e ∙ records-again rs fits) c.records_in.ensures
