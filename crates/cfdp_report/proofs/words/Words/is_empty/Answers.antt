use Rattle.cfdp_report.proofs.Parts.{none-left}
use Rattle.cfdp_report.proofs.words.Words.is_empty.Goals as goal

pub returns : goal.returns
returns c = none-left (λ x. x.now) c.args.self.now.rest c.is_none.result c.is_none.ensures
