use Rattle.cfdp_directives.proofs.FileSizes.{limit_new}
use Rattle.cfdp_receiver.proofs.Held.{limits_raised}
use Rattle.cfdp_receiver.proofs.receiver.Receiver.raise.Goals as goal

pub invariant_of-self : goal.invariant_of-self
invariant_of-self c = limits_raised _ _ _ _ _ _ c.self.inside.large c.args.large c.self.invariant

pub returns-clause-limit : goal.returns-clause-limit
returns-clause-limit c = limit_new c.self.inside.large c.args.large
