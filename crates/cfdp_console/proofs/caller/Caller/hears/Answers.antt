use Rattle.cfdp_console.proofs.HeardFrom.{heard_from, may_be}
use Rattle.cfdp_console.proofs.caller.Caller.hears.Goals as goal

pub returns-clause-heard : goal.returns-clause-heard
returns-clause-heard c = heard_from c.args.guard.now c.args.self.now _ c.judges.new.self
    c.judges.result c.take.ensures.calls c.judges.ensures.heard

pub returns-clause-may : goal.returns-clause-may
returns-clause-may c =
    may_be c.args.guard.now _ c.judges.new.self c.judges.result c.judges.ensures.heard
