use Rattle.cfdp_console.proofs.Attending.{heard_none}
use Rattle.cfdp_console.proofs.visitor.hear.Goals as goal

pub returns-in-None-clause-heard : goal.returns-in-None-clause-heard
returns-in-None-clause-heard c = heard_none c.args.guard.now c.args.caller.now c.hears.new.self
    c.leave_at_end.new.caller c.hears.result c.in-None.is c.hears.ensures.heard
    c.leave_at_end.ensures
