use Rattle.cfdp_console.proofs.Attending.{attends_after}
use Rattle.cfdp_console.proofs.visitor.Visitor.attend.Goals as goal

pub returns : goal.returns
returns g c = attends_after c.args.guard.now c.args.self.now c.looks_at_clock.new.self
    c.goes_on.new.self c.goes_on.result c.looks_at_clock.ensures
    (attends_after c.args.guard.now c.looks_at_clock.new.self c.sends.new.self c.goes_on.new.self
    c.goes_on.result c.sends.ensures c.goes_on.ensures)
