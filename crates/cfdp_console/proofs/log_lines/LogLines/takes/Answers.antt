use Rattle.cfdp_console.proofs.LinesShown.{after_octet}
use Rattle.cfdp_console.proofs.log_lines.LogLines.takes.Goals as goal

pub invariant_of-self : goal.invariant_of-self
invariant_of-self c =
    after_octet c.self.inside.came _ c.self.inside.count c.self.inside.has_all _ c.self.inside.begun.items _ c.args.octet c.self.inside.last c.self.invariant c.put.ensures
    c.if-octet-eq10.false c.keeps-self-inside.ensures
