use Rattle.cfdp_console.proofs.LinesShown.{after_end}
use Rattle.cfdp_console.proofs.log_lines.LogLines.ends_line.Goals as goal

pub invariant_of-self : goal.invariant_of-self
invariant_of-self c =
    after_end c.self.inside.came _ c.self.inside.count _ c.self.inside.has_all c.self.inside.begun.items _ c.self.inside.last c.takes.new.self c.self.invariant c.put.ensures
    c.saturating_add-self-inside.ensures c.clear.ensures.items (rw c.as_slice-octets.ensures.value at c.takes.ensures)
