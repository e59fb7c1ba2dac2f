use Rattle.cfdp_console.proofs.KnownVisitors.{known_all, known_pushed}
use Rattle.cfdp_console.proofs.visitors.Visitors.takes_in.Goals as goal

pub returns-then-has_room : goal.returns-then-has_room
returns-then-has_room g c = known_pushed c.args.self.now.all.items _ c.new-visitor.result _
    c.new-visitor.ensures c.push.ensures.items

pub returns-else-has_room : goal.returns-else-has_room
returns-else-has_room g c = known_all c.args.self.now.all.items
