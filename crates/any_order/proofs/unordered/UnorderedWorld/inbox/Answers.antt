use Rattle.any_order.proofs.Beginning.{keeps_promise}
use Rattle.any_order.proofs.unordered.UnorderedWorld.inbox.Goals as goal

pub returns-clause-promised : goal.returns-clause-promised
returns-clause-promised g c = rw (← c.self.view_is) (keeps_promise c.the_promise_holds_where_stations_resume.ensures c.self.inside.ends c.self.invariant)
