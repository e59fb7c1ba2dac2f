use Rattle.std.proofs.Common.{None, ap}
use Rattle.cfdp_service.specs.Clerk.{ClerkState}
use Rattle.cfdp_service.proofs.ClerkLemmas.{rests-steps}
use Rattle.cfdp_service.proofs.clerk.ClerkUser.intends.Goals as goal

pub returns-then-eq : goal.returns-then-eq
returns-then-eq g c = rests-steps g.S.Spool.sent g.S.Spool.failed c.args.self.now _ _ (ap (λ (s : ClerkState _). record s { asked = None }) c.self.view_is)

pub returns-then-open_count-gt0 : goal.returns-then-open_count-gt0
returns-then-open_count-gt0 g c = rests-steps g.S.Spool.sent g.S.Spool.failed c.args.self.now _ _ (ap (λ (s : ClerkState _). record s { asked = None }) c.self.view_is)

pub returns-then-turns-ge-LAST_TURNS : goal.returns-then-turns-ge-LAST_TURNS
returns-then-turns-ge-LAST_TURNS g c = rests-steps g.S.Spool.sent g.S.Spool.failed c.args.self.now _ _ (ap (λ (s : ClerkState _). record s { asked = None }) c.self.view_is)

pub returns-else-turns-ge-LAST_TURNS : goal.returns-else-turns-ge-LAST_TURNS
returns-else-turns-ge-LAST_TURNS g c = rests-steps g.S.Spool.sent g.S.Spool.failed c.args.self.now _ _ (ap (λ (s : ClerkState _). record s { asked = None }) c.self.view_is)

pub returns-in-Stopping-2 : goal.returns-in-Stopping-2
returns-in-Stopping-2 g c = rests-steps g.S.Spool.sent g.S.Spool.failed c.args.self.now _ _ (ap (λ (s : ClerkState _). record s { asked = None }) c.self.view_is)

pub returns-in-Serving : goal.returns-in-Serving
returns-in-Serving g c = rests-steps g.S.Spool.sent g.S.Spool.failed c.args.self.now _ _ (ap (λ (s : ClerkState _). record s { asked = None }) c.self.view_is)
