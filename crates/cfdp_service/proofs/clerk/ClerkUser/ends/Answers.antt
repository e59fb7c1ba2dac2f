use Rattle.std.proofs.Common.{None, ap}
use Rattle.cfdp_service.specs.Clerk.{ClerkState}
use Rattle.cfdp_service.proofs.ClerkLemmas.{ends-steps}
use Rattle.cfdp_service.proofs.clerk.ClerkUser.ends.Goals as goal

pub returns : goal.returns
returns g c = ends-steps g.S.Spool.sent g.S.Spool.failed c.args.self.now _ (ap (λ (s : ClerkState _). record s { asked = None }) c.self.view_is)
