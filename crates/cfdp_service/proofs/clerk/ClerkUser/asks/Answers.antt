use Rattle.std.proofs.Common.{None, ◌∙◌, ap}
use Rattle.cfdp_service.specs.Clerk.{ClerkState}
use Rattle.cfdp_service.proofs.ClerkLemmas.{asks-none, asks-steps}
use Rattle.cfdp_service.proofs.clerk.ClerkUser.asks.Goals as goal

pub returns-in-Some : goal.returns-in-Some
returns-in-Some g c = asks-none g.S.Spool.sent g.S.Spool.failed c.args.self.now _ _ (c.next_refused.ensures ∙ ap (λ (s : ClerkState _). record s { asked = None }) (c.self.view_is ∙ c.looks.ensures))

pub returns-in-Some-commanded : goal.returns-in-Some-commanded
returns-in-Some-commanded g c =
    asks-none g.S.Spool.sent g.S.Spool.failed c.args.self.now c.commanded.new.self _ (c.commanded.ensures.same ∙ c.next_refused.ensures ∙ ap (λ (s : ClerkState _). record s { asked = None }) (c.self.view_is ∙ c.looks.ensures))

pub returns-in-None : goal.returns-in-None
returns-in-None g c =
    asks-steps g.S.Spool.sent g.S.Spool.failed c.args.self.now c.commanded.new.self c.next_put.new.self _
    (c.commanded.ensures.same ∙ c.next_refused.ensures ∙ ap (λ (s : ClerkState _). record s { asked = None }) (c.self.view_is ∙ c.looks.ensures))
    c.next_put.ensures.own c.next_put.ensures.files c.next_put.ensures.sent c.next_put.ensures.failed c.next_put.ensures.asked
