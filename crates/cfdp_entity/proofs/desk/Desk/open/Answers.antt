use Rattle.std.proofs.Common.{None, refl, ap, subst}
use Rattle.cfdp_timers.specs.declared.effects.Effects.{Effects}
use Rattle.cfdp_directives.specs.Pdu.Content.{view}
use Rattle.cfdp_store.specs.Chains.{Raises}
use Rattle.cfdp_entity.specs.declared.record.Record.TheVariants as records
use Rattle.cfdp_entity.specs.Seen.{seen}
use Rattle.cfdp_entity.specs.Storing.{AsksFirst}
use Rattle.cfdp_entity.proofs.Openings.{roomier-by, opens-closed}
use Rattle.cfdp_entity.proofs.Raised.{opened}
use Rattle.cfdp_entity.proofs.desk.Desk.open.Goals as goal

pub returns-in_ok-receiver-in-Some-clause-opens : goal.returns-in_ok-receiver-in-Some-clause-opens
returns-in_ok-receiver-in-Some-clause-opens g c =
    opens-closed c.args.addressing c.args.large c.in-Some.condition (view c.args.pdu.now) c.in_ok-receiver-in-Some.receiver _ _
    c.in_ok-receiver-in-Some.ensures.receiver c.in-Some.ensures c.in_ok-receiver-in-Some.ensures.effects refl c.in_ok-receiver-in-Some.ensures.has_room

pub returns-in_ok-receiver-in-Some-clause-widens : goal.returns-in_ok-receiver-in-Some-clause-widens
returns-in_ok-receiver-in-Some-clause-widens g c = record {
  roomier = roomier-by c.args.self.now.effects.timers c.open_closed.new.effects.timers c.args.addressing.id (ap (λ (e : Effects). e.timers.roomy) c.in_ok-receiver-in-Some.ensures.effects);
  others = λ other apart. refl;
  sources = refl;
  stands = refl;
  policy = refl;
  outbox = refl;
}

pub returns-in_ok-receiver-in-None-clause-raises : goal.returns-in_ok-receiver-in-None-clause-raises
returns-in_ok-receiver-in-None-clause-raises g c =
    subst (λ o. AsksFirst Raises o c.in_ok-receiver-in-None.opened.begun c.in_ok-receiver-in-None.opened.stored c.args.large (view c.args.pdu.now) c.args.addressing
    (seen (g.I.Inbox.staged c.begin.new.self.inbox c.args.addressing.id) (records.Receives c.in_ok-receiver-in-None.receiver)) (g.I.Inbox.failures c.args.self.now.inbox)
    (g.I.Inbox.failures c.begin.new.self.inbox)) c.in-None.ensures
    (opened g.I.Inbox.steps g.I.Inbox.failures None c.in_ok-receiver-in-None.opened.begun c.in_ok-receiver-in-None.opened.stored c.args.large (view c.args.pdu.now) c.args.addressing
    (seen (g.I.Inbox.staged c.begin.new.self.inbox c.args.addressing.id) (records.Receives c.in_ok-receiver-in-None.receiver)) c.args.self.now.inbox c.begin.new.self.inbox
    c.in_ok-receiver-in-None.ensures.calls)
