use Rattle.std.proofs.Common.{◌≤◌, refl, sym, ap, subst}
use Rattle.cfdp_timers.specs.Armed.{TimersState}
use Rattle.cfdp_store.specs.declared.stored.Stored.TheVariants.{Done}
use Rattle.cfdp_store.specs.Chains.{Raises}
use Rattle.cfdp_store.specs.Stores.{Counts}
use Rattle.indexmap.specs.IndexMap.{set_value_at}
use Rattle.cfdp_entity.specs.Desk.{on_desk}
use Rattle.cfdp_entity.specs.Roomy.{Roomy, Steps}
use Rattle.cfdp_entity.specs.Whole.{id_of, roomy_of}
use Rattle.cfdp_entity.specs.Does.{calling}
use Rattle.cfdp_entity.specs.Storing.{AsksCalled, AsksToRequest}
use Rattle.cfdp_entity.specs.Table.{called_at}
use Rattle.cfdp_entity.proofs.Entries.{may-step, within, whole-step, steps-there, steps-nowhere}
use Rattle.cfdp_entity.proofs.table.Table.request.Goals as goal

pub request-requires : goal.request-requires
request-requires g c = may-step c.self.inside.gone (on_desk g.O.Outbox g.I.Inbox c.self.inside.desk) c.self.inside.records.entries c.self.inside.ready c.args.place c.self.invariant c.in-Some.held.now
    (sym c.in-Some.ensures.value)
    (subst (λ (v : Roomy). 3 ≤ v.spare) (sym c.self.view_is) c.requires.room)

pub set-requires : goal.set-requires
set-requires g c = record {
  within = within c.self.inside.gone (on_desk g.O.Outbox g.I.Inbox c.self.inside.desk) c.self.inside.records.entries c.self.inside.ready c.args.place c.self.invariant c.in-Some.held.now
      (sym c.in-Some.ensures.value);
}

pub invariant_of-self : goal.invariant_of-self
invariant_of-self g c = whole-step c.self.inside.gone (on_desk g.O.Outbox g.I.Inbox c.self.inside.desk) c.self.inside.records.entries c.self.inside.ready c.args.place c.self.invariant c.in-Some.held.now
    (sym c.in-Some.ensures.value) (on_desk g.O.Outbox g.I.Inbox c.request.new.self) _ c.request.new.held refl c.request.ensures.stays
    (ap (λ (t : TimersState). t.roomy) c.request.ensures.called.timers)
    c.is_due.result (c.is_due.ensures (g.I.Inbox.staged c.request.new.self.inbox (id_of c.in-Some.held.now))) c.set.new.self c.set.ensures

pub returns-in-Some : goal.returns-in-Some
returns-in-Some g c = subst (λ (v : Roomy). Steps (called_at c.args.place c.args.request v.state) (Counts Done) (AsksToRequest Raises c.args.request c.args.place v.state) v
    (roomy_of c.self.inside.gone (on_desk g.O.Outbox g.I.Inbox c.request.new.self) (set_value_at c.self.inside.records.entries c.args.place c.request.new.held))) c.self.view_is
    (steps-there c.self.inside.gone (on_desk g.O.Outbox g.I.Inbox c.self.inside.desk) c.self.inside.records.entries c.self.inside.ready c.args.place c.self.invariant c.in-Some.held.now (sym c.in-Some.ensures.value)
    (on_desk g.O.Outbox g.I.Inbox c.request.new.self) _ c.request.new.held refl c.request.ensures.stays
    Done (calling c.args.request) (AsksCalled Raises c.args.request) c.request.ensures.called c.request.ensures.asks)

pub returns-in-None : goal.returns-in-None
returns-in-None g c = subst (λ (v : Roomy). Steps (called_at c.args.place c.args.request v.state) (Counts Done) (AsksToRequest Raises c.args.request c.args.place v.state) v
    (roomy_of c.self.inside.gone (on_desk g.O.Outbox g.I.Inbox c.self.inside.desk) c.self.inside.records.entries)) c.self.view_is
    (steps-nowhere c.self.inside.gone (on_desk g.O.Outbox g.I.Inbox c.self.inside.desk) c.self.inside.records.entries c.self.inside.ready c.args.place (calling c.args.request) (AsksCalled Raises c.args.request)
    c.in-None.ensures.value)
