use Rattle.std.proofs.Common.{◌≤◌, refl, sym, ap, subst}
use Rattle.cfdp_timers.specs.Armed.{TimersState}
use Rattle.cfdp_store.specs.declared.stored.Stored.TheVariants.{Done}
use Rattle.cfdp_store.specs.Chains.{Raises}
use Rattle.cfdp_store.specs.Stores.{Counts}
use Rattle.indexmap.specs.IndexMap.{set_value_at}
use Rattle.cfdp_entity.specs.Desk.{on_desk}
use Rattle.cfdp_entity.specs.Roomy.{Roomy, Steps}
use Rattle.cfdp_entity.specs.Whole.{id_of, roomy_of}
use Rattle.cfdp_receiver.specs.Storing.{Settles}
use Rattle.cfdp_entity.specs.Does.{expiring}
use Rattle.cfdp_entity.specs.Storing.{AsksToExpire}
use Rattle.cfdp_entity.specs.Table.{expired_at}
use Rattle.cfdp_entity.proofs.Entries.{may-step, within, whole-step, steps-there, steps-nowhere}
use Rattle.cfdp_entity.proofs.table.Table.expire.Goals as goal

pub expire-requires : goal.expire-requires
expire-requires g c = may-step c.self.inside.gone (on_desk g.O.Outbox g.I.Inbox c.self.inside.desk) c.self.inside.records.entries c.self.inside.ready c.args.place c.self.invariant c.in-Some.held.now
    (sym c.in-Some.ensures.value)
    (subst (λ (v : Roomy). 3 ≤ v.spare) (sym c.self.view_is) c.requires.room)

pub set-requires : goal.set-requires
set-requires g c = record {
  within = within c.self.inside.gone (on_desk g.O.Outbox g.I.Inbox c.self.inside.desk) c.self.inside.records.entries c.self.inside.ready c.args.place c.self.invariant c.in-Some.held.now
      (sym c.in-Some.ensures.value);
}

pub invariant_of-self : goal.invariant_of-self
invariant_of-self g c = whole-step c.self.inside.gone (on_desk g.O.Outbox g.I.Inbox c.self.inside.desk) c.self.inside.records.entries c.self.inside.ready c.args.place c.self.invariant c.in-Some.held.now
    (sym c.in-Some.ensures.value) (on_desk g.O.Outbox g.I.Inbox c.expire.new.self) _ c.expire.new.held refl c.expire.ensures.stays
    (ap (λ (t : TimersState). t.roomy) c.expire.ensures.expired.timers)
    c.is_due.result (c.is_due.ensures (g.I.Inbox.staged c.expire.new.self.inbox (id_of c.in-Some.held.now))) c.set.new.self c.set.ensures

pub returns-in-Some-clause-expired : goal.returns-in-Some-clause-expired
returns-in-Some-clause-expired g c = subst (λ (v : Roomy). Steps (expired_at c.args.place c.args.kind v.state) (Counts Done) (AsksToExpire Raises c.args.kind c.args.place v.state) v
    (roomy_of c.self.inside.gone (on_desk g.O.Outbox g.I.Inbox c.expire.new.self) (set_value_at c.self.inside.records.entries c.args.place c.expire.new.held))) c.self.view_is
    (steps-there c.self.inside.gone (on_desk g.O.Outbox g.I.Inbox c.self.inside.desk) c.self.inside.records.entries c.self.inside.ready c.args.place c.self.invariant c.in-Some.held.now (sym c.in-Some.ensures.value)
    (on_desk g.O.Outbox g.I.Inbox c.expire.new.self) _ c.expire.new.held refl c.expire.ensures.stays
    Done (expiring c.args.kind) (Settles Raises Done) c.expire.ensures.expired c.expire.ensures.asks)

pub returns-in-None-clause-expired : goal.returns-in-None-clause-expired
returns-in-None-clause-expired g c = subst (λ (v : Roomy). Steps (expired_at c.args.place c.args.kind v.state) (Counts Done) (AsksToExpire Raises c.args.kind c.args.place v.state) v
    (roomy_of c.self.inside.gone (on_desk g.O.Outbox g.I.Inbox c.self.inside.desk) c.self.inside.records.entries)) c.self.view_is
    (steps-nowhere c.self.inside.gone (on_desk g.O.Outbox g.I.Inbox c.self.inside.desk) c.self.inside.records.entries c.self.inside.ready c.args.place (expiring c.args.kind) (Settles Raises Done)
    c.in-None.ensures.value)
