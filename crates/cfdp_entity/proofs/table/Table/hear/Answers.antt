use Rattle.std.proofs.Common.{◌≤◌, refl, sym, subst, IfOk, OnErr}
use Rattle.cfdp_store.specs.declared.stored.Stored.TheVariants.{Done}
use Rattle.cfdp_store.specs.Chains.{Raises}
use Rattle.cfdp_store.specs.Stores.{Counts}
use Rattle.indexmap.specs.IndexMap.{set_value_at}
use Rattle.cfdp_entity.specs.Desk.{on_desk}
use Rattle.cfdp_entity.specs.Roomy.{Roomy, Steps, LacksMemory}
use Rattle.cfdp_entity.specs.Whole.{id_of, roomy_of}
use Rattle.cfdp_directives.specs.Pdu.Content.{view}
use Rattle.cfdp_entity.specs.Does.{hearing}
use Rattle.cfdp_entity.specs.Storing.{AsksHeard, AsksToHear}
use Rattle.cfdp_entity.specs.Table.{heard_at}
use Rattle.cfdp_entity.proofs.Entries.{may-step, within, whole-step, same-roomy, answered, failed, steps-nowhere}
use Rattle.cfdp_entity.proofs.table.Table.hear.Goals as goal

pub hear-answer-requires : goal.hear-answer-requires
hear-answer-requires g c = may-step c.self.inside.gone (on_desk g.O.Outbox g.I.Inbox c.self.inside.desk) c.self.inside.records.entries c.self.inside.ready c.args.place c.self.invariant c.in-Some.held.now
    (sym c.in-Some.ensures.value)
    (subst (λ (v : Roomy). 3 ≤ v.spare) (sym c.self.view_is) c.requires.room)

pub set-requires : goal.set-requires
set-requires g c = record {
  within = within c.self.inside.gone (on_desk g.O.Outbox g.I.Inbox c.self.inside.desk) c.self.inside.records.entries c.self.inside.ready c.args.place c.self.invariant c.in-Some.held.now
      (sym c.in-Some.ensures.value);
}

pub invariant_of-self : goal.invariant_of-self
invariant_of-self g c = whole-step c.self.inside.gone (on_desk g.O.Outbox g.I.Inbox c.self.inside.desk) c.self.inside.records.entries c.self.inside.ready c.args.place c.self.invariant c.in-Some.held.now
    (sym c.in-Some.ensures.value) (on_desk g.O.Outbox g.I.Inbox c.hear-answer.new.self) _ c.hear-answer.new.held refl c.hear-answer.ensures.stays
    (same-roomy c.self.inside.gone (on_desk g.O.Outbox g.I.Inbox c.self.inside.desk) c.self.inside.records.entries c.self.inside.ready c.args.place c.self.invariant c.in-Some.held.now (sym c.in-Some.ensures.value)
    (on_desk g.O.Outbox g.I.Inbox c.hear-answer.new.self) _ c.hear-answer.new.held refl c.hear-answer.ensures.stays
    c.hear-answer.result (view c.args.pdu.now) (λ s. hearing s c.args.large (view c.args.pdu.now)) (λ s. AsksHeard Raises c.args.large (view c.args.pdu.now) s) c.hear-answer.ensures.heard
    c.hear-answer.ensures.asks c.hear-answer.ensures.err)
    c.is_due.result (c.is_due.ensures (g.I.Inbox.staged c.hear-answer.new.self.inbox (id_of c.in-Some.held.now))) c.set.new.self c.set.ensures

pub returns-in-Some-clause-heard : goal.returns-in-Some-clause-heard
returns-in-Some-clause-heard g c = subst (λ (v : Roomy). IfOk c.hear-answer.result (λ stored. Steps (heard_at stored c.args.place c.args.large (view c.args.pdu.now) v.state) (Counts stored)
    (AsksToHear Raises stored c.args.place c.args.large (view c.args.pdu.now) v.state) v
    (roomy_of c.self.inside.gone (on_desk g.O.Outbox g.I.Inbox c.hear-answer.new.self) (set_value_at c.self.inside.records.entries c.args.place c.hear-answer.new.held)))) c.self.view_is
    (answered c.self.inside.gone (on_desk g.O.Outbox g.I.Inbox c.self.inside.desk) c.self.inside.records.entries c.self.inside.ready c.args.place c.self.invariant c.in-Some.held.now (sym c.in-Some.ensures.value)
    (on_desk g.O.Outbox g.I.Inbox c.hear-answer.new.self) _ c.hear-answer.new.held refl c.hear-answer.ensures.stays
    c.hear-answer.result (view c.args.pdu.now) (λ s. hearing s c.args.large (view c.args.pdu.now)) (λ s. AsksHeard Raises c.args.large (view c.args.pdu.now) s)
    c.hear-answer.ensures.heard c.hear-answer.ensures.asks c.hear-answer.ensures.err)

pub returns-in-Some-clause-err : goal.returns-in-Some-clause-err
returns-in-Some-clause-err g c = subst (λ (v : Roomy). OnErr c.hear-answer.result (LacksMemory c.args.place (view c.args.pdu.now) v
    (roomy_of c.self.inside.gone (on_desk g.O.Outbox g.I.Inbox c.hear-answer.new.self) (set_value_at c.self.inside.records.entries c.args.place c.hear-answer.new.held)))) c.self.view_is
    (failed c.self.inside.gone (on_desk g.O.Outbox g.I.Inbox c.self.inside.desk) c.self.inside.records.entries c.self.inside.ready c.args.place c.self.invariant c.in-Some.held.now (sym c.in-Some.ensures.value)
    (on_desk g.O.Outbox g.I.Inbox c.hear-answer.new.self) _ c.hear-answer.new.held refl c.hear-answer.ensures.stays
    c.hear-answer.result (view c.args.pdu.now) (λ s. hearing s c.args.large (view c.args.pdu.now)) (λ s. AsksHeard Raises c.args.large (view c.args.pdu.now) s)
    c.hear-answer.ensures.heard c.hear-answer.ensures.asks c.hear-answer.ensures.err)

pub returns-in-None-clause-heard : goal.returns-in-None-clause-heard
returns-in-None-clause-heard g c = subst (λ (v : Roomy). Steps (heard_at Done c.args.place c.args.large (view c.args.pdu.now) v.state) (Counts Done)
    (AsksToHear Raises Done c.args.place c.args.large (view c.args.pdu.now) v.state) v
    (roomy_of c.self.inside.gone (on_desk g.O.Outbox g.I.Inbox c.self.inside.desk) c.self.inside.records.entries))
    c.self.view_is (steps-nowhere c.self.inside.gone (on_desk g.O.Outbox g.I.Inbox c.self.inside.desk) c.self.inside.records.entries c.self.inside.ready c.args.place
    (hearing Done c.args.large (view c.args.pdu.now)) (AsksHeard Raises c.args.large (view c.args.pdu.now) Done) c.in-None.ensures.value)
