use Rattle.std.proofs.Common.{Result, Ok, Err, OnErr, ap, subst, ◌∙◌, length, arith}
use Rattle.std.specs.Map.{lookup}
use Rattle.cfdp_header.specs.Ids.{same_id}
use Rattle.cfdp_directives.specs.Pdu.Content.{view}
use Rattle.cfdp_store.specs.Chains.{Raises}
use Rattle.cfdp_entity.specs.Opening.{closing, opens, CountsBoth}
use Rattle.cfdp_entity.specs.Seen.{Seen}
use Rattle.cfdp_entity.specs.Storing.{AsksFirst, AsksToOpen}
use Rattle.cfdp_entity.specs.Desk.{on_desk}
use Rattle.cfdp_entity.specs.Roomy.{Roomy}
use Rattle.cfdp_entity.specs.Table.{place_of, opened_by}
use Rattle.cfdp_entity.specs.Whole.{roomy_of}
use Rattle.cfdp_entity.proofs.Entries.{roomed, whole-roomed, becomes-roomed, steps-roomed, whole-kept, becomes-kept, whole-added, state-added}
use Rattle.cfdp_entity.proofs.Places.{absent-seen, length_entries}
use Rattle.cfdp_entity.proofs.table.Table.open.Goals as goal

on_err : {T E : Type 0} {P : Type 0} (r : Result T E) → P → OnErr r P
on_err (Ok x) h = tt
on_err (Err e) h = h

pub invariant_of-self-in_err-held : goal.invariant_of-self-in_err-held
invariant_of-self-in_err-held g c = whole-kept c.self.inside.gone (roomed c.self.inside.gone (on_desk g.O.Outbox g.I.Inbox c.self.inside.desk) c.reserve.new.self c.reserve.ensures.items c.self.inside.records.entries)
    (on_desk g.O.Outbox g.I.Inbox c.open.new.self) c.self.inside.records.entries c.reserve-2.new.self.entries c.self.inside.ready c.args.addressing.id
    (whole-roomed c.self.inside.gone (on_desk g.O.Outbox g.I.Inbox c.self.inside.desk) c.reserve.new.self c.reserve.ensures.items c.self.inside.records.entries c.self.inside.ready c.self.invariant)
    (absent-seen (g.I.Inbox.staged c.self.inside.desk.inbox) c.self.inside.records.entries c.args.addressing.id
    (ap (λ (v : Roomy). place_of c.args.addressing.id v.state.records) c.self.view_is ∙ c.requires.may_add.absent)) c.reserve-2.ensures.entries c.open.ensures.widens

pub push_record-requires-clause-absent : goal.push_record-requires-clause-absent
push_record-requires-clause-absent g c = ap (lookup (same_id c.args.addressing.id)) c.reserve-2.ensures.entries ∙
    (absent-seen (g.I.Inbox.staged c.self.inside.desk.inbox) c.self.inside.records.entries c.args.addressing.id
    (ap (λ (v : Roomy). place_of c.args.addressing.id v.state.records) c.self.view_is ∙ c.requires.may_add.absent))

pub invariant_of-self-2 : goal.invariant_of-self-2
invariant_of-self-2 g c =
    let l = length_entries (g.I.Inbox.staged c.self.inside.desk.inbox) c.self.inside.records.entries in
    let v = ap (λ (v : Roomy). length v.state.records) c.self.view_is in
    whole-added c.self.inside.gone (roomed c.self.inside.gone (on_desk g.O.Outbox g.I.Inbox c.self.inside.desk) c.reserve.new.self c.reserve.ensures.items c.self.inside.records.entries) (on_desk g.O.Outbox g.I.Inbox c.open.new.self)
    c.self.inside.records.entries c.reserve-2.new.self.entries c.self.inside.ready c.args.addressing.id
    (whole-roomed c.self.inside.gone (on_desk g.O.Outbox g.I.Inbox c.self.inside.desk) c.reserve.new.self c.reserve.ensures.items c.self.inside.records.entries c.self.inside.ready c.self.invariant)
    (absent-seen (g.I.Inbox.staged c.self.inside.desk.inbox) c.self.inside.records.entries c.args.addressing.id
    (ap (λ (v : Roomy). place_of c.args.addressing.id v.state.records) c.self.view_is ∙ c.requires.may_add.absent)) c.reserve-2.ensures.entries c.open.ensures.widens
    c.in_ok-held.held c.push_record.new.records.entries c.push_record.ensures.added
    (opens c.in_ok-held.opened.begun c.in_ok-held.opened.stored c.self.inside.desk.policy.times (g.I.Inbox.published c.self.inside.desk.inbox) c.args.large (view c.args.pdu.now)
    c.args.addressing) c.in_ok-held.ensures.opens
    (omega (arith, l, v, c.requires.may_add.not_full)) c.is_due.result (c.is_due.ensures (g.I.Inbox.staged c.open.new.self.inbox c.args.addressing.id)) c.push.new.self c.push.ensures
    c.push_record.ensures.unique

pub returns-in_err-held-clause-err : goal.returns-in_err-held-clause-err
returns-in_err-held-clause-err g c = on_err c.from_residual-in_err-held.result
    (becomes-roomed c.self.inside.gone (on_desk g.O.Outbox g.I.Inbox c.self.inside.desk) c.reserve.new.self c.reserve.ensures.items c.self.inside.records.entries (λ st. st) c.args.self.now
    (roomy_of c.self.inside.gone (on_desk g.O.Outbox g.I.Inbox c.open.new.self) c.reserve-2.new.self.entries) c.self.view_is
    (becomes-kept c.self.inside.gone (roomed c.self.inside.gone (on_desk g.O.Outbox g.I.Inbox c.self.inside.desk) c.reserve.new.self c.reserve.ensures.items c.self.inside.records.entries)
    (on_desk g.O.Outbox g.I.Inbox c.open.new.self) c.self.inside.records.entries c.reserve-2.new.self.entries c.self.inside.ready c.args.addressing.id
    (whole-roomed c.self.inside.gone (on_desk g.O.Outbox g.I.Inbox c.self.inside.desk) c.reserve.new.self c.reserve.ensures.items c.self.inside.records.entries c.self.inside.ready c.self.invariant)
    (absent-seen (g.I.Inbox.staged c.self.inside.desk.inbox) c.self.inside.records.entries c.args.addressing.id
    (ap (λ (v : Roomy). place_of c.args.addressing.id v.state.records) c.self.view_is ∙ c.requires.may_add.absent)) c.reserve-2.ensures.entries c.open.ensures.widens
    c.in_err-held.ensures.err))

pub returns-clause-opened : goal.returns-clause-opened
returns-clause-opened g c = steps-roomed c.self.inside.gone (on_desk g.O.Outbox g.I.Inbox c.self.inside.desk) c.reserve.new.self c.reserve.ensures.items c.self.inside.records.entries
    (opened_by c.in_ok-held.opened.begun c.in_ok-held.opened.stored c.args.addressing c.args.large (view c.args.pdu.now)) (CountsBoth c.in_ok-held.opened.begun c.in_ok-held.opened.stored)
    (AsksToOpen Raises c.in_ok-held.opened.begun c.in_ok-held.opened.stored c.args.addressing c.args.large (view c.args.pdu.now)) c.args.self.now
    (roomy_of c.self.inside.gone (on_desk g.O.Outbox g.I.Inbox c.open.new.self) c.push_record.new.records.entries) c.self.view_is
    (record {
      state = state-added c.self.inside.gone (roomed c.self.inside.gone (on_desk g.O.Outbox g.I.Inbox c.self.inside.desk) c.reserve.new.self c.reserve.ensures.items c.self.inside.records.entries)
          (on_desk g.O.Outbox g.I.Inbox c.open.new.self) c.self.inside.records.entries c.reserve-2.new.self.entries c.self.inside.ready c.args.addressing.id
          (whole-roomed c.self.inside.gone (on_desk g.O.Outbox g.I.Inbox c.self.inside.desk) c.reserve.new.self c.reserve.ensures.items c.self.inside.records.entries c.self.inside.ready c.self.invariant)
          (absent-seen (g.I.Inbox.staged c.self.inside.desk.inbox) c.self.inside.records.entries c.args.addressing.id
          (ap (λ (v : Roomy). place_of c.args.addressing.id v.state.records) c.self.view_is ∙ c.requires.may_add.absent)) c.reserve-2.ensures.entries c.open.ensures.widens
          c.in_ok-held.held c.push_record.new.records.entries c.push_record.ensures.added
          (opens c.in_ok-held.opened.begun c.in_ok-held.opened.stored c.self.inside.desk.policy.times (g.I.Inbox.published c.self.inside.desk.inbox) c.args.large (view c.args.pdu.now)
          c.args.addressing) c.in_ok-held.ensures.opens;
      counts = c.in_ok-held.ensures.counts;
      raises = subst (λ (s : Seen). AsksFirst Raises (closing (view c.args.pdu.now)) c.in_ok-held.opened.begun c.in_ok-held.opened.stored c.args.large (view c.args.pdu.now) c.args.addressing s
          (g.I.Inbox.failures c.self.inside.desk.inbox) (g.I.Inbox.failures c.open.new.self.inbox)) c.in_ok-held.ensures.opens.does.state c.in_ok-held.ensures.raises;
      outbox = c.open.ensures.widens.outbox;
    })
