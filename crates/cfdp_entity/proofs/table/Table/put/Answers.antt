use Rattle.std.proofs.Common.{ap, ◌∙◌, length, arith}
use Rattle.std.specs.Map.{lookup}
use Rattle.cfdp_header.specs.Ids.{same_id}
use Rattle.cfdp_entity.specs.Opening.{puts}
use Rattle.cfdp_entity.specs.Desk.{on_desk}
use Rattle.cfdp_entity.specs.Roomy.{Roomy}
use Rattle.cfdp_entity.specs.Table.{place_of, put_in}
use Rattle.cfdp_entity.specs.Whole.{roomy_of}
use Rattle.cfdp_entity.proofs.Entries.{roomed, whole-roomed, becomes-roomed, whole-kept, whole-added, state-added}
use Rattle.cfdp_entity.proofs.Places.{absent-seen, length_entries}
use Rattle.cfdp_entity.proofs.table.Table.put.Goals as goal

pub invariant_of-self-in_err-held : goal.invariant_of-self-in_err-held
invariant_of-self-in_err-held g c = whole-kept c.self.inside.gone (roomed c.self.inside.gone (on_desk g.O.Outbox g.I.Inbox c.self.inside.desk) c.reserve.new.self c.reserve.ensures.items c.self.inside.records.entries)
    (on_desk g.O.Outbox g.I.Inbox c.put.new.self) c.self.inside.records.entries c.reserve-2.new.self.entries c.self.inside.ready c.args.transfer.addressing.id
    (whole-roomed c.self.inside.gone (on_desk g.O.Outbox g.I.Inbox c.self.inside.desk) c.reserve.new.self c.reserve.ensures.items c.self.inside.records.entries c.self.inside.ready c.self.invariant)
    (absent-seen (g.I.Inbox.staged c.self.inside.desk.inbox) c.self.inside.records.entries c.args.transfer.addressing.id
    (ap (λ (v : Roomy). place_of c.args.transfer.addressing.id v.state.records) c.self.view_is ∙ c.requires.may_add.absent)) c.reserve-2.ensures.entries c.put.ensures.widens

pub push_record-requires-clause-absent : goal.push_record-requires-clause-absent
push_record-requires-clause-absent g c = ap (lookup (same_id c.args.transfer.addressing.id)) c.reserve-2.ensures.entries ∙
    (absent-seen (g.I.Inbox.staged c.self.inside.desk.inbox) c.self.inside.records.entries c.args.transfer.addressing.id
    (ap (λ (v : Roomy). place_of c.args.transfer.addressing.id v.state.records) c.self.view_is ∙ c.requires.may_add.absent))

pub invariant_of-self-2 : goal.invariant_of-self-2
invariant_of-self-2 g c =
    let l = length_entries (g.I.Inbox.staged c.self.inside.desk.inbox) c.self.inside.records.entries in
    let v = ap (λ (v : Roomy). length v.state.records) c.self.view_is in
    whole-added c.self.inside.gone (roomed c.self.inside.gone (on_desk g.O.Outbox g.I.Inbox c.self.inside.desk) c.reserve.new.self c.reserve.ensures.items c.self.inside.records.entries) (on_desk g.O.Outbox g.I.Inbox c.put.new.self)
    c.self.inside.records.entries c.reserve-2.new.self.entries c.self.inside.ready c.args.transfer.addressing.id
    (whole-roomed c.self.inside.gone (on_desk g.O.Outbox g.I.Inbox c.self.inside.desk) c.reserve.new.self c.reserve.ensures.items c.self.inside.records.entries c.self.inside.ready c.self.invariant)
    (absent-seen (g.I.Inbox.staged c.self.inside.desk.inbox) c.self.inside.records.entries c.args.transfer.addressing.id
    (ap (λ (v : Roomy). place_of c.args.transfer.addressing.id v.state.records) c.self.view_is ∙ c.requires.may_add.absent)) c.reserve-2.ensures.entries c.put.ensures.widens
    c.in_ok-held.held c.push_record.new.records.entries c.push_record.ensures.added
    (puts (g.I.Inbox.published c.self.inside.desk.inbox) c.args.transfer) c.in_ok-held.ensures.opens
    (omega (arith, l, v, c.requires.may_add.not_full)) c.is_due.result (c.is_due.ensures (g.I.Inbox.staged c.put.new.self.inbox c.args.transfer.addressing.id)) c.push.new.self c.push.ensures
    c.push_record.ensures.unique

pub returns-clause-put : goal.returns-clause-put
returns-clause-put g c = becomes-roomed c.self.inside.gone (on_desk g.O.Outbox g.I.Inbox c.self.inside.desk) c.reserve.new.self c.reserve.ensures.items c.self.inside.records.entries (put_in c.args.transfer)
    c.args.self.now (roomy_of c.self.inside.gone (on_desk g.O.Outbox g.I.Inbox c.put.new.self) c.push_record.new.records.entries) c.self.view_is
    (record {
      state = state-added c.self.inside.gone (roomed c.self.inside.gone (on_desk g.O.Outbox g.I.Inbox c.self.inside.desk) c.reserve.new.self c.reserve.ensures.items c.self.inside.records.entries)
          (on_desk g.O.Outbox g.I.Inbox c.put.new.self) c.self.inside.records.entries c.reserve-2.new.self.entries c.self.inside.ready c.args.transfer.addressing.id
          (whole-roomed c.self.inside.gone (on_desk g.O.Outbox g.I.Inbox c.self.inside.desk) c.reserve.new.self c.reserve.ensures.items c.self.inside.records.entries c.self.inside.ready c.self.invariant)
          (absent-seen (g.I.Inbox.staged c.self.inside.desk.inbox) c.self.inside.records.entries c.args.transfer.addressing.id
          (ap (λ (v : Roomy). place_of c.args.transfer.addressing.id v.state.records) c.self.view_is ∙ c.requires.may_add.absent)) c.reserve-2.ensures.entries c.put.ensures.widens
          c.in_ok-held.held c.push_record.new.records.entries c.push_record.ensures.added
          (puts (g.I.Inbox.published c.self.inside.desk.inbox) c.args.transfer) c.in_ok-held.ensures.opens;
      inbox = ap g.I.Inbox.failures c.put.ensures.inbox;
      outbox = c.put.ensures.widens.outbox;
    })
