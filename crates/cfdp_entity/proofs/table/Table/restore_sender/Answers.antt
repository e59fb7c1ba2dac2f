use Rattle.std.proofs.Common.{ap, subst, ◌∙◌, length, arith}
use Rattle.std.specs.Map.{lookup}
use Rattle.cfdp_header.specs.Ids.{same_id}
use Rattle.cfdp_entity.specs.Desk.{on_desk}
use Rattle.cfdp_entity.specs.Restoring.{restores_sender, sender_restored}
use Rattle.cfdp_entity.specs.Roomy.{Roomy, Becomes}
use Rattle.cfdp_entity.specs.Table.{place_of}
use Rattle.cfdp_entity.specs.Whole.{roomy_of, state_of}
use Rattle.cfdp_entity.proofs.Entries.{whole-kept, whole-added, state-added}
use Rattle.cfdp_entity.proofs.Places.{absent-seen, length_entries}
use Rattle.cfdp_entity.proofs.Restored.{restored-is}
use Rattle.cfdp_entity.proofs.table.Table.restore_sender.Goals as goal

pub invariant_of-self-in_err-held : goal.invariant_of-self-in_err-held
invariant_of-self-in_err-held g c = whole-kept c.self.inside.gone (on_desk g.O.Outbox g.I.Inbox c.self.inside.desk) (on_desk g.O.Outbox g.I.Inbox c.restore_sender.new.self)
    c.self.inside.records.entries c.reserve.new.self.entries c.self.inside.ready c.args.kept.transfer.addressing.id c.self.invariant
    (absent-seen (g.I.Inbox.staged c.self.inside.desk.inbox) c.self.inside.records.entries c.args.kept.transfer.addressing.id
    (ap (λ (v : Roomy). place_of c.args.kept.transfer.addressing.id v.state.records) c.self.view_is ∙ c.requires.may_add.absent)) c.reserve.ensures.entries c.restore_sender.ensures.widens

pub push_record-requires-clause-absent : goal.push_record-requires-clause-absent
push_record-requires-clause-absent g c = ap (lookup (same_id c.args.kept.transfer.addressing.id)) c.reserve.ensures.entries ∙
    (absent-seen (g.I.Inbox.staged c.self.inside.desk.inbox) c.self.inside.records.entries c.args.kept.transfer.addressing.id
    (ap (λ (v : Roomy). place_of c.args.kept.transfer.addressing.id v.state.records) c.self.view_is ∙ c.requires.may_add.absent))

pub invariant_of-self-2 : goal.invariant_of-self-2
invariant_of-self-2 g c =
    let id = c.args.kept.transfer.addressing.id in
    let l = length_entries (g.I.Inbox.staged c.self.inside.desk.inbox) c.self.inside.records.entries in
    let v = ap (λ (v : Roomy). length v.state.records) c.self.view_is in
    whole-added c.self.inside.gone (on_desk g.O.Outbox g.I.Inbox c.self.inside.desk) (on_desk g.O.Outbox g.I.Inbox c.restore_sender.new.self)
    c.self.inside.records.entries c.reserve.new.self.entries c.self.inside.ready id c.self.invariant
    (absent-seen (g.I.Inbox.staged c.self.inside.desk.inbox) c.self.inside.records.entries id
    (ap (λ (v : Roomy). place_of id v.state.records) c.self.view_is ∙ c.requires.may_add.absent)) c.reserve.ensures.entries c.restore_sender.ensures.widens
    c.in_ok-held.held c.push_record.new.records.entries c.push_record.ensures.added
    (restores_sender c.self.inside.desk.policy.times (g.I.Inbox.published c.self.inside.desk.inbox) c.args.sent c.args.sums c.args.kept) c.in_ok-held.ensures.opens
    (omega (arith, l, v, c.requires.may_add.not_full)) c.is_due.result (c.is_due.ensures (g.I.Inbox.staged c.restore_sender.new.self.inbox id)) c.push.new.self c.push.ensures
    c.push_record.ensures.unique

pub returns-clause-restored : goal.returns-clause-restored
returns-clause-restored g c =
    let id = c.args.kept.transfer.addressing.id in
    let old = on_desk g.O.Outbox g.I.Inbox c.self.inside.desk in
    let new = on_desk g.O.Outbox g.I.Inbox c.restore_sender.new.self in
    let entries = c.self.inside.records.entries in
    subst (λ (v : Roomy). Becomes (sender_restored c.args.sent c.args.sums c.args.kept v.state) v (roomy_of c.self.inside.gone new c.push_record.new.records.entries)) c.self.view_is
    (record {
      state = state-added c.self.inside.gone old new entries c.reserve.new.self.entries c.self.inside.ready id c.self.invariant
          (absent-seen (g.I.Inbox.staged c.self.inside.desk.inbox) entries id
          (ap (λ (v : Roomy). place_of id v.state.records) c.self.view_is ∙ c.requires.may_add.absent)) c.reserve.ensures.entries c.restore_sender.ensures.widens
          c.in_ok-held.held c.push_record.new.records.entries c.push_record.ensures.added
          (restores_sender c.self.inside.desk.policy.times (g.I.Inbox.published c.self.inside.desk.inbox) c.args.sent c.args.sums c.args.kept) c.in_ok-held.ensures.opens
          ∙ restored-is c.args.sent c.args.sums c.args.kept (state_of c.self.inside.gone old entries);
      inbox = ap g.I.Inbox.failures c.restore_sender.ensures.inbox;
      outbox = c.restore_sender.ensures.widens.outbox;
    })
