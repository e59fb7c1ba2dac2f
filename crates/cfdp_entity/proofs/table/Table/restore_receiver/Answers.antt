use Rattle.std.proofs.Common.{ap, subst, ◌∙◌, length, arith}
use Rattle.std.specs.Map.{lookup}
use Rattle.cfdp_header.specs.Ids.{same_id}
use Rattle.cfdp_store.specs.Staged.{staged_for}
use Rattle.cfdp_entity.specs.Desk.{on_desk}
use Rattle.cfdp_entity.specs.Restoring.{AddsReceiver, counted_as, restores_receiver}
use Rattle.cfdp_entity.specs.Roomy.{Roomy}
use Rattle.cfdp_entity.specs.Table.{place_of}
use Rattle.cfdp_entity.specs.Whole.{roomy_of, state_of}
use Rattle.cfdp_entity.proofs.Entries.{becomes-kept, whole-kept, whole-added, state-added}
use Rattle.cfdp_entity.proofs.Places.{absent-seen, length_entries}
use Rattle.cfdp_entity.proofs.RestoredReceivers.{on-err, receiver-added, widens-counted}
use Rattle.cfdp_entity.proofs.table.Table.restore_receiver.Goals as goal

pub invariant_of-self-in_err-opened : goal.invariant_of-self-in_err-opened
invariant_of-self-in_err-opened g c = whole-kept c.self.inside.gone (on_desk g.O.Outbox g.I.Inbox c.self.inside.desk) (on_desk g.O.Outbox g.I.Inbox c.restore_receiver.new.self)
    c.self.inside.records.entries c.reserve.new.self.entries c.self.inside.ready c.args.kept.addressing.id c.self.invariant
    (absent-seen (g.I.Inbox.staged c.self.inside.desk.inbox) c.self.inside.records.entries c.args.kept.addressing.id
    (ap (λ (v : Roomy). place_of c.args.kept.addressing.id v.state.records) c.self.view_is ∙ c.requires.may_add.absent)) c.reserve.ensures.entries c.restore_receiver.ensures.widens

pub returns-in_err-opened-clause-err : goal.returns-in_err-opened-clause-err
returns-in_err-opened-clause-err g c =
    let old = on_desk g.O.Outbox g.I.Inbox c.self.inside.desk in
    let new = on_desk g.O.Outbox g.I.Inbox c.restore_receiver.new.self in
    on-err c.from_residual.result ((becomes-kept c.self.inside.gone old (counted_as new old) c.self.inside.records.entries c.reserve.new.self.entries c.self.inside.ready c.args.kept.addressing.id c.self.invariant
    (absent-seen (g.I.Inbox.staged c.self.inside.desk.inbox) c.self.inside.records.entries c.args.kept.addressing.id
    (ap (λ (v : Roomy). place_of c.args.kept.addressing.id v.state.records) c.self.view_is ∙ c.requires.may_add.absent)) c.reserve.ensures.entries
    (widens-counted c.args.kept.addressing.id old new c.restore_receiver.ensures.widens) c.in_err-opened.ensures.err).state
    ∙ ap (λ (v : Roomy). v.state) c.self.view_is)

pub push_record-requires-clause-absent : goal.push_record-requires-clause-absent
push_record-requires-clause-absent g c = ap (lookup (same_id c.args.kept.addressing.id)) c.reserve.ensures.entries ∙
    (absent-seen (g.I.Inbox.staged c.self.inside.desk.inbox) c.self.inside.records.entries c.args.kept.addressing.id
    (ap (λ (v : Roomy). place_of c.args.kept.addressing.id v.state.records) c.self.view_is ∙ c.requires.may_add.absent))

pub invariant_of-self-2 : goal.invariant_of-self-2
invariant_of-self-2 g c =
    let id = c.args.kept.addressing.id in
    let l = length_entries (g.I.Inbox.staged c.self.inside.desk.inbox) c.self.inside.records.entries in
    let v = ap (λ (v : Roomy). length v.state.records) c.self.view_is in
    let opens = c.in_ok-opened.ensures.opens in
    whole-added c.self.inside.gone (on_desk g.O.Outbox g.I.Inbox c.self.inside.desk) (on_desk g.O.Outbox g.I.Inbox c.restore_receiver.new.self)
    c.self.inside.records.entries c.reserve.new.self.entries c.self.inside.ready id c.self.invariant
    (absent-seen (g.I.Inbox.staged c.self.inside.desk.inbox) c.self.inside.records.entries id
    (ap (λ (v : Roomy). place_of id v.state.records) c.self.view_is ∙ c.requires.may_add.absent)) c.reserve.ensures.entries c.restore_receiver.ensures.widens
    c.in_ok-opened.opened c.push_record.new.records.entries c.push_record.ensures.added
    (restores_receiver c.self.inside.desk.policy.times (g.I.Inbox.published c.self.inside.desk.inbox) (staged_for (g.I.Inbox.staged c.restore_receiver.new.self.inbox) id) c.args.held opens.sums
    c.args.kept) opens.opens
    (omega (arith, l, v, c.requires.may_add.not_full)) c.is_due.result (c.is_due.ensures (g.I.Inbox.staged c.restore_receiver.new.self.inbox id)) c.push.new.self c.push.ensures
    c.push_record.ensures.unique

pub returns-clause-restored : goal.returns-clause-restored
returns-clause-restored g c =
    let id = c.args.kept.addressing.id in
    let old = on_desk g.O.Outbox g.I.Inbox c.self.inside.desk in
    let new = on_desk g.O.Outbox g.I.Inbox c.restore_receiver.new.self in
    let entries = c.self.inside.records.entries in
    let opens = c.in_ok-opened.ensures.opens in
    subst (λ (v : Roomy). AddsReceiver c.args.kept c.args.held v.state (state_of c.self.inside.gone new c.push_record.new.records.entries)) c.self.view_is
    (receiver-added c.args.kept c.args.held opens.sums (new.staged id) (state_of c.self.inside.gone old entries) (state_of c.self.inside.gone new c.push_record.new.records.entries) opens.adopted
    (state-added c.self.inside.gone old new entries c.reserve.new.self.entries c.self.inside.ready id c.self.invariant
    (absent-seen (g.I.Inbox.staged c.self.inside.desk.inbox) entries id
    (ap (λ (v : Roomy). place_of id v.state.records) c.self.view_is ∙ c.requires.may_add.absent)) c.reserve.ensures.entries c.restore_receiver.ensures.widens
    c.in_ok-opened.opened c.push_record.new.records.entries c.push_record.ensures.added
    (restores_receiver old.policy.times old.files (staged_for new.staged id) c.args.held opens.sums c.args.kept) opens.opens))
