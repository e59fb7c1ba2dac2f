use Rattle.std.proofs.Common.{◌≡◌, Bool, List, Option, refl, sym, ap, subst, ◌∙◌}
use Rattle.cfdp_directives.specs.declared.pdu.addressing.Addressing.{Addressing}
use Rattle.cfdp_directives.specs.Pdu.Content.{Content, view}
use Rattle.cfdp_store.specs.Calls.{InboxCall}
use Rattle.cfdp_store.specs.Staged.{OctetMap}
use Rattle.cfdp_store.specs.declared.stored.Stored.{Stored}
use Rattle.cfdp_store.specs.declared.stored.Stored.TheVariants.{Done}
use Rattle.cfdp_timers.specs.Armed.{TimersState}
use Rattle.cfdp_receiver.specs.Does as receiver_does
use Rattle.cfdp_receiver.specs.State.{ReceiverState, opened_receiver}
use Rattle.cfdp_receiver.specs.Steps as receiver
use Rattle.cfdp_receiver.specs.Storing.{Begins}
use Rattle.cfdp_entity.specs.declared.desk.Desk.{Desk}
use Rattle.cfdp_entity.specs.declared.record.Record.TheVariants as records
use Rattle.cfdp_entity.specs.Desk.{DeskState, on_desk}
use Rattle.cfdp_entity.specs.Does.{Opens, Widens}
use Rattle.cfdp_entity.specs.Opening.{begins}
use Rattle.cfdp_entity.specs.Seen.{seen}
use Rattle.cfdp_entity.specs.Storing.{AsksHeard, AsksToBegin}
use Rattle.cfdp_entity.proofs.Openings.{as-left, opens-begun, opens-refused, others-chain, roomier-by}
use Rattle.cfdp_entity.proofs.Records.{kept-roomy, still-roomy}
use Rattle.cfdp_entity.proofs.desk.Desk.begin.Goals as goal
use Rattle.cfdp_entity.proofs.desk.Desk.begin.Goals.{in-Done+in_ok-stored-in-Done, in-Refused}

-- the calls of a branch, by what is there
asks-left : {S : Type 0} (P : Stored → Stored → ReceiverState → S → Type 0) {b c s t : Stored} {r q : ReceiverState} {d e : S} → b ≡ c → s ≡ t → r ≡ q → d ≡ e → P c t q e → P b s r d
asks-left P {b} {c} {s} {t} {r} {q} {d} {e} begun stored receiver store h =
    subst (λ x. P x s r d) (sym begun) (subst (λ x. P c x r d) (sym stored) (subst (λ x. P c t x d) (sym receiver) (subst (P c t q) (sym store) h)))

-- the inbox began the transaction, and then the receiver heard the PDU
asks-begun : {S : Type 0} (By : List InboxCall → S → S → Type 0) (stored : Stored) (large : Bool) (v : Content) (a : Addressing) (r s : ReceiverState) (o : Option OctetMap) (old mid new : S) →
    r ≡ opened_receiver a → Begins By Done a.id old mid → AsksHeard By large v stored r s mid new → AsksToBegin By Done stored large v a (seen o (records.Receives s)) old new
asks-begun By stored large v a r s o old mid new is begun heard = (mid, begun, subst (λ (x : ReceiverState). AsksHeard By large v stored x s mid new) is heard)

pub returns-clause-calls : goal.returns-clause-calls
returns-clause-calls g c = elim c.match-begun.branch [
  | in-Done+in_ok-stored-in-Done w ↦
      asks-left (λ b s (r : ReceiverState) (i : g.row.I.Denot). AsksToBegin (receiver_does.MakesIn g.I.Inbox) b s c.args.large (view c.args.pdu.now) c.args.addressing
      (seen (g.I.Inbox.staged i c.args.addressing.id) (records.Receives r)) c.args.self.now.inbox i)
      w.in-Done.is w.stored-is w.receiver-is (ap (λ (d : Desk g.row.O.Denot g.row.I.Denot). d.inbox) w.self-is)
      (asks-begun (receiver_does.MakesIn g.I.Inbox) w.in_ok-stored-in-Done.stored c.args.large (view c.args.pdu.now) c.args.addressing c.in_ok-receiver.receiver w.receiver_hears.new.receiver
      (g.I.Inbox.staged w.receiver_hears.new.inbox c.args.addressing.id)
      c.args.self.now.inbox c.open.new.inbox w.receiver_hears.new.inbox
      (subst (λ b. receiver_does.Does receiver_does.timers_kept b (λ m files s. receiver.opens b c.args.large files c.args.addressing)
      (receiver_does.at g.I.Inbox (opened_receiver c.args.addressing) (receiver_does.with_room c.args.addressing.id c.args.self.now.effects) c.args.self.now.inbox)
      (receiver_does.at g.I.Inbox c.in_ok-receiver.receiver c.open.new.effects c.open.new.inbox)) w.in-Done.is c.in_ok-receiver.ensures.does).receiver
      (subst (λ b. Begins (receiver_does.MakesIn g.I.Inbox) b c.args.addressing.id c.args.self.now.inbox c.open.new.inbox) w.in-Done.is c.in_ok-receiver.ensures.calls)
      w.in_ok-stored-in-Done.ensures.calls)
  | in-Refused w ↦
      asks-left (λ b s (r : ReceiverState) (i : g.row.I.Denot). AsksToBegin (receiver_does.MakesIn g.I.Inbox) b s c.args.large (view c.args.pdu.now) c.args.addressing
      (seen (g.I.Inbox.staged i c.args.addressing.id) (records.Receives r)) c.args.self.now.inbox i)
      w.in-Refused.is w.stored-is w.receiver-is (ap (λ (d : Desk g.row.O.Denot g.row.I.Denot). d.inbox) w.self-is)
      (subst (λ b. Begins (receiver_does.MakesIn g.I.Inbox) b c.args.addressing.id c.args.self.now.inbox c.open.new.inbox) w.in-Refused.is c.in_ok-receiver.ensures.calls)
]

pub returns-clause-opens : goal.returns-clause-opens
returns-clause-opens g c = elim c.match-begun.branch [
  | in-Done+in_ok-stored-in-Done w ↦
      as-left (λ b s (r : ReceiverState) (d : DeskState). Opens c.args.addressing.id (begins b s c.args.self.now.policy.times (g.I.Inbox.published c.args.self.now.inbox) c.args.large
      (view c.args.pdu.now) c.args.addressing) (records.Receives r) (on_desk g.O.Outbox g.I.Inbox c.args.self.now) d)
      w.in-Done.is w.stored-is w.receiver-is (ap (on_desk g.O.Outbox g.I.Inbox) w.self-is)
      (opens-begun c.args.addressing c.args.large (view c.args.pdu.now) c.in_ok-receiver.receiver (on_desk g.O.Outbox g.I.Inbox c.args.self.now) (g.I.Inbox.staged c.open.new.inbox)
      (g.I.Inbox.published c.open.new.inbox) c.open.new.effects (g.I.Inbox.failures c.open.new.inbox)
      w.in_ok-stored-in-Done.stored w.receiver_hears.new.receiver _
      (subst (λ b. receiver_does.Does receiver_does.timers_kept b (λ m files s. receiver.opens b c.args.large files c.args.addressing)
      (receiver_does.at g.I.Inbox (opened_receiver c.args.addressing) (receiver_does.with_room c.args.addressing.id c.args.self.now.effects) c.args.self.now.inbox)
      (receiver_does.at g.I.Inbox c.in_ok-receiver.receiver c.open.new.effects c.open.new.inbox)) w.in-Done.is c.in_ok-receiver.ensures.does)
      w.in_ok-stored-in-Done.ensures.does w.receiver_hears.ensures.stays.addressing w.receiver_hears.ensures.stays.ready c.in_ok-receiver.ensures.has_room)
  | in-Refused w ↦
      as-left (λ b s (r : ReceiverState) (d : DeskState). Opens c.args.addressing.id (begins b s c.args.self.now.policy.times (g.I.Inbox.published c.args.self.now.inbox) c.args.large
      (view c.args.pdu.now) c.args.addressing) (records.Receives r) (on_desk g.O.Outbox g.I.Inbox c.args.self.now) d)
      w.in-Refused.is w.stored-is w.receiver-is (ap (on_desk g.O.Outbox g.I.Inbox) w.self-is)
      (opens-refused c.args.addressing c.args.large (view c.args.pdu.now) c.in_ok-receiver.receiver (on_desk g.O.Outbox g.I.Inbox c.args.self.now) Done _
      (subst (λ b. receiver_does.Does receiver_does.timers_kept b (λ m files s. receiver.opens b c.args.large files c.args.addressing)
      (receiver_does.at g.I.Inbox (opened_receiver c.args.addressing) (receiver_does.with_room c.args.addressing.id c.args.self.now.effects) c.args.self.now.inbox)
      (receiver_does.at g.I.Inbox c.in_ok-receiver.receiver c.open.new.effects c.open.new.inbox)) w.in-Refused.is c.in_ok-receiver.ensures.does)
      c.in_ok-receiver.ensures.kept.addressing c.in_ok-receiver.ensures.kept.ready c.in_ok-receiver.ensures.has_room)
]

pub returns-clause-widens : goal.returns-clause-widens
returns-clause-widens g c = elim c.match-begun.branch [
  | in-Done+in_ok-stored-in-Done w ↦ subst (λ (d : Desk g.row.O.Denot g.row.I.Denot). Widens c.args.addressing.id (on_desk g.O.Outbox g.I.Inbox c.args.self.now) (on_desk g.O.Outbox g.I.Inbox d))
      (sym w.self-is) (record {
        roomier = roomier-by c.args.self.now.effects.timers w.receiver_hears.new.effects.timers c.args.addressing.id
            (kept-roomy _ _ _ _ _ w.in_ok-stored-in-Done.ensures.does ∙ ap (λ (t : TimersState). t.roomy) c.in_ok-receiver.ensures.does.timers);
        others = others-chain c.args.addressing.id c.in_ok-receiver.receiver.addressing.id (ap (λ (k : Addressing). k.id) c.in_ok-receiver.ensures.kept.addressing)
            (g.I.Inbox.staged c.args.self.now.inbox) (g.I.Inbox.staged c.open.new.inbox) (g.I.Inbox.staged w.receiver_hears.new.inbox) c.in_ok-receiver.ensures.kept.others
            w.receiver_hears.ensures.stays.others;
        sources = refl;
        stands = refl;
        policy = refl;
        outbox = refl;
      })
  | in-Refused w ↦ subst (λ (d : Desk g.row.O.Denot g.row.I.Denot). Widens c.args.addressing.id (on_desk g.O.Outbox g.I.Inbox c.args.self.now) (on_desk g.O.Outbox g.I.Inbox d))
      (sym w.self-is) (record {
        roomier = roomier-by c.args.self.now.effects.timers c.open.new.effects.timers c.args.addressing.id (ap (λ (t : TimersState). t.roomy) c.in_ok-receiver.ensures.does.timers);
        others = c.in_ok-receiver.ensures.kept.others;
        sources = refl;
        stands = refl;
        policy = refl;
        outbox = refl;
      })
]

pub returns-in_err-stored-in-Done-clause-widens : goal.returns-in_err-stored-in-Done-clause-widens
returns-in_err-stored-in-Done-clause-widens g c = record {
  roomier = roomier-by c.args.self.now.effects.timers c.receiver_hears.new.effects.timers c.args.addressing.id
      (still-roomy (view c.args.pdu.now) _ _ c.in_err-stored-in-Done.ensures.keeps ∙ ap (λ (t : TimersState). t.roomy) c.in_ok-receiver.ensures.does.timers);
  others = others-chain c.args.addressing.id c.in_ok-receiver.receiver.addressing.id (ap (λ (k : Addressing). k.id) c.in_ok-receiver.ensures.kept.addressing)
      (g.I.Inbox.staged c.args.self.now.inbox) (g.I.Inbox.staged c.open.new.inbox) (g.I.Inbox.staged c.receiver_hears.new.inbox) c.in_ok-receiver.ensures.kept.others
      c.receiver_hears.ensures.stays.others;
  sources = refl;
  stands = refl;
  policy = refl;
  outbox = refl;
}
