use Rattle.std.proofs.Common.{refl}
use Rattle.cfdp_directives.specs.Pdu.Content.{view}
use Rattle.cfdp_entity.specs.Whole.{id_of}
use Rattle.cfdp_entity.proofs.Raised.{heard-here}
use Rattle.cfdp_entity.specs.Desk.{on_desk}
use Rattle.cfdp_entity.proofs.Records.{has-room, is-ready, sender-answered, sender-stays, heard-asked, heard-failed, receiver-stays}
use Rattle.cfdp_entity.proofs.desk.Desk.hear.Goals as goal

pub receiver_hears-requires : goal.receiver_hears-requires
receiver_hears-requires g c = record {
  room = has-room c.args.held.now c.in-Receives.receiver c.in-Receives.is (on_desk g.O.Outbox g.I.Inbox c.args.self.now) c.requires;
  ready = is-ready c.args.held.now c.in-Receives.receiver c.in-Receives.is (on_desk g.O.Outbox g.I.Inbox c.args.self.now) c.requires;
}

pub returns-in-Sends-clause-heard : goal.returns-in-Sends-clause-heard
returns-in-Sends-clause-heard g c = sender-answered c.args.held.now c.in-Sends.sender c.sender_hears.new.sender c.in-Sends.is _ _
    (record { files = refl; staged = refl; sources = refl; stands = refl; policy = refl }) c.requires
    c.sender_hears.result c.args.large (view c.args.pdu.now) c.sender_hears.ensures.does c.sender_hears.ensures.keeps refl refl

pub returns-in-Sends-clause-stays : goal.returns-in-Sends-clause-stays
returns-in-Sends-clause-stays g c = sender-stays c.args.held.now c.in-Sends.sender c.sender_hears.new.sender c.in-Sends.is _ _
    (record { files = refl; staged = refl; sources = refl; stands = refl; policy = refl }) c.requires
    c.sender_hears.result c.args.large (view c.args.pdu.now) c.sender_hears.ensures.does c.sender_hears.ensures.keeps refl refl

pub returns-in-Receives-clause-asks : goal.returns-in-Receives-clause-asks
returns-in-Receives-clause-asks g c = heard-asked c.args.held.now c.in-Receives.receiver c.in-Receives.is _ c.receiver_hears.new.receiver _ c.receiver_hears.ensures.stays.addressing
    c.receiver_hears.result c.args.large (view c.args.pdu.now) c.receiver_hears.ensures.does
    (heard-here g.I.Inbox.steps g.I.Inbox.failures c.args.held.now c.in-Receives.receiver c.receiver_hears.new.receiver c.in-Receives.is
    (g.I.Inbox.staged c.args.self.now.inbox (id_of c.args.held.now)) (g.I.Inbox.staged c.receiver_hears.new.inbox (id_of c.args.held.now))
    c.args.self.now.inbox c.receiver_hears.new.inbox c.receiver_hears.result c.args.large (view c.args.pdu.now) c.receiver_hears.ensures.calls) refl

pub returns-in-Receives-clause-err : goal.returns-in-Receives-clause-err
returns-in-Receives-clause-err g c = heard-failed c.args.held.now c.in-Receives.receiver c.in-Receives.is _ c.receiver_hears.new.receiver _ c.receiver_hears.ensures.stays.addressing
    c.receiver_hears.result (view c.args.pdu.now) c.receiver_hears.ensures.keeps refl

pub returns-in-Receives-clause-stays : goal.returns-in-Receives-clause-stays
returns-in-Receives-clause-stays g c = receiver-stays c.args.held.now c.in-Receives.receiver c.in-Receives.is _ c.receiver_hears.new.receiver _ c.receiver_hears.ensures.stays.addressing
    c.receiver_hears.ensures.stays.ready c.receiver_hears.ensures.stays.others refl refl refl
