use Rattle.std.proofs.Common.{refl}
use Rattle.cfdp_entity.specs.Desk.{on_desk}
use Rattle.cfdp_entity.proofs.Records.{has-room, is-ready, sender-called, receiver-stays}
use Rattle.cfdp_entity.proofs.desk.Desk.request.Goals as goal

pub ask_receiver-requires : goal.ask_receiver-requires
ask_receiver-requires g c = record {
  room = has-room c.args.held.now c.in-Receives.receiver c.in-Receives.is (on_desk g.O.Outbox g.I.Inbox c.args.self.now) c.requires;
  ready = is-ready c.args.held.now c.in-Receives.receiver c.in-Receives.is (on_desk g.O.Outbox g.I.Inbox c.args.self.now) c.requires;
}

pub returns-in-Sends-clause-stays : goal.returns-in-Sends-clause-stays
returns-in-Sends-clause-stays g c = (sender-called c.args.held.now c.in-Sends.sender c.ask_sender.new.sender c.in-Sends.is _ _
    (record { files = refl; staged = refl; sources = refl; stands = refl; policy = refl }) c.requires c.args.request c.ask_sender.ensures).1

pub returns-in-Receives-clause-stays : goal.returns-in-Receives-clause-stays
returns-in-Receives-clause-stays g c = receiver-stays c.args.held.now c.in-Receives.receiver c.in-Receives.is _ c.ask_receiver.new.receiver _ c.ask_receiver.ensures.stays.addressing
    c.ask_receiver.ensures.stays.ready c.ask_receiver.ensures.stays.others refl refl refl
