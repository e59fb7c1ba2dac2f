use Rattle.std.proofs.Common.{refl}
use Rattle.cfdp_sender.specs.declared.taken.Taken.TheVariants.{Nothing, Moved, SourceFailed}
use Rattle.cfdp_sender.specs.Due.{carries_by, sender_due}
use Rattle.cfdp_entity.specs.Desk.{desk_lent, on_desk}
use Rattle.cfdp_entity.specs.Whole.{id_of}
use Rattle.cfdp_entity.proofs.Found.{sender-found, receiver-found}
use Rattle.cfdp_entity.proofs.Lent.{may-lent}
use Rattle.cfdp_entity.proofs.Records.{is-ready, has-file, never-failed, refused-counts, sender-took, took-there, receiver-stays}
use Rattle.cfdp_entity.proofs.desk.Desk.send.Goals as goal

pub send_of_sender-requires-clause-due : goal.send_of_sender-requires-clause-due
send_of_sender-requires-clause-due g c = sender-found ((on_desk g.O.Outbox g.I.Inbox c.args.self.now).staged (id_of c.args.held.now)) c.args.held.now c.in-Sends.sender c.args.due.now c.in-Sends.is c.requires.due

pub send_of_receiver-requires-clause-due : goal.send_of_receiver-requires-clause-due
send_of_receiver-requires-clause-due g c = receiver-found ((on_desk g.O.Outbox g.I.Inbox c.args.self.now).staged (id_of c.args.held.now)) c.args.held.now c.in-Receives.receiver c.args.due.now c.in-Receives.is c.requires.due

pub send_of_sender-requires-clause-file : goal.send_of_sender-requires-clause-file
send_of_sender-requires-clause-file g c = has-file c.args.held.now c.in-Sends.sender c.in-Sends.sender c.in-Sends.is _ (on_desk g.O.Outbox g.I.Inbox c.args.self.now)
    (record { files = refl; staged = refl; sources = refl; stands = refl; policy = refl }) c.requires.ready

pub returns-in-Nothing-clause-sent : goal.returns-in-Nothing-clause-sent
returns-in-Nothing-clause-sent g c =
    let took = sender-took c.args.held.now c.in-Sends.sender c.send_of_sender.new.sender c.in-Sends.is (desk_lent (on_desk g.O.Outbox g.I.Inbox (record c.args.self.now { outbox = c.send_of_sender.new.outbox; effects = c.send_of_sender.new.effects })) (on_desk g.O.Outbox g.I.Inbox c.args.self.now)) (on_desk g.O.Outbox g.I.Inbox (record c.args.self.now { outbox = c.send_of_sender.new.outbox; effects = c.send_of_sender.new.effects }))
    (record { files = refl; staged = refl; sources = refl; stands = refl; policy = refl }) (may-lent (carries_by (sender_due c.in-Sends.sender)) (on_desk g.O.Outbox g.I.Inbox c.args.self.now)
    (on_desk g.O.Outbox g.I.Inbox (record c.args.self.now { outbox = c.send_of_sender.new.outbox; effects = c.send_of_sender.new.effects })) c.args.held.now c.send_of_sender.ensures.rereads c.requires.ready) c.args.out.now c.send_of_sender.new.out
    Nothing c.in-Nothing.ensures.takes in
    record { made = took.0.0; gives = took.1; carries = never-failed _; counts = c.in-Nothing.ensures.failures; inbox = refl }

pub returns-in-Moved-clause-sent : goal.returns-in-Moved-clause-sent
returns-in-Moved-clause-sent g c =
    let took = sender-took c.args.held.now c.in-Sends.sender c.send_of_sender.new.sender c.in-Sends.is (desk_lent (on_desk g.O.Outbox g.I.Inbox (record c.args.self.now { outbox = c.send_of_sender.new.outbox; effects = c.send_of_sender.new.effects })) (on_desk g.O.Outbox g.I.Inbox c.args.self.now)) (on_desk g.O.Outbox g.I.Inbox (record c.args.self.now { outbox = c.send_of_sender.new.outbox; effects = c.send_of_sender.new.effects }))
    (record { files = refl; staged = refl; sources = refl; stands = refl; policy = refl }) (may-lent (carries_by (sender_due c.in-Sends.sender)) (on_desk g.O.Outbox g.I.Inbox c.args.self.now)
    (on_desk g.O.Outbox g.I.Inbox (record c.args.self.now { outbox = c.send_of_sender.new.outbox; effects = c.send_of_sender.new.effects })) c.args.held.now c.send_of_sender.ensures.rereads c.requires.ready) c.args.out.now c.send_of_sender.new.out
    (Moved c.in-Moved.octets) c.in-Moved.ensures.takes in
    record { made = took.0.0; gives = took.1; carries = never-failed _; counts = c.in-Moved.ensures.failures; inbox = refl }

pub returns-in-SourceFailed-clause-sent : goal.returns-in-SourceFailed-clause-sent
returns-in-SourceFailed-clause-sent g c =
    let took = sender-took c.args.held.now c.in-Sends.sender c.send_of_sender.new.sender c.in-Sends.is (desk_lent (on_desk g.O.Outbox g.I.Inbox (record c.args.self.now { outbox = c.send_of_sender.new.outbox; effects = c.send_of_sender.new.effects })) (on_desk g.O.Outbox g.I.Inbox c.args.self.now)) (on_desk g.O.Outbox g.I.Inbox (record c.args.self.now { outbox = c.send_of_sender.new.outbox; effects = c.send_of_sender.new.effects }))
    (record { files = refl; staged = refl; sources = refl; stands = refl; policy = refl }) (may-lent (carries_by (sender_due c.in-Sends.sender)) (on_desk g.O.Outbox g.I.Inbox c.args.self.now)
    (on_desk g.O.Outbox g.I.Inbox (record c.args.self.now { outbox = c.send_of_sender.new.outbox; effects = c.send_of_sender.new.effects })) c.args.held.now c.send_of_sender.ensures.rereads c.requires.ready) c.args.out.now c.send_of_sender.new.out
    SourceFailed c.in-SourceFailed.ensures.takes in
    record { made = took.0.0; gives = tt; carries = λ failed. took.1; counts = refused-counts _ _ c.in-SourceFailed.ensures.failures; inbox = refl }

pub returns-in-Moved-clause-stays : goal.returns-in-Moved-clause-stays
returns-in-Moved-clause-stays g c = (sender-took c.args.held.now c.in-Sends.sender c.send_of_sender.new.sender c.in-Sends.is (desk_lent (on_desk g.O.Outbox g.I.Inbox (record c.args.self.now { outbox = c.send_of_sender.new.outbox; effects = c.send_of_sender.new.effects })) (on_desk g.O.Outbox g.I.Inbox c.args.self.now)) (on_desk g.O.Outbox g.I.Inbox (record c.args.self.now { outbox = c.send_of_sender.new.outbox; effects = c.send_of_sender.new.effects }))
    (record { files = refl; staged = refl; sources = refl; stands = refl; policy = refl }) (may-lent (carries_by (sender_due c.in-Sends.sender)) (on_desk g.O.Outbox g.I.Inbox c.args.self.now)
    (on_desk g.O.Outbox g.I.Inbox (record c.args.self.now { outbox = c.send_of_sender.new.outbox; effects = c.send_of_sender.new.effects })) c.args.held.now c.send_of_sender.ensures.rereads c.requires.ready) c.args.out.now c.send_of_sender.new.out
    (Moved c.in-Moved.octets) c.in-Moved.ensures.takes).0.1

pub returns-in-SourceFailed-clause-stays : goal.returns-in-SourceFailed-clause-stays
returns-in-SourceFailed-clause-stays g c = (sender-took c.args.held.now c.in-Sends.sender c.send_of_sender.new.sender c.in-Sends.is (desk_lent (on_desk g.O.Outbox g.I.Inbox (record c.args.self.now { outbox = c.send_of_sender.new.outbox; effects = c.send_of_sender.new.effects })) (on_desk g.O.Outbox g.I.Inbox c.args.self.now)) (on_desk g.O.Outbox g.I.Inbox (record c.args.self.now { outbox = c.send_of_sender.new.outbox; effects = c.send_of_sender.new.effects }))
    (record { files = refl; staged = refl; sources = refl; stands = refl; policy = refl }) (may-lent (carries_by (sender_due c.in-Sends.sender)) (on_desk g.O.Outbox g.I.Inbox c.args.self.now)
    (on_desk g.O.Outbox g.I.Inbox (record c.args.self.now { outbox = c.send_of_sender.new.outbox; effects = c.send_of_sender.new.effects })) c.args.held.now c.send_of_sender.ensures.rereads c.requires.ready) c.args.out.now c.send_of_sender.new.out
    SourceFailed c.in-SourceFailed.ensures.takes).0.1

pub returns-in-Receives-clause-sent : goal.returns-in-Receives-clause-sent
returns-in-Receives-clause-sent g c =
    let ready = is-ready c.args.held.now c.in-Receives.receiver c.in-Receives.is (on_desk g.O.Outbox g.I.Inbox c.args.self.now) c.requires.ready in
    let took = took-there c.args.held.now c.in-Receives.receiver c.in-Receives.is (on_desk g.O.Outbox g.I.Inbox c.args.self.now) c.send_of_receiver.new.receiver
    (on_desk g.O.Outbox g.I.Inbox (record c.args.self.now { effects = c.send_of_receiver.new.effects })) c.send_of_receiver.ensures.kept.addressing refl
    c.send_of_receiver.ensures.kept ready c.send_of_receiver.result c.args.out.now c.send_of_receiver.new.out c.send_of_receiver.ensures.took in
    record { made = took.0; gives = took.1; carries = never-failed _; counts = refl; inbox = refl }

pub returns-in-Receives-clause-stays : goal.returns-in-Receives-clause-stays
returns-in-Receives-clause-stays g c =
    let ready = is-ready c.args.held.now c.in-Receives.receiver c.in-Receives.is (on_desk g.O.Outbox g.I.Inbox c.args.self.now) c.requires.ready in
    receiver-stays c.args.held.now c.in-Receives.receiver c.in-Receives.is _ c.send_of_receiver.new.receiver _ c.send_of_receiver.ensures.kept.addressing
    (c.send_of_receiver.ensures.kept.ready (g.I.Inbox.staged c.args.self.now.inbox) ready) (λ other apart. refl) refl refl refl
