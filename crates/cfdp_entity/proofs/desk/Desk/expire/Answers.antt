use Rattle.std.proofs.Common.{refl}
use Rattle.cfdp_entity.proofs.Records.{is-ready, sender-expired, receiver-stays}
use Rattle.cfdp_entity.proofs.desk.Desk.expire.Goals as goal

pub expire-requires-in-Receives-clause-ready : goal.expire-requires-in-Receives-clause-ready
expire-requires-in-Receives-clause-ready g c = is-ready c.args.held.now c.in-Receives.receiver c.in-Receives.is _ c.requires

pub returns-in-Sends-clause-stays : goal.returns-in-Sends-clause-stays
returns-in-Sends-clause-stays g c = (sender-expired c.args.held.now c.in-Sends.sender c.expire.new.self c.in-Sends.is _ _
    (record { files = refl; staged = refl; sources = refl; stands = refl; policy = refl }) c.requires c.args.kind c.expire.ensures.does).1

pub returns-in-Receives-clause-stays : goal.returns-in-Receives-clause-stays
returns-in-Receives-clause-stays g c = receiver-stays c.args.held.now c.in-Receives.receiver c.in-Receives.is _ c.expire-in-Receives.new.self _ c.expire-in-Receives.ensures.kept.addressing
    c.expire-in-Receives.ensures.kept.ready c.expire-in-Receives.ensures.kept.others refl refl refl
