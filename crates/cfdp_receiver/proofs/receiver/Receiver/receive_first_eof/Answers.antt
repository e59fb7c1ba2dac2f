use Rattle.std.proofs.Common.{◌∙◌, sym, rules}
use Rattle.cfdp_receiver.specs.Does.{at}
use Rattle.cfdp_receiver.proofs.StepLemmas.{first_eof_does}
use Rattle.cfdp_receiver.proofs.receiver.Receiver.receive_first_eof.Goals as goal

pub returns : goal.returns
returns g c = record {
  advances = record {
    does = first_eof_does c.complete.result c.args.large c.args.ending.checksum c.args.ending.size _ _
        (at g.I.Inbox c.args.self.now c.args.effects.now c.args.inbox.now) (at g.I.Inbox c.complete.new.self c.complete.new.effects c.complete.new.inbox)
        c.self.view_is (sym c.contradicts.ensures.value ∙ c.if-contradicts.false) c.indicate.ensures.tells c.complete.ensures.advances.does;
    kept = search rules;
    calls = search rules;
  };
}
