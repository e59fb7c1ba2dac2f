use Rattle.std.proofs.Common.{rules}
use Rattle.std.specs.FinMap.{empty}
use Rattle.cfdp_receiver.proofs.StagedLemmas.{ready_opened}
use Rattle.cfdp_receiver.proofs.receiver.Receiver.open.Goals as goal

pub returns-in-Ok-clause-kept : goal.returns-in-Ok-clause-kept
returns-in-Ok-clause-kept g c =
    record {
      addressing = search rules;
      ready = ready_opened (g.I.Inbox.staged c.begin.new.self) c.new-receiver.result c.args.addressing empty
          c.new-receiver.ensures c.in-Ok.ensures.staged;
      others = search rules;
      grows = search rules;
      lets_go = search rules;
    }
