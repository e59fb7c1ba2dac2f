use Rattle.std.proofs.Common.{refl, ap}
use Rattle.std.specs.Prelude.{Vec}
use Rattle.std.specs.declared.alloc.Global.{Global}
use Rattle.cfdp_directives.specs.declared.user.indication.Indication.{Indication}
use Rattle.cfdp_entity.proofs.Restored.{opens-sender, roomier-answered}
use Rattle.cfdp_entity.proofs.desk.Desk.restore_sender.Goals as goal

pub returns-clause-opens : goal.returns-clause-opens
returns-clause-opens g c = opens-sender c.args.self.now.policy.times c.args.sent c.args.sums c.args.kept c.in_ok-sender.sender _ _ c.in_ok-sender.ensures.sender
    (ap (λ (v : Vec Indication Global). v.items) c.in_ok-sender.ensures.told) c.in_ok-sender.ensures.timers refl c.requires.file

pub returns-clause-widens : goal.returns-clause-widens
returns-clause-widens g c = record {
  roomier = roomier-answered c.args.self.now.policy.times c.args.kept.transfer.addressing.id c.restored.result c.args.self.now.effects c.restored.new.effects c.restored.ensures.timers
      c.restored.ensures.keeps;
  others = λ other apart. refl;
  sources = refl;
  stands = refl;
  policy = refl;
  outbox = refl;
}
