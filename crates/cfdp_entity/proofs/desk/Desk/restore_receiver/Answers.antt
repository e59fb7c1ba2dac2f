use Rattle.std.proofs.Common.{◌≡◌, None, true, sym, ap, ◌∙◌}
use Rattle.std.specs.Prelude.{Vec}
use Rattle.std.specs.FinSet as set
use Rattle.std.specs.declared.alloc.Global.{Global}
use Rattle.cfdp_directives.specs.declared.user.indication.Indication.{Indication}
use Rattle.cfdp_timers.specs.declared.effects.Effects.{Effects}
use Rattle.cfdp_receiver.specs.Does.{timers_set, with_room}
use Rattle.cfdp_entity.specs.declared.desk.Desk.{Desk}
use Rattle.cfdp_entity.proofs.RestoredReceivers.{opens-receiver, room-answered}
use Rattle.cfdp_entity.proofs.desk.Desk.restore_receiver.Goals as goal

pub returns-in-Ok-clause-opens : goal.returns-in-Ok-clause-opens
returns-in-Ok-clause-opens g c =
    let times = c.adopt.new.self.policy.times in
    let effects : c.adopt.new.self.effects ≡ c.args.self.now.effects = ap (λ (d : Desk g.row.O.Denot g.row.I.Denot). d.effects) c.adopt.ensures.rest in
    opens-receiver times c.args.held c.in_ok-sums.sums c.args.kept c.in-Ok.receiver _ _
    (sym (ap (λ (d : Desk g.row.O.Denot g.row.I.Denot). d.policy.times) c.adopt.ensures.rest)) c.in-Ok.ensures.receiver c.in_ok-sums.ensures.adopted
    (ap (λ (v : Vec Indication Global). v.items) c.in-Ok.ensures.told ∙ ap (λ (e : Effects). e.told.items) effects)
    (c.in-Ok.ensures.timers ∙ ap (λ (e : Effects). timers_set times None c.in-Ok.receiver (with_room c.args.kept.addressing.id e).timers) effects)
    c.adopt.ensures.published

pub returns-in-Ok-clause-widens : goal.returns-in-Ok-clause-widens
returns-in-Ok-clause-widens g c = record {
  roomier = λ k h. room-answered c.adopt.new.self.policy.times c.args.kept.addressing.id c.restored.result c.adopt.new.self.effects c.restored.new.effects c.restored.ensures.timers
      c.restored.ensures.keeps k (ap (λ (d : Desk g.row.O.Denot g.row.I.Denot). set.contains d.effects.timers.roomy k) c.adopt.ensures.rest ∙ h);
  others = c.adopt.ensures.others;
  sources = ap (λ (d : Desk g.row.O.Denot g.row.I.Denot). g.O.Outbox.files d.outbox) c.adopt.ensures.rest;
  stands = ap (λ (d : Desk g.row.O.Denot g.row.I.Denot). g.O.Outbox.stands d.outbox) c.adopt.ensures.rest;
  policy = ap (λ (d : Desk g.row.O.Denot g.row.I.Denot). d.policy) c.adopt.ensures.rest;
  outbox = ap (λ (d : Desk g.row.O.Denot g.row.I.Denot). g.O.Outbox.failures d.outbox) c.adopt.ensures.rest;
}
