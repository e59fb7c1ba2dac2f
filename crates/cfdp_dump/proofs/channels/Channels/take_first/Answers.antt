use Rattle.std.proofs.Common.{◌≡◌, ◌∙◌, sym, subst, rules}
use Rattle.cfdp_dump.specs.Carrying.{Carries, carried_text}
use Rattle.cfdp_dump.proofs.Places.{none_is, none_with}
use Rattle.cfdp_dump.proofs.channels.Channels.take_first.Goals as goal

pub returns-clause-ok : goal.returns-clause-ok
returns-clause-ok c = record {
  channel = c.take.new.self;
  carries = subst (λ ch. Carries ch c.args.header c.args.mpdu.now (carried_text c.in_ok-carried.carried) c.take.new.self)
      (c.in_ok-channel.ensures ∙ sym (none_is c.args.header c.args.self.now c.requires.none)) c.in_ok-carried.ensures.ok;
  others = rw (none_with c.args.header c.take.new.self c.args.self.now c.requires.none) (search rules);
}
