use Rattle.std.proofs.Common.{subst}
use Rattle.aos_frame.specs.declared.config.ChannelConfig.{ChannelConfig}
use Rattle.link_stack.specs.AnyOrder.{IsStray}
use Rattle.any_order.proofs.Coming.{makes_noise, strays}
use Rattle.any_order.proofs.world.octets_to.Goals as goal

pub returns-clause-makes : goal.returns-clause-makes
returns-clause-makes g c d theirs puts link =
    let one = subst (λ (k : ChannelConfig). IsStray k c.args.octets.now) c.lane.ensures.is (c.is_stray.ensures.stray c.if-not-is_stray.false) in
    let two = subst (λ (k : ChannelConfig). IsStray k c.args.octets.now) c.lane-else-not-is_stray.ensures.is (c.is_stray-else-not-is_stray.ensures.stray c.if-not-is_stray-2.false) in
    makes_noise d c.args.octets.now c.args.end.now theirs c.receive.new.self puts (strays c.args.link d.receives c.args.octets.now one two link) c.receive.ensures.only c.receive.ensures.taken
