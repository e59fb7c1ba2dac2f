use Rattle.std.proofs.Common.{ap, subst, arith}
use Rattle.aos_frame.specs.Frame.{IsChannel}
use Rattle.link_stack.specs.Upward.{LinkReceiverState}
use Rattle.link_stack.proofs.Streams.{lane_takes}
use Rattle.link_stack.proofs.up_lane.UpLane.take.Goals as goal

pub returns : goal.returns
returns c =
    lane_takes c.read_frame-whole.result c.args.self.now c.read_frame-whole.new.self c.args.frame.now c.args.out.now c.read_frame-whole.new.out
    (subst (λ (u : LinkReceiverState). IsChannel u.link) c.self.view_is c.self.invariant) (omega (arith, ap (λ (u : LinkReceiverState). u.link.spacecraft) c.self.view_is))
    c.read_frame-whole.ensures.control
    c.read_frame-whole.ensures.all c.read_frame-whole.ensures.front
