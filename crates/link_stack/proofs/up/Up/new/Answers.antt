use Rattle.std.proofs.Common.{sym, subst}
use Rattle.aos_frame.specs.declared.config.ChannelConfig.{ChannelConfig}
use Rattle.aos_frame.specs.declared.config.Lane.TheVariants.{Directives, Data}
use Rattle.link_stack.specs.Frames.{AreOfLink}
use Rattle.link_stack.proofs.up.Up.new.Goals as goal

pub returns-clause-stream : goal.returns-clause-stream
returns-clause-stream c Directives all ps whole ours =
    c.in_ok-new.ensures.stream all ps whole (subst (λ (k : ChannelConfig). AreOfLink k ps) (sym c.of.ensures) ours)
returns-clause-stream c Data all ps whole ours =
    c.in_ok-new-2.ensures.stream all ps whole (subst (λ (k : ChannelConfig). AreOfLink k ps) (sym c.of-2.ensures) ours)
