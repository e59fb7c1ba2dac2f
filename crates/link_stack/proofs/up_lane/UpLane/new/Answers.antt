use Rattle.aos_frame.specs.declared.config.ChannelConfig.{ChannelConfig}
use Rattle.aos_frame.specs.declared.count.SeenCount.{SeenCount}
use Rattle.std.proofs.Common.{List, ℕ, [], Option, None, sym, subst, ap, length}
use Rattle.link_stack.specs.Upward.{IsUpOf}
use Rattle.link_stack.proofs.Grown.{new_is}
use Rattle.link_stack.proofs.up_lane.UpLane.new.Goals as goal

pub returns-clause-stream : goal.returns-clause-stream
returns-clause-stream c every ps whole all =
    subst (λ (k : ChannelConfig). IsUpOf every (record { link = k; last = c.new.result; begun = c.in_ok-new.field-0; drops = c.new-3.result; control = None }) ps [] 0) (sym c.get.ensures.is)
    (subst (λ (last : Option SeenCount). IsUpOf every (record { link = c.args.link; last = last; begun = c.in_ok-new.field-0; drops = c.new-3.result; control = None }) ps [] 0) (sym c.new.ensures)
    (subst (λ (held : List ℕ). IsUpOf every (record { link = c.args.link; last = None; begun = held; drops = c.new-3.result; control = None }) ps [] 0) (sym c.in_ok-new.ensures)
    (new_is every c.args.link ps c.new-3.result (ap (λ l. length l) c.new-3.ensures) whole all)))
