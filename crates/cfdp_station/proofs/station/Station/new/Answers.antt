use Rattle.std.proofs.Common.{sym, ap, subst, ◌∙◌}
use Rattle.aos_frame.specs.Frame.{lane_channel}
use Rattle.aos_frame.specs.declared.config.LinkConfig.{LinkConfig}
use Rattle.link_stack.specs.Frames.{AreOfLink}
use Rattle.cfdp_station.proofs.station.Station.new.Goals as goal

pub returns-clause-taken : goal.returns-clause-taken
returns-clause-taken g c lane all ps whole ours =
    let same = ap (λ k. k.receives) (sym c.get-config.ensures.is) ∙ sym c.known-2.ensures in
    c.in_ok-up.ensures.stream lane all ps whole (subst (λ (k : LinkConfig). AreOfLink (lane_channel lane k) ps) same ours)
