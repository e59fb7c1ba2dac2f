use Rattle.std.proofs.Common.{◌∙◌, ap, sym, arith, length}
use Rattle.aos_frame.specs.Frame.{frame_len, lane_channel}
use Rattle.aos_frame.specs.declared.config.Lane.TheVariants.{Directives}
use Rattle.cfdp_port.proofs.TurnLemmas.{first_fits}
use Rattle.cfdp_port.proofs.port.Port.new.Goals as goal

pub invariant_of-result : goal.invariant_of-result
invariant_of-result g c =
    let same = ap (λ k. k.sends.zone) c.get.ensures.is in
    first_fits (length c.in_ok-frame.frame.items) c.args.config.sends c.args.config.capacity c.in_ok-station.station.down c.in_ok-station.ensures.down
    (let least = c.get.ensures.valid.sends.least_zone in omega (arith, least, same))
    (sym c.in_ok-frame.frame.ok.0 ∙ c.in_ok-frame.ensures.len ∙ c.frame_len-len.ensures ∙ ap frame_len c.lane.ensures.is ∙ ap (λ k. frame_len (lane_channel Directives k.sends)) c.get.ensures.is)
