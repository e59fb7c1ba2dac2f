use Rattle.std.proofs.Common.{◌∙◌}
use Rattle.cfdp_service.proofs.running.run.Goals as goal

pub returns : goal.returns
returns g c =
    let ran = c.run_port-ended.ensures in (
      ran.0,
      record {
        new = c.in_ok-port.port.station;
        first = c.count_frames_from.new.self;
        last = c.run_port-ended.new.port;
        is_new = c.in_ok-port.ensures.station;
        counts = c.count_frames_from.ensures.happens;
        over = c.count_frames_from.ensures.wire ∙ c.in_ok-port.ensures.wire;
        serves = ran.1;
        stores = ran.3;
      },
      ran.2,
    )
