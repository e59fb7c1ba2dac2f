use Rattle.std.proofs.Common.{inr, length, refl}
use Rattle.cfdp_port.specs.Port.{KeepsLinks}
use Rattle.cfdp_port.proofs.TurnLemmas.{fits_still, kept_both, kept_flushed, kept_lanes, kept_same, on_err}
use Rattle.cfdp_port.proofs.turn.send.Goals as goal

pub returns-in_err-poll_until-clause-err : goal.returns-in_err-poll_until-clause-err
returns-in_err-poll_until-clause-err g c =
    on_err c.from_residual-in_err-poll_until.result _ (record { ends = inr (c.tick.new.station, c.in_ok-tick.ensures.told, c.in_err-poll_until.ensures.err); wire = refl })

pub send_whole-requires : goal.send_whole-requires
send_whole-requires g c =
    let told : KeepsLinks c.args.station.now.down c.tick.new.station.down = kept_same c.args.station.now.down c.tick.new.station.down c.in_ok-tick.ensures.link.0 in
    let polled : KeepsLinks c.args.station.now.down c.poll_until.new.self.down =
    kept_both c.args.station.now.down c.tick.new.station.down c.poll_until.new.self.down told (kept_lanes c.tick.new.station.down c.poll_until.new.self.down c.poll_until.ensures.lanes) in
    let all : KeepsLinks c.args.station.now.down c.flush.new.self.down =
    kept_both c.args.station.now.down c.poll_until.new.self.down c.flush.new.self.down polled (kept_flushed c.poll_until.new.self.down c.flush.new.self.down c.flush.ensures.flushed) in
    fits_still (length c.args.frame.now) c.args.station.now c.flush.new.self all c.requires
