use Rattle.std.proofs.Common.{refl, suc}
use Rattle.cfdp_port.specs.Port.{port_state}
use Rattle.cfdp_port.proofs.turn.send_whole.Goals as goal

pub loop-side-preserved : goal.loop-side-preserved
loop-side-preserved g c = (
  (suc c.loop-side.invariant.0.0, (port_state c.loop-side.station c.loop-side.wire, c.loop-side.invariant.0.1, c.loop-side-test.ensures.sent refl)),
  c.send_one.ensures.fits,
)
