use Rattle.std.proofs.Common.{◌≤◌, suc, ap, arith, inr}
use Rattle.cfdp_datagrams.specs.CarrierWire.{waiting_of}
use Rattle.cfdp_datagrams.proofs.CarrierLemmas.{asked_more, asked_waits, first_of, one_less, one_more}
use Rattle.cfdp_datagrams.proofs.carrier.wire.CarrierWire.send_waiting.Goals as goal

pub loop-datagram-preserved : goal.loop-datagram-preserved
loop-datagram-preserved g c =
    let asked = asked_more g.W.Wire.steps c.may_leave.result c.loop-datagram.invariant.0.0 c.args.self.now c.loop-datagram.self c.may_leave.new.self c.loop-datagram.invariant.0.1 c.may_leave.ensures in
    let kept = ap waiting_of (asked_waits g.W.Wire.steps c.may_leave.result c.loop-datagram.self c.may_leave.new.self c.may_leave.ensures) in
    let some : 1 ≤ waiting_of c.may_leave.new.self.conversion = omega (arith, kept, c.loop-datagram.invariant.1, c.loop-datagram-test.true) in
    let first = first_of c.may_leave.new.self.conversion some in
    let left = c.send_first.ensures first.conversion first.pdu first.rest first.there first.queue (c.may_leave.ensures.leave c.if-not-may_leave.false) in
    let less = one_less g.W.Wire.steps c.may_leave.new.self c.send_first.new.self left in (
      (suc asked.0, one_more g.W.Wire.steps asked.0 c.args.self.now c.may_leave.new.self c.send_first.new.self asked.1 (inr left)),
      omega (arith, less, kept, c.loop-datagram.invariant.1),
    )

pub returns-then-not-may_leave : goal.returns-then-not-may_leave
returns-then-not-may_leave g c =
    let asked = asked_more g.W.Wire.steps c.may_leave.result c.loop-datagram.invariant.0.0 c.args.self.now c.loop-datagram.self c.may_leave.new.self c.loop-datagram.invariant.0.1 c.may_leave.ensures in
    record { count = asked.0; steps = asked.1 }
