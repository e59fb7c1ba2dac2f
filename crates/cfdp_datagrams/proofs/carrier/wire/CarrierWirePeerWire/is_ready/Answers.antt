use Rattle.std.proofs.Common.{◌≡◌, ap, arith, not, sym, true, ◌∙◌}
use Rattle.std.specs.Prelude.{is_some}
use Rattle.cfdp_port.specs.Calls.{Readied}
use Rattle.cfdp_datagrams.specs.CarrierWire.{CarrierState, waiting_of}
use Rattle.cfdp_datagrams.proofs.CarrierLemmas.{asked_more, asked_waits, converted}
use Rattle.cfdp_datagrams.proofs.carrier.wire.CarrierWirePeerWire.is_ready.Goals as goal

pub returns-then-waiting-eq0 : goal.returns-then-waiting-eq0
returns-then-waiting-eq0 g c =
    let there : is_some c.args.self.now.conversion ≡ true = ap (λ (s : CarrierState g.row.W.Denot). is_some s.conversion) (sym c.self.view_is) ∙ c.is_none.ensures ∙ ap not c.if-is_none.false in
    let asked = asked_more g.W.Wire.steps c.may_leave.result c.send_waiting.ensures.count c.args.self.now c.send_waiting.new.self c.may_leave.new.self c.send_waiting.ensures.steps c.may_leave.ensures in
    let kept = ap waiting_of (asked_waits g.W.Wire.steps c.may_leave.result c.send_waiting.new.self c.may_leave.new.self c.may_leave.ensures) in
    converted g.W.Wire.steps c.args.self.now.conversion (Readied c.may_leave.result) c.args.self.now c.may_leave.new.self there
    (λ before. record {
      sends = record { count = asked.0; steps = asked.1 };
      rests = λ yes. omega (arith, kept, c.waiting.ensures, c.if-waiting-eq0.true);
      leave = c.may_leave.ensures.leave;
    })
