use Rattle.std.proofs.Common.{◌≡◌, ap, false, not, subst, sym, true, ◌∙◌}
use Rattle.std.specs.Prelude.{is_some}
use Rattle.cfdp_port.specs.Calls.{Timed}
use Rattle.cfdp_datagrams.specs.CarrierWire.{CarrierState, SendsOut}
use Rattle.cfdp_datagrams.proofs.CarrierLemmas.{converted}
use Rattle.cfdp_datagrams.proofs.carrier.wire.CarrierWirePeerWire.now.Goals as goal

pub returns : goal.returns
returns g c =
    let there : is_some c.args.self.now.conversion ≡ true = ap (λ (s : CarrierState g.row.W.Denot). is_some s.conversion) (sym c.self.view_is) ∙ c.is_none.ensures ∙ ap not c.if-is_none.false in
    converted g.W.Wire.steps c.args.self.now.conversion (Timed c.now-2.result) c.args.self.now _ there
    (λ before. record {
      sent = c.send_waiting.new.self;
      sends = subst (λ (s : CarrierState g.row.W.Denot). SendsOut g.W.Wire.steps (record s { has_leave = false }) c.send_waiting.new.self) c.self.view_is c.send_waiting.ensures;
      asked = subst (λ (w : g.row.W.Denot). g.W.Wire.steps w (Timed c.now-2.result) c.now-2.new.self) (ap (λ (s : CarrierState g.row.W.Denot). s.wire) c.self-2.view_is) c.now-2.ensures;
      conversion = ap (λ (s : CarrierState g.row.W.Denot). s.conversion) c.self-2.view_is;
    })
