use Rattle.std.proofs.Common.{◌≡◌, ◌∷◌, ap, refl, subst, sym, ◌∙◌}
use Rattle.cfdp_datagrams.specs.Carrier.{ConversionState, Leaves}
use Rattle.cfdp_datagrams.specs.CarrierWire.{CarrierState}
use Rattle.cfdp_datagrams.proofs.CarrierLemmas.{some_same}
use Rattle.cfdp_datagrams.proofs.carrier.wire.CarrierWire.send_first.Goals as goal

pub returns-in-Some : goal.returns-in-Some
returns-in-Some g c other pdu rest was queue ready =
    let seen = ap (λ (s : CarrierState g.row.W.Denot). s.conversion) c.self.view_is in
    let same : c.in-Some.conversion ≡ other = some_same c.in-Some.conversion other (sym c.in-Some.is ∙ seen ∙ was) in
    let first : c.in-Some.conversion.queue ≡ pdu ∷ rest = ap (λ (s : ConversionState). s.queue) same ∙ queue in
    record {
      before = c.in-Some.conversion;
      after = c.send_first.new.self;
      pdu = pdu;
      rest = rest;
      answer = c.send_first.result;
      ready = ready;
      was = sym seen ∙ c.in-Some.is;
      queue = first;
      leaves = subst (λ (w : g.row.W.Denot). Leaves g.W.Wire.steps pdu rest c.send_first.result c.in-Some.conversion w c.send_first.new.self c.send_first.new.wire)
          (ap (λ (s : CarrierState g.row.W.Denot). s.wire) c.self.view_is)
          (c.send_first.ensures.first pdu rest first);
      now = refl;
      leave = refl;
    }
