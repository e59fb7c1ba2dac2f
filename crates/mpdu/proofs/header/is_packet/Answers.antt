use Rattle.std.proofs.Common.{[], length, sym, ap, ◌∙◌, IsTrue}
use Rattle.std.proofs.lemmas.List.{append-nil}
use Rattle.std.proofs.lemmas.Bool.{eq-eqb, eqb-true}
use Rattle.space_packet.specs.Packet.{view}
use Rattle.mpdu.specs.Stream.{IsPacket}
use Rattle.mpdu.proofs.Whole.{whole_is}
use Rattle.mpdu.proofs.header.is_packet.Goals as goal

pub returns-in-Ok : goal.returns-in-Ok
returns-in-Ok c = (
  λ (h : IsTrue c.is_empty.result). whole_is (view c.in-Ok.field-0-0) c.args.bytes.now c.in-Ok.rest.now c.in-Ok.ensures.found c.in-Ok.ensures.rest
      (eqb-true (length c.in-Ok.rest.now) 0 (sym c.is_empty.ensures ∙ h)),
  λ (h : IsPacket c.args.bytes.now).
      let none = (c.in-Ok.ensures.only h.parts c.args.bytes.now [] h.spelled (sym (append-nil c.args.bytes.now))).1 in c.is_empty.ensures ∙ eq-eqb (length c.in-Ok.rest.now) 0 (ap length none),
)
