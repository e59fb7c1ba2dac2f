use Rattle.std.proofs.Common.{ℕ, List, false, IsTrue, take, sym, subst, ◌∙◌, arith}
use Rattle.mpdu.specs.Stream.{IsPacket, ArePackets}
use Rattle.mpdu.specs.Feeding.{octets_of_each}
use Rattle.mpdu.proofs.Later.{ArePackets-push}
use Rattle.mpdu.proofs.Carried.{ArePackets-at, packets_more}
use Rattle.mpdu.proofs.header.are_packets.Goals as goal

pub loop-packet-preserved : goal.loop-packet-preserved
loop-packet-preserved c =
    let i : ℕ = c.loop-packet.packet-index in
    let here : IsPacket c.deref.result.now = c.is_packet.ensures.0 c.if-not-is_packet.false in
    let item : IsPacket c.packet-item.result.items = subst (λ (l : List ℕ). IsPacket l) c.deref.ensures.value here in
    subst (λ (l : List (List ℕ)). ArePackets l) (sym (packets_more c.args.packets.now i c.packet-item.result (omega arith) c.packet-item.is))
    (ArePackets-push (octets_of_each (take i c.args.packets.now)) c.packet-item.result.items c.loop-packet.invariant item)

pub returns-then-not-is_packet : goal.returns-then-not-is_packet
returns-then-not-is_packet c = (
  (λ (bad : IsTrue false). absurd (cc)),
  (λ (all : ArePackets (octets_of_each c.args.packets.now)).
      let item : IsPacket c.packet-item.result.items = ArePackets-at c.args.packets.now c.loop-packet.packet-index c.packet-item.result all (omega arith) c.packet-item.is in
      let here : IsPacket c.deref.result.now = subst (λ (l : List ℕ). IsPacket l) (sym c.deref.ensures.value) item in
      sym c.if-not-is_packet.true ∙ c.is_packet.ensures.1 here),
)
