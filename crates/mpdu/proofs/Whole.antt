-- Octets that are one whole packet.
use Rattle.std.proofs.Common.{◌≡◌, ℕ, List, length, take, drop, ap, subst, arith, length-drop}
use Rattle.std.proofs.lemmas.List.{take_all}
use Rattle.space_packet.specs.Packet.{Parts, SpellsPacket, packet_len}
use Rattle.mpdu.specs.Stream.{IsPacket}

pub whole_is : (v : Parts) (text rest : List ℕ) → SpellsPacket v (take (packet_len v) text) → rest ≡ drop (packet_len v) text → length rest ≡ 0 → IsPacket text
whole_is v text rest spelled behind none =
    let all : take (packet_len v) text ≡ text = take_all (packet_len v) text (omega (arith, ap length behind, length-drop (packet_len v) text)) in
    record { parts = v; spelled = subst (λ l. SpellsPacket v l) all spelled }
