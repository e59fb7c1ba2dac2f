-- The packets of a link that carry PDUs, and the frames of their stream.
use Rattle.std.specs.Prelude.{◌≡◌, ℕ, ◌*◌, ◌%◌, ◌^◌, ◌<◌, true, false, ◌||◌, ◌==◌, not, if◌then◌else◌, Option, Some, None, List, [], ◌∷◌, ◌++◌, ◌⊎◌, drop, map}
use Rattle.space_packet.specs.Packet.{Parts, packet_octets, apid_field, flags_field, flag_bits, secondary_field}
use Rattle.space_packet.specs.declared.packet.PacketType.TheVariants.{Telemetry}
use Rattle.space_packet.specs.declared.packet.SequenceFlags.TheVariants.{Unsegmented}
use Rattle.aos_frame.specs.LinkFields.{sealed}
use Rattle.aos_frame.specs.LinkFields as of_fields
use Rattle.aos_frame.specs.Counts.{frame_counts}
use Rattle.aos_frame.specs.Frame.{frame_octets}
use Rattle.aos_frame.specs.declared.config.ChannelConfig.{ChannelConfig}
use Rattle.mpdu.specs.MpduHeader.{pointer_octets}
use Rattle.mpdu.specs.Stream.{is_idle, stream, zone, first_header_pointer}
use Rattle.link_stack.specs.declared.drops.LinkDrop.{LinkDrop}
use Rattle.link_stack.specs.declared.drops.LinkDrop.TheVariants.{OtherApid, Segmented}

-- the packet that carries a PDU: unsegmented, with no secondary header (CCSDS 133.0-B-2, 4.1.3)
abbrev pub carrying : ChannelConfig → ℕ → List ℕ → Parts
carrying link count pdu = record {
  apid = link.apid;
  packet_type = Telemetry;
  has_secondary_header = false;
  sequence_flags = Unsegmented;
  count = count;
  body = pdu;
}

abbrev pub packet_of : ChannelConfig → ℕ → List ℕ → List ℕ
packet_of link count pdu = packet_octets (carrying link count pdu)

-- why a whole packet that isn't idle carries no PDU of the link, or none if it does
unfoldable pub packet_drop : ChannelConfig → List ℕ → Option LinkDrop
packet_drop link packet =
    if not (apid_field packet == link.apid) then Some OtherApid
    else if not (flags_field packet == flag_bits Unsegmented) || secondary_field packet == 1
    then Some Segmented
    else None

-- the M_PDU of a frame of the channel: what stands between its header, with the insert zone, and
-- the fields after it
abbrev pub mpdu_in : ChannelConfig → List ℕ → List ℕ
mpdu_in link frame = of_fields.mpdu_in link.fields frame

-- its packet zone, which stands after the M_PDU header
abbrev pub zone_in : ChannelConfig → List ℕ → List ℕ
zone_in link frame = drop 2 (mpdu_in link frame)

-- the PDUs that packets carry: what stands after their headers
abbrev pub pdus_in : List (List ℕ) → List (List ℕ)
pdus_in ps = map (λ p. drop 6 p) ps

-- each packet is idle, or carries a PDU of the link
abbrev pub AreOfLink : ChannelConfig → List (List ℕ) → Type 0
AreOfLink link [] = Unit {0}
AreOfLink link (p ∷ ps) = ((is_idle p ≡ true) ⊎ (packet_drop link p ≡ None)) × AreOfLink link ps

-- the M_PDU of frame n of the packets' stream: its header and zone n (CCSDS 732.0-B-4, 4.1.4.2)
abbrev pub mpdu_of : ChannelConfig → List (List ℕ) → ℕ → List ℕ
mpdu_of link ps n =
    pointer_octets (first_header_pointer link.zone (n * link.zone) 0 ps)
    ++ zone link.zone (n * link.zone) (stream ps)

-- frame n of the packets' stream without other fields, counted modulo 2^28 (CCSDS 732.0-B-4,
-- 4.1.2.4, 4.1.2.5)
abbrev pub frame_of : ChannelConfig → List (List ℕ) → ℕ → List ℕ
frame_of link ps n =
    frame_octets (record {
      spacecraft = link.spacecraft;
      virtual_channel = link.virtual_channel;
      count =
          n % frame_counts;
      cycle = true;
    }) (mpdu_of link ps n)

-- These octets are frame n of the packets' stream with the fields of the channel, whatever its
-- operational control field says.
pub record IsSealed (link : ChannelConfig) (ps : List (List ℕ)) (n : ℕ) (frame : List ℕ)
    : Type 0 where
  pub control : ℕ
  pub fits : control < 2 ^ 32
  pub octets : frame ≡ sealed link.fields (frame_of link ps n) control
