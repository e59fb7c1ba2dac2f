-- The datagrams that carry one PDU each.
use Rattle.std.specs.Prelude.{◌≡◌, ◌⊎◌, ℕ, ◌+◌, ◌%◌, ◌≤◌, ◌==◌, if◌then◌else◌, not, List, [], ◌++◌, Some, Result, length, replicate}
use Rattle.cfd_bits.specs.Field.{field}
use Rattle.aos_frame.specs.Frame.{other_lane}
use Rattle.aos_frame.specs.declared.config.Lane.{Lane}
use Rattle.aos_frame.specs.declared.config.Lane.TheVariants.{Directives, Data}
use Rattle.space_packet.specs.Packet.{IsWritable, Parts, SpellsPacket, packet_octets}
use Rattle.space_packet.specs.declared.packet.PacketType.{PacketType}
use Rattle.space_packet.specs.declared.packet.SequenceFlags.TheVariants.{Unsegmented}
use Rattle.link_stack.specs.Downward.{DownState, Flushes, MakesFrame, SendsPdu, first_down, frame_lane, lane_down}
use Rattle.link_stack.specs.Upward.{LaneTakes, UpState, first_up, lane_of, lane_up}
use Rattle.cfdp_station.specs.declared.config.StationConfig.{StationConfig}
use Rattle.cfdp_port.specs.Calls.{WireCall, Sent}
use Rattle.cfdp_port.specs.declared.wire.WireFault.{WireFault}
use Rattle.cfdp_datagrams.specs.declared.carrier.datagram.PacketForm.{PacketForm}
use Rattle.cfdp_datagrams.specs.declared.carrier.datagram.PduCarrier.{PduCarrier}
use Rattle.cfdp_datagrams.specs.declared.carrier.datagram.PduCarrier.TheVariants.{Packets, Pdus}

-- an unsegmented packet with a PDU after its secondary header, which it doesn't have if that
-- has no octet (CCSDS 133.0-B-2, 4.1.3 and 4.1.4)
abbrev pub carrying : PacketType → (apid count : ℕ) → (header pdu : List ℕ) → Parts
carrying packet_type apid count header pdu = record {
  apid = apid;
  packet_type = packet_type;
  has_secondary_header = not (length header == 0);
  sequence_flags = Unsegmented;
  count = count;
  body = header ++ pdu;
}

-- the packet in which a PDU leaves: all octets of its secondary header are zero
abbrev pub sent_packet : PacketForm → (apid count : ℕ) → (pdu : List ℕ) → Parts
sent_packet form apid count pdu =
    carrying form.packet_type apid count (replicate form.secondary_header 0) pdu

-- The datagram is that of a PDU; its packet may have either type, any count, and any octets in a
-- secondary header of the length that is set.
abbrev pub Carries : PduCarrier → (apid : ℕ) → (pdu datagram : List ℕ) → Type 0
Carries (Packets form) apid pdu datagram =
    (packet_type : PacketType) × (count : ℕ) × (header : List ℕ)
    × (length header ≡ form.peer_secondary_header) × (1 ≤ length pdu)
    × SpellsPacket (carrying packet_type apid count header pdu) datagram
Carries Pdus apid pdu datagram = (datagram ≡ pdu) × (1 ≤ length pdu)

-- the lane of a PDU, by the type bit of its header (CCSDS 727.0-B-5, table 5-1)
abbrev pub pdu_lane : List ℕ → Lane
pdu_lane pdu = if field pdu 3 1 == 0 then Directives else Data

-- ---- frames to datagrams, and back
-- How PDUs are carried; the end that takes the station's frames; the PDUs of these that have still
-- to leave, the oldest first; the APID and the count of the packet of the next one; the APID of
-- what comes; and the end that fills the frames in which that comes to the station.
pub record ConversionState : Type 0 where
  pub carrier : PduCarrier
  pub up : UpState
  pub queue : List (List ℕ)
  pub apid : ℕ
  pub count : ℕ
  pub peer_apid : ℕ
  pub down : DownState

-- Nothing left a station with this configuration, and nothing came.
pub record IsFirst (kind : PduCarrier) (config : StationConfig) (c : ConversionState) : Type 0
  where
    pub carrier : c.carrier ≡ kind
    pub up : c.up ≡ first_up config.sends
    pub queue : c.queue ≡ []
    pub apid : c.apid ≡ config.sends.apid
    pub count : c.count ≡ 0
    pub peer_apid : c.peer_apid ≡ config.receives.apid
    pub down : c.down ≡ first_down config.receives 65536

-- The end of its lane took a frame of the station: the PDUs that it completes wait after the
-- others.
pub record TakesFrame (frame : List ℕ) (old new : ConversionState) : Type 0 where
  pub takes : LaneTakes frame (lane_up (lane_of old.up frame) old.up)
      (lane_up (lane_of old.up frame) new.up) old.queue new.queue
  pub other : lane_up (other_lane (lane_of old.up frame)) new.up
      ≡ lane_up (other_lane (lane_of old.up frame)) old.up
  pub rest : new ≡ record old { up = new.up; queue = new.queue }

-- the count of the packet after a datagram's
abbrev pub next_count : PduCarrier → ℕ → ℕ
next_count (Packets form) count = (count + 1) % 16384
next_count Pdus count = count

-- A wire was to send the datagram of a PDU; one that fits no packet is lost.
abbrev pub SendsAs : {W : Type 0} (Steps : W → WireCall → W → Type 0) → PduCarrier
    → (apid count : ℕ) → (pdu : List ℕ) → Result (Unit {0}) WireFault → (old new : W) → Type 0
SendsAs Steps (Packets form) apid count pdu answer old new =
    IsWritable (sent_packet form apid count pdu)
    → Steps old (Sent (packet_octets (sent_packet form apid count pdu)) answer) new
SendsAs Steps Pdus apid count pdu answer old new = Steps old (Sent pdu answer) new

-- The first PDU that waited left over a wire, and the rest of them waits.
pub record Leaves {W : Type 0} (Steps : W → WireCall → W → Type 0) (pdu : List ℕ)
    (rest : List (List ℕ)) (answer : Result (Unit {0}) WireFault) (old : ConversionState)
    (wire : W) (new : ConversionState) (after : W) : Type 0 where
  pub sends : SendsAs Steps old.carrier old.apid old.count pdu answer wire after
  pub now : new ≡ record old { queue = rest; count = next_count old.carrier old.count }

-- The PDU of a datagram that came was sent down its lane, and the begun frame of that was filled
-- up.
pub record TakesDatagram (datagram : List ℕ) (old new : ConversionState) : Type 0 where
  pub pdu : List ℕ
  pub sent : DownState
  pub carries : Carries old.carrier old.peer_apid pdu datagram
  pub sends : SendsPdu pdu old.down.packet_count (lane_down (pdu_lane pdu) old.down)
      (lane_down (pdu_lane pdu) sent)
  pub flushes : Flushes (lane_down (pdu_lane pdu) sent) (lane_down (pdu_lane pdu) new.down)
  pub other : lane_down (other_lane (pdu_lane pdu)) new.down
      ≡ lane_down (other_lane (pdu_lane pdu)) old.down
  pub rest : new ≡ record old { down = new.down }

-- The oldest whole frame of the lane whose turn it is goes to the station.
pub record GivesFrame (frame : List ℕ) (old new : ConversionState) : Type 0 where
  pub lane : Lane
  pub is_next : frame_lane old.down ≡ Some lane
  pub made : MakesFrame frame (lane_down lane old.down) (lane_down lane new.down)
  pub other : lane_down (other_lane lane) new.down ≡ lane_down (other_lane lane) old.down
  pub rest : new ≡ record old { down = new.down }

-- The PDU of a datagram that came was taken; or the datagram was dropped, and nothing changed.
abbrev pub TakesOrDrops : (datagram : List ℕ) → (old new : ConversionState) → Type 0
TakesOrDrops datagram old new = (new ≡ old) ⊎ TakesDatagram datagram old new

-- The PDU of a datagram that came was taken, or it was dropped; then the oldest whole frame went to
-- the station.
pub record Passes (datagram frame : List ℕ) (old new : ConversionState) : Type 0 where
  pub taken : ConversionState
  pub takes : TakesOrDrops datagram old taken
  pub gives : GivesFrame frame taken new
