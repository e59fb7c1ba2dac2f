-- The frames and packets of a station's link, by the numbers that are set, and the configuration of
-- both stations.
use Rattle.std.specs.Prelude.{ℕ, ◌≡◌, ◌==◌, ◌<◌, ◌≤◌, nat_lt, ◌+◌, ◌-◌, ◌*◌, ◌^◌, ◌⊎◌, Bool, true, ◌&&◌, if◌then◌else◌, unwrap_or}
use Rattle.aos_frame.specs.LinkFields.{no_fields}
use Rattle.aos_frame.specs.declared.config.LinkConfig.{LinkConfig}
use Rattle.aos_frame.specs.declared.fields.FrameFields.{FrameFields}
use Rattle.frame_security.specs.Frames.{IsSecurity}
use Rattle.frame_security.specs.declared.config.Security.{Security}
use Rattle.space_packet.specs.declared.packet.PacketType.{PacketType}
use Rattle.space_packet.specs.declared.packet.PacketType.TheVariants.{Telemetry, Telecommand}
use Rattle.station_pair.specs.declared.world_config.WorldConfig.{WorldConfig}
use Rattle.cfdp_report.specs.Settings.{pair_of}
use Rattle.cfdp_report.specs.declared.settings.Settings.{Settings}
use Rattle.cfdp_setup.specs.declared.links.PacketSetup.{PacketSetup}
use Rattle.cfdp_setup.specs.declared.numbers.DirectionNumbers.{DirectionNumbers}
use Rattle.cfdp_setup.specs.declared.numbers.FieldNumbers.{FieldNumbers}
use Rattle.cfdp_setup.specs.declared.securing.Securities.{Securities}
use Rattle.cfdp_setup.specs.declared.station_setup.StationSetup.{StationSetup}

-- The number fits so many octets. Any fits 8.
abbrev pub FitsOctets : (number width : ℕ) → Type 0
FitsOctets number width = (8 ≤ width) ⊎ (number < 2 ^ (8 * width))

-- ---- the fields of frames

-- of those that the station sends, by the keys of a script
abbrev pub own_fields : StationSetup → FieldNumbers
own_fields s = record {
  insert_zone = s.settings.insert_zone;
  control_field = s.settings.control_field;
  error_control = s.settings.error_control;
}

abbrev pub frame_fields : FieldNumbers → FrameFields
frame_fields f = record {
  insert_zone = f.insert_zone;
  control_field = f.control_field == 1;
  error_control = f.error_control == 1;
}

abbrev pub FitFields : FieldNumbers → Type 0
FitFields f = (f.insert_zone < 256) × (f.control_field < 2) × (f.error_control < 2)

-- frames have none
abbrev pub are_none : FieldNumbers → Bool
are_none f = (f.insert_zone == 0) && (f.control_field == 0) && (f.error_control == 0)

abbrev pub are_bare : StationSetup → Bool
are_bare s = are_none (own_fields s) && are_none s.peer_fields

-- ---- the frames on the link

-- a direction has exactly the numbers that were set
abbrev pub link_on : StationSetup → DirectionNumbers → FieldNumbers → LinkConfig
link_on s direction fields = record {
  spacecraft = s.spacecraft;
  virtual_channel = direction.virtual_channel;
  data_virtual_channel = direction.data_virtual_channel;
  zone = s.settings.zone;
  apid = direction.apid;
  fields = frame_fields fields;
}

abbrev pub FitLink : StationSetup → DirectionNumbers → FieldNumbers → Type 0
FitLink s direction fields =
    (s.spacecraft < 256) × (direction.virtual_channel < 256)
    × (direction.data_virtual_channel < 256) × (s.settings.zone < 2 ^ 16)
    × (direction.apid < 2 ^ 16) × FitFields fields

abbrev pub sent_link : StationSetup → LinkConfig
sent_link s = link_on s s.own (own_fields s)

abbrev pub received_link : StationSetup → LinkConfig
received_link s = link_on s s.peer s.peer_fields

-- each number fits its field
abbrev pub FitLinks : StationSetup → Type 0
FitLinks s = FitLink s s.own (own_fields s) × FitLink s s.peer s.peer_fields

-- ---- the frames that the station makes

-- the octets of a MAC: 16 if none are set
abbrev pub mac_len : StationSetup → ℕ
mac_len s = unwrap_or s.mac 16

-- with a security header of 10 octets, a MAC and the link's fields they are as long as the link's
abbrev pub bare_of : (mac : ℕ) → LinkConfig → LinkConfig
bare_of mac link = record link { zone = link.zone - 10 - mac; fields = no_fields }

-- If frames are secured, a layer below the station adds these.
abbrev pub made_for : StationSetup → LinkConfig → LinkConfig
made_for s link = if s.is_secured then bare_of (mac_len s) link else link

-- the MAC has one of two lengths, and its frames have a zone of 16 octets at least
abbrev pub CanHaveMac : StationSetup → Type 0
CanHaveMac s = ((mac_len s ≡ 16) ⊎ (mac_len s ≡ 32)) × (26 + mac_len s ≤ s.settings.zone)

-- secured frames have room for what is added
abbrev pub HasRoom : StationSetup → Type 0
HasRoom s = s.is_secured ≡ true → CanHaveMac s

-- ---- the configuration of both stations

-- of stations with these ids and these frames: that with the lesser id is the first
abbrev pub config_with : Settings → (id peer : ℕ) → (sends receives : LinkConfig) → WorldConfig
config_with s id peer sends receives =
    if nat_lt id peer then pair_of s id peer sends receives else pair_of s peer id receives sends

abbrev pub config_of : StationSetup → (id peer : ℕ) → WorldConfig
config_of s id peer =
    config_with s.settings id peer (made_for s (sent_link s)) (made_for s (received_link s))

-- ---- how frames are secured

abbrev pub security_of : StationSetup → FieldNumbers → Security
security_of s fields = record { fields = frame_fields fields; mac_len = mac_len s }

abbrev pub securities_of : StationSetup → Securities
securities_of s = record {
  sends = security_of s (own_fields s);
  receives = security_of s s.peer_fields;
}

abbrev pub CanBeSecured : StationSetup → Type 0
CanBeSecured s = (s.is_secured ≡ true) × FitFields (own_fields s) × FitFields s.peer_fields
    × IsSecurity (security_of s (own_fields s)) × IsSecurity (security_of s s.peer_fields)

-- ---- packets with one PDU each

-- what the number of a packet's type stands for
abbrev pub packet_type_of : ℕ → PacketType
packet_type_of number = if number == 1 then Telecommand else Telemetry

abbrev pub packets_of : StationSetup → PacketSetup
packets_of s = record {
  packet_type = packet_type_of s.packets.packet_type;
  secondary_header = s.packets.secondary_header;
  peer_secondary_header = s.packets.peer_secondary_header;
}

abbrev pub FitPackets : StationSetup → Type 0
FitPackets s = (s.packets.packet_type < 2) × (s.packets.secondary_header < 64)
    × (s.packets.peer_secondary_header < 64)
