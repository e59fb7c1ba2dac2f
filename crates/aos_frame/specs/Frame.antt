-- An AOS transfer frame with a packet zone: which octets are which frame of a link, and what is
-- wrong with octets that are none (CCSDS 732.0-B-4, 4.1).
use Rattle.std.specs.Prelude.{◌≡◌, ◌≢◌, ℕ, ◌+◌, ◌*◌, ◌/◌, ◌%◌, ◌<◌, ◌≤◌, Bool, true, false, List, ◌++◌, codes, length, Option, Some, None, ◌==◌, ◌&&◌, not, if◌then◌else◌}
use Rattle.cfd_bits.specs.Field.{field, octets}
use Rattle.aos_frame.specs.LinkFields.{AreFields, extra, is_intact, no_fields}
use Rattle.aos_frame.specs.Counts.{short_counts, counts_of}
use Rattle.aos_frame.specs.declared.count.SeenCount.{SeenCount}
use Rattle.aos_frame.specs.declared.header.FrameHeader.{FrameHeader}
use Rattle.aos_frame.specs.declared.config.ChannelConfig.{ChannelConfig}
use Rattle.aos_frame.specs.declared.config.LinkConfig.{LinkConfig}
use Rattle.aos_frame.specs.declared.config.Lane.{Lane}
use Rattle.aos_frame.specs.declared.config.Lane.TheVariants.{Directives, Data}
use Rattle.aos_frame.specs.declared.error.FrameError.{FrameError}
use Rattle.aos_frame.specs.declared.error.FrameError.TheVariants.{Length, Version, OtherProfile, OtherSpacecraft, OtherChannel, OnlyIdle, Damaged}

-- the virtual channel whose frames hold only idle data (4.1.2.3)
abbrev pub idle_channel : ℕ
idle_channel = 63

-- the octets of a frame: the header, the M_PDU header, the packet zone, and the fields that the
-- link has beside these (4.1.3, 4.1.5, 4.1.6)
abbrev pub frame_len : ChannelConfig → ℕ
frame_len c = 6 + 2 + c.zone + extra c.fields

-- A channel that can be: its frames carry packets, and aren't idle.
pub record IsChannel (c : ChannelConfig) : Type 0 where
  pub virtual_channel : c.virtual_channel < idle_channel
  pub least_zone : 16 ≤ c.zone
  pub most_zone : c.zone ≤ 2040
  pub apid : c.apid ≤ 2046
  pub fields : AreFields c.fields

-- A link that can be: its two channels can be, and differ.
pub record IsLink (link : LinkConfig) : Type 0 where
  pub virtual_channel : link.virtual_channel < idle_channel
  pub data_virtual_channel : link.data_virtual_channel < idle_channel
  pub apart : link.data_virtual_channel ≢ link.virtual_channel
  pub least_zone : 16 ≤ link.zone
  pub most_zone : link.zone ≤ 2040
  pub apid : link.apid ≤ 2046
  pub fields : AreFields link.fields

-- ---- the two lanes of a direction
abbrev pub other_lane : Lane → Lane
other_lane Directives = Data
other_lane Data = Directives

-- the virtual channel of a lane
abbrev pub channel_of : Lane → LinkConfig → ℕ
channel_of Directives link = link.virtual_channel
channel_of Data link = link.data_virtual_channel

-- one lane of a link: a channel of its own, and all else as the link has it
abbrev pub lane_channel : Lane → LinkConfig → ChannelConfig
lane_channel lane link = record {
  spacecraft = link.spacecraft;
  virtual_channel = channel_of lane link;
  zone = link.zone;
  apid = link.apid;
  fields = link.fields;
}

-- Two channels are the lanes of one link: they differ in their virtual channel, and in nothing
-- else.
pub record AreLanes (one other : ChannelConfig) : Type 0 where
  pub spacecraft : other.spacecraft ≡ one.spacecraft
  pub virtual_channel : other.virtual_channel ≢ one.virtual_channel
  pub zone : other.zone ≡ one.zone
  pub apid : other.apid ≡ one.apid
  pub fields : other.fields ≡ one.fields

-- ---- the header
-- true if the header of a frame has the usage flag of the count cycle (4.1.2.5)
abbrev pub cycle_in : List ℕ → Bool
cycle_in text = field text 41 1 == 1

-- the virtual channel frame count in a header (4.1.2.4): 24 bits, and if the usage flag is set, the
-- count cycle (4.1.2.5) as 4 more before them; otherwise any value of these 4 is accepted
abbrev pub count_in : Bool → List ℕ → ℕ
count_in true text = short_counts * field text 44 4 + field text 16 24
count_in false text = field text 16 24

-- the count of a frame with its flag
abbrev pub seen_in : List ℕ → SeenCount
seen_in text = record { count = count_in (cycle_in text) text; cycle = cycle_in text }

-- The octets are a frame of the channel with this header.
pub record SpellsFrame (c : ChannelConfig) (h : FrameHeader) (text : List ℕ) : Type 0 where
  pub size : length text ≡ frame_len c
  -- 4.1.6, if the link has error control
  pub intact : c.fields.error_control ≡ true → is_intact text ≡ true
  -- 4.1.2.2, the transfer frame version number and the spacecraft identifier
  pub version : field text 0 2 ≡ 1
  pub spacecraft : field text 2 8 ≡ h.spacecraft
  -- 4.1.2.3, the virtual channel identifier
  pub virtual_channel : field text 10 6 ≡ h.virtual_channel
  -- 4.1.2.4, the virtual channel frame count
  pub count : count_in h.cycle text ≡ h.count
  -- 4.1.2.5, the signaling field: no replay, the usage flag, and the two bits after it
  pub not_replayed : field text 40 1 ≡ 0
  pub cycle : cycle_in text ≡ h.cycle
  pub two_bits : field text 42 2 ≡ 0
  -- it is one of this channel's
  pub our_spacecraft : h.spacecraft ≡ c.spacecraft
  pub our_channel : h.virtual_channel ≡ c.virtual_channel
  pub carries_packets : h.virtual_channel < idle_channel

-- what is wrong with octets that are no frame of the channel: the first cause in this order, or
-- none
abbrev pub frame_fault : List ℕ → ChannelConfig → Option FrameError
frame_fault text c =
    if not (length text == frame_len c) then Some Length
    else if c.fields.error_control && not (is_intact text) then Some Damaged
    else if not (field text 0 2 == 1) then Some Version
    else if not (field text 40 1 == 0) then Some OtherProfile
    else if not (field text 42 2 == 0) then Some OtherProfile
    else if not (field text 2 8 == c.spacecraft) then Some OtherSpacecraft
    else if field text 10 6 == idle_channel then Some OnlyIdle
    else if not (field text 10 6 == c.virtual_channel) then Some OtherChannel
    else None

-- the channel that the header of a bare frame names, with packet zones of so many octets
abbrev pub own_channel : List ℕ → ℕ → ChannelConfig
own_channel text zone = record {
  spacecraft = field text 2 8;
  virtual_channel = field text 10 6;
  zone = zone;
  apid = 0;
  fields = no_fields;
}

-- the header can be written: each part must fit its field, and its frame must not be for idle data
-- only
pub record FitsHeader (h : FrameHeader) : Type 0 where
  pub spacecraft : h.spacecraft < 256
  pub virtual_channel : h.virtual_channel < idle_channel
  pub count : h.count < counts_of h.cycle

-- the written signaling field: the usage flag with the upper 4 bits of the count, or zeros if it
-- isn't set
abbrev pub signaling : Bool → ℕ → ℕ
signaling true count = 64 + count / short_counts
signaling false count = 0

-- the written spelling of a header
abbrev pub header_octets : FrameHeader → List ℕ
header_octets h =
    octets 2 (16384 + 64 * h.spacecraft + h.virtual_channel) ++ octets 3 (h.count % short_counts)
    ++ octets 1 (signaling h.cycle h.count)

-- the written spelling of a frame, from the M_PDU header and the packet zone
abbrev pub frame_octets : FrameHeader → List ℕ → List ℕ
frame_octets h rest = header_octets h ++ rest

-- the number of a refusal, and its name; 7 to 11 are the numbers of what is dropped after a frame's
-- header
abbrev pub refusal_number : FrameError → ℕ
refusal_number Length = 1
refusal_number Version = 2
refusal_number OtherProfile = 3
refusal_number OtherSpacecraft = 4
refusal_number OtherChannel = 5
refusal_number OnlyIdle = 6
refusal_number Damaged = 12

abbrev pub refusal_name : FrameError → List ℕ
refusal_name Length = codes "Length"
refusal_name Version = codes "Version"
refusal_name OtherProfile = codes "OtherProfile"
refusal_name OtherSpacecraft = codes "OtherSpacecraft"
refusal_name OtherChannel = codes "OtherChannel"
refusal_name OnlyIdle = codes "OnlyIdle"
refusal_name Damaged = codes "Damaged"
