-- What the frames of a link are made of, and the places of their fields (CCSDS 732.0-B-4, 4.1).
use Rattle.std.specs.Prelude.{ℕ, ◌+◌, ◌-◌, ◌≤◌, List, drop, length, take}
use Rattle.aos_frame.specs.LinkFields.{behind_insert, control_len, extra, mpdu_len}
use Rattle.aos_frame.specs.declared.fields.FrameFields.{FrameFields}
use Rattle.aos_frame.specs.Frame.{own_channel}
use Rattle.aos_frame.specs.declared.config.ChannelConfig.{ChannelConfig}
use Rattle.aos_frame.specs.declared.config.LinkConfig.{LinkConfig}
use Rattle.cfdp_header.specs.Crc.{crc_len}
use Rattle.cfdp_header.specs.declared.value.Header.{Header}
use Rattle.station_pair.specs.declared.side.Side.{Side}
use Rattle.station_pair.specs.declared.side.Side.TheVariants.{One, Two}
use Rattle.station_pair.specs.declared.world_config.WorldConfig.{WorldConfig}
use Rattle.cfdp_dump.specs.declared.spelled.shape.FrameShape.{FrameShape}
use Rattle.cfdp_dump.specs.declared.spelled.shape.FrameShapes.{FrameShapes}

-- Frames can be so: their packet zone must have 16 to 2,040 octets, and an insert zone at most 64.
abbrev pub IsShape : FrameShape → Type 0
IsShape shape = (16 ≤ shape.zone) × (shape.zone ≤ 2040) × (shape.fields.insert_zone ≤ 64)

-- the octets of a frame: its header, the M_PDU header, the packet zone, and the fields
abbrev pub frame_len : FrameShape → ℕ
frame_len shape = 8 + shape.zone + extra shape.fields

-- the channel that the header of a frame names, whose frames are so
abbrev pub channel_in : List ℕ → FrameShape → ChannelConfig
channel_in octets shape = record (own_channel octets shape.zone) { fields = shape.fields }

-- the octets of a frame after its M_PDU: its operational control field (4.1.5), and then its frame
-- error control field (4.1.6), if it has them
abbrev pub behind_mpdu : FrameFields → List ℕ → List ℕ
behind_mpdu fields octets = drop (mpdu_len fields octets) (behind_insert fields octets)

abbrev pub control_octets : FrameFields → List ℕ → List ℕ
control_octets fields octets = take (control_len fields) (behind_mpdu fields octets)

abbrev pub check_octets : FrameFields → List ℕ → List ℕ
check_octets fields octets = drop (control_len fields) (behind_mpdu fields octets)

-- the CRC at the end of a PDU, if it has one (CCSDS 727.0-B-5, 4.1)
abbrev pub crc_octets : Header → List ℕ → List ℕ
crc_octets h octets = drop (length octets - crc_len h.crc) octets

-- ---- two stations

-- the frames of a link
abbrev pub shape_of : LinkConfig → FrameShape
shape_of link = record { zone = link.zone; fields = link.fields }

-- the frames that each of two stations sends
abbrev pub shapes_of : WorldConfig → FrameShapes
shapes_of config = record { one = shape_of config.one.sends; two = shape_of config.two.sends }

abbrev pub shape_from : FrameShapes → Side → FrameShape
shape_from shapes One = shapes.one
shape_from shapes Two = shapes.two
