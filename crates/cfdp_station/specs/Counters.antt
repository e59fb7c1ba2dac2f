-- What a station counts.
use Rattle.std.specs.Prelude.{ℕ, get_or}
use Rattle.aos_frame.specs.declared.error.FrameError.TheVariants as frame_errors
use Rattle.link_stack.specs.Upward.{drop_count}
use Rattle.link_stack.specs.Drops as of_link
use Rattle.link_stack.specs.declared.drops.LinkDrop.{LinkDrop}
use Rattle.link_stack.specs.declared.drops.LinkDrop.TheVariants as link_drops
use Rattle.cfdp_header.specs.declared.error.HeaderError.{HeaderError}
use Rattle.cfdp_header.specs.declared.error.HeaderError.TheVariants as header_errors
use Rattle.cfdp_directives.specs.declared.pdu.error.PduError.TheVariants as pdu_errors
use Rattle.cfdp_entity.specs.declared.error.EntityDrop.{EntityDrop}
use Rattle.cfdp_entity.specs.declared.error.EntityDrop.TheVariants as drops
use Rattle.cfdp_entity.specs.Errors as of_entity
use Rattle.cfdp_station.specs.declared.counters.Counters.{Counters}
use Rattle.cfdp_station.specs.declared.counters.FrameDrops.{FrameDrops}
use Rattle.cfdp_station.specs.declared.counters.PduDrops.{PduDrops}
use Rattle.cfdp_station.specs.Station.{StationState}

-- how often something of a frame was dropped by a cause, on either lane
abbrev pub frame_count : LinkDrop → StationState → ℕ
frame_count by s = drop_count s.up (of_link.drop_number by)

-- how often a PDU was
abbrev pub pdu_count : EntityDrop → StationState → ℕ
pdu_count by s = get_or s.entity.state.drops (of_entity.drop_number by) 0

abbrev pub by_header : HeaderError → EntityDrop
by_header e = drops.Pdu (pdu_errors.Header e)

abbrev pub frame_drops : StationState → FrameDrops
frame_drops s = record {
  bad_length = frame_count (link_drops.Frame frame_errors.Length) s;
  bad_version = frame_count (link_drops.Frame frame_errors.Version) s;
  other_profile = frame_count (link_drops.Frame frame_errors.OtherProfile) s;
  other_spacecraft = frame_count (link_drops.Frame frame_errors.OtherSpacecraft) s;
  other_channel = frame_count (link_drops.Frame frame_errors.OtherChannel) s;
  only_idle = frame_count (link_drops.Frame frame_errors.OnlyIdle) s;
  resync = frame_count link_drops.Resync s;
  bad_packet = frame_count link_drops.BadPacket s;
  other_apid = frame_count link_drops.OtherApid s;
  segmented = frame_count link_drops.Segmented s;
  no_memory = frame_count link_drops.NoMemory s;
  damaged = frame_count (link_drops.Frame frame_errors.Damaged) s;
}

abbrev pub pdu_drops : StationState → PduDrops
pdu_drops s = record {
  too_short = pdu_count (by_header header_errors.Short) s;
  bad_version = pdu_count (by_header header_errors.Version) s;
  bad_crc = pdu_count (by_header header_errors.BadCrc) s;
  bad_length = pdu_count (by_header header_errors.Length) s;
  unacknowledged = pdu_count (by_header header_errors.Unacknowledged) s;
  bad_directive = pdu_count (drops.Pdu pdu_errors.Directive) s;
  truncated = pdu_count (drops.Pdu pdu_errors.Truncated) s;
  trailing = pdu_count (drops.Pdu pdu_errors.Trailing) s;
  bad_tlv = pdu_count (drops.Pdu pdu_errors.Tlv) s;
  bad_condition = pdu_count (drops.Pdu pdu_errors.Condition) s;
  wrong_direction = pdu_count drops.WrongDirection s;
  not_for_us = pdu_count drops.NotForUs s;
  unknown = pdu_count drops.Unknown s;
  table_full = pdu_count drops.TableFull s;
  no_memory = pdu_count drops.NoMemory s;
  no_file = pdu_count drops.NoFile s;
}

-- what was sent, each PDU by what was due when it was, and all that was dropped
abbrev pub counters : StationState → Counters
counters s = record {
  sent = s.entity.state.sent;
  frames = frame_drops s;
  pdus = pdu_drops s;
}
