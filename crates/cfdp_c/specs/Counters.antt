-- What a station counts, as a caller reads it.
use Rattle.cfdp_entity.specs.declared.sent.SentPdus.{SentPdus}
use Rattle.cfdp_station.specs.Counters.{counters}
use Rattle.cfdp_station.specs.declared.counters.Counters.{Counters}
use Rattle.cfdp_station.specs.declared.counters.FrameDrops.{FrameDrops}
use Rattle.cfdp_station.specs.declared.counters.PduDrops.{PduDrops}
use Rattle.cfdp_station.specs.Station.{StationState}
use Rattle.cfdp_c.specs.declared.counters.CfdpCounters.{CfdpCounters}
use Rattle.cfdp_c.specs.declared.counters.CfdpFrameDrops.{CfdpFrameDrops}
use Rattle.cfdp_c.specs.declared.counters.CfdpPduDrops.{CfdpPduDrops}
use Rattle.cfdp_c.specs.declared.counters.CfdpSentPdus.{CfdpSentPdus}

abbrev pub sent_told : SentPdus → CfdpSentPdus
sent_told s = record {
  file_data = s.file_data;
  file_data_again = s.file_data_again;
  naks = s.naks;
  other_directives = s.other_directives;
}

abbrev pub frames_told : FrameDrops → CfdpFrameDrops
frames_told d = record {
  bad_length = d.bad_length;
  bad_version = d.bad_version;
  other_profile = d.other_profile;
  other_spacecraft = d.other_spacecraft;
  other_channel = d.other_channel;
  only_idle = d.only_idle;
  resync = d.resync;
  bad_packet = d.bad_packet;
  other_apid = d.other_apid;
  segmented = d.segmented;
  no_memory = d.no_memory;
  damaged = d.damaged;
}

abbrev pub pdus_told : PduDrops → CfdpPduDrops
pdus_told d = record {
  too_short = d.too_short;
  bad_version = d.bad_version;
  bad_crc = d.bad_crc;
  bad_length = d.bad_length;
  unacknowledged = d.unacknowledged;
  bad_directive = d.bad_directive;
  truncated = d.truncated;
  trailing = d.trailing;
  bad_tlv = d.bad_tlv;
  bad_condition = d.bad_condition;
  wrong_direction = d.wrong_direction;
  not_for_us = d.not_for_us;
  unknown = d.unknown;
  table_full = d.table_full;
  no_memory = d.no_memory;
  no_file = d.no_file;
}

abbrev pub counters_told : Counters → CfdpCounters
counters_told c = record {
  sent = sent_told c.sent;
  frames = frames_told c.frames;
  pdus = pdus_told c.pdus;
}

unfoldable pub counters_of : StationState → CfdpCounters
counters_of s = counters_told (counters s)
