-- What can be set, the key of each setting, and the configuration that they make.
use Rattle.std.specs.Prelude.{ℕ, ◌<◌, ◌^◌, ◌==◌, Bool, List, [], ◌∷◌, Option, Some, None, codes, nat_eq, if◌then◌else◌}
use Rattle.std.specs.Cmp.Lexicographic.{pointwise}
use Rattle.cfdp_directives.specs.declared.user.handler.Handler.{Handler}
use Rattle.cfdp_directives.specs.declared.user.handler.Handler.TheVariants as does
use Rattle.cfdp_directives.specs.declared.user.handler.Handlers.{Handlers}
use Rattle.cfdp_directives.specs.declared.user.limits.Limits.{Limits}
use Rattle.cfdp_directives.specs.declared.user.limits.Times.{Times}
use Rattle.cfdp_directives.specs.declared.user.policy.Policy.{Policy}
use Rattle.cfdp_entity.specs.declared.config.EntityConfig.{EntityConfig}
use Rattle.cfdp_station.specs.declared.config.StationConfig.{StationConfig}
use Rattle.aos_frame.specs.declared.fields.FrameFields.{FrameFields}
use Rattle.aos_frame.specs.declared.config.LinkConfig.{LinkConfig}
use Rattle.station_pair.specs.Stations as sides
use Rattle.station_pair.specs.Stations.{IsWorldConfig}
use Rattle.station_pair.specs.declared.side.Side.{Side}
use Rattle.station_pair.specs.declared.side.Side.TheVariants.{One, Two}
use Rattle.station_pair.specs.declared.world_config.WorldConfig.{WorldConfig}
use Rattle.cfdp_report.specs.declared.settings.table.Row.{Row}
use Rattle.cfdp_report.specs.declared.settings.Settings.{Settings}
use Rattle.cfdp_report.specs.declared.settings.table.Setting.{Setting}
use Rattle.cfdp_report.specs.declared.settings.table.Setting.TheVariants as key
use Rattle.cfdp_report.specs.declared.settings.table.Setting.TheVariants.{Zone, InsertZone, ControlField, ErrorControl, Segment, IdWidth, NumberWidth, FirstNumber, Checksum, PduCrc, EofLimit, NakLimit, FinishedLimit, EofTime, NakTime, FinishedTime, InactivityTime, OnAckLimit, OnNakLimit, OnInactivity, MostGaps}

-- the values before the first `set`
abbrev pub default_settings : Settings
default_settings = record {
  zone = 256;
  insert_zone = 0;
  control_field = 0;
  error_control = 0;
  segment = 1024;
  id_width = 2;
  number_width = 4;
  first_number = 1;
  checksum = 0;
  pdu_crc = 0;
  eof_limit = 3;
  nak_limit = 3;
  finished_limit = 3;
  eof_time = 10;
  nak_time = 10;
  finished_time = 10;
  inactivity_time = 100;
  on_ack_limit = 0;
  on_nak_limit = 0;
  on_inactivity = 0;
  most_gaps = 0;
}

-- the settings with one value changed
abbrev pub set_value : Settings → Setting → ℕ → Settings
set_value s Zone n = record s { zone = n }
set_value s InsertZone n = record s { insert_zone = n }
set_value s ControlField n = record s { control_field = n }
set_value s ErrorControl n = record s { error_control = n }
set_value s Segment n = record s { segment = n }
set_value s IdWidth n = record s { id_width = n }
set_value s NumberWidth n = record s { number_width = n }
set_value s FirstNumber n = record s { first_number = n }
set_value s Checksum n = record s { checksum = n }
set_value s PduCrc n = record s { pdu_crc = n }
set_value s EofLimit n = record s { eof_limit = n }
set_value s NakLimit n = record s { nak_limit = n }
set_value s FinishedLimit n = record s { finished_limit = n }
set_value s EofTime n = record s { eof_time = n }
set_value s NakTime n = record s { nak_time = n }
set_value s FinishedTime n = record s { finished_time = n }
set_value s InactivityTime n = record s { inactivity_time = n }
set_value s OnAckLimit n = record s { on_ack_limit = n }
set_value s OnNakLimit n = record s { on_nak_limit = n }
set_value s OnInactivity n = record s { on_inactivity = n }
set_value s MostGaps n = record s { most_gaps = n }

-- ---- values that fit their fields

abbrev pub FitLimits : Settings → Type 0
FitLimits s = (s.eof_limit < 256) × (s.nak_limit < 256) × (s.finished_limit < 256)

abbrev pub FitTimes : Settings → Type 0
FitTimes s =
    (s.eof_time < 2 ^ 32) × (s.nak_time < 2 ^ 32) × (s.finished_time < 2 ^ 32)
    × (s.inactivity_time < 2 ^ 32)

abbrev pub FitHandlers : Settings → Type 0
FitHandlers s = (s.on_ack_limit < 4) × (s.on_nak_limit < 4) × (s.on_inactivity < 4)

abbrev pub FitPolicy : Settings → Type 0
FitPolicy s = FitLimits s × FitTimes s × FitHandlers s

abbrev pub FitSending : Settings → Type 0
FitSending s = (s.id_width < 256) × (s.number_width < 256) × (s.segment < 2 ^ 16)
    × (s.checksum < 16) × (s.pdu_crc < 2)

abbrev pub FitFrames : Settings → Type 0
FitFrames s = (s.insert_zone < 256) × (s.control_field < 2) × (s.error_control < 2)

-- Each value fits its field. The number of a station's first put may be any: if its octets can't
-- have it, each put is refused.
abbrev pub FitFields : Settings → Type 0
FitFields s = (s.zone < 2 ^ 16) × FitFrames s × FitSending s × FitPolicy s

-- ---- the configuration

abbrev pub limits_of : Settings → Limits
limits_of s = record { eof = s.eof_limit; nak = s.nak_limit; finished = s.finished_limit }

abbrev pub times_of : Settings → Times
times_of s = record {
  eof = s.eof_time;
  nak = s.nak_time;
  finished = s.finished_time;
  inactivity =
      s.inactivity_time;
}

-- what the number 0, 1, 2 or 3 stands for
abbrev pub handler_of : ℕ → Handler
handler_of number =
    if number == 0 then does.Cancel else if number == 1 then does.Suspend
    else if number == 2 then does.Ignore else does.Abandon

abbrev pub handlers_of : Settings → Handlers
handlers_of s =
    record {
      ack = handler_of s.on_ack_limit;
      nak = handler_of s.on_nak_limit;
      inactivity =
          handler_of s.on_inactivity;
    }

-- a limit, if the number is one: 0 stands for none
abbrev pub limit_of : ℕ → Option ℕ
limit_of number = if number == 0 then None else Some number

abbrev pub policy_of : Settings → Policy
policy_of s = record {
  limits = limits_of s;
  times = times_of s;
  handlers = handlers_of s;
  most_gaps = limit_of s.most_gaps;
}

-- a station's entity: the peer is the other station's
abbrev pub entity_of : Settings → Side → EntityConfig
entity_of s side = record {
  entity = sides.entity_of side;
  peer = sides.entity_of (sides.other side);
  id_width = s.id_width;
  number_width = s.number_width;
  first_number = s.first_number;
  segment = s.segment;
  checksum_kind = s.checksum;
  pdu_crc = s.pdu_crc == 1;
  policy = policy_of s;
}

-- the fields of frames beside their header and their M_PDU
abbrev pub fields_of : Settings → FrameFields
fields_of s = record {
  insert_zone = s.insert_zone;
  control_field = s.control_field == 1;
  error_control = s.error_control == 1;
}

-- the frames that a station sends
abbrev pub link_of : Side → (zone : ℕ) → FrameFields → LinkConfig
link_of One zone fields = record {
  spacecraft = 42;
  virtual_channel = 5;
  data_virtual_channel = 7;
  zone = zone;
  apid = 100;
  fields = fields;
}
link_of Two zone fields = record {
  spacecraft = 42;
  virtual_channel = 6;
  data_virtual_channel = 8;
  zone = zone;
  apid = 101;
  fields = fields;
}

-- a station receives the frames that the other sends
abbrev pub station_of : Settings → Side → StationConfig
station_of s side = record {
  entity = entity_of s side;
  sends = link_of side s.zone (fields_of s);
  receives = link_of (sides.other side) s.zone (fields_of s);
  capacity = 16384;
}

-- two stations of these ids, each sending over its own link
abbrev pub pair_of : Settings → (first second : ℕ) → (one two : LinkConfig) → WorldConfig
pair_of s first second one two = record {
  one = record {
    entity = record (entity_of s One) { entity = first; peer = second };
    sends = one;
    receives = two;
    capacity = 16384;
  };
  two = record {
    entity = record (entity_of s Two) { entity = second; peer = first };
    sends = two;
    receives = one;
    capacity = 16384;
  };
}

abbrev pub world_of : Settings → WorldConfig
world_of s = record { one = station_of s One; two = station_of s Two }

-- ---- the keys

-- these octets are this word
abbrev pub is : List ℕ → List ℕ → Bool
is octets word = pointwise nat_eq octets word

-- each setting with its key
abbrev pub keys : List (Setting × List ℕ)
keys =
    (key.Zone, codes "zone") ∷
    (key.InsertZone, codes "insert_zone") ∷
    (key.ControlField, codes "control_field") ∷
    (key.ErrorControl, codes "error_control") ∷
    (key.Segment, codes "segment") ∷
    (key.IdWidth, codes "id_width") ∷
    (key.NumberWidth, codes "number_width") ∷
    (key.FirstNumber, codes "first_number") ∷
    (key.Checksum, codes "checksum") ∷
    (key.PduCrc, codes "pdu_crc") ∷
    (key.EofLimit, codes "eof_limit") ∷
    (key.NakLimit, codes "nak_limit") ∷
    (key.FinishedLimit, codes "finished_limit") ∷
    (key.EofTime, codes "eof_time") ∷
    (key.NakTime, codes "nak_time") ∷
    (key.FinishedTime, codes "finished_time") ∷
    (key.InactivityTime, codes "inactivity_time") ∷
    (key.OnAckLimit, codes "on_ack_limit") ∷
    (key.OnNakLimit, codes "on_nak_limit") ∷
    (key.OnInactivity, codes "on_inactivity") ∷
    (key.MostGaps, codes "most_gaps") ∷
    []

-- the setting that has this key
abbrev pub key_among : List (Setting × List ℕ) → List ℕ → Option Setting
key_among [] word = None
key_among (row ∷ rest) word = if is word row.1 then Some row.0 else key_among rest word

abbrev pub setting_of : List ℕ → Option Setting
setting_of word = key_among keys word

-- the same of a row of the program's table
abbrev pub row_key : Row → Setting × List ℕ
row_key row = (row.setting, row.key.now)

-- Each value is in its range, and the stations can be set up so.
abbrev pub AreValid : Settings → Type 0
AreValid s = FitFields s × IsWorldConfig (world_of s)
