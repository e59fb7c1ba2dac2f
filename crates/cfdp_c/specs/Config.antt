-- How a caller says what a station is set up as.
use Rattle.std.specs.Prelude.{ℕ, ◌≡◌, ◌<◌, ◌==◌, Bool, Option, None, Some, if◌then◌else◌}
use Rattle.aos_frame.specs.declared.fields.FrameFields.{FrameFields}
use Rattle.aos_frame.specs.declared.config.LinkConfig.{LinkConfig}
use Rattle.cfdp_directives.specs.declared.user.handler.Handler.{Handler}
use Rattle.cfdp_directives.specs.declared.user.handler.Handler.TheVariants as does
use Rattle.cfdp_directives.specs.declared.user.policy.Policy.{Policy}
use Rattle.cfdp_entity.specs.declared.config.EntityConfig.{EntityConfig}
use Rattle.cfdp_station.specs.Config.{IsStationConfig}
use Rattle.cfdp_station.specs.Fields.{Fits}
use Rattle.cfdp_station.specs.declared.config.StationConfig.{StationConfig}
use Rattle.cfdp_c.specs.declared.bad_field.BadField.{BadField}
use Rattle.cfdp_c.specs.declared.bad_field.BadField.TheVariants as fields
use Rattle.cfdp_c.specs.declared.config.CfdpConfig.{CfdpConfig}
use Rattle.cfdp_c.specs.declared.config.CfdpLink.{CfdpLink}

-- what the number 0, 1, 2 or 3 stands for
abbrev pub handler_of : ℕ → Handler
handler_of number =
    if number == 0 then does.Cancel
    else if number == 1 then does.Suspend
    else if number == 2 then does.Ignore
    else does.Abandon

-- whether something is so, by the number 0 or 1
abbrev pub flag_of : ℕ → Bool
flag_of number = number == 1

-- a limit, if the number is one: 0 stands for none
abbrev pub limit_of : ℕ → Option ℕ
limit_of number = if number == 0 then None else Some number

abbrev pub policy_of : CfdpConfig → Policy
policy_of c = record {
  limits = record { eof = c.eof_limit; nak = c.nak_limit; finished = c.finished_limit };
  times = record {
    eof = c.eof_time;
    nak = c.nak_time;
    finished = c.finished_time;
    inactivity = c.inactivity_time;
  };
  handlers = record {
    ack = handler_of c.on_ack_limit;
    nak = handler_of c.on_nak_limit;
    inactivity = handler_of c.on_inactivity;
  };
  most_gaps = limit_of c.most_gaps;
}

abbrev pub entity_of : CfdpConfig → EntityConfig
entity_of c = record {
  entity = c.entity;
  peer = c.peer;
  id_width = c.id_width;
  number_width = c.number_width;
  first_number = c.first_number;
  segment = c.segment;
  checksum_kind = c.checksum;
  pdu_crc = flag_of c.pdu_crc;
  policy = policy_of c;
}

abbrev pub fields_of : CfdpLink → FrameFields
fields_of l = record {
  insert_zone = l.insert_zone;
  control_field = flag_of l.control_field;
  error_control = flag_of l.error_control;
}

abbrev pub link_of : CfdpLink → LinkConfig
link_of l = record {
  spacecraft = l.spacecraft;
  virtual_channel = l.virtual_channel;
  data_virtual_channel = l.data_virtual_channel;
  zone = l.zone;
  apid = l.apid;
  fields = fields_of l;
}

-- the station's own configuration for these fields
abbrev pub config_of : CfdpConfig → StationConfig
config_of c = record {
  entity = entity_of c;
  sends = link_of c.sends;
  receives = link_of c.receives;
  capacity = c.capacity;
}

-- octets of a configuration: if a program was compiled with another header, it has others
abbrev pub config_len : ℕ
config_len = 104

-- Each number of a link must stand for something.
pub record HasFlags (l : CfdpLink) : Type 0 where
  pub control_field : l.control_field < 2
  pub error_control : l.error_control < 2

-- Each number of the entity must stand for something.
pub record NamesEntity (c : CfdpConfig) : Type 0 where
  pub checksum : c.checksum < 16
  pub pdu_crc : c.pdu_crc < 2
  pub ack : c.on_ack_limit < 4
  pub nak : c.on_nak_limit < 4
  pub inactivity : c.on_inactivity < 4

-- All numbers must stand for something.
pub record HasNames (c : CfdpConfig) : Type 0 where
  pub entity : NamesEntity c
  pub sends : HasFlags c.sends
  pub receives : HasFlags c.receives

-- A station can be set up so.
pub record IsUsable (c : CfdpConfig) : Type 0 where
  pub size : c.size ≡ config_len
  pub names : HasNames c
  pub station : IsStationConfig (config_of c)

-- ---- a field that isn't as it must be
-- What each field must be.
abbrev pub Suits : BadField → CfdpConfig → Type 0
Suits (fields.Station field) c = Fits field (config_of c)
Suits fields.Size c = c.size ≡ config_len
Suits fields.Checksum c = c.checksum < 16
Suits fields.PduCrc c = c.pdu_crc < 2
Suits fields.OnAckLimit c = c.on_ack_limit < 4
Suits fields.OnNakLimit c = c.on_nak_limit < 4
Suits fields.OnInactivity c = c.on_inactivity < 4
Suits fields.SendsControlField c = c.sends.control_field < 2
Suits fields.SendsErrorControl c = c.sends.error_control < 2
Suits fields.ReceivesControlField c = c.receives.control_field < 2
Suits fields.ReceivesErrorControl c = c.receives.error_control < 2

-- what a script's stations have before it sets anything, as station 1
abbrev pub default_config : CfdpConfig
default_config = record {
  size = config_len;
  entity = 1;
  peer = 2;
  first_number = 1;
  capacity = 16384;
  eof_time = 10;
  nak_time = 10;
  finished_time = 10;
  inactivity_time = 100;
  sends = record {
    zone = 256;
    apid = 100;
    spacecraft = 42;
    virtual_channel = 5;
    data_virtual_channel = 7;
    insert_zone = 0;
    control_field = 0;
    error_control = 0;
  };
  receives = record {
    zone = 256;
    apid = 101;
    spacecraft = 42;
    virtual_channel = 6;
    data_virtual_channel = 8;
    insert_zone = 0;
    control_field = 0;
    error_control = 0;
  };
  pdu_crc = 0;
  segment = 1024;
  id_width = 2;
  number_width = 4;
  checksum = 0;
  eof_limit = 3;
  nak_limit = 3;
  finished_limit = 3;
  on_ack_limit = 0;
  on_nak_limit = 0;
  on_inactivity = 0;
  most_gaps = 0;
}
