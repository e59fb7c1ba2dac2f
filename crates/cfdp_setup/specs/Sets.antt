-- What is set of a station: what holds without `--set`, and what each key sets.
use Rattle.std.specs.Prelude.{ℕ, Bool, false, List, [], ◌∷◌, Option, Some, None, option_and_then, if◌then◌else◌}
use Rattle.cfdp_report.specs.Numbers.{number_of}
use Rattle.cfdp_report.specs.Settings.{default_settings, set_value, setting_of}
use Rattle.cfdp_report.specs.declared.settings.table.Setting.{Setting}
use Rattle.cfdp_setup.specs.Keys.{own_key_of}
use Rattle.cfdp_setup.specs.declared.numbers.DirectionNumbers.{DirectionNumbers}
use Rattle.cfdp_setup.specs.declared.numbers.FieldNumbers.{FieldNumbers}
use Rattle.cfdp_setup.specs.declared.own_key.OwnKey.{OwnKey}
use Rattle.cfdp_setup.specs.declared.own_key.OwnKey.TheVariants as key
use Rattle.cfdp_setup.specs.declared.station_setup.StationSetup.{StationSetup}

-- ---- what holds without `--set`

-- what the first station of a script sends, and the second one
abbrev pub first_sends : DirectionNumbers
first_sends = record { virtual_channel = 5; data_virtual_channel = 7; apid = 100 }

abbrev pub second_sends : DirectionNumbers
second_sends = record { virtual_channel = 6; data_virtual_channel = 8; apid = 101 }

abbrev pub no_field_numbers : FieldNumbers
no_field_numbers = record { insert_zone = 0; control_field = 0; error_control = 0 }

-- The station with the lesser id of both is as the first one of a script.
abbrev pub defaults : (is_lesser : Bool) → StationSetup
defaults is_lesser = record {
  settings = record default_settings { number_width = 8; pdu_crc = 1; most_gaps = 65536 };
  spacecraft = 42;
  own = if is_lesser then first_sends else second_sends;
  peer = if is_lesser then second_sends else first_sends;
  packets = record { packet_type = 0; secondary_header = 0; peer_secondary_header = 0 };
  peer_fields = no_field_numbers;
  is_secured = false;
  mac = None;
}

-- with this number for the first transaction
abbrev pub beginning : ℕ → StationSetup → StationSetup
beginning number s = record s { settings = record s.settings { first_number = number } }

-- before the first word of `--set`
abbrev pub begun : (is_lesser is_secured : Bool) → (first_number : ℕ) → StationSetup
begun is_lesser is_secured first_number =
    record (beginning first_number (defaults is_lesser)) { is_secured = is_secured }

-- ---- what the keys set

-- one number is another, and nothing else changes
abbrev pub with_number : OwnKey → ℕ → StationSetup → StationSetup
with_number key.Spacecraft n s = record s { spacecraft = n }
with_number key.VirtualChannel n s = record s { own = record s.own { virtual_channel = n } }
with_number key.DataVirtualChannel n s =
    record s { own = record s.own { data_virtual_channel = n } }
with_number key.Apid n s = record s { own = record s.own { apid = n } }
with_number key.PeerVirtualChannel n s = record s { peer = record s.peer { virtual_channel = n } }
with_number key.PeerDataVirtualChannel n s =
    record s { peer = record s.peer { data_virtual_channel = n } }
with_number key.PeerApid n s = record s { peer = record s.peer { apid = n } }
with_number key.PacketType n s = record s { packets = record s.packets { packet_type = n } }
with_number key.SecondaryHeader n s =
    record s { packets = record s.packets { secondary_header = n } }
with_number key.PeerSecondaryHeader n s =
    record s { packets = record s.packets { peer_secondary_header = n } }
with_number key.PeerInsertZone n s =
    record s { peer_fields = record s.peer_fields { insert_zone = n } }
with_number key.PeerControlField n s =
    record s { peer_fields = record s.peer_fields { control_field = n } }
with_number key.PeerErrorControl n s =
    record s { peer_fields = record s.peer_fields { error_control = n } }
with_number key.Mac n s = record s { mac = Some n }

-- a key is one of these, or one of a script
abbrev pub with_found : Option OwnKey → Option Setting → ℕ → StationSetup → Option StationSetup
with_found (Some own) setting n s = Some (with_number own n s)
with_found None (Some setting) n s =
    Some (record s { settings = set_value s.settings setting n })
with_found None None n s = None

-- what is set after a key is set to this value; none if there is no such key
abbrev pub set_by : (key : List ℕ) → (value : ℕ) → StationSetup → Option StationSetup
set_by word n s = with_found (own_key_of word) (setting_of word) n s

-- ---- what words set

-- a key, and the word after it, which must be a number
abbrev pub set_pair : (key value : List ℕ) → StationSetup → Option StationSetup
set_pair key value s = option_and_then (λ number. set_by key number s) (number_of value)

-- all pairs, one after the other; none if one of them sets nothing
unfoldable pub set_all : List (List ℕ) → StationSetup → Option StationSetup
set_all [] s = Some s
set_all (key ∷ []) s = Some s
set_all (key ∷ value ∷ rest) s = option_and_then (set_all rest) (set_pair key value s)
