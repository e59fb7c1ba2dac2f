-- What command lines ask for, worked out: rows of the definitions in specs/Request.
use Rattle.std.proofs.Common.{◌≡◌, ℕ, true, false, List, [], ◌∷◌, codes, None, Some, refl}
use Rattle.clap.specs.Walk.{Text}
use Rattle.clap.specs.declared.error.kind.ErrorKind.TheVariants.{DisplayHelp, DisplayHelpOnMissingArgumentOrSubcommand, InvalidValue, MissingRequiredArgument, UnknownArgument, ValueValidation}
use Rattle.clap.proofs.OnLiterals.{clap_on_literals}
use Rattle.cfdp_command_line.specs.Request.{ask, asked_of, dump, loop, play, refusals, sim, station, version}
use Rattle.cfdp_command_line.specs.Shown.{ShownAsked}
use Rattle.cfdp_command_line.specs.Station.{StationAsked}
use Rattle.cfdp_command_line.specs.declared.losses.LossRequest.{LossRequest}
use Rattle.cfdp_command_line.specs.declared.station.CarrierKind.TheVariants.{Frames as FramesCarried, Packets, Pdus as PdusCarried}
use Rattle.cfdp_command_line.specs.declared.station.StationFlags.{StationFlags}
use Rattle.cfdp_command_line.specs.declared.station.StationLimits.{StationLimits}
use Rattle.cfdp_command_line.specs.declared.station.TimeUnit.TheVariants.{Milliseconds, Seconds}
use Rattle.cfdp_store.specs.declared.name_rule.NameRule.TheVariants.{Any, Portable}
use Rattle.aos_frame.specs.LinkFields.{no_fields}
use Rattle.cfdp_dump.specs.declared.spelled.form.DumpForm.TheVariants.{Short, Long, Fields}
use Rattle.cfdp_dump.specs.declared.spelled.shape.FrameShape.{FrameShape}
use Rattle.cfdp_dump.specs.declared.dump.DumpKind.TheVariants.{Pdus, Frames}

-- words after the program's name
abbrev line : List Text → List Text
line words = codes "cfdp_node" ∷ words

-- what is shown without any option
abbrev nothing : ShownAsked
nothing = record { explain = false; trace = false; pcap = None; chart = None }

-- and what is lost
abbrev no_losses : LossRequest
no_losses = record { every = 0; percent = 0; seed = 1 }

-- ---- sim

traced : (refusals (line (codes "sim" ∷ codes "--pcap" ∷ codes "a" ∷ codes "--trace" ∷ [])) ≡ [])
    × (asked_of (line (codes "sim" ∷ codes "--pcap" ∷ codes "a" ∷ codes "--trace" ∷ [])) ≡ Some (sim (record nothing { trace = true; pcap = Some (codes "a") }) None))
unfolding clap_on_literals
traced = (refl, refl)

drawn_of_file : (refusals (line (codes "sim" ∷ codes "a" ∷ codes "--chart" ∷ codes "b" ∷ [])) ≡ [])
    × (asked_of (line (codes "sim" ∷ codes "a" ∷ codes "--chart" ∷ codes "b" ∷ [])) ≡ Some (sim (record nothing { chart = Some (codes "b") }) (Some (codes "a"))))
unfolding clap_on_literals
drawn_of_file = (refl, refl)

-- ---- dump

-- frames with packet zones of a given number of octets and no fields beside the M_PDU
abbrev bare : ℕ → FrameShape
bare zone = record { zone = zone; fields = no_fields }

plain_pdus : (refusals (line (codes "dump" ∷ codes "pdus" ∷ [])) ≡ []) × (asked_of (line (codes "dump" ∷ codes "pdus" ∷ [])) ≡ Some (dump (Pdus, bare 256, Short, false, false) None))
unfolding clap_on_literals
plain_pdus = (refl, refl)

full_frames : (refusals (line (codes "dump" ∷ codes "frames" ∷ codes "a" ∷ codes "--zone" ∷ codes "300" ∷ codes "--error-control" ∷ codes "--insert-zone" ∷ codes "8" ∷ codes "--deep" ∷ codes "--long" ∷ codes "--text" ∷ [])) ≡ [])
    × (asked_of (line (codes "dump" ∷ codes "frames" ∷ codes "a" ∷ codes "--zone" ∷ codes "300" ∷ codes "--error-control" ∷ codes "--insert-zone" ∷ codes "8" ∷ codes "--deep" ∷ codes "--long" ∷ codes "--text" ∷ []))
    ≡ Some (dump (Frames, record { zone = 300; fields = record { insert_zone = 8; control_field = false; error_control = true } }, Long, true, true) (Some (codes "a"))))
unfolding clap_on_literals
full_frames = (refl, refl)

fields_of_frames : (refusals (line (codes "dump" ∷ codes "--fields" ∷ codes "frames" ∷ codes "--long" ∷ [])) ≡ [])
    × (asked_of (line (codes "dump" ∷ codes "--fields" ∷ codes "frames" ∷ codes "--long" ∷ [])) ≡ Some (dump (Frames, bare 256, Fields, false, false) None))
unfolding clap_on_literals
fields_of_frames = (refl, refl)

-- ---- loop

plain_loop : (refusals (line (codes "loop" ∷ codes "a" ∷ codes "b" ∷ codes "x" ∷ codes "y" ∷ [])) ≡ [])
    × (asked_of (line (codes "loop" ∷ codes "a" ∷ codes "b" ∷ codes "x" ∷ codes "y" ∷ []))
    ≡ Some (loop (record { from = codes "a"; to = codes "b"; source = codes "x"; destination = codes "y"; turns = 10000; losses = no_losses; keys = None; sets = []; shown = nothing })))
unfolding clap_on_literals
plain_loop = (refl, refl)

full_loop : (refusals (line (codes "loop" ∷ codes "a" ∷ codes "--set" ∷ codes "zone" ∷ codes "64" ∷ codes "b" ∷ codes "x" ∷ codes "--set" ∷ codes "crc" ∷ codes "1" ∷ codes "y" ∷ codes "--loss" ∷ codes "100" ∷ codes "--seed" ∷ codes "18446744073709551615" ∷ codes "--drop" ∷ codes "3" ∷ codes "--turns" ∷ codes "1000000" ∷ codes "--trace" ∷ codes "--keys" ∷ codes "k" ∷ codes "--pcap" ∷ codes "c" ∷ codes "--chart" ∷ codes "d" ∷ [])) ≡ [])
    × (asked_of (line (codes "loop" ∷ codes "a" ∷ codes "--set" ∷ codes "zone" ∷ codes "64" ∷ codes "b" ∷ codes "x" ∷ codes "--set" ∷ codes "crc" ∷ codes "1" ∷ codes "y" ∷ codes "--loss" ∷ codes "100" ∷ codes "--seed" ∷ codes "18446744073709551615" ∷ codes "--drop" ∷ codes "3" ∷ codes "--turns" ∷ codes "1000000" ∷ codes "--trace" ∷ codes "--keys" ∷ codes "k" ∷ codes "--pcap" ∷ codes "c" ∷ codes "--chart" ∷ codes "d" ∷ []))
    ≡ Some (loop (record {
      from = codes "a";
      to = codes "b";
      source = codes "x";
      destination = codes "y";
      turns = 1000000;
      losses = record { every = 3; percent = 100; seed = 18446744073709551615 };
      keys = Some (codes "k");
      sets = codes "zone" ∷ codes "64" ∷ codes "crc" ∷ codes "1" ∷ [];
      shown = record { explain = false; trace = true; pcap = Some (codes "c"); chart = Some (codes "d") };
    })))
unfolding clap_on_literals
full_loop = (refl, refl)

few_words : refusals (line (codes "loop" ∷ codes "a" ∷ codes "b" ∷ codes "x" ∷ [])) ≡ MissingRequiredArgument ∷ []
unfolding clap_on_literals
few_words = refl

more_than_all : refusals (line (codes "loop" ∷ codes "a" ∷ codes "b" ∷ codes "x" ∷ codes "y" ∷ codes "--loss" ∷ codes "101" ∷ [])) ≡ ValueValidation ∷ []
unfolding clap_on_literals
more_than_all = refl

-- ---- station

-- what is meant if no option says otherwise
abbrev plain_limits : StationLimits
plain_limits = record { retries = 3; at_once = 4; most_size = 0; most_open = 0; journal_every = 1000 }

abbrev no_flags : StationFlags
no_flags = record { remove_sent = false; no_overwrite = false; no_journal = false; commands = false; no_time = false; json = false }

-- words that say who the station is
abbrev named : List Text → List Text
named words = line (codes "station" ∷ codes "--id" ∷ codes "1" ∷ codes "--peer" ∷ codes "2" ∷ codes "--listen" ∷ codes "a" ∷ codes "--to" ∷ codes "b" ∷ words)

abbrev plain : StationAsked
plain = record {
  numbers = record { id = 1; peer = 2; idle = 0; first_number = 0; rate = 1000; losses = no_losses };
  limits = plain_limits;
  flags = no_flags;
  carrier = FramesCarried;
  unit = Seconds;
  names = Portable;
  listen = codes "a";
  to = codes "b";
  inbox = None;
  outbox = None;
  spool = None;
  state = None;
  journal = None;
  keys = None;
  control = None;
  console = None;
  console_token = None;
  console_host = None;
  puts = [];
  sets = [];
  shown = nothing;
}

plain_station : (refusals (named []) ≡ []) × (asked_of (named []) ≡ Some (station plain))
unfolding clap_on_literals
plain_station = (refl, refl)

-- each default said gives what nothing said gives
abbrev defaults : List Text
defaults = codes "--idle" ∷ codes "0" ∷ codes "--first-number" ∷ codes "0" ∷ codes "--rate" ∷ codes "1000" ∷ codes "--drop" ∷ codes "0" ∷ codes "--loss" ∷ codes "0" ∷ codes "--seed" ∷ codes "1" ∷ codes "--carrier" ∷ codes "frames" ∷ codes "--unit" ∷
    codes "s" ∷ codes "--retries" ∷ codes "3" ∷ codes "--at-once" ∷ codes "4" ∷ codes "--most-size" ∷ codes "0" ∷ codes "--most-open" ∷ codes "0" ∷ codes "--journal-every" ∷ codes "1000" ∷ codes "--names" ∷ codes "portable" ∷ []

defaults_said : (refusals (named defaults) ≡ []) × (asked_of (named defaults) ≡ Some (station plain))
unfolding clap_on_literals
defaults_said = (refl, refl)

sending_station : (refusals (line (codes "station" ∷ codes "--put" ∷ codes "x" ∷ codes "y" ∷ codes "--id" ∷ codes "3" ∷ codes "--peer" ∷ codes "4" ∷ codes "--set" ∷ codes "zone" ∷ codes "512" ∷ codes
    "--listen" ∷ codes "a" ∷ codes "--to" ∷ codes "b" ∷ codes "--put" ∷ codes "v" ∷ codes "w" ∷ codes "--outbox" ∷ codes "o" ∷ codes "--state" ∷ codes "s" ∷ codes "--idle" ∷ codes "9" ∷ codes "--carrier=packets" ∷ codes "--loss" ∷ codes "10" ∷ codes "--seed" ∷ codes "5" ∷ [])) ≡ [])
    × (asked_of (line (codes "station" ∷ codes "--put" ∷ codes "x" ∷ codes "y" ∷ codes "--id" ∷ codes "3" ∷ codes "--peer" ∷ codes "4" ∷ codes "--set" ∷ codes "zone" ∷ codes "512" ∷ codes "--listen" ∷
    codes "a" ∷ codes "--to" ∷ codes "b" ∷ codes "--put" ∷ codes "v" ∷ codes "w" ∷ codes "--outbox" ∷ codes "o" ∷ codes "--state" ∷ codes "s" ∷ codes "--idle" ∷ codes "9" ∷ codes "--carrier=packets" ∷ codes "--loss" ∷ codes "10" ∷ codes "--seed" ∷ codes "5" ∷ []))
    ≡ Some (station (record plain {
      numbers = record { id = 3; peer = 4; idle = 9; first_number = 0; rate = 1000; losses = record { every = 0; percent = 10; seed = 5 } };
      carrier = Packets;
      outbox = Some (codes "o");
      state = Some (codes "s");
      puts = codes "x" ∷ codes "y" ∷ codes "v" ∷ codes "w" ∷ [];
      sets = codes "zone" ∷ codes "512" ∷ [];
    })))
unfolding clap_on_literals
sending_station = (refl, refl)

abbrev operating : List Text
operating = codes "--journal" ∷ codes "j" ∷ codes "--journal-every" ∷ codes "10" ∷ codes "--no-journal" ∷ codes "--spool" ∷ codes "s" ∷ codes "--remove-sent" ∷ codes "--retries" ∷ codes "0" ∷ codes "--at-once" ∷ codes "3072" ∷ codes "--most-size" ∷ codes "281474976710656" ∷ codes "--most-open" ∷
    codes "4096" ∷ codes "--no-overwrite" ∷ codes "--commands" ∷ codes "--control" ∷ codes "c" ∷ codes "--no-time" ∷ codes "--json" ∷ codes "--carrier" ∷ codes "pdus" ∷ codes "--unit" ∷ codes "ms" ∷ codes "--names" ∷ codes "any" ∷ codes "--keys" ∷ codes "k" ∷ []

operated_station : (refusals (named operating) ≡ [])
    × (asked_of (named operating)
    ≡ Some (station (record plain {
      limits = record { retries = 0; at_once = 3072; most_size = 281474976710656; most_open = 4096; journal_every = 10 };
      flags = record { remove_sent = true; no_overwrite = true; no_journal = true; commands = true; no_time = true; json = true };
      carrier = PdusCarried;
      unit = Milliseconds;
      names = Any;
      spool = Some (codes "s");
      journal = Some (codes "j");
      keys = Some (codes "k");
      control = Some (codes "c");
    })))
unfolding clap_on_literals
operated_station = (refl, refl)

other_carrier : refusals (named (codes "--carrier" ∷ codes "Frames" ∷ [])) ≡ InvalidValue ∷ []
unfolding clap_on_literals
other_carrier = refl

none_at_once : refusals (named (codes "--at-once" ∷ codes "0" ∷ [])) ≡ ValueValidation ∷ []
unfolding clap_on_literals
none_at_once = refl

no_peer : refusals (line (codes "station" ∷ codes "--id" ∷ codes "1" ∷ codes "--listen" ∷ codes "a" ∷ codes "--to" ∷ codes "b" ∷ [])) ≡ MissingRequiredArgument ∷ []
unfolding clap_on_literals
no_peer = refl

-- ---- play

plain_play : (refusals (line (codes "play" ∷ [])) ≡ [])
    × (asked_of (line (codes "play" ∷ [])) ≡ Some (play (codes "127.0.0.1:8090")))
unfolding clap_on_literals
plain_play = (refl, refl)

play_of_a_file : refusals (line (codes "play" ∷ codes "a" ∷ [])) ≡ UnknownArgument ∷ []
unfolding clap_on_literals
play_of_a_file = refl

-- ---- ask

asked_put : (refusals (line (codes "ask" ∷ codes "a" ∷ codes "put" ∷ codes "x" ∷ codes "y" ∷ [])) ≡ [])
    × (asked_of (line (codes "ask" ∷ codes "a" ∷ codes "put" ∷ codes "x" ∷ codes "y" ∷ [])) ≡ Some (ask (codes "a") (codes "put" ∷ codes "x" ∷ codes "y" ∷ [])))
unfolding clap_on_literals
asked_put = (refl, refl)

asked_nothing : refusals (line (codes "ask" ∷ codes "a" ∷ [])) ≡ MissingRequiredArgument ∷ []
unfolding clap_on_literals
asked_nothing = refl

-- ---- the program alone, and mistakes

alone : refusals (line []) ≡ DisplayHelpOnMissingArgumentOrSubcommand ∷ []
unfolding clap_on_literals
alone = refl

only_version : (refusals (line (codes "--version" ∷ [])) ≡ []) × (asked_of (line (codes "--version" ∷ [])) ≡ Some version)
unfolding clap_on_literals
only_version = (refl, refl)

helped : refusals (line (codes "dump" ∷ codes "--help" ∷ [])) ≡ DisplayHelp ∷ []
unfolding clap_on_literals
helped = refl

no_kind : refusals (line (codes "dump" ∷ [])) ≡ MissingRequiredArgument ∷ []
unfolding clap_on_literals
no_kind = refl

other_kind : refusals (line (codes "dump" ∷ codes "pdu" ∷ [])) ≡ InvalidValue ∷ []
unfolding clap_on_literals
other_kind = refl

small_zone : refusals (line (codes "dump" ∷ codes "frames" ∷ codes "--zone" ∷ codes "15" ∷ [])) ≡ ValueValidation ∷ []
unfolding clap_on_literals
small_zone = refl

flag_of_another : refusals (line (codes "sim" ∷ codes "--long" ∷ [])) ≡ UnknownArgument ∷ []
unfolding clap_on_literals
flag_of_another = refl
