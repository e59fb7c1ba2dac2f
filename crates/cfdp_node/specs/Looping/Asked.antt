-- What is done of what a command line asks.
use Rattle.std.specs.Prelude.{◌≡◌, map}
use Rattle.station_pair.specs.declared.world_config.WorldConfig.{WorldConfig}
use Rattle.cfdp_command_line.specs.Sets.{IsSetBy}
use Rattle.cfdp_command_line.specs.declared.looping.LoopRequest.{LoopRequest}
use Rattle.cfdp_node.specs.declared.looping.LoopOptions.{LoopOptions}

-- A file is sent under the names that were asked for, in so many turns at most, between stations
-- that are set up so.
pub record AreFor (request : LoopRequest) (set_up : WorldConfig) (options : LoopOptions) : Type 0
  where
    pub source : options.source.items ≡ request.source.bytes.items
    pub destination : options.destination.items ≡ request.destination.bytes.items
    pub turns : options.turns ≡ request.turns
    pub config : options.config ≡ set_up

-- So it is, between stations that are set up as was asked.
abbrev pub AreAsked : LoopRequest → LoopOptions → Type 0
AreAsked request options = (set_up : WorldConfig)
    × IsSetBy (map (λ word. word.bytes.items) request.sets.items) set_up
    × AreFor request set_up options
