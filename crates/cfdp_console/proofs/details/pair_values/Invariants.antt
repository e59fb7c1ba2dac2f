use Rattle.std.proofs.Common.{◌≡◌, map, take}
use Rattle.serde_json.specs.View.{view}
use Rattle.cfdp_console.specs.Details.{pair_data}
use Rattle.cfdp_console.proofs.details.pair_values.Given as goal

-- the pairs so far are written
abbrev pub invariant-loop-pair : goal.invariant-loop-pair
invariant-loop-pair l = map view l.values.items ≡ map pair_data (take l.pair-index l.pairs)
