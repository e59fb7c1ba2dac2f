use Rattle.std.proofs.Common.{◌≡◌, drop}
use Rattle.cfdp_setup.specs.Misfits.{are_in_range}
use Rattle.cfdp_setup.proofs.station_setup.StationSetup.range_misfit.Given as goal

-- none of the keys so far is out of its range
abbrev pub invariant-loop-key : goal.invariant-loop-key
invariant-loop-key l = are_in_range l.self l.keys ≡ are_in_range l.self (drop l.key-index l.keys)
