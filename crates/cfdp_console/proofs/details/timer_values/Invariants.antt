use Rattle.std.proofs.Common.{◌≡◌, map, take}
use Rattle.serde_json.specs.View.{view}
use Rattle.cfdp_console.specs.Details.{timer_data}
use Rattle.cfdp_console.proofs.details.timer_values.Given as goal

-- the timers so far are written
abbrev pub invariant-loop-timer : goal.invariant-loop-timer
invariant-loop-timer l = map view l.values.items ≡ map timer_data (take l.timer-index l.timers)
