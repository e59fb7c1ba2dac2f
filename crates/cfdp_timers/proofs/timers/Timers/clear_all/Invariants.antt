-- The timers so far are cleared.
use Rattle.std.proofs.Common.{◌≡◌, None, take, if◌then◌else◌}
use Rattle.std.specs.List.{list_any}
use Rattle.std.specs.Ordering.{eq_by_cmp}
use Rattle.std.specs.FinMap as map
use Rattle.cfdp_timers.specs.Order.{Timer, timer_cmp}
use Rattle.cfdp_timers.proofs.timers.Timers.clear_all.Given as goal

abbrev pub invariant-loop-id : goal.invariant-loop-id
invariant-loop-id l = record {
  time : l.self.time ≡ l.fn.self.time;
  roomy : l.self.roomy ≡ l.fn.self.roomy;
  cleared : (t : Timer) → map.get l.self.armed t ≡ (if list_any (eq_by_cmp timer_cmp t) (take l.id-index l.timers) then None else map.get l.fn.self.armed t);
}
