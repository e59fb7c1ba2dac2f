-- Timers that are due, and the order in which they fire.
use Rattle.std.specs.Prelude.{ℕ, ◌≡◌, ◌≤◌, Bool, not, false, Some, List, nat_le, unwrap_or, count_by}
use Rattle.std.specs.List.{list_any}
use Rattle.std.specs.List.Sorted.{IsStrictlySortedBy}
use Rattle.std.specs.Option.{option_map_or}
use Rattle.std.specs.declared.cmp.Ordering.{Ordering}
use Rattle.std.specs.Ordering.{nat_cmp, on, then_cmp, eq_by_cmp}
use Rattle.std.specs.FinMap as map
use Rattle.cfdp_timers.specs.Order.{Timer, timer_cmp}
use Rattle.cfdp_timers.specs.Armed.{Armed}

-- true if a timer is armed with a deadline at a time or before it
abbrev pub is_due : Armed → ℕ → Timer → Bool
is_due armed at t = option_map_or (λ d. nat_le d at) (map.get armed t) false

-- by deadline, then by transaction, then by kind
abbrev pub firing_cmp : Armed → Timer → Timer → Ordering
firing_cmp armed = then_cmp (on (λ t. unwrap_or (map.get armed t) 0) nat_cmp) timer_cmp

-- the timers that are due, each once, as they fire
pub record AreDue (armed : Armed) (at : ℕ) (fired : List Timer) : Type 0 where
  pub all : (t : Timer) → list_any (eq_by_cmp timer_cmp t) fired ≡ is_due armed at t
  pub in_order : IsStrictlySortedBy (firing_cmp armed) fired

-- how many are due
abbrev pub due_count : Armed → ℕ → ℕ
due_count armed at = count_by (λ e. nat_le e.1 at) (map.entries armed)

-- what is left once the due timers have fired
unfoldable pub still_armed : ℕ → Armed → Armed
still_armed at armed = map.retain_keys armed (λ t. not (is_due armed at t))

-- the least deadline of the armed timers
pub record IsLeast (armed : Armed) (deadline : ℕ) : Type 0 where
  pub armed_so : (t : Timer) × (map.get armed t ≡ Some deadline)
  pub least : (t : Timer) (other : ℕ) → map.get armed t ≡ Some other → deadline ≤ other
