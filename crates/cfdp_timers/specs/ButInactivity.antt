-- The armed timers of other kinds than Inactivity, and the least of their deadlines.
use Rattle.std.specs.Prelude.{ℕ, ◌≡◌, ◌≢◌, ◌≤◌, Some}
use Rattle.std.specs.FinMap as map
use Rattle.cfdp_timers.specs.declared.kind.Kind.TheVariants.{Inactivity}
use Rattle.cfdp_timers.specs.Order.{Timer}
use Rattle.cfdp_timers.specs.Armed.{Armed}

-- Each armed timer is of kind Inactivity.
pub record OnlyInactivity (armed : Armed) : Type 0 where
  pub only : (t : Timer) (at : ℕ) → map.get armed t ≡ Some at → t.1 ≡ Inactivity

-- Some armed timer of another kind has this deadline, and none of another kind an earlier one.
pub record IsLeastOther (armed : Armed) (deadline : ℕ) : Type 0 where
  pub armed_so : (t : Timer) × (t.1 ≢ Inactivity) × (map.get armed t ≡ Some deadline)
  pub least : (t : Timer) (at : ℕ) → t.1 ≢ Inactivity → map.get armed t ≡ Some at → deadline ≤ at
