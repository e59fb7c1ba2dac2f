-- How often something is sent again, and how long an answer is waited for.
use Rattle.std.specs.Prelude.{◌≤◌}
use Rattle.cfdp_directives.specs.declared.user.limits.Limits.{Limits}
use Rattle.cfdp_directives.specs.declared.user.limits.Times.{Times}

-- three times each
abbrev pub default_limits : Limits
default_limits = record { eof = 3; nak = 3; finished = 3 }

abbrev pub default_times : Times
default_times = record { eof = 10; nak = 10; finished = 10; inactivity = 100 }

-- Each wait must have at least one unit.
pub record IsValidTimes (times : Times) : Type 0 where
  pub eof : 1 ≤ times.eof
  pub nak : 1 ≤ times.nak
  pub finished : 1 ≤ times.finished
  pub inactivity : 1 ≤ times.inactivity
