-- What both machines say of limits, faults and handlers (CCSDS 727.0-B-5, 4.8).
use Rattle.std.specs.Prelude.{ℕ, ◌+◌, nat_lt, List, [], ◌∷◌, Option, None, Some, if◌then◌else◌}
use Rattle.cfdp_header.specs.declared.value.TransactionId.{TransactionId}
use Rattle.cfdp_directives.specs.declared.user.handler.Handler.{Handler}
use Rattle.cfdp_directives.specs.declared.user.handler.Handler.TheVariants.{Cancel, Suspend, Ignore, Abandon}
use Rattle.cfdp_directives.specs.declared.user.indication.Indication.{Indication}
use Rattle.cfdp_directives.specs.declared.user.indication.Indication.TheVariants.{Finished, Fault, Suspended, Abandoned}
use Rattle.cfdp_directives.specs.declared.user.policy.Policy.{Policy}
use Rattle.cfdp_directives.specs.declared.user.telling.Outcome.{Outcome}
use Rattle.cfdp_directives.specs.User.Limits.{default_limits, default_times}
use Rattle.cfdp_directives.specs.User.Handler.{default_handlers}

abbrev pub default_policy : Policy
default_policy = record {
  limits = default_limits;
  times = default_times;
  handlers = default_handlers;
  most_gaps = None;
}

-- the count with one more try, if it is below its limit
abbrev pub another_try : (count limit : ℕ) → Option ℕ
another_try count limit = if nat_lt count limit then Some (count + 1) else None

-- what is indicated of a transaction that ended so
abbrev pub finished_told : TransactionId → Outcome → Indication
finished_told id o = Finished id o.condition o.delivery o.status

-- what is indicated of a fault, and of what the handler does about it. If the transaction is
-- cancelled, its end is indicated once it is finished
abbrev pub fault_told : Handler → TransactionId → ℕ → List Indication
fault_told Cancel id condition = Fault id condition ∷ []
fault_told Suspend id condition = Fault id condition ∷ Suspended id condition ∷ []
fault_told Ignore id condition = Fault id condition ∷ []
fault_told Abandon id condition = Fault id condition ∷ Abandoned id condition ∷ []
