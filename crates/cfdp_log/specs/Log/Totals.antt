-- What a station has done for its user, in numbers.
use Rattle.std.specs.Prelude.{ℕ, ◌+◌, ◌-◌, ◌^◌, ◌==◌, min, Bool, true, false, not, ◌&&◌, Result, Ok, Err, if◌then◌else◌}
use Rattle.cfdp_header.specs.declared.value.TransactionId.{TransactionId}
use Rattle.cfdp_directives.specs.User.Completions.{is_complete}
use Rattle.cfdp_directives.specs.declared.user.indication.Indication.{Indication}
use Rattle.cfdp_directives.specs.declared.user.indication.Indication.TheVariants.{Finished, Abandoned}
use Rattle.cfdp_entity.specs.declared.error.PutError.{PutError}
use Rattle.cfdp_entity.specs.declared.error.PutError.TheVariants.{NoMemory}
use Rattle.cfdp_report.specs.declared.exit.Exit.{Exit}
use Rattle.cfdp_report.specs.declared.exit.Exit.TheVariants.{Complete, Incomplete}

-- a count with one more, if it is counted; it stays at its greatest value
abbrev pub counted : Bool → ℕ → ℕ
counted true count = min (count + 1) (2 ^ 64 - 1)
counted false count = count

-- whether a put was refused, and whether that was because memory ran out
abbrev pub is_refused : Result TransactionId PutError → Bool
is_refused (Ok id) = false
is_refused (Err by) = true

abbrev pub is_no_memory : PutError → Bool
is_no_memory NoMemory = true
is_no_memory _ = false

abbrev pub is_short : Result TransactionId PutError → Bool
is_short (Ok id) = false
is_short (Err by) = is_no_memory by

-- whether by this a file of another entity is over and wasn't received whole
abbrev pub is_failed_reception : (own : ℕ) → Indication → Bool
is_failed_reception own (Finished id condition delivery status) =
    not (id.source == own) && not (is_complete condition delivery status)
is_failed_reception own (Abandoned id condition) = not (id.source == own)
is_failed_reception own _ = false

-- whether by this a transaction of the entity itself is over, and the peer doesn't have its file
abbrev pub is_failed_send : (own : ℕ) → Indication → Bool
is_failed_send own (Finished id condition delivery status) =
    id.source == own && not (is_complete condition delivery status)
is_failed_send own (Abandoned id condition) = id.source == own
is_failed_send own _ = false

-- how a run ended, if so many files weren't received
abbrev pub with_failures : (failed : ℕ) → Exit → Exit
with_failures failed Complete = if failed == 0 then Complete else Incomplete
with_failures failed exit = exit
