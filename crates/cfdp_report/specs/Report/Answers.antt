-- What a command answers, in reports and for the exit status.
use Rattle.std.specs.Prelude.{ℕ, Bool, true, false, List, codes, Option, Some}
use Rattle.cfdp_entity.specs.Errors.{put_name, call_name}
use Rattle.station_pair.specs.Errors.{recover_error_name}
use Rattle.station_pair.specs.declared.refusal.Refusal.TheVariants.{Put, Call, LossRunTooLong, NotDamaged}
use Rattle.station_pair.specs.declared.recover_error.RecoverError.TheVariants.{Settle}
use Rattle.station_pair.specs.declared.settle_error.SettleError.TheVariants.{NoMemory, StoreFailed}
use Rattle.cfdp_report.specs.declared.report.answer.Answer.{Answer}
use Rattle.cfdp_report.specs.declared.report.answer.Answer.TheVariants.{Nothing, Refused, Ended}

-- the name of an answer
abbrev pub answer_name : Answer → List ℕ
answer_name (Nothing after) = codes "Nothing"
answer_name (Refused (Put by)) = put_name by
answer_name (Refused (Call by)) = call_name by
answer_name (Refused LossRunTooLong) = codes "LossRunTooLong"
answer_name (Refused NotDamaged) = codes "NotDamaged"
answer_name (Ended error) = recover_error_name error

-- the answer of an event, of a command so many of whose events happened before: only Nothing keeps
-- how many
abbrev pub answer_after : ℕ → Answer → Answer
answer_after before (Nothing after) = Nothing before
answer_after before answer = answer

-- whether memory ran out, or a store failed
abbrev pub is_device_fault : Option Answer → Bool
is_device_fault (Some (Ended (Settle NoMemory))) = true
is_device_fault (Some (Ended (Settle StoreFailed))) = true
is_device_fault _ = false
