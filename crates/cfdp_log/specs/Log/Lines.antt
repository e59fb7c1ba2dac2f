-- What the log of a station has of each thing that it is given.
use Rattle.std.specs.Prelude.{◌≡◌, ℕ, List, [], ◌∷◌, ◌++◌, codes, decimal, Option, None, Some}
use Rattle.std.specs.Io.KnownBytes.{Appends}
use Rattle.cfdp_directives.specs.declared.user.indication.Indication.{Indication}
use Rattle.cfdp_entity.specs.declared.error.PutError.{PutError}
use Rattle.cfdp_entity.specs.declared.error.PutError.TheVariants.{NoMemory}
use Rattle.station_pair.specs.declared.refusal.Refusal.TheVariants.{Put}
use Rattle.station_pair.specs.declared.recover_error.RecoverError.TheVariants.{Settle}
use Rattle.station_pair.specs.declared.settle_error.SettleError.TheVariants as settling
use Rattle.cfdp_report.specs.declared.report.answer.Answer.{Answer}
use Rattle.cfdp_report.specs.declared.report.answer.Answer.TheVariants.{Refused, Ended}
use Rattle.cfdp_report.specs.Report.Answers.{answer_name}
use Rattle.cfdp_report.specs.Report.Lines.{answer_text, count_line, indication_line, indication_text}
use Rattle.cfdp_log.specs.declared.station_log.style.Style.{Style}
use Rattle.cfdp_log.specs.declared.station_log.style.Style.TheVariants.{Plain, Text, Json}

-- what a report answers for a put that is refused
abbrev pub refusal_answer : PutError → Answer
refusal_answer NoMemory = Ended (Settle settling.NoMemory)
refusal_answer by = Refused (Put by)

-- what a log is given: how a put was answered, by its number; what the station indicated; at the
-- end, of how many files how many were sent; or what stands in no report
pub data Entry : Type 0 where
  Answers : (number : ℕ) → Option Answer → Entry
  Tells : Indication → Entry
  Completes : (complete asked : ℕ) → Entry
  Notes : Entry

-- the lines of it in the report of the station `own`
abbrev pub entry_text : (own : ℕ) → Entry → List ℕ
entry_text own (Answers number answer) = answer_text number answer
entry_text own (Tells indication) = indication_line own indication
entry_text own (Completes complete asked) = count_line complete asked
entry_text own Notes = []

-- the last of these lines without its end, if there is one
abbrev pub answer_body : ℕ → Answer → List ℕ
answer_body number answer = codes "line " ++ decimal number ++ codes " " ++ answer_name answer

abbrev pub count_body : (complete asked : ℕ) → List ℕ
count_body complete asked = codes "complete " ++ decimal complete ++ codes " of " ++ decimal asked

-- A line, which was made of this, has something before it and something after it.
pub record IsDressed (body line : List ℕ) : Type 0 where
  pub front : List ℕ
  pub behind : List ℕ
  pub is : line ≡ front ++ body ++ behind ++ 10 ∷ []

-- Such a line is written.
pub record WritesDressed (body : List ℕ) (old new : Option (List ℕ)) : Type 0 where
  pub line : List ℕ
  pub dressed : IsDressed body line
  pub written : Appends old new line

-- In text an entry's line is written, if it has one, with the time in front and names after.
abbrev pub WritesText : (own : ℕ) → Entry → (old new : Option (List ℕ)) → Type 0
WritesText own (Answers number None) old new = Unit {0}
WritesText own (Answers number (Some answer)) old new =
    WritesDressed (answer_body number answer) old new
WritesText own (Tells indication) old new =
    WritesDressed (indication_text own indication) old new
WritesText own (Completes complete asked) old new =
    WritesDressed (count_body complete asked) old new
WritesText own Notes old new = Unit {0}

-- What is written of an entry in each style: plainly the lines of a report and nothing else. Of
-- JSON nothing is said.
abbrev pub WritesAs : (own : ℕ) → Style → Entry → (old new : Option (List ℕ)) → Type 0
WritesAs own Plain entry old new = Appends old new (entry_text own entry)
WritesAs own Text entry old new = WritesText own entry old new
WritesAs own (Json has_time) entry old new = Unit {0}
