-- The lines that reports of all commands share.
use Rattle.std.specs.Prelude.{ℕ, ◌==◌, Bool, false, ◌&&◌, List, [], ◌∷◌, ◌++◌, codes, decimal, Option, None, Some}
use Rattle.std.specs.List.{flat_map}
use Rattle.cfdp_directives.specs.User.Completions.{is_complete}
use Rattle.cfdp_directives.specs.declared.user.indication.Indication.{Indication}
use Rattle.cfdp_directives.specs.declared.user.indication.Indication.TheVariants.{Transaction, EofSent, MetadataRecv, EofRecv, Finished, Suspended, Resumed, Fault, Abandoned, Progress}
use Rattle.cfdp_report.specs.declared.report.answer.Answer.{Answer}
use Rattle.cfdp_report.specs.declared.report.answer.Answered.{Answered}
use Rattle.cfdp_report.specs.Report.Name.{printed_octet}
use Rattle.cfdp_report.specs.Report.Answers.{answer_name}
use Rattle.cfdp_report.specs.Report.Wording.{id_text, delivery_word, status_word}

-- ---- lines of indications
-- what a station indicates to its user, after its number
abbrev pub told_text : Indication → List ℕ
told_text (Transaction id) = codes "transaction " ++ id_text id
told_text (EofSent id) = codes "eof-sent " ++ id_text id
told_text (MetadataRecv id source destination size) =
    codes "metadata " ++ id_text id ++ codes " " ++ flat_map printed_octet source ++ codes " "
    ++ flat_map printed_octet destination ++ codes " " ++ decimal size
told_text (EofRecv id) = codes "eof-recv " ++ id_text id
told_text (Finished id condition delivery status) =
    codes "finished " ++ id_text id ++ codes " " ++ decimal condition ++ codes " "
    ++ delivery_word delivery ++ codes " " ++ status_word status
told_text (Suspended id condition) = codes "suspended " ++ id_text id ++ codes " "
    ++ decimal condition
told_text (Resumed id) = codes "resumed " ++ id_text id
told_text (Fault id condition) = codes "fault " ++ id_text id ++ codes " " ++ decimal condition
told_text (Abandoned id condition) = codes "abandoned " ++ id_text id ++ codes " "
    ++ decimal condition
told_text (Progress id octets) = codes "progress " ++ id_text id ++ codes " " ++ decimal octets

-- what station S indicates to its user
abbrev pub indication_text : ℕ → Indication → List ℕ
indication_text station told = decimal station ++ codes " " ++ told_text told

-- as a line of the report
abbrev pub indication_line : ℕ → Indication → List ℕ
indication_line station told = indication_text station told ++ 10 ∷ []

-- ---- lines of commands
-- the line of a command, if it has an answer
abbrev pub answer_text : ℕ → Option Answer → List ℕ
answer_text line None = []
answer_text line (Some answer) =
    codes "line " ++ decimal line ++ codes " " ++ answer_name answer ++ 10 ∷ []

abbrev pub answer_line : Answered → List ℕ
answer_line done = answer_text done.line done.answer

-- ---- a bad script
-- what is said of it, by the number of its first bad line
abbrev pub bad_script_text : ℕ → List ℕ
bad_script_text line = codes "line " ++ decimal line ++ codes ": bad script"

-- ---- the count of puts
-- whether by this a station that sends a transaction indicates that its file was delivered
abbrev pub is_own_completion : ℕ → Indication → Bool
is_own_completion own (Finished id condition delivery status) =
    is_complete condition delivery status && id.source == own
is_own_completion own _ = false

abbrev pub count_line : (complete asked : ℕ) → List ℕ
count_line complete all =
    codes "complete " ++ decimal complete ++ codes " of " ++ decimal all ++ 10 ∷ []
