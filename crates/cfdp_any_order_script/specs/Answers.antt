-- What the commands of a script over any link answer, in reports and for the exit status.
use Rattle.std.specs.Prelude.{ℕ, Bool, false, List, [], ◌∷◌, ◌++◌, codes, decimal, Option, None, Some}
use Rattle.cfdp_report.specs.Report.Answers as usual
use Rattle.cfdp_any_order_script.specs.declared.answer.Answer.{Answer}
use Rattle.cfdp_any_order_script.specs.declared.answer.Answer.TheVariants.{Usual, NoSuchFrame, TooFar, TooLong, NumbersSpent, FramesSpent, NotRestored}
use Rattle.cfdp_any_order_script.specs.declared.answer.Answered.{Answered}

-- the name of an answer
abbrev pub answer_name : Answer → List ℕ
answer_name (Usual answer) = usual.answer_name answer
answer_name NoSuchFrame = codes "NoSuchFrame"
answer_name TooFar = codes "TooFar"
answer_name TooLong = codes "TooLong"
answer_name NumbersSpent = codes "NumbersSpent"
answer_name FramesSpent = codes "FramesSpent"
answer_name NotRestored = codes "NotRestored"

-- the answer of an event, after a number of events of the command that happened: only Nothing says
-- how many
abbrev pub after_so_many : ℕ → Answer → Answer
after_so_many before (Usual answer) = Usual (usual.answer_after before answer)
after_so_many before NoSuchFrame = NoSuchFrame
after_so_many before TooFar = TooFar
after_so_many before TooLong = TooLong
after_so_many before NumbersSpent = NumbersSpent
after_so_many before FramesSpent = FramesSpent
after_so_many before NotRestored = NotRestored

-- whether memory ran out, or a store failed
abbrev pub is_device_fault : Option Answer → Bool
is_device_fault (Some (Usual answer)) = usual.is_device_fault (Some answer)
is_device_fault _ = false

-- the line of a command, if it has an answer
abbrev pub answer_text : ℕ → Option Answer → List ℕ
answer_text line None = []
answer_text line (Some answer) =
    codes "line " ++ decimal line ++ codes " " ++ answer_name answer ++ 10 ∷ []

abbrev pub answer_line : Answered → List ℕ
answer_line done = answer_text done.line done.answer
