-- The log of a station, and what each of its calls does.
use Rattle.std.specs.Prelude.{◌≡◌, ℕ, Bool, true, false, not, ◌&&◌, ◌||◌, List, Option, Some, Result, Ok, Err}
use Rattle.cfdp_header.specs.declared.value.TransactionId.{TransactionId}
use Rattle.cfdp_directives.specs.declared.user.indication.Indication.{Indication}
use Rattle.cfdp_entity.specs.declared.error.PutError.{PutError}
use Rattle.cfdp_report.specs.Report.Lines.{is_own_completion}
use Rattle.cfdp_service.specs.declared.wish.Reply.{Reply}
use Rattle.cfdp_service.specs.declared.wish.Reply.TheVariants.{Put, Change}
use Rattle.cfdp_log.specs.declared.station_log.style.Style.{Style}
use Rattle.cfdp_log.specs.declared.station_log.totals.Totals.{Totals}
use Rattle.cfdp_log.specs.Log.Lines.{Entry, Answers, Notes, WritesAs, refusal_answer}
use Rattle.cfdp_log.specs.Log.Totals.{counted, is_failed_reception, is_failed_send, is_refused, is_short}

-- whose log it is and how it is written; what was written so far, if that is known; whether the
-- writer has failed; and what was done, in numbers
pub record JournalState : Type 0 where
  pub own : ℕ
  pub style : Style
  pub written : Option (List ℕ)
  pub has_failed : Bool
  pub totals : Totals

-- This was given: it must be written, unless the writer has failed.
pub record Logs (entry : Entry) (old new : JournalState) : Type 0 where
  pub own : new.own ≡ old.own
  pub style : new.style ≡ old.style
  pub before : new.has_failed ≡ false → old.has_failed ≡ false
  pub written : new.has_failed ≡ false
      → WritesAs old.own old.style entry old.written new.written

-- a log to which nothing was given yet, with these totals
abbrev pub begins : (own : ℕ) → Style → Option (List ℕ) → Totals → JournalState
begins own style out none = record {
  own = own;
  style = style;
  written = out;
  has_failed = false;
  totals = none;
}

-- A put was counted, which was answered so; of a file that was put before or wasn't.
pub record CountsPut (answer : Result TransactionId PutError) (again : Bool) (old new : Totals) : Type 0
  where
    pub made : new.made ≡ counted true old.made
    pub asked : new.asked ≡ counted (not again) old.asked
    pub refused : new.refused ≡ counted (is_refused answer) old.refused
    pub short : new.is_short ≡ (old.is_short || is_short answer)
    pub complete : new.complete ≡ old.complete
    pub failed : new.failed ≡ old.failed
    pub sends : new.sends_failed ≡ old.sends_failed

-- What the station `own` indicated was counted, of a transaction that was reported over before or
-- wasn't.
pub record CountsTold (own : ℕ) (told : Indication) (old new : Totals) : Type 0 where
  pub over : Bool
  pub complete : new.complete ≡ counted (is_own_completion own told) old.complete
  pub failed : new.failed ≡ counted (not over && is_failed_reception own told) old.failed
  pub sends : new.sends_failed ≡ counted (not over && is_failed_send own told) old.sends_failed
  pub made : new.made ≡ old.made
  pub asked : new.asked ≡ old.asked
  pub refused : new.refused ≡ old.refused
  pub short : new.is_short ≡ old.is_short

-- How a put was answered was given: it is counted, and a line has it if it was refused. What is
-- no answer to a put changes nothing.
abbrev pub AnswersPut : Reply → (again : Bool) → (old new : JournalState) → Type 0
AnswersPut (Put (Ok id)) again old new =
    CountsPut (Ok id) again old.totals new.totals × Logs Notes old new
AnswersPut (Put (Err by)) again old new = CountsPut (Err by) again old.totals new.totals
    × Logs (Answers new.totals.made (Some (refusal_answer by))) old new
AnswersPut (Change by) again old new = new ≡ old
