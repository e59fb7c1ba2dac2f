-- What a line asks of a station that runs.
use Rattle.std.specs.Prelude.{◌≡◌, ℕ, Bool, true, false, List, codes, if◌then◌else◌, Option, Some, None, is_some, option_map, option_and_then, Result, Ok, Err, ⊤}
use Rattle.percent_encoding.specs.Percent.{percent_decode}
use Rattle.cfdp_header.specs.declared.value.TransactionId.{TransactionId}
use Rattle.cfdp_entity.specs.declared.request.Request.{Request}
use Rattle.cfdp_entity.specs.declared.request.Request.TheVariants as request
use Rattle.cfdp_report.specs.Settings.{is}
use Rattle.cfdp_report.specs.declared.unread.Unread.{Unread}
use Rattle.cfdp_report.specs.declared.unread.Unread.TheVariants as unread
use Rattle.cfdp_report.specs.Words.{words_of, next_word, nothing_of, one_of, two_of}
use Rattle.cfdp_report.specs.Meaning.{both, id_of, asked_of}
use Rattle.cfdp_service.specs.declared.console.OperatorCommand.{OperatorCommand}
use Rattle.cfdp_service.specs.declared.console.OperatorCommand.TheVariants as command
use Rattle.cfdp_control.specs.declared.command.Asked.{Asked}
use Rattle.cfdp_control.specs.declared.command.Asked.TheVariants as asked
use Rattle.cfdp_control.specs.declared.command.Verb.{Verb}
use Rattle.cfdp_control.specs.declared.command.Verb.TheVariants as verb
use Rattle.cfdp_control.specs.declared.command.CommandError.{CommandError}
use Rattle.cfdp_control.specs.declared.command.CommandError.TheVariants as fault

-- What is asked: to send a file, under which names and whether ahead of all that wait; to change a
-- transaction; or one of the rest.
pub data Wanted : Type 0 where
  Sends : (is_first : Bool) → (source destination : List ℕ) → Wanted
  Changes : (id : TransactionId) → (change : Request) → Wanted
  Stops : Wanted
  StopsNow : Wanted
  Freezes : Wanted
  Thaws : Wanted
  Lists : Wanted
  Counts : Wanted
  Rekeys : Wanted
  Helps : Wanted

-- what was read, as it is wanted
abbrev pub wanted : Asked → Wanted
wanted (asked.Command (command.Put names is_first)) =
    Sends is_first names.source.items names.destination.items
wanted (asked.Command (command.Change id change)) = Changes id change
wanted (asked.Command command.Stop) = Stops
wanted (asked.Command command.StopNow) = StopsNow
wanted asked.Freeze = Freezes
wanted asked.Thaw = Thaws
wanted asked.List = Lists
wanted asked.Counters = Counts
wanted asked.Rekey = Rekeys
wanted asked.Help = Helps

-- The name that a word stands for, if it is a name as it is printed: an octet for each `%` with two
-- hexadecimal digits after it, and all other octets as they are.
abbrev pub named_by : List ℕ → List ℕ
named_by word = percent_decode word

-- ---- the first word

abbrev pub verb_of : List ℕ → Option Verb
verb_of word =
    if is word (codes "put") then Some verb.Put
    else if is word (codes "cancel") then Some verb.Cancel
    else if is word (codes "suspend") then Some verb.Suspend
    else if is word (codes "resume") then Some verb.Resume
    else if is word (codes "prompt") then Some verb.Prompt
    else if is word (codes "freeze") then Some verb.Freeze
    else if is word (codes "thaw") then Some verb.Thaw
    else if is word (codes "list") then Some verb.List
    else if is word (codes "counters") then Some verb.Counters
    else if is word (codes "rekey") then Some verb.Rekey
    else if is word (codes "stop") then Some verb.Stop
    else if is word (codes "help") then Some verb.Help
    else None

-- ---- what the words after it ask

-- `put SRC DST`, `put --first SRC DST`
abbrev pub put_of : List (List ℕ) → Option Wanted
put_of words =
    option_and_then (λ w. if is w.0 (codes "--first")
    then option_map (λ names. Sends true names.0 names.1) (two_of w.1)
    else option_map (λ destination. Sends false w.0 destination) (one_of w.1)) (next_word words)

-- `cancel ID`, `suspend ID`, `resume ID`
abbrev pub change_of : Request → List (List ℕ) → Option Wanted
change_of change words = option_map (λ id. Changes id change)
    (option_and_then id_of (one_of words))

-- `prompt ID nak`, `prompt ID keep`
abbrev pub prompt_of : List (List ℕ) → Option Wanted
prompt_of words =
    option_and_then (λ w. both (λ id keep_alive. Changes id (request.Prompt keep_alive)) (id_of w.0)
    (asked_of w.1)) (two_of words)

-- `stop`, `stop now`
abbrev pub stop_of : List (List ℕ) → Option Wanted
stop_of words = if is_some (nothing_of words) then Some Stops
    else option_and_then (λ word. if is word (codes "now") then Some StopsNow else None)
    (one_of words)

-- a command without words after it
abbrev pub alone : Wanted → List (List ℕ) → Option Wanted
alone it words = option_map (λ _. it) (nothing_of words)

abbrev pub rest_of : Verb → List (List ℕ) → Option Wanted
rest_of verb.Put words = put_of words
rest_of verb.Cancel words = change_of request.Cancel words
rest_of verb.Suspend words = change_of request.Suspend words
rest_of verb.Resume words = change_of request.Resume words
rest_of verb.Prompt words = prompt_of words
rest_of verb.Freeze words = alone Freezes words
rest_of verb.Thaw words = alone Thaws words
rest_of verb.List words = alone Lists words
rest_of verb.Counters words = alone Counts words
rest_of verb.Rekey words = alone Rekeys words
rest_of verb.Stop words = stop_of words
rest_of verb.Help words = alone Helps words

-- A line without the spaces at its end: one that asks nothing has no meaning.
abbrev pub asked_by : List ℕ → Option Wanted
asked_by line = option_and_then (λ w. option_and_then (λ first. rest_of first w.1) (verb_of w.0))
    (next_word (words_of line))

-- ---- what was read is what this asks; if there was no memory nothing is said

abbrev pub Reads : Result Asked CommandError → Option Wanted → Type 0
Reads (Ok it) meant = meant ≡ Some (wanted it)
Reads (Err (fault.Unknown nearest)) meant = meant ≡ None
Reads (Err (fault.Malformed first error)) meant = meant ≡ None
Reads (Err fault.NoMemory) meant = ⊤

abbrev pub ReadsRest : Result Asked Unread → Option Wanted → Type 0
ReadsRest (Ok it) meant = meant ≡ Some (wanted it)
ReadsRest (Err (unread.Bad error)) meant = meant ≡ None
ReadsRest (Err unread.NoMemory) meant = ⊤
