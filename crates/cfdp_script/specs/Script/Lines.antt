-- What a script is: its lines, and what each means.
use Rattle.std.specs.Prelude.{◌≡◌, ◌⊎◌, ◌+◌, ℕ, ◌==◌, Bool, true, false, ◌&&◌, not, nat_lt, nat_le, List, [], ◌∷◌, codes, length, min, if◌then◌else◌, Option, Some, None, is_none, is_some, option_map, option_and_then, fold, Result, Ok, Err, ⊤}
use Rattle.std.specs.Option.{option_or}
use Rattle.std.specs.List.{list_all, filter_map}
use Rattle.cfdp_header.specs.declared.value.TransactionId.{TransactionId}
use Rattle.aos_frame.specs.declared.config.Lane.{Lane}
use Rattle.aos_frame.specs.declared.config.Lane.TheVariants.{Directives, Data}
use Rattle.station_pair.specs.declared.side.Side.{Side}
use Rattle.station_pair.specs.declared.side.Side.TheVariants.{One, Two}
use Rattle.link_sim.specs.declared.event.Event.{Event}
use Rattle.link_sim.specs.declared.event.Event.TheVariants as event
use Rattle.cfdp_script.specs.declared.script.command.Line.{Line}
use Rattle.cfdp_script.specs.declared.script.command.Line.TheVariants as line
use Rattle.cfdp_script.specs.declared.script.command.Contents.{Contents}
use Rattle.cfdp_script.specs.declared.script.command.Contents.TheVariants.{Text, Fill}
use Rattle.cfdp_script.specs.declared.script.command.Command.{Command}
use Rattle.cfdp_script.specs.declared.script.command.Command.TheVariants.{Once, Repeat, First, Damage as DamageOne, Spread, Burst, Settle, Recover, Disorder as Does}
use Rattle.cfdp_script.specs.declared.script.command.Damage.{Damage}
use Rattle.cfdp_script.specs.declared.script.command.Disorder.{Disorder}
use Rattle.cfdp_script.specs.declared.script.command.Disorder.TheVariants.{Overtake, Again, Restart, Resume}
use Rattle.cfdp_script.specs.declared.script.command.Pick.{Pick}
use Rattle.cfdp_script.specs.declared.script.command.Fate.{Fate}
use Rattle.cfdp_script.specs.declared.script.command.Fate.TheVariants.{Arrives, IsLost}
use Rattle.cfdp_report.specs.declared.unread.Unread.{Unread}
use Rattle.cfdp_report.specs.declared.unread.Unread.TheVariants.{Bad, NoMemory}
use Rattle.cfdp_script.specs.declared.script.command.FileLine.{FileLine}
use Rattle.cfdp_script.specs.declared.script.Step.{Step}
use Rattle.cfdp_report.specs.declared.settings.Settings.{Settings}
use Rattle.cfdp_report.specs.Meaning.{asked_of, both, id_of}
use Rattle.cfdp_report.specs.Settings.{AreValid, default_settings, is, set_value, setting_of}
use Rattle.cfdp_report.specs.Numbers.{number_of, octet_of}
use Rattle.cfdp_report.specs.Words.{without_return, words_of, parts, next_word, nothing_of, text_of, one_of, two_of, three_of, four_of}

-- ---- what single words mean

-- a station: the number 1 or 2
abbrev pub station_of : List ℕ → Option Side
station_of word = option_and_then (λ number. if number == 1 then Some One
    else if number == 2 then Some Two else None) (number_of word)

-- a lane: `dir` for directives, `data` for file data
abbrev pub lane_of : List ℕ → Option Lane
lane_of word = if is word (codes "dir") then Some Directives
    else if is word (codes "data") then Some Data else None

-- ---- what the words after the first one mean

-- a station, and nothing else
abbrev pub station_words : List (List ℕ) → Option Side
station_words words = option_and_then station_of (one_of words)

-- a station and a transaction
abbrev pub transaction_at : List ℕ → List ℕ → Option (Side × TransactionId)
transaction_at station id = both (λ at i. (at, i)) (station_of station) (id_of id)

abbrev pub transaction_words : List (List ℕ) → Option (Side × TransactionId)
transaction_words words = option_and_then (λ w. transaction_at w.0 w.1) (two_of words)

-- a station and a number
abbrev pub number_words : List (List ℕ) → Option (Side × ℕ)
number_words words = option_and_then (λ w. both (λ at n. (at, n)) (station_of w.0) (number_of w.1))
    (two_of words)

-- how many: one if no number is given
abbrev pub count_of : List (List ℕ) → Option ℕ
count_of words = if is_some (nothing_of words) then Some 1
    else option_and_then number_of (one_of words)

-- the event that has this effect on the oldest waiting frame which a station sent in a lane
abbrev pub befalls : Fate → Side → Lane → Event
befalls Arrives from lane = event.Deliver from lane
befalls IsLost from lane = event.Strike from lane

-- the frames that this word chooses, which is the name of a lane or of none: those of the lane, or
-- those sent first, as many as the word says
abbrev pub which_by : Fate → Side → List ℕ → Option Lane → List (List ℕ) → Option Command
which_by fate from word (Some lane) words = option_map (Repeat (befalls fate from lane))
    (count_of words)
which_by fate from word None words = both (λ _ count. First fate from count) (nothing_of words)
    (number_of word)

-- of the one sent first, if no word is given
abbrev pub which_of : Fate → Side → List (List ℕ) → Option Command
which_of fate from words = if is_some (nothing_of words) then Some (First fate from 1)
    else option_and_then (λ w. which_by fate from w.0 (lane_of w.0) w.1) (next_word words)

-- `deliver S [N]`, `deliver S LANE [N]`, and the same of `strike`
abbrev pub frames_of : Fate → List (List ℕ) → Option Command
frames_of fate words = option_and_then (λ w. option_and_then (λ from. which_of fate from w.1)
    (station_of w.0)) (next_word words)

-- which octet of a frame, and what comes in its place
abbrev pub damage_of : List ℕ → List ℕ → Option Damage
damage_of at octet = both (λ n o. record { at = n; octet = o }) (number_of at) (octet_of octet)

-- what is damaged, by this word, which is the name of a lane or of none: the oldest frame in the
-- lane, or the frame sent first
abbrev pub damage_by : Side → List ℕ → Option Lane → List (List ℕ) → Option Command
damage_by from word (Some lane) words =
    option_and_then (λ w. option_map (DamageOne from (Some lane)) (damage_of w.0 w.1))
    (two_of words)
damage_by from word None words =
    option_and_then (λ octet. option_map (DamageOne from None) (damage_of word octet))
    (one_of words)

abbrev pub damage_at : Side → List (List ℕ) → Option Command
damage_at from words = option_and_then (λ w. damage_by from w.0 (lane_of w.0) w.1)
    (next_word words)

-- `damage S AT HH`, `damage S LANE AT HH`
abbrev pub damaged_of : List (List ℕ) → Option Command
damaged_of words = option_and_then (λ w. option_and_then (λ from. damage_at from w.1)
    (station_of w.0)) (next_word words)

-- `put S SRC DST`
abbrev pub put_of : List (List ℕ) → Option Command
put_of words = option_and_then (λ w. option_map (λ at. Once (event.Put at w.1 w.2))
    (station_of w.0)) (three_of words)

-- `prompt S ID nak`, `prompt S ID keep`
abbrev pub prompt_of : List (List ℕ) → Option Command
prompt_of words =
    option_and_then (λ w. both (λ of keep_alive. Once (event.Prompt of.0 of.1 keep_alive))
    (transaction_at w.0 w.1) (asked_of w.2)) (three_of words)

-- which frame: 1 is the first
abbrev pub frame_number : List ℕ → Option ℕ
frame_number word = option_and_then (λ number. if nat_le 1 number then Some number else None)
    (number_of word)

-- one frame of a station, by this word, which is the name of a lane or of none: of the lane, or of
-- both
abbrev pub pick_by : Side → List ℕ → Option Lane → List (List ℕ) → Option Pick
pick_by from word (Some lane) words =
    option_and_then (λ w. option_map (λ n. record { from = from; lane = Some lane; number = n })
    (frame_number w)) (one_of words)
pick_by from word None words =
    both (λ _ n. record { from = from; lane = None; number = n }) (nothing_of words)
    (frame_number word)

abbrev pub pick_at : Side → List (List ℕ) → Option Pick
pick_at from words = option_and_then (λ w. pick_by from w.0 (lane_of w.0) w.1) (next_word words)

-- `S N`, `S LANE N`
abbrev pub pick_of : List (List ℕ) → Option Pick
pick_of words = option_and_then (λ w. option_and_then (λ from. pick_at from w.1)
    (station_of w.0)) (next_word words)

-- whether a station that restarts resumes: it does if the word `resume` follows
abbrev pub restart_at : Side → List (List ℕ) → Option Disorder
restart_at at words = if is_some (nothing_of words) then Some (Restart at)
    else option_and_then (λ word. if is word (codes "resume") then Some (Resume at) else None)
    (one_of words)

-- `restart S`, `restart S resume`
abbrev pub restart_of : List (List ℕ) → Option Disorder
restart_of words = option_and_then (λ w. option_and_then (λ at. restart_at at w.1)
    (station_of w.0)) (next_word words)

-- what no link that keeps its order does: `overtake S [LANE] N`, `repeat S [LANE] N`; and
-- `restart S [resume]`
abbrev pub disorder_of : List ℕ → List (List ℕ) → Option Disorder
disorder_of verb words =
    if is verb (codes "overtake") then option_map Overtake (pick_of words)
    else if is verb (codes "repeat") then option_map Again (pick_of words)
    else if is verb (codes "restart") then restart_of words
    else None

-- a command without words after it
abbrev pub alone : Command → List (List ℕ) → Option Command
alone command words = option_map (λ _. command) (nothing_of words)

-- these, and the commands that go on until nothing is left to do
abbrev pub round_of : List ℕ → List (List ℕ) → Option Command
round_of verb words =
    if is verb (codes "spread") then option_map Spread (station_words words)
    else if is verb (codes "burst") then option_map Burst (station_words words)
    else if is verb (codes "settle") then alone Settle words
    else if is verb (codes "recover") then alone Recover words
    else option_map Does (disorder_of verb words)

-- these, and what happens at a station or on the link
abbrev pub motion_of : List ℕ → List (List ℕ) → Option Command
motion_of verb words =
    if is verb (codes "poll") then option_map (λ at. Once (event.Poll at)) (station_words words)
    else if is verb (codes "flush") then option_map (λ at. Once (event.Flush at))
    (station_words words)
    else if is verb (codes "tick") then option_map (λ w. Once (event.Tick w.0 w.1))
    (number_words words)
    else if is verb (codes "deliver") then frames_of Arrives words
    else if is verb (codes "strike") then frames_of IsLost words
    else if is verb (codes "damage") then damaged_of words
    else round_of verb words

-- these, and what a station's user asks of a transaction
abbrev pub call_of : List ℕ → List (List ℕ) → Option Command
call_of verb words =
    if is verb (codes "cancel") then option_map (λ w. Once (event.Cancel w.0 w.1))
    (transaction_words words)
    else if is verb (codes "suspend")
    then option_map (λ w. Once (event.Suspend w.0 w.1)) (transaction_words words)
    else if is verb (codes "resume")
    then option_map (λ w. Once (event.Resume w.0 w.1)) (transaction_words words)
    else if is verb (codes "prompt") then prompt_of words
    else motion_of verb words

-- all commands
abbrev pub command_of : List ℕ → List (List ℕ) → Option Command
command_of verb words = if is verb (codes "put") then put_of words else call_of verb words

-- `set KEY N`
abbrev pub set_of : List (List ℕ) → Option Line
set_of words = option_and_then (λ w. both line.Set (setting_of w.0) (number_of w.1)) (two_of words)

abbrev pub file_line : List ℕ → Contents → Side → Line
file_line name contents at = line.File (record { at = at; name = name; contents = contents })

-- `file S NAME TEXT`
abbrev pub file_of : List (List ℕ) → Option Line
file_of words =
    option_and_then (λ station. option_and_then
    (λ name. both (λ octets. file_line name.0 (Text octets)) (text_of name.1)
    (station_of station.0)) (next_word station.1)) (next_word words)

-- how often an octet stands in a file: at most 1,048,576 times
abbrev pub fill_count : List ℕ → Option ℕ
fill_count word = option_and_then (λ count. if nat_le count 1048576 then Some count else None)
    (number_of word)

-- `fill S NAME N HH`
abbrev pub fill_of : List (List ℕ) → Option Line
fill_of words =
    option_and_then (λ w. both (file_line w.1) (both Fill (fill_count w.2) (octet_of w.3))
    (station_of w.0)) (four_of words)

-- ---- what a line means

abbrev pub verb_meaning : List ℕ → List (List ℕ) → Option Line
verb_meaning verb words =
    if is verb (codes "set") then set_of words
    else if is verb (codes "file") then file_of words
    else if is verb (codes "fill") then fill_of words
    else option_map line.Command (command_of verb words)

abbrev pub meaning : List (List ℕ) → Option Line
meaning words = option_and_then (λ w. verb_meaning w.0 w.1) (next_word words)

-- A line that must be read has at most 4,096 octets, all of them ASCII, and its words mean
-- something.
abbrev pub line_of : List ℕ → Option Line
line_of text =
    if nat_le (length text) 4096 && list_all (λ octet. nat_lt octet 128) text
    then meaning (words_of text) else None

-- What was read is what this means. If there was no memory, nothing is said.
abbrev pub Reads : {A : Type 0} → Result A Unread → Option A → Type 0
Reads (Ok read) meant = meant ≡ Some read
Reads (Err (Bad error)) meant = meant ≡ None
Reads (Err NoMemory) meant = ⊤

-- ---- a whole script

-- A line that is read: its number, and what it means.
abbrev pub ReadLine : Type 0
ReadLine = ℕ × Option Line

-- the lines with their numbers; the first has this one
abbrev pub numbered : ℕ → List (List ℕ) → List (ℕ × List ℕ)
numbered number [] = []
numbered number (text ∷ rest) = (number, text) ∷ numbered (number + 1) rest

-- a line that is empty or begins with `#` is skipped, but has its number
abbrev pub is_skipped : List ℕ → Bool
is_skipped [] = true
is_skipped (octet ∷ rest) = octet == 35

abbrev pub read_cut : ℕ → List ℕ → Option ReadLine
read_cut number text = if is_skipped text then None else Some (number, line_of text)

abbrev pub read_line : ℕ × List ℕ → Option ReadLine
read_line numbered_line = read_cut numbered_line.0 (without_return numbered_line.1)

-- the lines of a script, which stand between its line feeds, each of which may have a carriage
-- return before it; the first is line 1
abbrev pub lines_of : List ℕ → List ReadLine
lines_of text = filter_map read_line (numbered 1 (parts 10 text))

abbrev pub is_command : Option Line → Bool
is_command (Some (line.Command command)) = true
is_command _ = false

-- the lines before the first command
abbrev pub front : List ReadLine → List ReadLine
front [] = []
front (l ∷ rest) = if is_command l.1 then [] else l ∷ front rest

-- the first command and all lines after it
abbrev pub behind : List ReadLine → List ReadLine
behind [] = []
behind (l ∷ rest) = if is_command l.1 then l ∷ rest else behind rest

-- the number of the first line whose meaning passes a test
abbrev pub first_where : (Option Line → Bool) → List ReadLine → Option ℕ
first_where test [] = None
first_where test (l ∷ rest) = if test l.1 then Some l.0 else first_where test rest

-- A line is misread if it means nothing, or if it is no command and stands after one.
abbrev pub misread : List ReadLine → Option ℕ
misread all = option_or (first_where is_none (front all))
    (first_where (λ meant. not (is_command meant)) (behind all))

abbrev pub file_in : Option Line → Option FileLine
file_in (Some (line.File file)) = Some file
file_in _ = None

abbrev pub step_in : ℕ → Option Line → Option Step
step_in number (Some (line.Command command)) = Some (record { line = number; command = command })
step_in number _ = None

abbrev pub set_in : Settings → Option Line → Settings
set_in s (Some (line.Set setting value)) = set_value s setting value
set_in s _ = s

abbrev pub is_set : Option Line → Bool
is_set (Some (line.Set setting value)) = true
is_set _ = false

-- ---- what a script's text says

-- the files that it makes, in order
unfoldable pub files_of : List ℕ → List FileLine
files_of text = filter_map (λ l. file_in l.1) (front (lines_of text))

-- its commands, in order
unfoldable pub steps_of : List ℕ → List Step
steps_of text = filter_map (λ l. step_in l.0 l.1) (lines_of text)

-- the values after the last `set`
unfoldable pub settings_of : List ℕ → Settings
settings_of text = fold (λ s l. set_in s l.1) default_settings (front (lines_of text))

-- the line of the last `set`, 0 if there is none
unfoldable pub last_set : List ℕ → ℕ
last_set text = fold (λ number l. if is_set l.1 then l.0 else number) 0 (front (lines_of text))

-- the first line that is misread
unfoldable pub first_misread : List ℕ → Option ℕ
first_misread text = misread (lines_of text)

-- ---- the first bad line

abbrev pub earlier : Option ℕ → ℕ → ℕ
earlier None last = last
earlier (Some number) last = min number last

-- Which line is the first bad one, if any: the first that is misread, or the last `set` if the
-- settings aren't valid after it, whichever comes earlier. A `set` that is misread isn't the last.
abbrev pub IsFirst : Option ℕ → ℕ → Settings → Option ℕ → Type 0
IsFirst wrong last s None = (wrong ≡ None) × AreValid s
IsFirst wrong last s (Some number) = ((wrong ≡ Some number) × AreValid s)
    ⊎ ((number ≡ earlier wrong last) × (AreValid s → ⊥))

abbrev pub IsFirstBad : List ℕ → Option ℕ → Type 0
IsFirstBad text first = IsFirst (first_misread text) (last_set text) (settings_of text) first
