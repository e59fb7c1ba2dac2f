-- What a station is commanded: what its operator said.
use Rattle.std.specs.Prelude.{◌≡◌, ◌++◌, ◌∷◌, ◌⊎◌, ℕ, Bool, List, [], codes, Option, Some, None, Result, Ok, Err, IsTrue, string_bytes}
use Rattle.std.specs.Str.{IsTrimAsciiEnd}
use Rattle.cfdp_store.specs.declared.name_rule.NameRule.{NameRule}
use Rattle.cfdp_store.specs.declared.name_rule.NameRule.TheVariants as rule
use Rattle.cfdp_control.specs.Asking.{Wanted, Sends, wanted, named_by, asked_by}
use Rattle.cfdp_control.specs.declared.command.Asked.TheVariants as asked
use Rattle.cfdp_control.specs.declared.line.LineFault.{LineFault}
use Rattle.cfdp_control.specs.declared.line.Speaker.{Speaker}
use Rattle.cfdp_service.specs.Calls.{ConsoleCall, Gives}
use Rattle.cfdp_service.specs.declared.console.OperatorCommand.{OperatorCommand}
use Rattle.cfdp_service.specs.declared.console.OperatorCommand.TheVariants as commands
use Rattle.cfdp_operator.specs.declared.said.Said.{Said}
use Rattle.cfdp_operator.specs.declared.said.Said.TheVariants.{Line, Pressed}

-- What clauses see of a console: all that was said there, in its order; the rule of names; and
-- whether transfers go on by a journal.
pub record ConsoleState : Type 0 where
  pub heard : List Said
  pub names : NameRule
  pub has_journal : Bool

abbrev pub octets_of : Said → List ℕ
octets_of (Line text) = string_bytes text
octets_of (Pressed line) = line.items

-- ---- what is asked for by a line

-- What is wanted, with the names that its words stand for: by the rule of any names a word is a
-- name as it is printed.
abbrev pub named : NameRule → Wanted → Wanted
named rule.Any (Sends is_first source destination) =
    Sends is_first (named_by source) (named_by destination)
named _ it = it

abbrev pub wanted_by : OperatorCommand → Wanted
wanted_by command = wanted (asked.Command command)

-- A line asks for this command: what it says after `--json `, if it begins so, and without the
-- spaces at its end.
pub record Asks (names : NameRule) (line : List ℕ) (command : OperatorCommand) : Type 0 where
  pub text : List ℕ
  pub kept : List ℕ
  pub meant : Wanted
  pub form : (line ≡ codes "--json " ++ text) ⊎ (line ≡ text)
  pub trimmed : IsTrimAsciiEnd text kept
  pub asked : asked_by kept ≡ Some meant
  pub is : wanted_by command ≡ named names meant

-- ---- what a console heard

-- This was said then, and nothing more.
abbrev pub hears : ConsoleState → Said → ConsoleState
hears old said = record old { heard = old.heard ++ said ∷ [] }

-- Some things were said since, and all else is as it was.
pub record HearsOn (old new : ConsoleState) : Type 0 where
  pub said : List Said
  pub heard : new.heard ≡ old.heard ++ said
  pub names : new.names ≡ old.names
  pub journal : new.has_journal ≡ old.has_journal

-- The next line, if one is there that is text, was said then.
abbrev pub HearsLine : ConsoleState → Option (Speaker × Result Said LineFault) → ConsoleState
    → Type 0
HearsLine old (Some (speaker, Ok said)) new = new ≡ hears old said
HearsLine old _ new = new ≡ old

-- ---- what it commands

-- The line asks for this command; what is no line asks for none.
abbrev pub AsksFor : NameRule → Result Said LineFault → OperatorCommand → Type 0
AsksFor names (Ok said) command = Asks names (octets_of said) command
AsksFor names (Err fault) command = ⊥

-- What was said last asks for the command, and was said since the old state.
pub record IsSaid (old : ConsoleState) (command : OperatorCommand) (new : ConsoleState)
    : Type 0 where
  pub before : ConsoleState
  pub said : Said
  pub goes_on : HearsOn old before
  pub is : new ≡ hears before said
  pub asks : Asks old.names (octets_of said) command

-- What a call does that gives a command only if it was said.
abbrev pub Obeys : ConsoleState → Option OperatorCommand → ConsoleState → Type 0
Obeys old None new = HearsOn old new
Obeys old (Some command) new = IsSaid old command new

-- The command is to end at once, and the station has a journal: it may be stuck.
pub record EndsUnsaid (old : ConsoleState) (command : OperatorCommand) (new : ConsoleState)
    : Type 0 where
  pub is : command ≡ commands.StopNow
  pub journal : IsTrue old.has_journal
  pub goes_on : HearsOn old new

-- What a call of a console may do. It gives a command only if what was said last asks for it, and
-- was said in this call, or to end a station with a journal at once.
abbrev pub Commands : ConsoleState → ConsoleCall → ConsoleState → Type 0
Commands old (Gives None) new = HearsOn old new
Commands old (Gives (Some command)) new = IsSaid old command new ⊎ EndsUnsaid old command new
Commands old _ new = new ≡ old
