-- What a console hears, one call after another.
use Rattle.std.proofs.Common.{◌≡◌, ◌⊎◌, ◌∙◌, ◌++◌, ◌∷◌, ℕ, Bool, true, false, List, [], Option, Some, None, Result, Ok, Err, ap, refl, sym, subst, inl, inr, append_assoc, append-nil}
use Rattle.std.specs.Prelude.{IfSome, IsTrue, codes, not}
use Rattle.std.specs.Str.{IsTrimAsciiEnd}
use Rattle.cfdp_store.specs.declared.name_rule.NameRule.{NameRule}
use Rattle.cfdp_control.specs.Asking.{Reads, asked_by, wanted}
use Rattle.cfdp_control.specs.declared.command.Asked.{Asked}
use Rattle.cfdp_control.specs.declared.command.CommandError.{CommandError}
use Rattle.cfdp_control.specs.declared.line.LineFault.{LineFault}
use Rattle.cfdp_control.specs.declared.line.Speaker.{Speaker}
use Rattle.cfdp_service.specs.declared.console.OperatorCommand.{OperatorCommand}
use Rattle.cfdp_operator.specs.Commanded.{Asks, AsksFor, ConsoleState, HearsLine, HearsOn, IsSaid, Obeys, hears, named, octets_of, wanted_by}
use Rattle.cfdp_operator.specs.declared.said.Said.{Said}

pub hears_nothing : (s : ConsoleState) → HearsOn s s
hears_nothing s = record {
  said = [];
  heard = sym (append-nil s.heard);
  names = refl;
  journal = refl;
}

pub hears_more : (a b c : ConsoleState) → HearsOn a b → HearsOn b c → HearsOn a c
hears_more a b c first then = record {
  said = first.said ++ then.said;
  heard =
      then.heard ∙ ap (λ l. l ++ then.said) first.heard
      ∙ append_assoc a.heard first.said then.said;
  names = then.names ∙ first.names;
  journal = then.journal ∙ first.journal;
}

pub hears_one : (a : ConsoleState) (said : Said) → HearsOn a (hears a said)
hears_one a said = record { said = said ∷ []; heard = refl; names = refl; journal = refl }

-- What is given of something that was said last.
pub obeys_said : (old before new : ConsoleState) (said : Said) (given : Option OperatorCommand)
    → HearsOn old before → new ≡ hears before said
    → IfSome given (λ it. Asks before.names (octets_of said) it) → Obeys old given new
obeys_said old before new said None on is asks =
    subst (HearsOn old) (sym is)
    (hears_more old before (hears before said) on (hears_one before said))
obeys_said old before new said (Some it) on is asks = record {
  before = before;
  said = said;
  goes_on = on;
  is = is;
  asks = subst (λ names. Asks names (octets_of said) it) on.names asks;
}

-- What a console is that heard one thing more.
pub heard_one : (a : ConsoleState) (heard put : List Said) (names : NameRule) (journal : Bool)
    (said : Said) (new : ConsoleState)
    → record { heard = heard; names = names; has_journal = journal } ≡ a
    → put ≡ heard ++ said ∷ []
    → new ≡ record { heard = put; names = names; has_journal = journal } → new ≡ hears a said
heard_one a heard put names journal said new before one after =
    after ∙ ap (λ h. record { heard = h; names = names; has_journal = journal }) one
    ∙ ap (λ s. hears s said) before

-- What is given of a line.
pub obeys_line : (old before mid new : ConsoleState) (speaker : Speaker)
    (line : Result Said LineFault) (command : OperatorCommand)
    → HearsOn old before → HearsLine before (Some (speaker, line)) mid → new ≡ mid
    → AsksFor mid.names line command → IsSaid old command new
obeys_line old before mid new speaker (Ok said) command on heard same asks =
    obeys_said old before new said (Some command) on (same ∙ heard)
    (subst (λ names. Asks names (octets_of said) command) (ap (λ s. s.names) heard) asks)
obeys_line old before mid new speaker (Err fault) command on heard same asks = absurd asks

-- What is said later is said.
pub said_later : (a b c : ConsoleState) (command : OperatorCommand) → HearsOn a b
    → IsSaid b command c → IsSaid a command c
said_later a b c command on it = record {
  before = it.before;
  said = it.said;
  goes_on = hears_more a b it.before on it.goes_on;
  is = it.is;
  asks = subst (λ names. Asks names (octets_of it.said) command) on.names it.asks;
}

-- A line is its text, after `--json ` or not.
form_of : (line text : List ℕ) (is_json : Bool) → (IsTrue is_json → line ≡ codes "--json " ++ text)
    → (IsTrue (not is_json) → line ≡ text) → (line ≡ codes "--json " ++ text) ⊎ (line ≡ text)
form_of line text true json plain = inl (json refl)
form_of line text false json plain = inr (plain refl)

-- What is given of what a line was read as is what the line asks for.
pub obeyed : (names : NameRule) (line text kept : List ℕ) (is_json : Bool) (asked : Asked)
    (answer : Result Asked CommandError) (given : Option OperatorCommand)
    → (IsTrue is_json → line ≡ codes "--json " ++ text) → (IsTrue (not is_json) → line ≡ text)
    → IsTrimAsciiEnd text kept → Reads answer (asked_by kept) → answer ≡ Ok asked
    → IfSome given (λ it. wanted_by it ≡ named names (wanted asked))
    → IfSome given (λ it. Asks names line it)
obeyed names line text kept is_json asked answer None json plain trimmed reads is gives = gives
obeyed names line text kept is_json asked answer (Some it) json plain trimmed reads is gives =
    record {
      text = text;
      kept = kept;
      meant = wanted asked;
      form = form_of line text is_json json plain;
      trimmed = trimmed;
      asked = subst (λ a. Reads a (asked_by kept)) is reads;
      is = gives;
    }
