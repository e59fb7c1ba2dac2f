-- What stands against files in folders.
use Rattle.std.specs.Prelude.{◌≡◌, ◌≢◌, ◌↔◌, ℕ, List, Err}
use Rattle.std.specs.declared.io.ErrorKind.TheVariants.{OutOfMemory}
use Rattle.cfdp_store.specs.Calls.{InboxCall, Looked, Begin, Write, Publish, Discard}
use Rattle.cfdp_store.specs.declared.error.StoreError.{StoreError}
use Rattle.cfdp_store.specs.declared.error.StoreError.TheVariants as refusal
use Rattle.cfdp_store.specs.declared.folder_error.FolderError.{FolderError}
use Rattle.cfdp_store.specs.declared.folder_error.FolderError.TheVariants.{Name, System}
use Rattle.cfdp_store.specs.declared.name_rule.NameRule.{NameRule}
use Rattle.cfdp_store.specs.Names.{Allows}

-- how a store answers if a file can't be read or written for this cause
abbrev pub refusal_of : FolderError → StoreError
refusal_of Name = refusal.Name
refusal_of (System OutOfMemory) = refusal.NoMemory
refusal_of _ = refusal.Device

-- Of these calls only a publish fails for a name, exactly if the rule doesn't allow it.
abbrev pub AnswersNames : NameRule → InboxCall → Type 0
AnswersNames rule (Begin id answer) = answer ≢ Err refusal.Name
AnswersNames rule (Write id offset octets answer) = answer ≢ Err refusal.Name
AnswersNames rule (Publish id name size answer) =
    (answer ≡ Err refusal.Name) ↔ (Allows rule name → ⊥)
AnswersNames rule (Discard id answer) = answer ≢ Err refusal.Name

-- A look for the file of a name fails for the name exactly if the rule doesn't allow it.
abbrev pub AnswersLook : NameRule → List ℕ → Looked → Type 0
AnswersLook rule name answer = (answer ≡ Err refusal.Name) ↔ (Allows rule name → ⊥)
