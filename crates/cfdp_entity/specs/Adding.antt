-- A file that is added to an outbox in memory while an entity is at work.
use Rattle.std.specs.Prelude.{◌≡◌, ℕ, List, Option, Some, None}
use Rattle.std.specs.FinMap as map
use Rattle.cfdp_header.specs.Files.{FileMap}
use Rattle.cfdp_entity.specs.declared.error.AddError.{AddError}
use Rattle.cfdp_entity.specs.declared.error.AddError.TheVariants.{Taken, NoMemory}
use Rattle.cfdp_entity.specs.Entity.{EntityState, with_table}
use Rattle.cfdp_entity.specs.Table.{TableState}

-- the table with one more file to send
abbrev pub with_source : (name octets : List ℕ) → TableState → TableState
with_source name octets t = record t { sources = map.insert t.sources name octets }

-- A file was added. No file may have its name: so what is being sent stays as it is.
pub record AddsSource (name octets : List ℕ) (old new : TableState) : Type 0 where
  pub free : map.get old.sources name ≡ None
  pub added : new ≡ with_source name octets old

-- A file was added to an entity so.
pub record AddsFile (name octets : List ℕ) (old new : EntityState) : Type 0 where
  pub free : map.get old.table.sources name ≡ None
  pub added : new ≡ with_table old (with_source name octets old.table)

-- If a file is not added, this is the cause, by the file that has its name.
abbrev pub RefusesFile : Option (List ℕ) → AddError → Type 0
RefusesFile (Some file) by = by ≡ Taken
RefusesFile None by = by ≡ NoMemory

-- If it is not added to an outbox, this is the cause, by its files.
abbrev pub RefusesToAdd : (name : List ℕ) → FileMap → AddError → Type 0
RefusesToAdd name sources by = RefusesFile (map.get sources name) by
