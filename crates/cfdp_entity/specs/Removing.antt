-- What a table does doesn't depend on the files that its inbox has published. So if a file is
-- removed from the inbox, that changes nothing else.
use Rattle.std.specs.Prelude.{◌≡◌, ℕ, ◌||◌, Bool, false, List, Option, Some}
use Rattle.std.specs.Cmp.Lexicographic.{slice_cmp}
use Rattle.std.specs.FinMap as map
use Rattle.std.specs.Ordering.{eq_by_cmp, nat_cmp}
use Rattle.cfdp_header.specs.Files.{FileMap}
use Rattle.cfdp_header.specs.declared.value.TransactionId.{TransactionId}
use Rattle.cfdp_directives.specs.User.Put.{Put}
use Rattle.cfdp_receiver.specs.Alike.{with_documents}
use Rattle.cfdp_entity.specs.Entity.{EntityState, with_table}
use Rattle.cfdp_entity.specs.Forgetting.{with_files}
use Rattle.cfdp_entity.specs.Sound.{IsSound}
use Rattle.cfdp_entity.specs.Table.{TableState}

-- A table became `new`, and the same table with these files in its inbox became `other`: both
-- published the same documents, and they differ in nothing but their files.
pub record GoesAlike (files : FileMap) (old new other : TableState) : Type 0 where
  pub documents : List (List ℕ × List ℕ)
  pub publishes : new.files ≡ with_documents documents old.files
  pub alike : other ≡ with_files (with_documents documents files) new

-- An entity is sound except for files that were removed from its inbox, of these names: it would be
-- sound if its inbox had certain files, and it has these, except that some of those names are gone.
pub record IsSoundBut (put_of : TransactionId → Option Put) (heard : List (List ℕ))
    (first : FileMap) (removed : List ℕ → Bool) (e : EntityState) : Type 0 where
  pub all : FileMap
  pub sound : IsSound put_of heard first (with_table e (with_files all e.table))
  pub left : (name : List ℕ) → removed name ≡ false
      → map.get e.table.files name ≡ map.get all name
  pub among : (name octets : List ℕ) → map.get e.table.files name ≡ Some octets
      → map.get all name ≡ Some octets

-- if no name was removed
abbrev pub none_removed : List ℕ → Bool
none_removed name = false

-- with one more that was
abbrev pub also_removed : List ℕ → (List ℕ → Bool) → List ℕ → Bool
also_removed name removed other = eq_by_cmp (slice_cmp nat_cmp) other name || removed other
