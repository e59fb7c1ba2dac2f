-- What was indicated, exchanged between two entities.
use Rattle.std.specs.Prelude.{ℕ, List}
use Rattle.cfdp_directives.specs.declared.user.indication.Indication.{Indication}
use Rattle.cfdp_entity.specs.Entity.{EntityState}
use Rattle.cfdp_entity.specs.Roomy.{Roomy}

-- an entity, except that this was indicated, and so much of it was discarded
abbrev pub with_told : List Indication → (gone : ℕ) → EntityState → EntityState
with_told told gone e = record e { table = record e.table { told = told; gone = gone } }

-- what another entity indicated, and how much of that it discarded
abbrev pub told_by : EntityState → EntityState → EntityState
told_by other e = with_told other.table.told other.table.gone e

-- the same of tables, with the room for more
abbrev pub table_told_by : Roomy → Roomy → Roomy
table_told_by other t = record t {
  state = record t.state { told = other.state.told; gone = other.state.gone };
  spare = other.spare;
}
