-- The transactions that records have are those of their entries.
use Rattle.std.proofs.Common.{◌≡◌, List, [], ◌∷◌, map, refl, Option, None}
use Rattle.cfdp_header.specs.declared.value.TransactionId.{TransactionId}
use Rattle.cfdp_store.specs.Staged.{OctetMap}
use Rattle.cfdp_entity.specs.declared.record.Record.{Record}
use Rattle.cfdp_entity.specs.declared.record.Record.TheVariants as held
use Rattle.cfdp_entity.specs.Seen.{seen, phase_of}
use Rattle.cfdp_entity.specs.Walking.{phase_told, record_told}
use Rattle.cfdp_entity.specs.Desk.{Staged}
use Rattle.cfdp_entity.specs.Whole.{entries_seen}

-- what is staged for a record doesn't count
phase_staged : (staged : Option OctetMap) (r : Record) → phase_of (seen None r) ≡ phase_of (seen staged r)
phase_staged staged (held.Sends x) = refl
phase_staged staged (held.Receives r) = refl

pub phases-seen : (staged : Staged) (es : List (TransactionId × Record)) → map record_told es ≡ map phase_told (entries_seen staged es)
unfolding entries_seen
phases-seen staged [] = refl
phases-seen staged (e ∷ es) = λ i. (e.0, phase_staged (staged e.0) e.1 i) ∷ phases-seen staged es i
