-- What a user can look at: the transactions of a table, each with how far it has come.
use Rattle.std.specs.Prelude.{List, map, None}
use Rattle.cfdp_header.specs.declared.value.TransactionId.{TransactionId}
use Rattle.cfdp_directives.specs.declared.user.phase.Phase.{Phase}
use Rattle.cfdp_entity.specs.declared.record.Record.{Record}
use Rattle.cfdp_entity.specs.Seen.{seen, phase_of}
use Rattle.cfdp_entity.specs.Table.{Entry, TableState}

abbrev pub phase_told : Entry → TransactionId × Phase
phase_told e = (e.0, phase_of e.1)

-- in order of opening
abbrev pub phases_of : TableState → List (TransactionId × Phase)
phases_of t = map phase_told t.records

-- of a record itself: what is staged for it doesn't count
abbrev pub record_told : TransactionId × Record → TransactionId × Phase
record_told e = (e.0, phase_of (seen None e.1))
