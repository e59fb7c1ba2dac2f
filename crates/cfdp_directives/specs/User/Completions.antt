-- What a list of indications says: which transactions were completed, how often each was finished.
use Rattle.std.specs.Prelude.{◌≡◌, ◌==◌, ℕ, ◌≤◌, Bool, false, ◌&&◌, not, List, [], ◌∷◌, count_by, Contains, if◌then◌else◌}
use Rattle.std.specs.List.{flat_map}
use Rattle.cfdp_header.specs.declared.value.TransactionId.{TransactionId}
use Rattle.cfdp_header.specs.Ids.{same_id}
use Rattle.cfdp_directives.specs.declared.pdu.codes.Delivery.{Delivery}
use Rattle.cfdp_directives.specs.declared.pdu.codes.Delivery.TheVariants.{Complete}
use Rattle.cfdp_directives.specs.declared.pdu.codes.FileStatus.{FileStatus}
use Rattle.cfdp_directives.specs.declared.pdu.codes.FileStatus.TheVariants.{Retained}
use Rattle.cfdp_directives.specs.declared.user.indication.Indication.{Indication}
use Rattle.cfdp_directives.specs.declared.user.indication.Indication.TheVariants.{Finished}
use Rattle.cfdp_directives.specs.Pdu.Codes.{no_error}

-- true if a Finished says that the file was delivered: no error, complete, retained
abbrev pub is_complete : ℕ → Delivery → FileStatus → Bool
is_complete condition Complete Retained = condition == no_error
is_complete condition _ _ = false

-- the transaction that an indication at the entity `own` completes, one that it receives
abbrev pub completion : ℕ → Indication → List TransactionId
completion own (Finished id condition delivery status) =
    if is_complete condition delivery status && not (id.source == own) then id ∷ [] else []
completion own _ = []

-- the transactions that the entity `own` receives and indicated complete, in order
abbrev pub completions : ℕ → List Indication → List TransactionId
completions own told = flat_map (completion own) told

-- true if an indication says that the transaction is finished, with whatever condition
abbrev pub is_finished : TransactionId → Indication → Bool
is_finished id (Finished of condition delivery status) = same_id of id
is_finished id _ = false

-- No transaction is indicated finished twice.
abbrev pub FinishedOnce : List Indication → Type 0
FinishedOnce told = (id : TransactionId) → count_by (is_finished id) told ≤ 1

-- The entity `own`, which sends the transaction, indicated that its file was delivered.
abbrev pub IsToldComplete : ℕ → List Indication → TransactionId → Type 0
IsToldComplete own told id =
    (id.source ≡ own) × Contains told (Finished id no_error Complete Retained)
