-- How reports and dumps word what they share.
use Rattle.std.specs.Prelude.{ℕ, List, ◌++◌, codes, decimal}
use Rattle.cfdp_header.specs.declared.value.TransactionId.{TransactionId}
use Rattle.cfdp_directives.specs.declared.pdu.codes.Delivery.{Delivery}
use Rattle.cfdp_directives.specs.declared.pdu.codes.Delivery.TheVariants.{Complete, Incomplete}
use Rattle.cfdp_directives.specs.declared.pdu.codes.FileStatus.{FileStatus}
use Rattle.cfdp_directives.specs.declared.pdu.codes.FileStatus.TheVariants.{Discarded, Rejected, Retained, Unreported}

-- a transaction: its source, a colon, its number
abbrev pub id_text : TransactionId → List ℕ
id_text id = decimal id.source ++ codes ":" ++ decimal id.number

-- the word of a delivery code
abbrev pub delivery_word : Delivery → List ℕ
delivery_word Complete = codes "complete"
delivery_word Incomplete = codes "incomplete"

-- the word of a file status
abbrev pub status_word : FileStatus → List ℕ
status_word Discarded = codes "discarded"
status_word Rejected = codes "rejected"
status_word Retained = codes "retained"
status_word Unreported = codes "unreported"
