-- The codes of the standard's tables, and the octets of a file-size field.
use Rattle.std.specs.Prelude.{ℕ, Bool, ◌==◌, ◌||◌, ◌≡◌, ◌<◌, ◌-◌, ◌^◌, nat_lt, false, if◌then◌else◌}
use Rattle.cfdp_directives.specs.declared.pdu.codes.Delivery.{Delivery}
use Rattle.cfdp_directives.specs.declared.pdu.codes.Delivery.TheVariants.{Complete, Incomplete}
use Rattle.cfdp_directives.specs.declared.pdu.codes.FileStatus.{FileStatus}
use Rattle.cfdp_directives.specs.declared.pdu.codes.FileStatus.TheVariants.{Discarded, Rejected, Retained, Unreported}
use Rattle.cfdp_directives.specs.declared.pdu.codes.TransactionStatus.{TransactionStatus}
use Rattle.cfdp_directives.specs.declared.pdu.codes.TransactionStatus.TheVariants.{Undefined, Active, Terminated, Unrecognized}
use Rattle.cfdp_directives.specs.declared.pdu.codes.Acknowledged.{Acknowledged}
use Rattle.cfdp_directives.specs.declared.pdu.codes.Acknowledged.TheVariants as acknowledged

-- octets of a file-size field, such as an offset, if the file is large and if it isn't (CCSDS
-- 727.0-B-5, 5.1.10)
abbrev pub file_size_octets : Bool → ℕ
file_size_octets large = if large then 8 else 4

-- the greatest size of a file: of one that isn't large, the most that 4 octets can hold, and of a
-- large one
unfoldable pub size_limit : Bool → ℕ
size_limit large = if large then 2 ^ 48 else 2 ^ 32 - 1

-- true if a file of so many octets is large
abbrev pub is_large : ℕ → Bool
is_large size = nat_lt (size_limit false) size

-- the conditions that are reported here (CCSDS 727.0-B-5, table 5-5, has more)
abbrev pub no_error : ℕ
no_error = 0

abbrev pub positive_ack_limit : ℕ
positive_ack_limit = 1

abbrev pub filestore_rejection : ℕ
filestore_rejection = 4

abbrev pub file_checksum_failure : ℕ
file_checksum_failure = 5

abbrev pub file_size_error : ℕ
file_size_error = 6

abbrev pub nak_limit : ℕ
nak_limit = 7

abbrev pub inactivity : ℕ
inactivity = 8

abbrev pub unsupported_checksum_type : ℕ
unsupported_checksum_type = 11

abbrev pub suspend_request : ℕ
suspend_request = 14

abbrev pub cancel_request : ℕ
cancel_request = 15

-- the conditions that are refused
abbrev pub is_refused : ℕ → Bool
is_refused condition = (condition == 12) || (condition == 13)

-- A number that a condition may be.
abbrev pub IsCondition : ℕ → Type 0
IsCondition condition = (condition < 16) × (is_refused condition ≡ false)

-- checksum types (CCSDS 727.0-B-5, 4.2.2, and SANA's registry of them): the sum of words, the
-- checks of thirty-two bits of Proximity-1, of CRC-32C and of IEEE 802.3, and none
abbrev pub modular : ℕ
modular = 0

abbrev pub proximity : ℕ
proximity = 1

abbrev pub castagnoli : ℕ
castagnoli = 2

abbrev pub ieee : ℕ
ieee = 3

abbrev pub null : ℕ
null = 15

-- true if a checksum of this type can be made
unfoldable pub is_known : ℕ → Bool
is_known kind =
    (kind == modular) || (kind == proximity) || (kind == castagnoli) || (kind == ieee)
    || (kind == null)

-- delivery code (CCSDS 727.0-B-5, table 5-7)
abbrev pub delivery_code : Delivery → ℕ
delivery_code Complete = 0
delivery_code Incomplete = 1

-- file status (CCSDS 727.0-B-5, table 5-7)
abbrev pub file_status_code : FileStatus → ℕ
file_status_code Discarded = 0
file_status_code Rejected = 1
file_status_code Retained = 2
file_status_code Unreported = 3

-- transaction status (CCSDS 727.0-B-5, table 5-8)
abbrev pub transaction_status_code : TransactionStatus → ℕ
transaction_status_code Undefined = 0
transaction_status_code Active = 1
transaction_status_code Terminated = 2
transaction_status_code Unrecognized = 3

-- the directive code that an ACK names (CCSDS 727.0-B-5, table 5-4)
abbrev pub acknowledged_code : Acknowledged → ℕ
acknowledged_code acknowledged.Eof = 4
acknowledged_code acknowledged.Finished = 5

-- the subtype that is written with it: 1 for Finished
abbrev pub acknowledged_subtype : Acknowledged → ℕ
acknowledged_subtype acknowledged.Eof = 0
acknowledged_subtype acknowledged.Finished = 1
