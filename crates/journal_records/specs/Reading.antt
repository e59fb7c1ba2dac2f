-- How octets are read: from the front, to the first fault.
use Rattle.std.specs.Prelude.{◌≡◌, ◌&&◌, not, ℕ, zero, suc, Bool, true, false, List, [], ◌∷◌, length, take, drop, slice_get, Option, Some, None, Result, Ok, Err, nat_lt, if◌then◌else◌}
use Rattle.std.specs.Int.{Width, w16, w32, w64, byte_len, from_be_bytes}
use Rattle.cfdp_header.specs.declared.value.TransactionId.{TransactionId}
use Rattle.cfdp_directives.specs.declared.pdu.addressing.Addressing.{Addressing}
use Rattle.cfdp_directives.specs.declared.pdu.codes.Delivery.{Delivery}
use Rattle.cfdp_directives.specs.declared.pdu.codes.Delivery.TheVariants.{Complete, Incomplete}
use Rattle.cfdp_directives.specs.declared.pdu.codes.FileStatus.{FileStatus}
use Rattle.cfdp_directives.specs.declared.pdu.codes.FileStatus.TheVariants.{Discarded, Rejected, Retained, Unreported}
use Rattle.cfdp_directives.specs.declared.user.telling.Outcome.{Outcome}
use Rattle.cfdp_directives.specs.Pdu.Codes.{is_refused}
use Rattle.cfdp_sender.specs.declared.transfer.Transfer.{Transfer}
use Rattle.journal_records.specs.declared.fault.BatchFault.{BatchFault}
use Rattle.journal_records.specs.declared.fault.BatchFault.TheVariants.{Short, Unknown, Trailing}
use Rattle.journal_records.specs.declared.fault.ReadError.{ReadError}
use Rattle.journal_records.specs.declared.fault.ReadError.TheVariants as errors
use Rattle.journal_records.specs.declared.record.RecordKind.{RecordKind}
use Rattle.journal_records.specs.declared.record.RecordKind.TheVariants as kind
use Rattle.journal_records.specs.declared.record.JournalRecord.{JournalRecord}
use Rattle.journal_records.specs.declared.record.JournalRecord.TheVariants.{Station, Put, Sent, EofTaken, Cancelling, Opened, HeardMetadata, HeardEof, Held, Publishing, Finishing, Closed, Suspended, PendingFinished, PendingAbandoned, Forgotten}

-- what is read at the front of octets: a value and the octets after it, or a fault
abbrev pub Read : Type 0 → Type 0
Read A = Result (A × List ℕ) BatchFault

infixl 10 ◌>>=◌
abbrev pub ◌>>=◌ : {A B : Type 0} → Result A BatchFault → (A → Result B BatchFault) → Result B BatchFault
(Ok x) >>= f = f x
(Err e) >>= f = Err e

-- What a function returned, seen by `view`, is what is read, unless memory ran out.
abbrev pub Fails : {Y : Type 0} → ReadError → Result Y BatchFault → Type 0
Fails errors.Memory read = Unit {0}
Fails (errors.Fault f) read = read ≡ Err f

abbrev pub Gives : {X Y : Type 0} → (X → Y) → Result X ReadError → Result Y BatchFault → Type 0
Gives view (Ok x) read = read ≡ Ok (view x)
Gives view (Err e) read = Fails e read

-- ---- how parts are read
-- one thing, and then another
abbrev pub both : {A B : Type 0} → (List ℕ → Read A) → (List ℕ → Read B) → List ℕ → Read (A × B)
both a b bytes = a bytes >>= λ x. b x.1 >>= λ y. Ok ((x.0, y.0), y.1)

-- what is made of what is read
abbrev pub made : {A B : Type 0} → (A → B) → (List ℕ → Read A) → List ℕ → Read B
made f a bytes = a bytes >>= λ x. Ok (f x.0, x.1)

-- an option that is known, and not an unknown one
abbrev pub known : {A : Type 0} → Option A → List ℕ → Read A
known None rest = Err Unknown
known (Some x) rest = Ok (x, rest)

-- so many of them
unfoldable pub many_at : {A : Type 0} → (List ℕ → Read A) → ℕ → List ℕ → Read (List A)
many_at a zero bytes = Ok ([], bytes)
many_at a (suc n) bytes = a bytes >>= λ x. many_at a n x.1 >>= λ xs. Ok (x.0 ∷ xs.0, xs.1)

-- ---- fields
unfoldable pub octet_at : List ℕ → Read ℕ
octet_at [] = Err Short
octet_at (n ∷ rest) = Ok (n, rest)

unfoldable pub number_at : Width → List ℕ → Read ℕ
number_at w bytes =
    if nat_lt (length bytes) (byte_len w) then Err Short
    else Ok (from_be_bytes w (take (byte_len w) bytes), drop (byte_len w) bytes)

-- one of these, whose code is its index
unfoldable pub choice_at : {A : Type 0} → List A → List ℕ → Read A
choice_at all bytes = octet_at bytes >>= λ n. known (slice_get all n.0) n.1

-- an octet that passes a test
unfoldable pub tested_at : (ℕ → Bool) → List ℕ → Read ℕ
tested_at test bytes = octet_at bytes >>= λ n. if test n.0 then Ok n else Err Unknown

abbrev pub flags : List Bool
flags = false ∷ true ∷ []

abbrev pub deliveries : List Delivery
deliveries = Complete ∷ Incomplete ∷ []

abbrev pub statuses : List FileStatus
statuses = Discarded ∷ Rejected ∷ Retained ∷ Unreported ∷ []

abbrev pub kinds : List RecordKind
kinds =
    kind.Station ∷ kind.Put ∷ kind.Sent ∷ kind.EofTaken ∷ kind.Cancelling ∷ kind.Opened
    ∷ kind.HeardMetadata ∷ kind.HeardEof ∷ kind.Held ∷ kind.Publishing ∷ kind.Finishing
    ∷ kind.Closed ∷ kind.Suspended ∷ kind.PendingFinished ∷ kind.PendingAbandoned
    ∷ kind.Forgotten ∷ []

abbrev pub is_condition : ℕ → Bool
is_condition n = nat_lt n 16 && not (is_refused n)

abbrev pub is_checksum_kind : ℕ → Bool
is_checksum_kind n = nat_lt n 16

unfoldable pub id_at : List ℕ → Read TransactionId
id_at bytes =
    made (λ p. record { source = p.0; number = p.1 }) (both (number_at w64) (number_at w64)) bytes

unfoldable pub name_at : List ℕ → Read (List ℕ)
name_at bytes = number_at w64 bytes >>= λ n.
    if nat_lt (length n.1) n.0 then Err Short else Ok (take n.0 n.1, drop n.0 n.1)

unfoldable pub range_at : List ℕ → Read (ℕ × ℕ)
range_at bytes = both (number_at w64) (number_at w64) bytes

unfoldable pub ranges_at : List ℕ → Read (List (ℕ × ℕ))
ranges_at bytes = number_at w64 bytes >>= λ n. many_at range_at n.0 n.1

unfoldable pub addressing_at : List ℕ → Read Addressing
addressing_at bytes = made
    (λ p. record {
      id = p.0.0.0.0;
      destination = p.0.0.0.1;
      id_width = p.0.0.1;
      number_width = p.0.1;
      crc = p.1;
    })
    (both (both (both (both id_at (number_at w64)) octet_at) octet_at) (choice_at flags)) bytes

unfoldable pub outcome_at : List ℕ → Read Outcome
outcome_at bytes = made
    (λ p. record { condition = p.0.0; delivery = p.0.1; status = p.1 })
    (both (both (tested_at is_condition) (choice_at deliveries)) (choice_at statuses)) bytes

-- the outcome after a flag that is set
abbrev pub outcome_if : Bool → List ℕ → Read (Option Outcome)
outcome_if false rest = Ok (None, rest)
outcome_if true rest = made Some outcome_at rest

unfoldable pub optional_at : List ℕ → Read (Option Outcome)
optional_at bytes = choice_at flags bytes >>= λ f. outcome_if f.0 f.1

unfoldable pub transfer_at : List ℕ → Read Transfer
transfer_at bytes = made
    (λ p. record {
      addressing = p.0.0.0.0.0;
      checksum_kind = p.0.0.0.0.1;
      segment = p.0.0.0.1;
      source = p.0.0.1;
      destination = p.0.1;
      size = p.1;
    })
    (both (both (both (both (both addressing_at (tested_at is_checksum_kind)) (number_at w16))
    name_at) name_at) (number_at w64)) bytes

-- ---- records
-- what follows the kind of a record
unfoldable pub body_at : RecordKind → List ℕ → Read JournalRecord
body_at kind.Station bytes = made
    (λ p. Station (record { entity = p.0.0; peer = p.0.1; start = p.1 }))
    (both (both (number_at w64) (number_at w64)) (number_at w64)) bytes
body_at kind.Put bytes = made Put transfer_at bytes
body_at kind.Sent bytes = made (λ p. Sent p.0 p.1) (both id_at (number_at w64)) bytes
body_at kind.EofTaken bytes = made EofTaken id_at bytes
body_at kind.Cancelling bytes =
    made (λ p. Cancelling p.0 p.1) (both id_at (tested_at is_condition)) bytes
body_at kind.Opened bytes = made (λ p. Opened p.0 p.1) (both addressing_at (choice_at flags)) bytes
body_at kind.HeardMetadata bytes = made
    (λ p. HeardMetadata p.0.0 (record { checksum_kind = p.0.1; destination = p.1 }))
    (both (both id_at (tested_at is_checksum_kind)) name_at) bytes
body_at kind.HeardEof bytes = made
    (λ p. HeardEof p.0.0 (record { checksum = p.0.1; size = p.1 }))
    (both (both id_at (number_at w32)) (number_at w64)) bytes
body_at kind.Held bytes =
    made (λ p. Held p.0.0 p.0.1 p.1) (both (both id_at (choice_at flags)) ranges_at) bytes
body_at kind.Publishing bytes =
    made (λ p. Publishing p.0.0 p.0.1 p.1) (both (both id_at name_at) (number_at w64)) bytes
body_at kind.Finishing bytes = made (λ p. Finishing p.0 p.1) (both id_at outcome_at) bytes
body_at kind.Closed bytes = made (λ p. Closed p.0 p.1) (both id_at optional_at) bytes
body_at kind.Suspended bytes = made (λ p. Suspended p.0 p.1) (both id_at (choice_at flags)) bytes
body_at kind.PendingFinished bytes =
    made (λ p. PendingFinished p.0 p.1) (both id_at outcome_at) bytes
body_at kind.PendingAbandoned bytes =
    made (λ p. PendingAbandoned p.0 p.1) (both id_at (tested_at is_condition)) bytes
body_at kind.Forgotten bytes =
    made (λ p. Forgotten p.0 p.1) (both (number_at w64) ranges_at) bytes

unfoldable pub record_at : List ℕ → Read JournalRecord
record_at bytes = choice_at kinds bytes >>= λ k. body_at k.0 k.1

-- nothing may follow
abbrev pub ended : {A : Type 0} → A × List ℕ → Result A BatchFault
ended (x, []) = Ok x
ended (x, n ∷ rest) = Err Trailing

unfoldable pub records_at : List ℕ → Read (List JournalRecord)
records_at bytes = number_at w64 bytes >>= λ n. many_at record_at n.0 n.1

-- the records that all of these octets are
unfoldable pub records_in : List ℕ → Result (List JournalRecord) BatchFault
records_in bytes = records_at bytes >>= λ rs. ended rs
