-- What every step of a receiver keeps, whatever its input and the inbox's answer: one step function
-- of all inputs, and what is true of a receiver that heard only the truth of a put.
use Rattle.std.specs.Prelude.{◌≡◌, ℕ, ◌+◌, ◌<◌, ◌≤◌, ◌==◌, ◌||◌, ◌&&◌, not, is_some, Bool, true, false, List, [], ◌∷◌, length, Option, Some, None, IfSome, slice_get, count_by, if◌then◌else◌}
use Rattle.std.specs.List.{AllByRecursion}
use Rattle.std.specs.FinMap as map
use Rattle.std.specs.FinSet as set
use Rattle.cfdp_header.specs.declared.value.TransactionId.{TransactionId}
use Rattle.cfdp_header.specs.Files.{FileMap}
use Rattle.cfdp_directives.specs.declared.pdu.addressing.Addressing.{Addressing}
use Rattle.cfdp_directives.specs.declared.pdu.codes.Acknowledged.{Acknowledged}
use Rattle.cfdp_directives.specs.declared.pdu.codes.Acknowledged.TheVariants as acknowledged
use Rattle.cfdp_directives.specs.declared.user.indication.Indication.{Indication}
use Rattle.cfdp_directives.specs.declared.user.indication.Indication.TheVariants.{Fault, Abandoned, Finished as Told}
use Rattle.cfdp_directives.specs.declared.user.limits.Times.{Times}
use Rattle.cfdp_directives.specs.declared.user.policy.Policy.{Policy}
use Rattle.cfdp_directives.specs.declared.user.telling.Outcome.{Outcome}
use Rattle.cfdp_directives.specs.Pdu.Codes.{size_limit, no_error, file_checksum_failure, file_size_error, unsupported_checksum_type}
use Rattle.cfdp_directives.specs.User.Completions.{completions, is_complete}
use Rattle.cfdp_directives.specs.Pdu.Content.{Content, FileData, Metadata, Eof, Finished, Ack, Nak, Prompt, KeepAlive}
use Rattle.cfdp_directives.specs.declared.pdu.sums.Checksums.{Checksums}
use Rattle.cfdp_directives.specs.Pdu.Checksum.{Piece, IsOf, covers, checksum_of}
use Rattle.cfdp_directives.specs.Pdu.Sums.{AreSumsOf}
use Rattle.cfdp_directives.specs.User.Policy.{finished_told}
use Rattle.cfdp_directives.specs.User.Put.{Put, IsTruthful, SomePdu, IsMetadataOf, IsEofOf, Brings, HeardInFull}
use Rattle.cfdp_extents.specs.Offsets.{Offsets, range}
use Rattle.cfdp_store.specs.declared.stored.Stored.{Stored}
use Rattle.cfdp_store.specs.declared.stored.Stored.TheVariants.{Done, Refused}
use Rattle.cfdp_store.specs.Staged.{OctetMap, front}
use Rattle.cfdp_timers.specs.declared.kind.Kind.{Kind}
use Rattle.cfdp_timers.specs.Armed.{TimersState}
use Rattle.cfdp_receiver.specs.declared.due.Due.{Due}
use Rattle.cfdp_receiver.specs.declared.state.ReceiverPhase.{ReceiverPhase}
use Rattle.cfdp_receiver.specs.declared.state.ReceiverPhase.TheVariants.{Receiving, Finishing}
use Rattle.cfdp_receiver.specs.declared.state.FileInfo.{FileInfo}
use Rattle.cfdp_receiver.specs.declared.state.Ending.{Ending}
use Rattle.cfdp_receiver.specs.Does.{timers_set}
use Rattle.cfdp_receiver.specs.State.{ReceiverState, kind_told, opened_receiver, flagged, is_receiving, is_finishing}
use Rattle.cfdp_receiver.specs.Missing.{missing_pairs, is_empty}
use Rattle.cfdp_receiver.specs.Steps.{ReceiverAfter, leaving, complete, is_supported, hears_metadata, hears_data, hears_eof, hears_ack, hears_prompt, opens, takes, expires, cancels, suspends, resumes}

-- ---- one step for every input
-- What comes to a receiver: a PDU of its transaction, its turn to send what is due, the expiry of a
-- timer, or a call of its user.
pub data ReceiverInput : Type 0 where
  -- with its large file flag
  Hears : (large : Bool) (v : Content) → ReceiverInput
  Takes : (d : Due) → ReceiverInput
  Expires : (k : Kind) (policy : Policy) → ReceiverInput
  Cancels : ReceiverInput
  Suspends : ReceiverInput
  Resumes : ReceiverInput

abbrev pub hears_ack_of : Acknowledged → OctetMap → FileMap → ReceiverState → ReceiverAfter
hears_ack_of acknowledged.Finished m files r = hears_ack m files r
hears_ack_of acknowledged.Eof m files r = leaving m files r

-- the step for what a PDU says, which has this large file flag; what only a sender hears changes
-- nothing
abbrev pub hears_content : Stored → (large : Bool) → Content →
    OctetMap → FileMap → ReceiverState → ReceiverAfter
hears_content stored large (Metadata kind size source destination options) m files r =
    hears_metadata stored kind size source destination m files r
hears_content stored large (FileData offset bytes) m files r =
    hears_data stored large offset bytes m files r
hears_content stored large (Eof condition checksum size tlvs) m files r =
    hears_eof stored large condition checksum size m files r
hears_content stored large (Ack of condition status) m files r = hears_ack_of of m files r
hears_content stored large (Prompt keep_alive) m files r = hears_prompt keep_alive m files r
hears_content stored large (Finished condition delivery status tlvs) m files r = leaving m files r
hears_content stored large (Nak start end pairs) m files r = leaving m files r
hears_content stored large (KeepAlive progress) m files r = leaving m files r

-- the step for a PDU: its large file flag counts, and then what it says
abbrev pub receiver_hears : Stored → (large : Bool) → Content →
    OctetMap → FileMap → ReceiverState → ReceiverAfter
receiver_hears stored large v m files r = hears_content stored large v m files (flagged large r)

abbrev pub receiver_step : Stored → ReceiverInput → OctetMap → FileMap → ReceiverState →
    ReceiverAfter
receiver_step stored (Hears large v) m files r = receiver_hears stored large v m files r
receiver_step stored (Takes d) m files r = takes d m files r
receiver_step stored (Expires k policy) m files r = expires k policy m files r
receiver_step stored Cancels m files r = cancels m files r
receiver_step stored Suspends m files r = suspends m files r
receiver_step stored Resumes m files r = resumes m files r

-- A receiver is opened and, if the inbox began the transaction, hears the PDU that opened it.
abbrev pub opens_hearing : (begun stored : Stored) → (large : Bool) → Content → FileMap →
    Addressing → ReceiverAfter
opens_hearing Done stored large v files addressing =
    receiver_hears stored large v map.empty files (opened_receiver addressing)
opens_hearing Refused stored large v files addressing = opens Refused large files addressing

-- the timers after that: it is the PDU heard that sets them
abbrev pub timers_opened : Times → Stored → ReceiverAfter → TimersState → TimersState
timers_opened times Done a timers = timers_set times a.anew a.receiver timers
timers_opened times Refused a timers = timers

-- ---- of every step
-- 1 while the transaction is received, and 0 once it is over
abbrev pub open_count : ReceiverPhase → ℕ
open_count phase = if is_receiving phase then 1 else 0

-- `true` if a fault with this condition is indicated
abbrev pub is_fault : ℕ → Indication → Bool
is_fault condition (Fault id of) = of == condition
is_fault condition _ = false

abbrev pub fault_count : ℕ → List Indication → ℕ
fault_count condition told = count_by (is_fault condition) told

-- the offsets held once this was taken in
abbrev pub held_after : ReceiverInput → Offsets → Offsets
held_after (Hears large (FileData offset bytes)) held =
    set.union held (range offset (offset + length bytes))
held_after _ held = held

abbrev pub brings_metadata : ReceiverInput → Bool
brings_metadata (Hears large (Metadata checksum_kind size source destination options)) = true
brings_metadata _ = false

abbrev pub brings_ending : ReceiverInput → Bool
brings_ending (Hears large (Eof condition checksum size tlvs)) = condition == no_error
brings_ending _ = false

-- No file was published, and none was indicated complete.
pub record PublishesNone (files : FileMap) (a : ReceiverAfter) : Type 0 where
  pub same_files : a.files ≡ files
  pub no_completion : (own : ℕ) → completions own a.told ≡ []

-- The file was published, and in the same step indicated complete: Metadata and EOF are known,
-- every offset below the EOF's size is held, and what is staged there is the file. `offsets` are
-- those that are held.
pub record Publishes (stored : Stored) (id : TransactionId) (phase : ReceiverPhase)
    (offsets : Offsets) (files : FileMap) (a : ReceiverAfter) : Type 0 where
  pub info : FileInfo
  pub ending : Ending
  pub metadata_known : a.receiver.metadata ≡ Some info
  pub ending_known : a.receiver.ending ≡ Some ending
  pub all_held : (n : ℕ) → n < ending.size → set.contains offsets n ≡ true
  pub done : stored ≡ Done
  pub receiving : phase ≡ Receiving
  pub finishing : a.receiver.phase ≡ Finishing
  pub written_over : a.files ≡ map.insert files info.destination (front a.octets ending.size)
  pub one_completion : (own : ℕ) →
      completions own a.told ≡ completions own (finished_told id complete ∷ [])

-- ---- of a receiver that hears the truth
-- The pieces are what is held of a file, each octet of it once.
pub record CutsHeld (held : Offsets) (file : List ℕ) (pieces : List Piece) : Type 0 where
  pub parts : AllByRecursion (IsOf file) pieces
  pub once : (n : ℕ) → n < length file
      → count_by (covers n) pieces ≡ (if set.contains held n then 1 else 0)

-- What is kept for the checksum of the known type, or for all types, is what pieces leave that are
-- what is held of the file.
pub record SumsHeld (wanted : Option ℕ) (held : Offsets) (file : List ℕ) (sums : Checksums)
    : Type 0 where
  pub pieces : List Piece
  pub cut : CutsHeld held file pieces
  pub are : AreSumsOf wanted pieces sums

-- The kept Metadata is the put's, and was heard.
abbrev pub IsNameOf : Put → List (List ℕ) → FileInfo → Type 0
IsNameOf put heard info =
    (info.checksum_kind ≡ put.checksum_kind) × (info.destination ≡ put.destination)
    × SomePdu (IsMetadataOf put) heard

-- The kept EOF is the put's, and was heard.
abbrev pub IsEndOf : Put → List (List ℕ) → Ending → Type 0
IsEndOf put heard ending =
    (ending.checksum ≡ checksum_of put.checksum_kind put.octets) × (ending.size ≡ length put.octets)
    × SomePdu (IsEofOf put) heard

-- An offset that is held is one of the put's file, the octet staged there is the file's, and it was
-- heard.
pub record HoldsOctet (put : Put) (heard : List (List ℕ)) (m : OctetMap) (n : ℕ) : Type 0 where
  pub within : n < length put.octets
  pub same : map.get m n ≡ slice_get put.octets n
  pub was_heard : SomePdu (Brings put n) heard

-- What is kept of these is true of the put: its Metadata and EOF, and while the file comes in, each
-- octet that is held and what is kept of all that are for the checksum.
pub record KeepsTruth (put : Put) (heard : List (List ℕ)) (phase : ReceiverPhase)
    (metadata : Option FileInfo) (ending : Option Ending) (held : Offsets) (sums : Checksums)
    (m : OctetMap) : Type 0 where
  pub name : IfSome metadata (IsNameOf put heard)
  pub end : IfSome ending (IsEndOf put heard)
  pub octets : phase ≡ Receiving → (n : ℕ) → set.contains held n ≡ true → HoldsOctet put heard m n
  pub sum : phase ≡ Receiving → SumsHeld (kind_told metadata) held put.octets sums

-- What a receiver knows is true of the put, and was among the PDUs heard.
abbrev pub Sound : Put → List (List ℕ) → ReceiverState → OctetMap → Type 0
Sound put heard r m = KeepsTruth put heard r.phase r.metadata r.ending r.held r.sums m

-- What a PDU says of the put is among what was heard.
abbrev pub IsAmong : Put → List (List ℕ) → Content → Type 0
IsAmong put heard (Metadata kind size source destination options) = SomePdu (IsMetadataOf put) heard
IsAmong put heard (Eof condition checksum size tlvs) =
    condition ≡ no_error → SomePdu (IsEofOf put) heard
IsAmong put heard (FileData offset bytes) =
    (n : ℕ) → offset ≤ n → n < offset + length bytes → SomePdu (Brings put n) heard
IsAmong put heard _ = Unit {0}

-- A PDU that comes must be true of the put, and among those heard. Other inputs say nothing of it.
abbrev pub IsTrueInput : Put → List (List ℕ) → ReceiverInput → Type 0
IsTrueInput put heard (Hears large v) = IsTruthful put v × IsAmong put heard v
IsTrueInput put heard _ = Unit {0}

-- File data must begin in the file, or at its end. They and an EOF must have a large file flag that
-- allows the file's size.
abbrev pub BeginsWithin : Put → ReceiverInput → Type 0
BeginsWithin put (Hears large (FileData offset bytes)) =
    (offset ≤ length put.octets) × (length put.octets ≤ size_limit large)
BeginsWithin put (Hears large (Eof condition checksum size tlvs)) =
    length put.octets ≤ size_limit large
BeginsWithin put _ = Unit {0}

-- The put's file was published under its name, and the put was heard in full.
pub record PublishesPut (put : Put) (heard : List (List ℕ)) (id : TransactionId)
    (files : FileMap) (a : ReceiverAfter) : Type 0 where
  pub heard_in_full : HeardInFull put heard
  pub written_over : a.files ≡ map.insert files put.destination put.octets
  pub one_completion : (own : ℕ) →
      completions own a.told ≡ completions own (finished_told id complete ∷ [])

-- `true` if it is a fault of what was said of the file: its checksum, its size or its checksum type
abbrev pub is_file_fault : Indication → Bool
is_file_fault (Fault id condition) =
    (condition == file_checksum_failure) || (condition == file_size_error)
    || (condition == unsupported_checksum_type)
is_file_fault _ = false

-- A put that a receiver can take: it makes checksums of its kind, and its file isn't too large.
pub record IsReceivable (put : Put) : Type 0 where
  pub supported : is_supported put.checksum_kind ≡ true
  pub size : length put.octets ≤ size_limit true

-- ---- how far a receiver is
-- `true` if Metadata and EOF are known, and every offset below the EOF's size is held
abbrev pub is_whole : Option FileInfo → Option Ending → Offsets → Bool
is_whole (Some info) (Some ending) held = set.is_subset (range 0 ending.size) held
is_whole (Some info) None held = false
is_whole None ending held = false

-- `true` if it doesn't receive, or lacks something
abbrev pub is_lacking : ReceiverState → Bool
is_lacking r = not (is_receiving r.phase) || not (is_whole r.metadata r.ending r.held)

-- `true` if a Finished is due or was taken, while its acknowledgement is waited for
abbrev pub owes_finished : ReceiverState → Bool
owes_finished r =
    not (is_finishing r.phase) || ((r.finished_due || r.finished_taken) && is_some r.outcome)

-- `true` if it says that a transaction ended without a whole file
abbrev pub is_bad_end : Indication → Bool
is_bad_end (Abandoned id condition) = true
is_bad_end (Told id condition delivery status) = not (condition == no_error)
is_bad_end _ = false

abbrev pub is_done : Option Outcome → Bool
is_done (Some o) = is_complete o.condition o.delivery o.status
is_done None = false

-- `true` if it receives, or came to a whole file
abbrev pub goes_well : ReceiverState → Bool
goes_well r = is_receiving r.phase || is_done r.outcome

abbrev pub asks_from : Option ℕ → ReceiverState → Bool
asks_from (Some cursor) r = not (is_empty (missing_pairs cursor r))
asks_from None r = true

-- `true` if a NAK that is due, if one is, has something to ask for
abbrev pub is_tidy : ReceiverState → Bool
is_tidy r = asks_from r.nak_cursor r
