-- Which calls of the inbox a step of a receiver makes, in which order. If no line names an
-- answer, it may be any. `By` says that some calls lead from one state of the inbox to another.
use Rattle.std.specs.Prelude.{◌≡◌, ◌⊎◌, ◌++◌, ◌+◌, ℕ, ◌&&◌, not, Bool, true, false, List, [], ◌∷◌, length, map, Option, Some, None, Ok, Err, if◌then◌else◌}
use Rattle.cfdp_header.specs.declared.value.TransactionId.{TransactionId}
use Rattle.cfdp_directives.specs.declared.pdu.codes.Delivery.{Delivery}
use Rattle.cfdp_directives.specs.declared.pdu.codes.Delivery.TheVariants.{Complete, Incomplete}
use Rattle.cfdp_directives.specs.declared.user.telling.Outcome.{Outcome}
use Rattle.cfdp_directives.specs.Pdu.Checksum.{Piece}
use Rattle.cfdp_store.specs.declared.error.StoreError.{StoreError}
use Rattle.cfdp_store.specs.declared.stored.Stored.{Stored}
use Rattle.cfdp_store.specs.declared.stored.Stored.TheVariants.{Done, Refused}
use Rattle.cfdp_store.specs.Calls.{Answer, InboxCall, Begin, Write, Publish, Discard}
use Rattle.cfdp_receiver.specs.declared.state.ReceiverPhase.{ReceiverPhase}
use Rattle.cfdp_receiver.specs.declared.state.ReceiverPhase.TheVariants.{Receiving, Finishing, Closed}
use Rattle.cfdp_receiver.specs.declared.state.FileInfo.{FileInfo}
use Rattle.cfdp_receiver.specs.declared.state.Ending.{Ending}
use Rattle.cfdp_receiver.specs.State.{ReceiverState, is_receiving}
use Rattle.cfdp_receiver.specs.Pieces.{new_pieces}
use Rattle.cfdp_receiver.specs.Steps.{exceeds}

-- the writes of these pieces, all of them done
abbrev pub writes : TransactionId → List Piece → List InboxCall
writes id pieces = map (λ (p : Piece). Write id p.offset p.bytes (Ok tt)) pieces

-- the pieces of file data that a receiver stages: those that are new, while it receives and none
-- lies beyond the file's end
abbrev pub staged_pieces : (large : Bool) → ℕ → List ℕ → ReceiverState → List Piece
staged_pieces large offset bytes r =
    if is_receiving r.phase && not (exceeds large r.ending (offset + length bytes))
    then new_pieces r.held offset bytes else []

abbrev pub delivers : Delivery → Bool
delivers Complete = true
delivers Incomplete = false

-- `true` if a receiver ended with its file complete
abbrev pub is_complete : ReceiverPhase → Option Outcome → Bool
is_complete Finishing (Some o) = delivers o.delivery
is_complete Finishing None = false
is_complete Receiving outcome = false
is_complete Closed outcome = false

module _ {A : Type 0} (By : List InboxCall → A → A → Type 0) where
  -- What is staged was discarded, by one call.
  abbrev pub Discards : TransactionId → (old new : A) → Type 0
  Discards id old new = (answer : Answer) × By (Discard id answer ∷ []) old new

  -- The file was published, by one call; or that failed, and then what is staged was discarded.
  abbrev pub Publishes : Stored → TransactionId → Option FileInfo → Option Ending → (old new : A)
      → Type 0
  Publishes Done id (Some info) (Some ending) old new =
      By (Publish id info.destination ending.size (Ok tt) ∷ []) old new
  Publishes Refused id (Some info) (Some ending) old new = (error : StoreError) × (answer : Answer)
      × By (Publish id info.destination ending.size (Err error) ∷ Discard id answer ∷ []) old new
  Publishes stored id (Some info) None old new = ⊥
  Publishes stored id None ending old new = ⊥

  -- A receiver ended so: with its file published if it is complete, otherwise with what was staged
  -- discarded.
  abbrev pub EndsBy : (complete : Bool) → Stored → TransactionId → Option FileInfo → Option Ending
      → (old new : A) → Type 0
  EndsBy true stored id metadata ending old new = Publishes Done id metadata ending old new
  EndsBy false Done id metadata ending old new = Discards id old new
  EndsBy false Refused id metadata ending old new = Publishes Refused id metadata ending old new

  abbrev pub Ends : Stored → ReceiverState → (old new : A) → Type 0
  Ends stored r old new =
      EndsBy (is_complete r.phase r.outcome) stored r.addressing.id r.metadata r.ending old new

  -- A step that doesn't end what is received makes no call. One that ends it makes those by which
  -- it ends.
  abbrev pub Settles : Stored → (r s : ReceiverState) → (old new : A) → Type 0
  Settles stored r s old new =
      (is_receiving s.phase ≡ is_receiving r.phase → By [] old new)
      × (r.phase ≡ Receiving → is_receiving s.phase ≡ false → Ends stored s old new)

  -- The pieces before one were written, that one failed, and then these calls were made.
  pub record StopsAt (id : TransactionId) (pieces : List Piece) (last : List InboxCall)
      (old new : A) : Type 0 where
    pub front : List Piece
    pub piece : Piece
    pub behind : List Piece
    pub are : pieces ≡ front ++ piece ∷ behind
    pub error : StoreError
    pub by : By (writes id front ++ Write id piece.offset piece.bytes (Err error) ∷ last) old new

  -- A write of these pieces failed, and what is staged was discarded.
  abbrev pub FailsToWrite : TransactionId → List Piece → (old new : A) → Type 0
  FailsToWrite id pieces old new =
      (answer : Answer) × StopsAt id pieces (Discard id answer ∷ []) old new

  -- File data were heard: each of these pieces was written, in this order, and if the transaction
  -- ended, what ends it came then; or one of the writes failed.
  abbrev pub Stages : Stored → List Piece → (r s : ReceiverState) → (old new : A) → Type 0
  Stages stored pieces r s old new =
      ((mid : A) × By (writes r.addressing.id pieces) old mid × Settles stored r s mid new)
      ⊎ ((stored ≡ Refused) × FailsToWrite r.addressing.id pieces old new)

  -- A transaction was begun, by one call; or that failed, and then what is staged was discarded.
  abbrev pub Begins : Stored → TransactionId → (old new : A) → Type 0
  Begins Done id old new = By (Begin id (Ok tt) ∷ []) old new
  Begins Refused id old new = (error : StoreError) × (answer : Answer)
      × By (Begin id (Err error) ∷ Discard id answer ∷ []) old new
