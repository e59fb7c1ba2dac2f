-- Exported: what is said of calls and the states of an inbox holds of what is read off those states,
-- as of the count of failures.
use Rattle.std.proofs.Common.{Bool, true, false, List, [], ◌∷◌, ◌++◌, Option, Some, None, Ok, Err, inl, inr}
use Rattle.cfdp_header.specs.declared.value.TransactionId.{TransactionId}
use Rattle.cfdp_directives.specs.Pdu.Checksum.{Piece}
use Rattle.cfdp_store.specs.declared.stored.Stored.{Stored}
use Rattle.cfdp_store.specs.declared.stored.Stored.TheVariants.{Done, Refused}
use Rattle.cfdp_store.specs.Calls.{InboxCall, Begin, Write, Publish, Discard}
use Rattle.cfdp_receiver.specs.declared.state.FileInfo.{FileInfo}
use Rattle.cfdp_receiver.specs.declared.state.Ending.{Ending}
use Rattle.cfdp_receiver.specs.State.{ReceiverState}
use Rattle.cfdp_receiver.specs.Storing.{Discards, Publishes, EndsBy, Settles, StopsAt, FailsToWrite, Stages, Begins, is_complete, writes}

module _ {A B : Type 0} (By : List InboxCall → A → A → Type 0) (Then : List InboxCall → B → B → Type 0) (f : A → B)
    (read : (calls : List InboxCall) (old new : A) → By calls old new → Then calls (f old) (f new)) where
  pub discards : (id : TransactionId) (old new : A) → Discards By id old new → Discards Then id (f old) (f new)
  discards id old new d = (d.0, read (Discard id d.0 ∷ []) old new d.1)

  pub publishes : (stored : Stored) (id : TransactionId) (info : Option FileInfo) (ending : Option Ending) (old new : A) → Publishes By stored id info ending old new →
      Publishes Then stored id info ending (f old) (f new)
  publishes Done id (Some info) (Some ending) old new p = read (Publish id info.destination ending.size (Ok tt) ∷ []) old new p
  publishes Refused id (Some info) (Some ending) old new p = (p.0, p.1, read (Publish id info.destination ending.size (Err p.0) ∷ Discard id p.1 ∷ []) old new p.2)
  publishes Done id (Some info) None old new p = absurd p
  publishes Refused id (Some info) None old new p = absurd p
  publishes Done id None ending old new p = absurd p
  publishes Refused id None ending old new p = absurd p

  pub ends-by : (complete : Bool) (stored : Stored) (id : TransactionId) (info : Option FileInfo) (ending : Option Ending) (old new : A) → EndsBy By complete stored id info ending old new →
      EndsBy Then complete stored id info ending (f old) (f new)
  ends-by true stored id info ending old new e = publishes Done id info ending old new e
  ends-by false Done id info ending old new e = discards id old new e
  ends-by false Refused id info ending old new e = publishes Refused id info ending old new e

  pub settles : (stored : Stored) (r s : ReceiverState) (old new : A) → Settles By stored r s old new → Settles Then stored r s (f old) (f new)
  settles stored r s old new h = (
    λ same. read [] old new (h.0 same),
    λ receiving over. ends-by (is_complete s.phase s.outcome) stored s.addressing.id s.metadata s.ending old new (h.1 receiving over),
  )

  pub stops : (id : TransactionId) (pieces : List Piece) (last : List InboxCall) (old new : A) → StopsAt By id pieces last old new → StopsAt Then id pieces last (f old) (f new)
  stops id pieces last old new s = record {
    front = s.front;
    piece = s.piece;
    behind = s.behind;
    are = s.are;
    error = s.error;
    by = read (writes id s.front ++ Write id s.piece.offset s.piece.bytes (Err s.error) ∷ last) old new s.by;
  }

  pub fails-to-write : (id : TransactionId) (pieces : List Piece) (old new : A) → FailsToWrite By id pieces old new → FailsToWrite Then id pieces (f old) (f new)
  fails-to-write id pieces old new h = (h.0, stops id pieces (Discard id h.0 ∷ []) old new h.1)

  pub stages : (stored : Stored) (pieces : List Piece) (r s : ReceiverState) (old new : A) → Stages By stored pieces r s old new → Stages Then stored pieces r s (f old) (f new)
  stages stored pieces r s old new (inl h) = inl (f h.0, read (writes r.addressing.id pieces) old h.0 h.1, settles stored r s h.0 new h.2)
  stages stored pieces r s old new (inr h) = inr (h.0, fails-to-write r.addressing.id pieces old new h.1)

  pub begins : (stored : Stored) (id : TransactionId) (old new : A) → Begins By stored id old new → Begins Then stored id (f old) (f new)
  begins Done id old new b = read (Begin id (Ok tt) ∷ []) old new b
  begins Refused id old new b = (b.0, b.1, read (Begin id (Err b.0) ∷ Discard id b.1 ∷ []) old new b.2)
