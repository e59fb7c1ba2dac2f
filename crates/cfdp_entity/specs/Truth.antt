-- What a table keeps if it hears nothing but the truth of puts. `own` is its entity, `put_of` finds
-- the put of a transaction, `heard` is the PDUs that were heard, `first` the files published at
-- first.
use Rattle.std.specs.Prelude.{◌≡◌, ℕ, List, slice_get, Option, Some, IsSome, Contains}
use Rattle.cfdp_header.specs.declared.value.TransactionId.{TransactionId}
use Rattle.cfdp_header.specs.Files.{FileMap}
use Rattle.cfdp_directives.specs.User.Completions.{completions}
use Rattle.cfdp_directives.specs.Pdu.Content.{Content}
use Rattle.cfdp_directives.specs.User.Put.{Put, IsTruthful, HeardInFull, inbox_after}
use Rattle.cfdp_store.specs.Staged.{OctetMap}
use Rattle.cfdp_receiver.specs.State.{ReceiverState}
use Rattle.cfdp_receiver.specs.Sound.{Sound, IsAmong}
use Rattle.cfdp_entity.specs.Seen.{Seen, Sends, Receives}
use Rattle.cfdp_entity.specs.Table.{Entry, TableState}
use Rattle.cfdp_entity.specs.History.{TableStep, Hears, Opens, Puts}

-- A receiver of a put of another entity knows nothing but what is true of it and was heard.
pub record KnowsPut (own : ℕ) (put_of : TransactionId → Option Put) (heard : List (List ℕ))
    (id : TransactionId) (r : ReceiverState) (m : OctetMap) : Type 0 where
  pub put : Put
  pub is_put : put_of id ≡ Some put
  pub same_id : r.addressing.id ≡ id
  pub not_own : id.source ≡ own → ⊥
  pub sound : Sound put heard r m

-- Each record knows nothing else: if it sends, its transaction must be this entity's.
abbrev pub KnowsTruth : ℕ → (TransactionId → Option Put) → List (List ℕ) → TransactionId → Seen →
    Type 0
KnowsTruth own put_of heard id (Sends x) = (x.addressing.id ≡ id) × (id.source ≡ own)
KnowsTruth own put_of heard id (Receives r m) = KnowsPut own put_of heard id r m

-- A PDU must be true of the put of its transaction, and what it says of it among what was heard.
abbrev pub IsTrueOf : (TransactionId → Option Put) → List (List ℕ) → TransactionId → Content →
    Type 0
IsTrueOf put_of heard id v =
    (put : Put) → put_of id ≡ Some put → IsTruthful put v × IsAmong put heard v

-- A step must say nothing but the truth: PDUs that are heard are true, one that opens a record is
-- of a put of another entity, and a put is of this one.
abbrev pub TellsTruth : ℕ → (TransactionId → Option Put) → List (List ℕ) → TableStep → TableState →
    Type 0
TellsTruth own put_of heard (Hears stored place large v) st =
    (e : Entry) → slice_get st.records place ≡ Some e → IsTrueOf put_of heard e.0 v
TellsTruth own put_of heard (Opens begun stored a large v) st =
    (a.id.source ≡ own → ⊥) × (IsSome (put_of a.id) × IsTrueOf put_of heard a.id v)
TellsTruth own put_of heard (Puts t) st = t.addressing.id.source ≡ own
TellsTruth own put_of heard _ st = Unit {0}

-- Each record knows the truth. The published files are the first ones, overwritten in the order of
-- what was indicated complete by the files of those puts, and each of these was heard in full.
pub record IsTrueTable (own : ℕ) (put_of : TransactionId → Option Put) (heard : List (List ℕ))
    (first : FileMap) (st : TableState) : Type 0 where
  pub knows : (place : ℕ) (e : Entry) → slice_get st.records place ≡ Some e
      → KnowsTruth own put_of heard e.0 e.1
  pub inbox : st.files ≡ inbox_after put_of first (completions own st.told)
  pub caused : (id : TransactionId) → Contains (completions own st.told) id →
      (put : Put) × ((put_of id ≡ Some put) × HeardInFull put heard)
