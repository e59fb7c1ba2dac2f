-- What holds of two stations over such a link, in the words of puts, PDUs, indications and files.
use Rattle.std.specs.Prelude.{◌≡◌, ◌<◌, ℕ, List, [], ◌∷◌, ◌++◌, length, Option, Some, None}
use Rattle.std.specs.Prelude.{Contains, if◌then◌else◌}
use Rattle.aos_frame.specs.declared.config.Lane.{Lane}
use Rattle.link_stack.specs.EndToEnd.{puts_of}
use Rattle.link_stack.specs.Lives.{life_at}
use Rattle.cfdp_header.specs.declared.value.Header.{Header}
use Rattle.cfdp_header.specs.declared.value.TransactionId.{TransactionId}
use Rattle.cfdp_header.specs.Files.{FileMap}
use Rattle.cfdp_header.specs.Ids.{same_id}
use Rattle.cfdp_directives.specs.declared.user.indication.Indication.{Indication}
use Rattle.cfdp_directives.specs.Pdu.Content.{Content}
use Rattle.cfdp_directives.specs.Pdu.Grammar.{SpellsPdu}
use Rattle.cfdp_directives.specs.User.Put.{Put, HeardInFull, SomePdu, SaysTruth, SaysComplete}
use Rattle.cfdp_directives.specs.User.Put.{inbox_after}
use Rattle.cfdp_directives.specs.User.Completions.{completions, FinishedOnce, IsToldComplete}
use Rattle.any_order.specs.Calls.{End, Pair, Side, at, entity_of, lives, other}

-- the put of an id, the first one
abbrev pub found : List Put → TransactionId → Option Put
found [] id = None
found (p ∷ puts) id = if same_id p.id id then Some p else found puts id

-- its entity
abbrev pub own : End → ℕ
own e = (entity_of e).config.entity

-- all that it indicated and all the PDUs that it heard, in all its lives, in order
abbrev pub told_ever : End → List Indication
told_ever e = e.told_before ++ (entity_of e).table.told

abbrev pub heard_ever : End → List (List ℕ)
heard_ever e = e.heard_before ++ e.heard

-- the transactions that it received and indicated complete, in order
abbrev pub completed : End → List TransactionId
completed e = completions (own e) (told_ever e)

-- It put this PDU on the link, in one of its lives.
abbrev pub HasSent : End → List ℕ → Type 0
HasSent e pdu = (k : ℕ) × ((k < length (lives e))
    × ((lane : Lane) × Contains (puts_of lane (life_at (lives e) k).calls) pdu))

-- If a sender indicated its put complete, it heard so, and the other station has completed it.
pub record IsTold (mine theirs : End) (id : TransactionId) : Type 0 where
  pub heard : SomePdu (SaysComplete id) (heard_ever mine)
  pub completed : Contains (completed theirs) id

-- Each put that was completed was heard in full.
abbrev pub CausedAt : Side → Pair → Type 0
CausedAt s w = (id : TransactionId) → Contains (completed (at s w)) id →
    (put : Put) × ((found w.puts id ≡ Some put) × HeardInFull put (heard_ever (at s w)))

-- If it indicated complete as a sender, so it is.
abbrev pub ToldAt : Side → Pair → Type 0
ToldAt s w = (id : TransactionId) → IsToldComplete (own (at s w)) (told_ever (at s w)) id →
    IsTold (at s w) (at (other s) w) id

-- What it said of a file is true.
abbrev pub TruthAt : Side → Pair → Type 0
TruthAt s w = (text : List ℕ) → HasSent (at s w) text → (h : Header) (v : Content) →
    SpellsPdu h v text → SaysTruth (own (at s w)) (found w.puts) h.id v

-- What holds of a station whose inbox had these files at first: its inbox is those, overwritten in
-- order of the complete indications there, over all its lives, by the files of the puts that they
-- name; in one life no transaction was finished twice; each put that was completed was heard in
-- full; if a sender indicated its put complete, so it is; and what was said of a file is true.
pub record HoldsAt (s : Side) (first : FileMap) (w : Pair) : Type 0 where
  pub inbox : (entity_of (at s w)).table.files
      ≡ inbox_after (found w.puts) first (completed (at s w))
  pub once : FinishedOnce (entity_of (at s w)).table.told
  pub caused : CausedAt s w
  pub told : ToldAt s w
  pub truth : TruthAt s w
