-- What is proved of every list of events, in the words of puts, PDUs, indications and files. Of the
-- two stations it speaks of what an observer sees: nothing of machines, packets, frames or timers.
use Rattle.std.specs.Prelude.{◌≡◌, ℕ, ◌==◌, List, [], ◌∷◌, ◌++◌, Option, Some, None, Contains, if◌then◌else◌}
use Rattle.std.specs.FinMap.{get}
use Rattle.cfdp_header.specs.declared.value.Header.{Header}
use Rattle.cfdp_header.specs.declared.value.TransactionId.{TransactionId}
use Rattle.cfdp_header.specs.Files.{FileMap}
use Rattle.cfdp_header.specs.Ids.{same_id}
use Rattle.cfdp_directives.specs.declared.user.indication.Indication.{Indication}
use Rattle.cfdp_directives.specs.Pdu.Content.{Content}
use Rattle.cfdp_directives.specs.Pdu.Grammar.{SpellsPdu}
use Rattle.cfdp_directives.specs.User.Put.{Put, HeardInFull, SomePdu, SaysTruth, SaysComplete, inbox_after}
use Rattle.cfdp_directives.specs.User.Completions.{completions, FinishedOnce, IsToldComplete}
use Rattle.cfdp_entity.specs.Sound.{FindsMore}
use Rattle.station_pair.specs.declared.side.Side.{Side}
use Rattle.station_pair.specs.declared.side.Side.TheVariants.{One, Two}
use Rattle.link_sim.specs.declared.event.AcceptedPut.{AcceptedPut}
use Rattle.station_pair.specs.Stations.{other}

-- ---- what is seen
-- Of a station: its entity's id and the checksum type of its puts, the files that it can send, the
-- files of its inbox, what it indicated to its user, the PDUs that it put on the link, and those
-- that were delivered to it, in order within a lane.
pub record StationSeen : Type 0 where
  pub entity : ℕ
  pub checksum_kind : ℕ
  pub sources : FileMap
  pub inbox : FileMap
  pub told : List Indication
  pub sent : List (List ℕ)
  pub delivered : List (List ℕ)

-- Of the world: both stations, and the accepted puts in order.
pub record WorldSeen : Type 0 where
  pub one : StationSeen
  pub two : StationSeen
  pub puts : List AcceptedPut

abbrev pub at : Side → WorldSeen → StationSeen
at One w = w.one
at Two w = w.two

-- ---- puts
-- the first accepted put of an id
abbrev pub accepted_as : List AcceptedPut → TransactionId → Option AcceptedPut
accepted_as [] id = None
accepted_as (p ∷ puts) id = if same_id p.id id then Some p else accepted_as puts id

-- the station of this entity
abbrev pub side_of : ℕ → WorldSeen → Side
side_of entity w = if entity == w.one.entity then One else Two

-- an accepted put with the octets of its source, if its station has them
abbrev pub with_octets : ℕ → AcceptedPut → Option (List ℕ) → Option Put
with_octets kind p None = None
with_octets kind p (Some octets) = Some (record {
  id = p.id;
  source = p.source;
  destination = p.destination;
  octets = octets;
  checksum_kind = kind;
})

abbrev pub put_at : StationSeen → AcceptedPut → Option Put
put_at s p = with_octets s.checksum_kind p (get s.sources p.source)

abbrev pub put_by : WorldSeen → Option AcceptedPut → Option Put
put_by w None = None
put_by w (Some p) = put_at (at (side_of p.id.source w) w) p

-- the put of an id
abbrev pub put_of : WorldSeen → TransactionId → Option Put
put_of w id = put_by w (accepted_as w.puts id)

-- ---- what every event keeps
-- the transactions that a station received and indicated complete, in order
abbrev pub completions_at : Side → WorldSeen → List TransactionId
completions_at s w = completions (at s w).entity (at s w).told

-- The inbox of a station was overwritten, in order of the completions that it gained, by the files
-- of the puts that they name.
pub record FoldsAt (s : Side) (old new : WorldSeen) : Type 0 where
  pub gained : List TransactionId
  pub completions : completions_at s new ≡ completions_at s old ++ gained
  pub inbox : (at s new).inbox ≡ inbox_after (put_of new) (at s old).inbox gained

-- More happened: puts that were accepted stay what they are, and each inbox was overwritten by the
-- files of the puts completed since.
pub record Follows (old new : WorldSeen) : Type 0 where
  pub puts : FindsMore (put_of old) (put_of new)
  pub folds : (s : Side) → FoldsAt s old new

-- Each put that a station completed was heard there in full.
abbrev pub CausedAt : Side → WorldSeen → Type 0
CausedAt s w = (id : TransactionId) → Contains (completions_at s w) id →
    (put : Put) × ((put_of w id ≡ Some put) × HeardInFull put (at s w).delivered)

-- If a sender indicated its put complete, it heard so, and the other station has completed it.
pub record IsTold (s : Side) (w : WorldSeen) (id : TransactionId) : Type 0 where
  pub heard : SomePdu (SaysComplete id) (at s w).delivered
  pub completed : Contains (completions_at (other s) w) id

abbrev pub ToldAt : Side → WorldSeen → Type 0
ToldAt s w = (id : TransactionId) → IsToldComplete (at s w).entity (at s w).told id → IsTold s w id

-- Each Metadata, file data and EOF that a station put on the link is truthful for a put that it
-- made.
abbrev pub TruthAt : Side → WorldSeen → Type 0
TruthAt s w = (text : List ℕ) → Contains (at s w).sent text →
    (h : Header) (v : Content) → SpellsPdu h v text → SaysTruth (at s w).entity (put_of w) h.id v

-- What holds of every world that events led to.
pub record HoldsAt (s : Side) (w : WorldSeen) : Type 0 where
  pub once : FinishedOnce (at s w).told
  pub caused : CausedAt s w
  pub told : ToldAt s w
  pub truth : TruthAt s w
