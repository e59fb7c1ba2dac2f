-- Proof-only: how far each transaction has come in a recovery.
use Rattle.std.specs.Prelude.{◌≡◌, ◌⊎◌, Bool, true, false, Option, Some, None}
use Rattle.cfdp_header.specs.declared.value.TransactionId.{TransactionId}
use Rattle.cfdp_directives.specs.User.Put.{Put}
use Rattle.cfdp_entity.specs.Seen.{Seen, Sends, Receives}
use Rattle.cfdp_entity.specs.Table.{record_of}
use Rattle.link_sim.specs.Exchange.{is_closed}
use Rattle.link_sim.specs.Found.{HasExchange, IsPutOf, RunsOn}
use Rattle.link_sim.specs.Runs.{Exchange}
use Rattle.station_pair.specs.Stations.{other}
use Rattle.link_sim.specs.Stages.{Stands, IsOver, is_answered}
use Rattle.link_sim.specs.Waiting.{policy_at, IsUnfinished}
use Rattle.link_sim.specs.World.State.{WorldState, entity_at}
use Rattle.station_pair.specs.declared.side.Side.{Side}

-- The transaction of a put of this station stands still until a timer of it expires.
pub record StandsIn (s : Side) (put : Put) (w : WorldState) : Type 0 where
  pub exchange : Exchange
  pub has : HasExchange s put w exchange
  pub stands : Stands (policy_at s w).limits (policy_at (other s) w).limits put exchange

-- Nothing comes of it any more.
pub record OverIn (s : Side) (put : Put) (w : WorldState) : Type 0 where
  pub exchange : Exchange
  pub has : HasExchange s put w exchange
  pub over : IsOver exchange

abbrev pub AllTracked : WorldState → Type 0
AllTracked w = (s : Side) (put : Put) → IsPutOf s put w → StandsIn s put w ⊎ OverIn s put w

-- What is the same in two worlds: the puts, and what the stations do if no answer comes.
pub record KeepsPutsOf (old new : WorldState) : Type 0 where
  pub puts : (s : Side) (put : Put) → IsPutOf s put old → IsPutOf s put new
  pub puts_before : (s : Side) (put : Put) → IsPutOf s put new → IsPutOf s put old
  pub policy : (s : Side) → policy_at s new ≡ policy_at s old

-- So it is, and each transaction made a run of its own.
pub record RunsAlong (old new : WorldState) : Type 0 where
  pub keeps : KeepsPutsOf old new
  pub runs : RunsOn old new

-- ---- what is done
-- the EOF that a record sent was answered, or the record is closed
abbrev pub is_done : Option Seen → Bool
is_done (Some (Sends x)) = is_answered x
is_done (Some (Receives r m)) = is_closed r
is_done None = false

abbrev pub done_at : Side → WorldState → TransactionId → Bool
done_at s w id = is_done (record_of id (entity_at s w).table.records)

-- A record got done.
pub record GetsDone (old new : WorldState) : Type 0 where
  pub side : Side
  pub id : TransactionId
  pub before : done_at side old id ≡ false
  pub after : done_at side new id ≡ true

-- A round brings the transactions on: what is done stays so, and a record gets done.
pub record Advances (old new : WorldState) : Type 0 where
  pub keeps : KeepsPutsOf old new
  pub tracked : AllTracked old → AllTracked new
  pub stands : AllTracked old → (s : Side) (put : Put) → IsPutOf s put old → StandsIn s put old →
      StandsIn s put new
  pub done : AllTracked old → (s : Side) (id : TransactionId) → done_at s old id ≡ true →
      done_at s new id ≡ true
  pub more : AllTracked old → GetsDone old new

-- ---- the first settling
-- The put of this transaction, which stands.
pub record StandsOf (id : TransactionId) (w : WorldState) : Type 0 where
  pub side : Side
  pub put : Put
  pub of : put.id ≡ id
  pub own : IsPutOf side put w
  pub stands : StandsIn side put w

-- Each transaction is tracked then, and each that was unfinished stands.
pub record AllStand (old new : WorldState) : Type 0 where
  pub tracked : AllTracked new
  pub unfinished : (id : TransactionId) → IsUnfinished id old → StandsOf id new
