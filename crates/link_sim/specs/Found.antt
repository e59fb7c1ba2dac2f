-- Proof-only: the transaction of a put in a world, and what becomes of it there.
use Rattle.std.specs.Prelude.{◌≡◌, ◌≤◌, ℕ, List, Some, Contains}
use Rattle.std.specs.FinMap as map
use Rattle.cfdp_directives.specs.User.Put.{Put}
use Rattle.cfdp_timers.specs.declared.kind.Kind.{Kind}
use Rattle.cfdp_entity.specs.Entity.{EntityState}
use Rattle.cfdp_entity.specs.Seen.{Sends}
use Rattle.cfdp_entity.specs.Table.{record_of}
use Rattle.link_sim.specs.Between.{Pdu, of_id, IsReceiverIn, AreSpelled}
use Rattle.link_sim.specs.Exchange.{tells_complete}
use Rattle.link_sim.specs.Known.{AreKnown}
use Rattle.link_sim.specs.Observed.{seen}
use Rattle.link_sim.specs.Runs.{Exchange, Runs, TellsMore, expire_sender, ReceiverExpires}
use Rattle.station_pair.specs.Stations.{other}
use Rattle.link_sim.specs.Stages.{AreWaitedBySender, AreWaitedByReceiver}
use Rattle.link_sim.specs.Theorem.{put_of}
use Rattle.link_sim.specs.Waiting.{one_tells}
use Rattle.link_sim.specs.World.State.{WorldState, arriving_from, entity_at}
use Rattle.station_pair.specs.declared.side.Side.{Side}

-- A put that this station made.
pub record IsPutOf (s : Side) (put : Put) (w : WorldState) : Type 0 where
  pub found : put_of (seen w) put.id ≡ Some put
  pub own : put.id.source ≡ (entity_at s w).config.entity

-- Of two entities and the PDUs on their way from the first one, and to it: what is this put's.
pub record IsExchange (put : Put) (mine theirs : EntityState) (forth back : List Pdu) (e : Exchange)
    : Type 0 where
  pub is_sender : record_of put.id mine.table.records ≡ Some (Sends e.sender)
  pub is_receiver : IsReceiverIn (record_of put.id theirs.table.records) e.receiver
  pub is_forth : of_id put.id forth ≡ e.forth
  pub is_back : of_id put.id back ≡ e.back
  pub is_told : one_tells (tells_complete put.id) mine.table.told ≡ e.told
  pub is_told_there : one_tells (tells_complete put.id) theirs.table.told ≡ e.told_there

-- So in a world, of a put of this station.
pub record HasExchange (s : Side) (put : Put) (w : WorldState) (e : Exchange) : Type 0 where
  pub forth : List Pdu
  pub back : List Pdu
  pub spelled : AreSpelled (arriving_from s w) forth
  pub spelled_back : AreSpelled (arriving_from (other s) w) back
  pub known : AreKnown (put_of (seen w)) (entity_at s w) (entity_at (other s) w) forth back
  pub is : IsExchange put (entity_at s w) (entity_at (other s) w) forth back e

-- A run of it led to this world.
pub record RunsTo (s : Side) (put : Put) (old : Exchange) (w : WorldState) : Type 0 where
  pub steps : ℕ
  pub end : Exchange
  pub is_end : HasExchange s put w end
  pub runs : Runs steps put old end

-- Each transaction made a run of its own.
abbrev pub RunsOn : (old new : WorldState) → Type 0
RunsOn old new = (s : Side) (put : Put) → IsPutOf s put old → (e : Exchange) →
    HasExchange s put old e
    → RunsTo s put e new

-- ---- a station is given the time
-- Of a put of this station: timers of its sender expired that were waited for, all whose deadline
-- was
-- no later.
pub record ExpiresHere (s : Side) (now : ℕ) (put : Put) (e : Exchange) (old new : WorldState)
    : Type 0 where
  pub kinds : List Kind
  pub waited : AreWaitedBySender e.sender kinds
  pub all : (k : Kind) (deadline : ℕ) → map.get (entity_at s old).table.armed (put.id, k)
      ≡ Some deadline
      → deadline ≤ now → Contains kinds k
  pub end : Exchange
  pub more : TellsMore (expire_sender (entity_at s old).config.policy put kinds e) end
  pub is_end : HasExchange s put new end

-- Of a put of the other station: timers of its receiver.
pub record ExpiresThere (s : Side) (now : ℕ) (put : Put) (e : Exchange) (old new : WorldState)
    : Type 0 where
  pub kinds : List Kind
  pub waited : AreWaitedByReceiver e.receiver kinds
  pub all : (k : Kind) (deadline : ℕ) → map.get (entity_at s old).table.armed (put.id, k)
      ≡ Some deadline
      → deadline ≤ now → Contains kinds k
  pub expired : Exchange
  pub expires : ReceiverExpires (entity_at s old).config.policy put kinds e expired
  pub end : Exchange
  pub more : TellsMore expired end
  pub is_end : HasExchange (other s) put new end

pub record ExpiresOn (s : Side) (now : ℕ) (old new : WorldState) : Type 0 where
  pub here : (put : Put) → IsPutOf s put old → (e : Exchange) → HasExchange s put old e
      → ExpiresHere s now put e old new
  pub there : (put : Put) → IsPutOf (other s) put old → (e : Exchange) →
      HasExchange (other s) put old e
      → ExpiresThere s now put e old new
