-- What every event keeps of two stations and the frames between them.
use Rattle.std.specs.Prelude.{◌≡◌, ◌<◌, ℕ, List, Contains}
use Rattle.cfdp_header.specs.declared.value.Header.{Header}
use Rattle.cfdp_header.specs.Files.{FileMap}
use Rattle.cfdp_directives.specs.Pdu.Content.{Content}
use Rattle.cfdp_directives.specs.Pdu.Grammar.{SpellsPdu}
use Rattle.cfdp_directives.specs.User.Put.{SaysTruth}
use Rattle.cfdp_entity.specs.Sound.{IsSound as IsSoundEntity, SaysDelivered}
use Rattle.station_pair.specs.declared.side.Side.{Side}
use Rattle.link_sim.specs.declared.event.AcceptedPut.{AcceptedPut}
use Rattle.link_sim.specs.Observed.{seen}
use Rattle.station_pair.specs.Stations.{other}
use Rattle.link_sim.specs.Theorem.{put_of}
use Rattle.link_sim.specs.Work.{AreWithin, most_offset}
use Rattle.link_sim.specs.World.State.{WorldState, AreWays, delivered_from, entity_at, sent_from}

-- A PDU that a station sent says the truth of its puts, and says that a file was delivered only if
-- the station completed it.
abbrev pub SentTruly : Side → WorldState → List ℕ → Type 0
SentTruly s w text = (h : Header) (v : Content) → SpellsPdu h v text →
    let e = entity_at s w in
    SaysTruth e.config.entity (put_of (seen w)) h.id v
    × SaysDelivered e.config.entity e.table.told h.id v

-- What holds of one station, both lanes on which it sends, and what it heard. No indication of it
-- was discarded.
pub record IsSoundAt (s : Side) (w : WorldState) : Type 0 where
  pub ways : AreWays s w
  pub first : FileMap
  pub all_kept : (entity_at s w).table.gone ≡ 0
  pub entity : IsSoundEntity (put_of (seen w)) (delivered_from (other s) w) first (entity_at s w)
  pub sent : (text : List ℕ) → Contains (sent_from s w) text → SentTruly s w text
  pub peer : (entity_at s w).config.peer ≡ (entity_at (other s) w).config.entity
  pub within : AreWithin most_offset (entity_at s w).table.records
  -- each put has a number of its station, below the number of the next one
  pub numbers : (p : AcceptedPut) → Contains w.puts p
      → p.id.source ≡ (entity_at s w).config.entity → p.id.number < (entity_at s w).next

abbrev pub IsSound : WorldState → Type 0
IsSound w = (s : Side) → IsSoundAt s w
