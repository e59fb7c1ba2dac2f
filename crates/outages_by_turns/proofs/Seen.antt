-- Two worlds that have the same stations and puts: what is said in either of a transaction holds in the
-- other one.
use Rattle.std.proofs.Common.{◌≡◌, ◌⊎◌, inl, inr, ℕ, ◌+◌, ◌-◌, ◌*◌, ◌^◌, ◌<◌, ◌==◌, true, false, List, Option, Some, None, if◌then◌else◌, refl, sym, ap, subst}
use Rattle.std.specs.Prelude.{Contains}
use Rattle.std.specs.FinMap as map
use Rattle.cfdp_header.specs.declared.value.TransactionId.{TransactionId}
use Rattle.cfdp_directives.specs.declared.user.phase.Phase.TheVariants.{Closed}
use Rattle.cfdp_directives.specs.User.Completions.{IsToldComplete, completions}
use Rattle.cfdp_timers.specs.declared.kind.Kind.{Kind}
use Rattle.cfdp_entity.specs.Entity.{EntityState, phase_told}
use Rattle.cfdp_timers.specs.declared.kind.Kind.TheVariants.{EofAck, Nak, FinishedAck}
use Rattle.cfdp_entity.specs.Seen.{Seen, Sends, Receives}
use Rattle.cfdp_entity.specs.Table.{record_of}
use Rattle.cfdp_station.specs.Station.{StationState}
use Rattle.station_pair.specs.declared.side.Side.{Side}
use Rattle.station_pair.specs.declared.side.Side.TheVariants.{One, Two}
use Rattle.station_pair.specs.Stations.{other}
use Rattle.link_sim.specs.declared.event.AcceptedPut.{AcceptedPut}
use Rattle.link_sim.specs.Clean.{IsCompleteAt}
use Rattle.link_sim.specs.Observed.{seen}
use Rattle.link_sim.specs.Theorem.{completions_at, side_of}
use Rattle.link_sim.specs.Waiting.{IsCompleted, IsOpen, IsWaiting, IsWaitingIn, is_open, one_tells, spoils}
use Rattle.link_sim.specs.World.State.{WorldState, entity_at}
use Rattle.outages.specs.Lasting.{IsInTime, IsInTimeFor, IsShort, clock_at, earlier, time_of}
use Rattle.outages.specs.Tries.{GoesOn, HasTriesIn, MayTry}

module _ (a b : WorldState) (one : b.one ≡ a.one) (two : b.two ≡ a.two) (puts : b.puts ≡ a.puts) where
  pub at-both : (P : EntityState → Type 0) (s : Side) → P (entity_at s a) → P (entity_at s b)
  at-both P One = subst (λ (x : StationState). P x.entity.state) (sym one)
  at-both P Two = subst (λ (x : StationState). P x.entity.state) (sym two)

  opens : (id : TransactionId) → IsOpen id a → IsOpen id b
  opens id h = record { side = h.side; still_open = at-both (λ e. is_open (record_of id e.table.records) ≡ true) h.side h.still_open }

  waits-in : (id : TransactionId) (s : Side) → IsWaitingIn (entity_at s a).config.policy.limits (record_of id (entity_at s a).table.records) →
      IsWaitingIn (entity_at s b).config.policy.limits (record_of id (entity_at s b).table.records)
  waits-in id s h = at-both (λ e. IsWaitingIn e.config.policy.limits (record_of id e.table.records)) s h

  pub waits : (id : TransactionId) → IsWaiting id a → IsWaiting id b
  waits id h = record {
    unfinished = opens id h.unfinished;
    all = λ s. record { told = at-both (λ e. one_tells (spoils id) e.table.told ≡ false) s (h.all s).told; record_waits = waits-in id s (h.all s).record_waits };
  }

  pub may-try : (id : TransactionId) (n : Side → Kind → ℕ) → MayTry id n a → MayTry id n b
  may-try id n h s = at-both (λ e. HasTriesIn e.config.policy.limits (n s) (record_of id e.table.records)) s (h s)

  in-time : (id : TransactionId) (s : Side) (k : Kind) (count limit clock : ℕ) → IsInTime id s k count limit clock a → IsInTime id s k count limit clock b
  in-time id s k count limit clock h = record {
    left = h.left;
    early = at-both (λ e. clock + time_of e.config.policy.times k < earlier (map.get e.table.armed (id, k)) (e.table.now + time_of e.config.policy.times k) + (limit - count) * time_of e.config.policy.times k) s h.early;
    fits = at-both (λ e. clock + time_of e.config.policy.times k < 2 ^ 64) s h.fits;
  }

  pub in-time-for : (id : TransactionId) (s : Side) (clock : ℕ) (o : Option Seen) → IsInTimeFor id s clock a o → IsInTimeFor id s clock b o
  in-time-for id s clock (Some (Sends x)) h = λ open_. (
      at-both (λ e. IsInTime id s EofAck x.count e.config.policy.limits.eof clock b) s (in-time id s EofAck x.count (entity_at s a).config.policy.limits.eof clock (h open_)))
  in-time-for id s clock (Some (Receives r m)) h = λ open_. (
    at-both (λ e. IsInTime id s Nak r.nak_count e.config.policy.limits.nak clock b) s (in-time id s Nak r.nak_count (entity_at s a).config.policy.limits.nak clock (h open_).0),
    at-both (λ e. IsInTime id s FinishedAck r.finished_count e.config.policy.limits.finished clock b) s
        (in-time id s FinishedAck r.finished_count (entity_at s a).config.policy.limits.finished clock (h open_).1),
  )
  in-time-for id s clock None h = (
    at-both (λ e. IsInTime id s Nak 0 e.config.policy.limits.nak clock b) s (in-time id s Nak 0 (entity_at s a).config.policy.limits.nak clock h.0),
    at-both (λ e. IsInTime id s FinishedAck 0 e.config.policy.limits.finished clock b) s (in-time id s FinishedAck 0 (entity_at s a).config.policy.limits.finished clock h.1),
  )

  pub goes-on : (id : TransactionId) → GoesOn id a → GoesOn id b
  goes-on id h = record { still_open = opens id h.still_open; records_wait = λ s. waits-in id s (h.records_wait s) }

  completes-at : (s : Side) → (id : TransactionId) → Contains (completions_at s (seen a)) id → Contains (completions_at s (seen b)) id
  completes-at One id = subst (λ (x : StationState). Contains (completions x.entity.state.config.entity x.entity.state.table.told) id) (sym one)
  completes-at Two id = subst (λ (x : StationState). Contains (completions x.entity.state.config.entity x.entity.state.table.told) id) (sym two)

  complete-at : (s : Side) (p : AcceptedPut) → IsCompleteAt s p a → IsCompleteAt s p b
  complete-at s p h = record {
    completed = completes-at (other s) p.id h.completed;
    told = at-both (λ e. IsToldComplete e.config.entity e.table.told p.id) s h.told;
    closed = at-both (λ e. phase_told p.id e.table ≡ Some Closed) s h.closed;
    closed_there = at-both (λ e. phase_told p.id e.table ≡ Some Closed) (other s) h.closed_there;
  }

  pub completed : (id : TransactionId) → IsCompleted id a → IsCompleted id b
  completed id h =
      let side : side_of id.source (seen b) ≡ side_of id.source (seen a) = ap (λ (x : StationState). if id.source == x.entity.state.config.entity then One else Two) one in
      record {
        put = h.put;
        among = subst (λ (l : List AcceptedPut). Contains l h.put) (sym puts) h.among;
        of = h.of;
        complete = subst (λ (s : Side). IsCompleteAt s h.put b) (sym side) (complete-at (side_of id.source (seen a)) h.put h.complete);
      }

  pub either : (id : TransactionId) → GoesOn id a ⊎ IsCompleted id a → GoesOn id b ⊎ IsCompleted id b
  either id (inl h) = inl (goes-on id h)
  either id (inr h) = inr (completed id h)

-- so of an old and a new one
pub short : (a b : WorldState) (one : b.one ≡ a.one) (two : b.two ≡ a.two) (puts : b.puts ≡ a.puts) (c d : WorldState) → d.one ≡ c.one → d.two ≡ c.two → d.puts ≡ c.puts → (id : TransactionId) →
    IsShort id a c → IsShort id b d
short a b one two puts c d one_then two_then puts_then id h s =
    at-both a b one two puts (λ e. IsInTimeFor id s (clock_at s d) b (record_of id e.table.records)) s
    (in-time-for a b one two puts id s (clock_at s d) (record_of id (entity_at s a).table.records)
    (at-both c d one_then two_then puts_then (λ e. IsInTimeFor id s e.table.now a (record_of id (entity_at s a).table.records)) s (h s)))
