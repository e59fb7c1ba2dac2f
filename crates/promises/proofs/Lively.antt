-- Whatever is called at two stations, each has something to do for all that is open. Exported: what one call keeps.
use Rattle.std.proofs.Common.{◌≡◌, inl, inr, ℕ, List, [], ◌∷◌, refl, sym, ap, subst, ◌∙◌}
use Rattle.cfdp_header.specs.declared.value.TransactionId.{TransactionId}
use Rattle.cfdp_header.specs.Files.{FileMap}
use Rattle.cfdp_directives.specs.Pdu.Faults.{pdu_fault}
use Rattle.cfdp_directives.specs.User.Put as user
use Rattle.cfdp_directives.specs.declared.user.policy.Policy.{Policy}
use Rattle.cfdp_store.specs.declared.stored.Stored.{Stored}
use Rattle.cfdp_store.specs.declared.stored.Stored.TheVariants.{Done, Refused}
use Rattle.cfdp_entity.specs.declared.config.EntityConfig.{EntityConfig}
use Rattle.cfdp_entity.specs.declared.error.EntityDrop.{EntityDrop}
use Rattle.cfdp_entity.specs.declared.request.Request.{Request}
use Rattle.cfdp_entity.specs.Config.{IsConfig}
use Rattle.cfdp_entity.specs.Entity.{Counted, EntityState, first_entity, with_table}
use Rattle.cfdp_entity.specs.Hearing.{DropsOctets, HearsOctets}
use Rattle.cfdp_entity.specs.Polling.{served, turn}
use Rattle.cfdp_entity.specs.Putting.{Accepts}
use Rattle.cfdp_entity.specs.Requests.{IsCalled}
use Rattle.cfdp_entity.specs.Sound.{GoesOn}
use Rattle.cfdp_entity.specs.Table.{Ticks}
use Rattle.cfdp_station.specs.Polling.{Moves}
use Rattle.cfdp_station.specs.Taking.{HearsAll, HearsPdu}
use Rattle.cfdp_station.specs.declared.config.StationConfig.{StationConfig}
use Rattle.cfdp_station.specs.declared.polled.Polled.{Polled}
use Rattle.cfdp_station.specs.declared.polled.Polled.TheVariants.{Moved, Nothing, Full, SourceFailed}
use Rattle.any_order.specs.Calls.{AreJoined, At, Call, DoesCall, End, Event, Happen, Happens, IsNew, One, Two, Pair, Setup, Side, at, entity_of, numbered_from, setup_of}
use Rattle.any_order.specs.Calls.{Puts, Asks, Tells, Polls, Fills, Gives, Receives, Refuses, Restarts}
use Rattle.cfdp_endings.specs.Entity.{IsLively}

-- what is known of an entity
pub record EntityLaws : Type 0 where
  pub first : (sources files : FileMap) (config : EntityConfig) → IsConfig config → IsLively (first_entity sources files config)
  pub put : (source destination : List ℕ) (id : TransactionId) (old new : EntityState) → Accepts source destination id old new → IsLively old → IsLively new
  pub called : (c : Request) (id : TransactionId) (old new : EntityState) → IsCalled c id old new → IsLively old → IsLively new
  pub ticked : (now : ℕ) (old new : EntityState) → Ticks now old.table new.table → new ≡ with_table old new.table → IsLively old → IsLively new
  pub heard : (pdu : List ℕ) (old new : Counted) → HearsOctets pdu old new → IsLively old.state → IsLively new.state
  pub dropped : (pdu : List ℕ) (by : EntityDrop) (old new : Counted) → DropsOctets (pdu_fault pdu) pdu by old new → IsLively old.state → IsLively new.state
  pub served_by : (stored : Stored) (e : EntityState) → IsLively e → IsLively (served stored (turn e) e)
  pub put_on : (source destination : List ℕ) (id : TransactionId) (old new : EntityState) → Accepts source destination id old new → GoesOn old new
  pub called_on : (c : Request) (id : TransactionId) (old new : EntityState) → IsCalled c id old new → GoesOn old new
  pub ticked_on : (now : ℕ) (old new : EntityState) → Ticks now old.table new.table → new ≡ with_table old new.table → GoesOn old new
  pub heard_on : (pdu : List ℕ) (old new : Counted) → HearsOctets pdu old new → GoesOn old.state new.state
  pub dropped_on : (pdu : List ℕ) (by : EntityDrop) (old new : Counted) → DropsOctets (pdu_fault pdu) pdu by old new → GoesOn old.state new.state
  pub served_on : (stored : Stored) (e : EntityState) → GoesOn e (served stored (turn e) e)

-- It has something to do for all that is open, by this policy.
pub record Holds (policy : Policy) (e : EntityState) : Type 0 where
  pub lively : IsLively e
  pub policy_is : e.config.policy ≡ policy

pub same-holds : (policy : Policy) (old new : EntityState) → new ≡ old → Holds policy old → Holds policy new
same-holds policy old new is h = subst (Holds policy) (sym is) h

pub on-holds : (policy : Policy) (old new : EntityState) → GoesOn old new → IsLively new → Holds policy old → Holds policy new
on-holds policy old new on k h = record { lively = k; policy_is = ap (λ (c : EntityConfig). c.policy) on.config ∙ h.policy_is }

module _ (laws : EntityLaws) (policy : Policy) where
  served-holds : (stored : Stored) (e : EntityState) → Holds policy e → Holds policy (served stored (turn e) e)
  served-holds stored e h = on-holds policy e (served stored (turn e) e) (laws.served_on stored e) (laws.served_by stored e h.lively) h

  pdu-holds : (pdu : List ℕ) (old new : Counted) → HearsPdu pdu old new → Holds policy old.state → Holds policy new.state
  pdu-holds pdu old new (inl heard) h = on-holds policy old.state new.state (laws.heard_on pdu old new heard) (laws.heard pdu old new heard h.lively) h
  pdu-holds pdu old new (inr (by, lost)) h = on-holds policy old.state new.state (laws.dropped_on pdu by old new lost) (laws.dropped pdu by old new lost h.lively) h

  all-holds : (pdus : List (List ℕ)) (old new : Counted) → HearsAll pdus old new → Holds policy old.state → Holds policy new.state
  all-holds [] old new same h = same-holds policy old.state new.state (ap (λ (c : Counted). c.state) same) h
  all-holds (pdu ∷ pdus) old new (mid, here, rest) h = all-holds pdus mid new rest (pdu-holds pdu old mid here h)

  same-counted : (old new : Counted) → new ≡ old → Holds policy old.state → Holds policy new.state
  same-counted old new same h = same-holds policy old.state new.state (ap (λ (c : Counted). c.state) same) h

  pub first-holds : (sources files : FileMap) (config : EntityConfig) (e : EntityState) → IsConfig config → config.policy ≡ policy → e ≡ first_entity sources files config → Holds policy e
  first-holds sources files config e valid same is =
      subst (Holds policy) (sym is) (record { lively = laws.first sources files config valid; policy_is = same })

-- ---- calls
module _ (laws : EntityLaws) (c : StationConfig) (old theirs new : End) (puts puts_then : List user.Put) where
  abbrev Before : Type 0
  Before = Holds c.entity.policy (entity_of old)

  abbrev After : Type 0
  After = Holds c.entity.policy (entity_of new)

  polled-holds : (answer : Polled) → Moves answer old.station.entity new.station.entity old.station.down new.station.down → Before → After
  polled-holds Moved m h = same-holds c.entity.policy (served Done (turn (entity_of old)) (entity_of old)) (entity_of new) m.served (served-holds laws c.entity.policy Done (entity_of old) h)
  polled-holds Nothing m h = same-counted laws c.entity.policy old.station.entity new.station.entity m.1 h
  polled-holds Full m h = same-counted laws c.entity.policy old.station.entity new.station.entity m.1 h
  polled-holds SourceFailed m h = same-holds c.entity.policy (served Refused (turn (entity_of old)) (entity_of old)) (entity_of new) m.0.served (served-holds laws c.entity.policy Refused (entity_of old) h)

  pub call-holds : (call : Call) → DoesCall call c old theirs new puts puts_then → Before → After
  call-holds (Puts source destination id) d h = on-holds c.entity.policy (entity_of old) (entity_of new) (laws.put_on source destination id (entity_of old) (entity_of new) d.0)
      (laws.put source destination id (entity_of old) (entity_of new) d.0 h.lively) h
  call-holds (Asks request id) d h = on-holds c.entity.policy (entity_of old) (entity_of new) (laws.called_on request id (entity_of old) (entity_of new) d.0)
      (laws.called request id (entity_of old) (entity_of new) d.0 h.lively) h
  call-holds (Tells now) d h = on-holds c.entity.policy (entity_of old) (entity_of new) (laws.ticked_on now (entity_of old) (entity_of new) d.0 d.1)
      (laws.ticked now (entity_of old) (entity_of new) d.0 d.1 h.lively) h
  call-holds (Polls answer) d h = polled-holds answer d.0.0 h
  call-holds (Fills lane) d h = same-counted laws c.entity.policy old.station.entity new.station.entity d.2.0 h
  call-holds (Gives lane frame) d h = same-counted laws c.entity.policy old.station.entity new.station.entity d.0.rest.0 h
  call-holds (Receives coming) d h = all-holds laws c.entity.policy d.2.0.pdus old.station.entity new.station.entity d.2.0.heard h
  call-holds Refuses d h = same-holds c.entity.policy (entity_of old) (entity_of new) d.0 h
  call-holds (Restarts first number) d h =
      first-holds laws c.entity.policy (entity_of old).table.sources (entity_of old).table.files (numbered_from number c.entity) (entity_of new) d.0.valid refl d.0.entity

-- ---- runs
abbrev pub HoldsAt : Setup → Side → Pair → Type 0
HoldsAt c s w = Holds (setup_of s c).entity.policy (entity_of (at s w))

module _ (laws : EntityLaws) where
  pub kept-holds : (c : Setup) (s : Side) (old new : Pair) → at s new ≡ at s old → HoldsAt c s old → HoldsAt c s new
  kept-holds c s old new same h = same-holds (setup_of s c).entity.policy (entity_of (at s old)) (entity_of (at s new)) (ap entity_of same) h

  pub happens-holds : (s t : Side) (call : Call) (c : Setup) (old new : Pair) → Happens c (At s call) old new → HoldsAt c t old → HoldsAt c t new
  happens-holds One One call c old new (does, others) h = call-holds laws c.one old.one old.two new.one old.puts new.puts call does h
  happens-holds One Two call c old new (does, others) h = kept-holds c Two old new others h
  happens-holds Two One call c old new (does, others) h = kept-holds c One old new others h
  happens-holds Two Two call c old new (does, others) h = call-holds laws c.two old.two old.one new.two old.puts new.puts call does h

  happen-holds : (events : List Event) (c : Setup) (old new : Pair) (t : Side) → Happen c events old new → HoldsAt c t old → HoldsAt c t new
  happen-holds [] c old new t same h = kept-holds c t old new (ap (at t) same) h
  happen-holds (At s call ∷ events) c old new t (mid, one, rest) h = happen-holds events c mid new t rest (happens-holds s t call c old mid one h)

  module _ (c : Setup) (counts : Side → ℕ) (sources files : Side → FileMap) (events : List Event) (start now : Pair) (joined : AreJoined c)
      (begun : (s : Side) → IsNew (setup_of s c) (counts s) (sources s) (files s) (at s start)) (happen : Happen c events start now) (s : Side) where
    pub holds : HoldsAt c s now
    holds = happen-holds events c start now s happen
        (first-holds laws (setup_of s c).entity.policy (sources s) (files s) (setup_of s c).entity (entity_of (at s start)) (joined.valid s).entity refl (begun s).entity)
