-- What a station published changes in no event but a delivery to it.
use Rattle.std.proofs.Common.{◌≡◌, ◌⊎◌, ◌&&◌, ℕ, List, [], ◌∷◌, Option, None, Some, true, false, not, refl, ap, ◌∙◌, slice_get, inl, inr}
use Rattle.std.proofs.lemmas.Bool.{cond_both}
use Rattle.aos_frame.specs.declared.config.Lane.{Lane}
use Rattle.cfdp_header.specs.declared.value.TransactionId.{TransactionId}
use Rattle.cfdp_header.specs.Files.{FileMap}
use Rattle.cfdp_directives.specs.declared.user.handler.Handler.{Handler}
use Rattle.cfdp_directives.specs.declared.user.handler.Handler.TheVariants.{Cancel, Suspend, Ignore, Abandon}
use Rattle.cfdp_directives.specs.declared.user.indication.Indication.TheVariants as indication
use Rattle.cfdp_directives.specs.declared.user.limits.Times.{Times}
use Rattle.cfdp_directives.specs.declared.user.policy.Policy.{Policy}
use Rattle.cfdp_directives.specs.Pdu.Codes.{nak_limit, inactivity, cancel_request, suspend_request}
use Rattle.cfdp_directives.specs.User.Policy.{another_try}
use Rattle.cfdp_store.specs.declared.stored.Stored.{Stored}
use Rattle.cfdp_store.specs.declared.stored.Stored.TheVariants as storeds
use Rattle.cfdp_store.specs.Files.{octets_in}
use Rattle.cfdp_store.specs.Staged.{OctetMap}
use Rattle.cfdp_timers.specs.declared.kind.Kind.{Kind}
use Rattle.cfdp_timers.specs.declared.kind.Kind.TheVariants as kind
use Rattle.cfdp_timers.specs.Order.{Timer}
use Rattle.cfdp_sender.specs.declared.due.SenderDue.{SenderDue}
use Rattle.cfdp_sender.specs.Due.{sender_due}
use Rattle.cfdp_sender.specs.State.{SenderState}
use Rattle.cfdp_receiver.specs.declared.due.Due.{Due}
use Rattle.cfdp_receiver.specs.Due.{receiver_due}
use Rattle.cfdp_receiver.specs.State.{ReceiverState, is_receiving}
use Rattle.cfdp_receiver.specs.Steps as receiver
use Rattle.cfdp_entity.specs.declared.request.Request.{Request}
use Rattle.cfdp_entity.specs.declared.request.Request.TheVariants as call
use Rattle.cfdp_entity.specs.Seen.{Seen, Sends, Receives}
use Rattle.cfdp_entity.specs.Steps.{After, calls, expires, receiver_takes, sender_takes, takes}
use Rattle.cfdp_entity.specs.Refusing.{called_in}
use Rattle.cfdp_entity.specs.Entity.{EntityState}
use Rattle.cfdp_entity.specs.Polling.{Turn, Stray, Place, Rests, turn, served}
use Rattle.cfdp_entity.specs.Table.{Entry, TableState, all_expired, at_time, expired, expired_in, place_of, step_of}
use Rattle.cfdp_station.specs.Station.{StationState}
use Rattle.link_sim.specs.declared.event.Applied.{Applied}
use Rattle.link_sim.specs.declared.event.Applied.TheVariants as did
use Rattle.link_sim.specs.declared.event.Event.{Event}
use Rattle.link_sim.specs.declared.event.Event.TheVariants as event
use Rattle.station_pair.specs.declared.refusal.Refusal.TheVariants as refusal
use Rattle.station_pair.specs.declared.side.Side.{Side}
use Rattle.station_pair.specs.declared.side.Side.TheVariants.{One, Two}
use Rattle.station_pair.specs.Stations.{other}
use Rattle.link_sim.specs.World.State.{WorldState, entity_at, published_at, station_at}
use Rattle.link_sim.specs.World.Steps.{Calls, Damages, Delivers, Flushes, Polls, PublishesAt, Puts, Stays, Steps, Strikes}
use Rattle.link_sim.proofs.Events.Keeping.{both}

-- ---- one record
handled-files : (h : Handler) (condition : ℕ) (m : OctetMap) (files : FileMap) (r : ReceiverState) → (receiver.handled h condition m files r).files ≡ files
handled-files Cancel condition m files r = refl
handled-files Suspend condition m files r = refl
handled-files Ignore condition m files r = refl
handled-files Abandon condition m files r = refl

asking-files : (h : Handler) (a : receiver.ReceiverAfter) → (receiver.asking_again h a).files ≡ a.files
asking-files Cancel a = refl
asking-files Suspend a = refl
asking-files Ignore a = refl
asking-files Abandon a = refl

nak-files : (count : Option ℕ) (h : Handler) (m : OctetMap) (files : FileMap) (r : ReceiverState) → (receiver.nak_expires count h m files r).files ≡ files
nak-files (Some count) h m files r = refl
nak-files None h m files r = asking-files h (receiver.handled h nak_limit m files r) ∙ handled-files h nak_limit m files r

finished-files : (count : Option ℕ) (m : OctetMap) (files : FileMap) (r : ReceiverState) → (receiver.finished_expires count m files r).files ≡ files
finished-files (Some count) m files r = refl
finished-files None m files r = refl

by-files : (k : Kind) (policy : Policy) (m : OctetMap) (files : FileMap) (r : ReceiverState) → (receiver.expires_by k policy m files r).files ≡ files
by-files kind.Nak policy m files r = nak-files (another_try r.nak_count policy.limits.nak) policy.handlers.nak m files r
by-files kind.FinishedAck policy m files r = finished-files (another_try r.finished_count policy.limits.finished) m files r
by-files kind.Inactivity policy m files r = handled-files policy.handlers.inactivity inactivity m files r
by-files kind.EofAck policy m files r = refl

expiry-files : (k : Kind) (policy : Policy) (m : OctetMap) (files : FileMap) (r : ReceiverState) → (receiver.expires k policy m files r).files ≡ files
expiry-files k policy m files r =
    cond_both (receiver.waits k r) (record (receiver.tidying (receiver.expires_by k policy m files r)) { anew = receiver.anew_once_expired k }) (receiver.leaving m files r) (λ a. a.files ≡ files)
    (λ e. by-files k policy m files r) (λ e. refl)

expires-files : (policy : Policy) (files : FileMap) (k : Kind) (s : Seen) → (expires policy files k s).files ≡ files
expires-files policy files k (Sends x) = refl
expires-files policy files k (Receives r m) = expiry-files k policy m files r

calls-files : (times : Times) (files : FileMap) (c : Request) (s : Seen) → (calls times files c s).files ≡ files
calls-files times files c (Sends x) = refl
calls-files times files call.Cancel (Receives r m) =
    cond_both (is_receiving r.phase) (receiver.ends (receiver.failed cancel_request) m files r) (receiver.leaving m files r) (λ a. a.files ≡ files) (λ e. refl) (λ e. refl)
calls-files times files call.Suspend (Receives r m) =
    cond_both (is_receiving r.phase && not r.suspended) (receiver.telling (indication.Suspended r.addressing.id suspend_request ∷ []) (receiver.leaving m files (record r { suspended = true })))
    (receiver.leaving m files r)
    (λ a. a.files ≡ files) (λ e. refl) (λ e. refl)
calls-files times files call.Resume (Receives r m) =
    cond_both r.suspended (receiver.telling (indication.Resumed r.addressing.id ∷ []) (receiver.leaving m files (record r { suspended = false; nak_count = 0; finished_count = 0 })))
    (receiver.leaving m files r)
    (λ a. a.files ≡ files) (λ e. refl) (λ e. refl)
calls-files times files (call.Prompt keep_alive) (Receives r m) = refl

sent-files : (stored : Stored) (times : Times) (files : FileMap) (file : List ℕ) (d : Option SenderDue) (x : SenderState) → (sender_takes stored times files file x d).files ≡ files
sent-files stored times files file (Some d) x = refl
sent-files stored times files file None x = refl

taken-files : (times : Times) (files : FileMap) (r : ReceiverState) (m : OctetMap) (d : Option Due) → (receiver_takes times files r m d).files ≡ files
taken-files times files r m (Some d) = refl
taken-files times files r m None = refl

takes-files : (stored : Stored) (times : Times) (sources files : FileMap) (s : Seen) → (takes stored times sources files s).files ≡ files
takes-files stored times sources files (Sends x) = sent-files stored times files (octets_in sources x.source) (sender_due x) x
takes-files stored times sources files (Receives r m) = taken-files times files r m (receiver_due r)

-- ---- a table
step-files : (f : Entry → After) (place : ℕ) (o : Option Entry) (st : TableState) → ((e : Entry) → (f e).files ≡ st.files) → (step_of f place o st).files ≡ st.files
step-files f place None st each = refl
step-files f place (Some e) st each = each e

expired-files : (place : Option ℕ) (k : Kind) (st : TableState) → (expired_in place k st).files ≡ st.files
expired-files None k st = refl
expired-files (Some place) k st = step-files (λ e. expires st.policy st.files k e.1) place (slice_get st.records place) st (λ e. expires-files st.policy st.files k e.1)

all-expired-files : (fired : List Timer) (st : TableState) → (all_expired fired st).files ≡ st.files
unfolding all_expired
all-expired-files [] st = refl
all-expired-files (t ∷ fired) st = all-expired-files fired (expired t st) ∙ expired-files (place_of t.0 st.records) t.1 st

called-files : (c : Request) (place : Option ℕ) (st : TableState) → (called_in c place st).files ≡ st.files
called-files c (Some place) st = step-files (λ e. calls st.policy.times st.files c e.1) place (slice_get st.records place) st (λ e. calls-files st.policy.times st.files c e.1)
called-files c None st = refl

served-files : (stored : Stored) (t : Turn) (e : EntityState) → (served stored t e).table.files ≡ e.table.files
served-files stored (Stray s strays) e = refl
served-files stored (Place place) e =
    step-files (λ x. takes stored e.table.policy.times e.table.sources e.table.files x.1) place (slice_get e.table.records place) e.table
    (λ x. takes-files stored e.table.policy.times e.table.sources e.table.files x.1)
served-files stored Rests e = refl

-- ---- a world
files-of : (a b : EntityState) → a ≡ b → a.table.files ≡ b.table.files
files-of a b same = ap (λ (e : EntityState). e.table.files) same

station-files : (t : Side) (old new : WorldState) → station_at t new ≡ station_at t old → published_at t new ≡ published_at t old
station-files t old new same = ap (λ (s : StationState). s.entity.state.table.files) same

-- what one station publishes, and what the other does
by-side : (s t : Side) (old new : WorldState) → published_at s new ≡ published_at s old → station_at (other s) new ≡ station_at (other s) old → published_at t new ≡ published_at t old
by-side One One old new own spared = own
by-side One Two old new own spared = station-files Two old new spared
by-side Two Two old new own spared = own
by-side Two One old new own spared = station-files One old new spared

pub stays-files : (s t : Side) (old new : WorldState) → Stays s old new → published_at t new ≡ published_at t old
stays-files s t old new k = by-side s t old new (files-of (entity_at s new) (entity_at s old) k.entity) k.links.spares.station

same-files : (t : Side) (old new : WorldState) → new ≡ old → published_at t new ≡ published_at t old
same-files t old new same = ap (published_at t) same

module _ (t : Side) (old new : WorldState) where
  put-files : (d : Applied) (s : Side) (source destination : List ℕ) → Puts d s source destination old new → published_at t new ≡ published_at t old
  put-files did.Applied s source destination h = by-side s t old new (files-of (entity_at s new) _ h.accepts.opened) h.links.spares.station
  put-files did.Nothing s source destination h = absurd h
  put-files (did.Refused (refusal.Put by)) s source destination h = stays-files s t old new h.stays
  put-files (did.Refused (refusal.Call by)) s source destination h = absurd h
  put-files (did.Refused refusal.LossRunTooLong) s source destination h = absurd h
  put-files (did.Refused refusal.NotDamaged) s source destination h = absurd h

  call-files : (d : Applied) (s : Side) (c : Request) (id : TransactionId) → Calls d s c id old new → published_at t new ≡ published_at t old
  call-files did.Applied s c id h =
      by-side s t old new (files-of (entity_at s new) _ h.called.called ∙ called-files c (place_of id (entity_at s old).table.records) (entity_at s old).table) h.links.spares.station
  call-files did.Nothing s c id h = absurd h
  call-files (did.Refused (refusal.Put by)) s c id h = absurd h
  call-files (did.Refused (refusal.Call by)) s c id h = same-files t old new h.same
  call-files (did.Refused refusal.LossRunTooLong) s c id h = absurd h
  call-files (did.Refused refusal.NotDamaged) s c id h = absurd h

  served-at : (s : Side) (stored : Stored) → entity_at s new ≡ served stored (turn (entity_at s old)) (entity_at s old) → published_at s new ≡ published_at s old
  served-at s stored is = files-of (entity_at s new) _ is ∙ served-files stored (turn (entity_at s old)) (entity_at s old)

  poll-files : (d : Applied) (s : Side) → Polls d s old new → published_at t new ≡ published_at t old
  poll-files did.Applied s (inl h) = by-side s t old new (served-at s storeds.Done h.served) h.marks.spares.station
  poll-files did.Applied s (inr h) = by-side s t old new (served-at s storeds.Refused h.served) h.links.spares.station
  poll-files did.Nothing s h = same-files t old new h.1
  poll-files (did.Refused by) s h = absurd h

  flush-files : (d : Applied) (s : Side) → Flushes d s old new → published_at t new ≡ published_at t old
  flush-files did.Applied s h = by-side s t old new (ap (λ e. e.state.table.files) h.0.entity) h.0.marks.spares.station
  flush-files did.Nothing s h = same-files t old new h.1
  flush-files (did.Refused by) s h = absurd h

  -- the station that sent the frame
  from-files : (s : Side) (l : Lane) → station_at s new ≡ station_at s old → PublishesAt t (event.Deliver s l) ⊎ (published_at t new ≡ published_at t old)
  from-files = by-sides t
    where
      by-sides : (t s : Side) (l : Lane) → station_at s new ≡ station_at s old → PublishesAt t (event.Deliver s l) ⊎ (published_at t new ≡ published_at t old)
      by-sides One One l same = inr (station-files One old new same)
      by-sides One Two l same = inl refl
      by-sides Two One l same = inl refl
      by-sides Two Two l same = inr (station-files Two old new same)

  deliver-files : (d : Applied) (s : Side) (l : Lane) → Delivers d s l old new → PublishesAt t (event.Deliver s l) ⊎ (published_at t new ≡ published_at t old)
  deliver-files did.Applied s l h = from-files s l h.station
  deliver-files did.Nothing s l h = inr (same-files t old new h.1)
  deliver-files (did.Refused by) s l h = absurd h

  strike-files : (d : Applied) (s : Side) (l : Lane) → Strikes d s l old new → published_at t new ≡ published_at t old
  strike-files did.Applied s l h = by-side s t old new (station-files s old new h.station) h.spares.station
  strike-files did.Nothing s l h = same-files t old new h.1
  strike-files (did.Refused (refusal.Put by)) s l h = absurd h
  strike-files (did.Refused (refusal.Call by)) s l h = absurd h
  strike-files (did.Refused refusal.LossRunTooLong) s l h = same-files t old new h.same
  strike-files (did.Refused refusal.NotDamaged) s l h = absurd h

  damage-files : (d : Applied) (s : Side) (l : Lane) (octets : List ℕ) → Damages d s l octets old new → published_at t new ≡ published_at t old
  damage-files did.Applied s l octets h =
      both (λ u. published_at u new ≡ published_at u old) s (station-files s old new h.loses.station) (ap (λ e. e.state.table.files) h.loses.entity) t
  damage-files did.Nothing s l octets h = same-files t old new h.1
  damage-files (did.Refused (refusal.Put by)) s l octets h = absurd h
  damage-files (did.Refused (refusal.Call by)) s l octets h = absurd h
  damage-files (did.Refused refusal.LossRunTooLong) s l octets h = same-files t old new h.same
  damage-files (did.Refused refusal.NotDamaged) s l octets h = same-files t old new h.same

  pub event-files : (e : Event) (d : Applied) → Steps e d old new → PublishesAt t e ⊎ (published_at t new ≡ published_at t old)
  event-files (event.Put s source destination) d h = inr (put-files d s source destination h)
  event-files (event.Cancel s id) d h = inr (call-files d s call.Cancel id h)
  event-files (event.Suspend s id) d h = inr (call-files d s call.Suspend id h)
  event-files (event.Resume s id) d h = inr (call-files d s call.Resume id h)
  event-files (event.Prompt s id keep_alive) d h = inr (call-files d s (call.Prompt keep_alive) id h)
  event-files (event.Poll s) d h = inr (poll-files d s h)
  event-files (event.Flush s) d h = inr (flush-files d s h)
  event-files (event.Tick s now) did.Applied h = inr (by-side s t old new tick-files h.links.spares.station)
    where
      tick-files : published_at s new ≡ published_at s old
      tick-files = ap (λ (st : TableState). st.files) h.ticked.ticked ∙ all-expired-files h.ticked.fired (at_time now (entity_at s old).table)
  event-files (event.Tick s now) did.Nothing h = absurd h
  event-files (event.Tick s now) (did.Refused by) h = absurd h
  event-files (event.Deliver s l) d h = deliver-files d s l h
  event-files (event.Strike s l) d h = inr (strike-files d s l h)
  event-files (event.Damage s l octets) d h = inr (damage-files d s l octets h)
