-- How the record of a receiver is restored.
use Rattle.std.proofs.Common.{◌≡◌, ◌≢◌, ℕ, ◌==◌, ◌&&◌, true, false, List, ◌++◌, [], ◌∷◌, inl, inr, Option, Some, None, Result, Ok, Err, IfOk, OnErr, unwrap_or, refl, sym, ap, subst, ◌∙◌}
use Rattle.std.specs.FinMap as map
use Rattle.std.specs.FinSet as set
use Rattle.std.proofs.lemmas.Bool.{false≢true, and_parts, ne_eqb}
use Rattle.std.proofs.lemmas.Bool.Decides.{eqb_tells}
use Rattle.std.proofs.lemmas.List.{append-nil}
use Rattle.cfdp_header.specs.declared.value.TransactionId.{TransactionId}
use Rattle.cfdp_header.specs.Ids.{same_id}
use Rattle.cfdp_directives.specs.declared.pdu.addressing.Addressing.{Addressing}
use Rattle.cfdp_directives.specs.declared.pdu.sums.Checksums.{Checksums}
use Rattle.cfdp_directives.specs.declared.user.limits.Times.{Times}
use Rattle.cfdp_extents.specs.Offsets.{Offsets}
use Rattle.cfdp_timers.specs.Armed.{TimersState}
use Rattle.cfdp_timers.specs.Waits.{waited}
use Rattle.cfdp_timers.specs.declared.effects.Effects.{Effects}
use Rattle.cfdp_timers.proofs.CallerLemmas.{has_room-kept, has_room-new}
use Rattle.cfdp_store.specs.Staged.{OctetMap, staged_for}
use Rattle.cfdp_receiver.specs.declared.restoring.CommittedReceiver.{CommittedReceiver}
use Rattle.cfdp_receiver.specs.declared.state.ReceiverPhase.{ReceiverPhase}
use Rattle.cfdp_receiver.specs.declared.state.ReceiverPhase.TheVariants.{Receiving, Finishing, Closed}
use Rattle.cfdp_receiver.specs.Back.{received_from, received_in}
use Rattle.cfdp_receiver.specs.Does as receiver_does
use Rattle.cfdp_receiver.specs.State.{IsReady, ReceiverState, kind_told}
use Rattle.cfdp_receiver.specs.Summed.{IsAdopted}
use Rattle.cfdp_entity.specs.declared.record.Record.TheVariants as held
use Rattle.cfdp_entity.specs.Desk.{DeskState, Staged}
use Rattle.cfdp_entity.specs.Does.{Opens, Widens}
use Rattle.cfdp_entity.specs.Entity.{AreFree, EntityState, own_id}
use Rattle.cfdp_entity.specs.Restoring.{AddsReceiver, HoldsAdopted, OpensReceiver, counted_as, is_peers_put, receiver_restored, restores_receiver}
use Rattle.cfdp_entity.specs.Seen.{octets_seen}
use Rattle.cfdp_entity.specs.Seen as seens
use Rattle.cfdp_entity.specs.Table.{Entry, TableState, place_of, with_record}
use Rattle.cfdp_entity.proofs.Entries.{receiver-ready}
use Rattle.cfdp_entity.proofs.PutNumbers.{place-push}

-- what is restored is of the same transaction, and is ready if it receives
same-id : (p : ReceiverPhase) (all : Offsets) (sums : Checksums) (c : CommittedReceiver) → (received_in p all sums c).addressing.id ≡ c.addressing.id
same-id Receiving all sums c = refl
same-id Finishing all sums c = refl
same-id Closed all sums c = refl

is-ready : (p : ReceiverPhase) (all : Offsets) (sums : Checksums) (c : CommittedReceiver) (staged : Staged) → c.phase ≡ p → HoldsAdopted c all (staged c.addressing.id) sums → IsReady staged (received_in p all sums c)
is-ready Receiving all sums c staged is adopted = record {
  begun = λ h. (adopted is).begun;
  backed = λ h n g. (adopted is).backed n g;
}
is-ready Finishing all sums c staged is adopted = record {
  begun = λ h. absurd (apart (sym is ∙ h));
  backed = λ h n g. absurd (apart (sym is ∙ h));
}
  where
    apart : Finishing ≡ Receiving → ⊥
    apart e = absurd cc
is-ready Closed all sums c staged is adopted = record {
  begun = λ h. absurd (apart (sym is ∙ h));
  backed = λ h n g. absurd (apart (sym is ∙ h));
}
  where
    apart : Closed ≡ Receiving → ⊥
    apart e = absurd cc

-- the record of a restored receiver
pub opens-receiver : (times : Times) (all : Offsets) (sums : Checksums) (c : CommittedReceiver) (r : ReceiverState) (old new : DeskState) → old.policy.times ≡ times → r ≡ received_from all sums c
    → HoldsAdopted c all (new.staged c.addressing.id) sums → new.effects.told.items ≡ old.effects.told.items
    → new.effects.timers ≡ receiver_does.timers_set times None r (receiver_does.with_room c.addressing.id old.effects).timers
    → new.files ≡ old.files → OpensReceiver c all (held.Receives r) old new
opens-receiver times all sums c r old new timed is adopted tells timers files =
    let id = c.addressing.id in
    let roomier : new.effects.timers.roomy ≡ set.insert old.effects.timers.roomy id = ap (λ (t : TimersState). t.roomy) timers in
    let named : r.addressing.id ≡ id = ap (λ (y : ReceiverState). y.addressing.id) is ∙ same-id c.phase all sums c in
    record {
      sums = sums;
      adopted = adopted;
      opens = record {
        does = record {
          state = ap (λ (y : ReceiverState). seens.Receives y (octets_seen y (staged_for new.staged id))) is;
          tells = tells ∙ sym (append-nil old.effects.told.items);
          timers = timers ∙ (λ i. record old.effects.timers {
            roomy = sym roomier i;
            armed = waited old.effects.timers.time (named i) (receiver_does.waits_of (sym timed i) None (is i)) old.effects.timers.armed;
          });
          files = files;
        };
        ready = receiver-ready new.staged new.sources id r named (subst (IsReady new.staged) (sym is) (is-ready c.phase all sums c new.staged refl adopted));
        has_room = ap (λ s. set.contains s id) roomier ∙ has_room-new old.effects.timers.roomy id;
      };
    }

-- timers have room for the others as before, whether or not there was memory
pub room-answered : {E : Type 0} (times : Times) (id : TransactionId) (answer : Result ReceiverState E) (old new : Effects)
    → IfOk answer (λ r. new.timers ≡ receiver_does.timers_set times None r (receiver_does.with_room id old).timers) → OnErr answer (new ≡ old)
    → (k : TransactionId) → set.contains old.timers.roomy k ≡ true → set.contains new.timers.roomy k ≡ true
room-answered times id (Ok r) old new timers same k h = ap (λ (t : TimersState). set.contains t.roomy k) timers ∙ has_room-kept old.timers.roomy id k h
room-answered times id (Err e) old new timers same k h = ap (λ (f : Effects). set.contains f.timers.roomy k) same ∙ h

-- a record that indicates nothing
pub receiver-added : (c : CommittedReceiver) (all : Offsets) (sums : Checksums) (staged : Option OctetMap) (old new : TableState) → HoldsAdopted c all staged sums
    → new ≡ with_record c.addressing.id (restores_receiver old.policy.times old.files (unwrap_or staged map.empty) all sums c) old → AddsReceiver c all old new
receiver-added c all sums staged old new adopted is = record {
  sums = sums;
  octets = unwrap_or staged map.empty;
  adopted = λ h. record { begun = refl; backed = (adopted h).backed; summed = (adopted h).summed };
  added = is ∙ (λ i. record (receiver_restored (unwrap_or staged map.empty) all sums c old) { told = append-nil old.told i });
}

-- a count of failures is no part of a table
pub widens-counted : (id : TransactionId) (old new : DeskState) → Widens id old new → Widens id old (counted_as new old)
widens-counted id old new w = record { roomier = w.roomier; others = w.others; sources = w.sources; stands = w.stands; policy = w.policy; outbox = w.outbox }

-- a put of the peer leaves the numbers of puts free
pub from-peer : (a : Addressing) (e : EntityState) → is_peers_put a e ≡ true → a.id.source ≡ e.config.peer
from-peer a e own = elim (eqb_tells a.id.source e.config.peer) [
  | inl t ↦ t.1
  | inr t ↦ absurd (false≢true (sym t.0 ∙ (and_parts (a.id.source == e.config.peer) (a.destination == e.config.entity) own).0))
]

pub free-added : (entity next : ℕ) (xs ys : List Entry) (e : Entry) → ys ≡ xs ++ e ∷ [] → e.0.source ≢ entity → AreFree entity next xs → AreFree entity next ys
unfolding AreFree
free-added entity next xs ys e is other free = λ n l.
    let apart : same_id (own_id entity n) e.0 ≡ false = ap (λ b. b && (n == e.0.number)) (ne_eqb entity e.0.source (λ h. other (sym h))) in
    ap (place_of (own_id entity n)) is ∙ place-push xs e (own_id entity n) (free n l) apart

-- what holds whatever comes next
pub on-err : {T E : Type 0} (answer : Result T E) {P : Type 0} → P → OnErr answer P
on-err (Ok t) p = tt
on-err (Err e) p = p
