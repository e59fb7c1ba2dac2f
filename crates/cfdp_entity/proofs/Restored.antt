-- How the record of a sender is restored.
use Rattle.std.proofs.Common.{◌≡◌, ◌≢◌, ℕ, ◌<◌, ◌≤◌, ◌==◌, ◌&&◌, nat_lt, Bool, true, false, List, ◌++◌, [], ◌∷◌, map, Option, None, Result, Ok, Err, IfOk, OnOk, OnErr, refl, sym, ap, subst, ◌∙◌, arith}
use Rattle.std.specs.FinSet as set
use Rattle.std.proofs.lemmas.Bool.{false≢true, ltb-true, ne_eqb}
use Rattle.std.proofs.lemmas.List.{append-nil}
use Rattle.cfdp_header.specs.declared.value.TransactionId.{TransactionId}
use Rattle.cfdp_header.specs.Files.{FileMap}
use Rattle.cfdp_header.specs.Ids.{same_id}
use Rattle.cfdp_directives.specs.declared.pdu.sums.Checksums.{Checksums}
use Rattle.cfdp_directives.specs.declared.user.limits.Times.{Times}
use Rattle.cfdp_timers.specs.Armed.{TimersState}
use Rattle.cfdp_timers.specs.Waits.{waited}
use Rattle.cfdp_timers.specs.declared.effects.Effects.{Effects}
use Rattle.cfdp_timers.proofs.CallerLemmas.{has_room-kept, has_room-new}
use Rattle.cfdp_sender.specs.declared.phase.SenderPhase.{SenderPhase}
use Rattle.cfdp_sender.specs.declared.phase.SenderPhase.TheVariants.{Sending, Cancelling, Closed}
use Rattle.cfdp_sender.specs.declared.restoring.CommittedSender.{CommittedSender}
use Rattle.cfdp_sender.specs.Back.{sent_from, sent_in}
use Rattle.cfdp_sender.specs.Does.{HasFileWhile, HasOwnFile}
use Rattle.cfdp_sender.specs.Does as sender_does
use Rattle.cfdp_sender.specs.State.{SenderState}
use Rattle.cfdp_entity.specs.Whole.{IsWhole, entries_seen}
use Rattle.cfdp_store.specs.Staged.{OctetMap}
use Rattle.cfdp_store.specs.Rereading.{Rereads}
use Rattle.cfdp_entity.specs.declared.record.Record.{Record}
use Rattle.cfdp_entity.specs.declared.record.Record.TheVariants as held
use Rattle.cfdp_entity.specs.Desk.{DeskState, Staged}
use Rattle.cfdp_entity.specs.Does.{Opens}
use Rattle.cfdp_directives.specs.declared.pdu.addressing.Addressing.{Addressing}
use Rattle.cfdp_entity.specs.Entity.{AreFree, EntityState, own_id}
use Rattle.cfdp_entity.specs.Roomy.{Becomes, Roomy}
use Rattle.cfdp_entity.specs.Restoring.{entry_kept, is_own_put, kept_of, record_kept, restores_sender, sender_restored, with_sender}
use Rattle.cfdp_entity.specs.Seen.{seen}
use Rattle.cfdp_entity.specs.Seen as seens
use Rattle.cfdp_entity.specs.Table.{Entry, TableState, place_of, with_record}
use Rattle.cfdp_entity.proofs.Entries.{sender-ready}
use Rattle.cfdp_entity.proofs.Lent.{whole-lent}
use Rattle.cfdp_entity.proofs.PutNumbers.{place-push}
use Rattle.cfdp_entity.proofs.Openings.{roomed}

-- what is restored is of the same transaction, and of the same file if it is sent
same-id : (p : SenderPhase) (sent : ℕ) (sums : Checksums) (c : CommittedSender) → (sent_in p sent sums c).addressing.id ≡ c.transfer.addressing.id
same-id Sending sent sums c = refl
same-id Cancelling sent sums c = refl
same-id Closed sent sums c = refl

own-file : (files : FileMap) (p : SenderPhase) (sent : ℕ) (sums : Checksums) (c : CommittedSender) → c.phase ≡ p → HasFileWhile c.phase files c.transfer.source c.transfer.size →
    HasOwnFile files (sent_in p sent sums c)
own-file files Sending sent sums c is has = has
own-file files Cancelling sent sums c is has = has
own-file files Closed sent sums c is has = has

-- the record of a restored sender
pub opens-sender : (times : Times) (sent : ℕ) (sums : Checksums) (c : CommittedSender) (x : SenderState) (old new : DeskState) → x ≡ sent_from sent sums c → new.effects.told.items ≡ old.effects.told.items
    → new.effects.timers ≡ sender_does.timers_set times None x (record old.effects.timers { roomy = set.insert old.effects.timers.roomy c.transfer.addressing.id })
    → new.files ≡ old.files → HasFileWhile c.phase new.sources c.transfer.source c.transfer.size
    → Opens c.transfer.addressing.id (restores_sender times old.files sent sums c) (held.Sends x) old new
opens-sender times sent sums c x old new is tells timers files file =
    let id = c.transfer.addressing.id in
    let roomier : new.effects.timers.roomy ≡ set.insert old.effects.timers.roomy id = ap (λ (t : TimersState). t.roomy) timers in
    let named : x.addressing.id ≡ id = ap (λ (y : SenderState). y.addressing.id) is ∙ same-id c.phase sent sums c in
    record {
      does = record {
        state = ap seens.Sends is;
        tells = tells ∙ sym (append-nil old.effects.told.items);
        timers = timers ∙ (λ i. record old.effects.timers {
          roomy = sym roomier i;
          armed = waited old.effects.timers.time (named i) (sender_does.waits_of times None (is i)) old.effects.timers.armed;
        });
        files = files;
      };
      ready = sender-ready new.staged new.sources id x named (subst (λ (y : SenderState). HasOwnFile new.sources y) (sym is) (own-file new.sources c.phase sent sums c refl file));
      has_room = ap (λ s. set.contains s id) roomier ∙ has_room-new old.effects.timers.roomy id;
    }

-- timers have room for the others as before, whether or not there was memory
pub roomier-answered : {E : Type 0} (times : Times) (id : TransactionId) (answer : Result SenderState E) (old new : Effects)
    → IfOk answer (λ x. new.timers ≡ sender_does.timers_set times None x (record old.timers { roomy = set.insert old.timers.roomy id })) → OnErr answer (new ≡ old)
    → (k : TransactionId) → set.contains old.timers.roomy k ≡ true → set.contains new.timers.roomy k ≡ true
roomier-answered times id (Ok x) old new timers same k h = ap (λ (t : TimersState). set.contains t.roomy k) timers ∙ has_room-kept old.timers.roomy id k h
roomier-answered times id (Err e) old new timers same k h = ap (λ (f : Effects). set.contains f.timers.roomy k) same ∙ h

-- a record that indicates nothing
pub restored-is : (sent : ℕ) (sums : Checksums) (c : CommittedSender) (st : TableState) → with_record c.transfer.addressing.id (restores_sender st.policy.times st.files sent sums c) st
    ≡ sender_restored sent sums c st
restored-is sent sums c st = λ i. record (sender_restored sent sums c st) { told = append-nil st.told i }

-- a put with a number that was used leaves the next ones free
pub free-more : (entity next : ℕ) (xs ys : List Entry) (e : Entry) → ys ≡ xs ++ e ∷ [] → e.0.number < next → AreFree entity next xs → AreFree entity next ys
unfolding AreFree
free-more entity next xs ys e is low free = λ n l.
    let apart : same_id (own_id entity n) e.0 ≡ false = differs n (λ h. absurd (omega (arith, h, l, low))) in
    ap (place_of (own_id entity n)) is ∙ place-push xs e (own_id entity n) (free n l) apart
  where
    differs : (n : ℕ) → n ≢ e.0.number → same_id (own_id entity n) e.0 ≡ false
    differs n apart = elim (entity == e.0.source) as (λ b. (b && (n == e.0.number)) ≡ false) [
      | true ↦ ne_eqb n e.0.number apart
      | false ↦ refl
    ]

-- a file was read: all records stay ready
pub whole-read : (desk : DeskState) (stands : Bool) (files : FileMap) (failures : ℕ) (es : List (TransactionId × Record)) (flags : List Bool) → Rereads desk.stands stands desk.sources files
    → IsWhole desk es flags → IsWhole (record desk { stands = stands; sources = files; outbox_failures = failures }) es flags
whole-read desk stands files failures es flags shows whole =
    let lent = whole-lent true desk (record desk { stands = stands; sources = files }) es flags shows whole in
    record { distinct = lent.distinct; ready = lent.ready; flagged = lent.flagged; few = lent.few }

-- so does a sender that is restored, whether or not there was memory
pub free-answered : {T E : Type 0} (answer : Result T E) (entity next : ℕ) (old new : Roomy) (id : TransactionId) (x : SenderState) → OnOk answer (Becomes (with_sender id x old.state) old new)
    → OnErr answer (Becomes old.state old new) → id.number < next → AreFree entity next old.state.records → AreFree entity next new.state.records
free-answered (Ok t) entity next old new id x restored err low free =
    free-more entity next old.state.records new.state.records (id, seens.Sends x) (ap (λ (t : TableState). t.records) restored.state) low free
free-answered (Err e) entity next old new id x restored err low free = subst (λ (t : TableState). AreFree entity next t.records) (sym err.state) free

-- a put of this entity has a number that was used
pub own-number : (a : Addressing) (e : EntityState) → is_own_put a e ≡ true → a.id.number < e.next
own-number a e own = ltb-true a.id.number e.next (second (a.id.source == e.config.entity) (nat_lt a.id.number e.next) (a.destination == e.config.peer) own)
  where
    second : (x y z : Bool) → (x && y && z) ≡ true → y ≡ true
    second true true z h = refl
    second true false z h = absurd (false≢true h)
    second false y z h = absurd (false≢true h)

-- what holds whatever comes next
pub on-ok : {T E : Type 0} (answer : Result T E) {P : Type 0} → P → OnOk answer P
on-ok (Ok t) p = p
on-ok (Err e) p = tt

-- ---- what a journal keeps
kept_staged : (staged : Option OctetMap) (r : Record) → kept_of (seen None r) ≡ kept_of (seen staged r)
kept_staged staged (held.Sends x) = refl
kept_staged staged (held.Receives r) = refl

pub kept-seen : (staged : Staged) (es : List (TransactionId × Record)) → map record_kept es ≡ map entry_kept (entries_seen staged es)
unfolding entries_seen
kept-seen staged [] = refl
kept-seen staged (e ∷ es) = λ i. (e.0, kept_staged (staged e.0) e.1 i) ∷ kept-seen staged es i
