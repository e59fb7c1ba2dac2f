-- What is known of a transaction stays so, whatever happens to the entities and to what is on its
-- way between them.
use Rattle.std.proofs.Common.{◌≡◌, ℕ, zero, suc, ◌+◌, ◌<◌, ◌≤◌, ◌^◌, ◌==◌, ◌&&◌, ◌||◌, not, cond, Bool, true, false, List, [], ◌∷◌, ◌++◌, length, slice_get, Option, Some, None, ◌⊎◌, inl, inr, refl, sym, ap, subst, ◌∙◌, arith, length-append}
use Rattle.std.specs.FinSet as set
use Rattle.std.specs.Prelude.{IsSome, nat_lt, nat_le, if◌then◌else◌}
use Rattle.std.specs.FinMap.{empty, get}
use Rattle.std.specs.Option.{option_or}
use Rattle.std.proofs.lemmas.Bool.{eq-eqb, leb-false, ne_eqb}
use Rattle.cfdp_header.specs.declared.value.Direction.{Direction}
use Rattle.cfdp_header.specs.declared.value.Direction.TheVariants.{TowardReceiver, TowardSender}
use Rattle.cfdp_header.specs.declared.value.Header.{Header}
use Rattle.cfdp_header.specs.Header.{direction_bit}
use Rattle.cfdp_header.specs.declared.value.TransactionId.{TransactionId}
use Rattle.cfdp_header.specs.Files.{FileMap}
use Rattle.cfdp_header.specs.Ids.{same_id}
use Rattle.cfdp_directives.specs.declared.pdu.addressing.Addressing.{Addressing}
use Rattle.cfdp_directives.specs.Pdu.Addressing.{header_of, addressing_of as addressing_in}
use Rattle.cfdp_directives.specs.Pdu.Codes.{is_large}
use Rattle.cfdp_directives.specs.Pdu.Content.{Content}
use Rattle.cfdp_directives.specs.Pdu.Direction.{direction_of, goes_to, is_for}
use Rattle.cfdp_directives.specs.User.FileName.{is_file_name}
use Rattle.cfdp_directives.specs.Pdu.Grammar.{SpellsPdu}
use Rattle.cfdp_directives.specs.User.Put.{Put}
use Rattle.cfdp_store.specs.declared.stored.Stored.{Stored}
use Rattle.cfdp_store.specs.declared.stored.Stored.TheVariants.{Done, Refused}
use Rattle.cfdp_store.specs.Files.{octets_in}
use Rattle.cfdp_timers.specs.Order.{Timer}
use Rattle.cfdp_sender.specs.declared.due.SenderDue.{SenderDue}
use Rattle.cfdp_sender.specs.declared.due.SenderDue.TheVariants as sender_dues
use Rattle.cfdp_sender.specs.declared.phase.SenderPhase.TheVariants as sending
use Rattle.cfdp_sender.specs.declared.transfer.Transfer.{Transfer}
use Rattle.cfdp_sender.specs.Due.{sender_due, sender_says, pdu_says, eof_says, carried}
use Rattle.cfdp_sender.specs.State.{SenderState, opened_sender}
use Rattle.cfdp_receiver.specs.declared.due.Due.{Due}
use Rattle.cfdp_receiver.specs.declared.due.Due.TheVariants as receiver_dues
use Rattle.cfdp_receiver.specs.Due.{receiver_due, receiver_says}
use Rattle.cfdp_receiver.specs.State.{ReceiverState, opened_receiver}
use Rattle.cfdp_entity.specs.declared.request.Request.{Request}
use Rattle.cfdp_entity.specs.declared.config.EntityConfig.{EntityConfig}
use Rattle.cfdp_entity.specs.declared.error.PutError.{PutError}
use Rattle.cfdp_entity.specs.declared.error.PutError.TheVariants as put_errors
use Rattle.cfdp_entity.specs.Refusing.{called_in}
use Rattle.cfdp_entity.specs.Requests.{IsCalled, after_request}
use Rattle.cfdp_entity.specs.Entity.{EntityState, Counted, with_table}
use Rattle.cfdp_entity.specs.Hearing.{names_no_file}
use Rattle.cfdp_entity.specs.History.{GoesOn, KeepsRecords, Leads, TableStep, Hears, Calls, Takes, MayHappen, table_step}
use Rattle.cfdp_entity.specs.Opening.{opens, opens_by, closing}
use Rattle.cfdp_entity.specs.Polling.{Place, turn, record_turn, turn_octets, served}
use Rattle.cfdp_entity.specs.Putting.{Accepts, next_id, next_transfer, asked, are_names, put_refusal}
use Rattle.cfdp_entity.specs.Seen.{Seen, Sends, Receives, addressing_of, large_of, due_content, due_octets, sender_content, receiver_content}
use Rattle.cfdp_entity.specs.Sound.{IsSound, FindsMore, SpellsDue, SpellsEntry, SpellsTurn}
use Rattle.cfdp_entity.specs.Steps.{After, hears, expires, calls, takes}
use Rattle.cfdp_entity.specs.Sending.{SendsItsPut}
use Rattle.cfdp_entity.specs.Truth.{KnowsTruth}
use Rattle.cfdp_entity.specs.Table.{Entry, TableState, Ticks, place_of, record_of, next_due, step_at, step_of, expired, expired_in, all_expired, octets_due, at_time, heard_at, opened_by, most_records}
use Rattle.mpdu.specs.Parts.{IsPartOf}
use Rattle.cfdp_entity.proofs.CallerLemmas.{push-own}
use Rattle.cfdp_entity.proofs.Entries.{length_set}
use Rattle.cfdp_entity.proofs.Histories.{keeps-all, keeps-push, no-record, leads-one, leads-spoiled, leads-ticked}
use Rattle.link_sim.specs.Between.{Pdu}
use Rattle.link_sim.specs.Exchange.{AllTrue}
use Rattle.link_sim.specs.Known.{IsDirected, IsSending, IsWithPeer, IsKnown, AreKnown, ArePeers, AddsPut}
use Rattle.link_sim.proofs.EveryPut.Pdus.{HearsOne, HearsEach, all-lost}
use Rattle.link_sim.proofs.EveryPut.Routes.{StepsRecord, OpensRecord, DropsNew, SpoilsRecord, HeardSo, and-parts, directed-peer, heard-so}

-- ---- lists of PDUs
pub all-append : {X : Type 0} (Is : X → Type 0) (xs ys : List X) → AllTrue Is xs → AllTrue Is ys → AllTrue Is (xs ++ ys)
all-append Is [] ys a b = b
all-append Is (x ∷ xs) ys a b = (a.0, all-append Is xs ys a.1 b)

pub all-front : {X : Type 0} (Is : X → Type 0) (xs ys : List X) → AllTrue Is (xs ++ ys) → AllTrue Is xs
all-front Is [] ys a = tt
all-front Is (x ∷ xs) ys a = (a.0, all-front Is xs ys a.1)

pub all-behind : {X : Type 0} (Is : X → Type 0) (xs ys : List X) → AllTrue Is (xs ++ ys) → AllTrue Is ys
all-behind Is [] ys a = a
all-behind Is (x ∷ xs) ys a = all-behind Is xs ys a.1

pub all-without : {X : Type 0} (Is : X → Type 0) (xs : List X) (x : X) (ys : List X) → AllTrue Is (xs ++ x ∷ ys) → AllTrue Is (xs ++ ys)
all-without Is [] x ys a = a.1
all-without Is (y ∷ xs) x ys a = (a.0, all-without Is xs x ys a.1)

pub all-so : {X : Type 0} (Is Are : X → Type 0) → ((x : X) → Is x → Are x) → (xs : List X) → AllTrue Is xs → AllTrue Are xs
all-so Is Are so [] a = tt
all-so Is Are so (x ∷ xs) a = (so x a.0, all-so Is Are so xs a.1)

-- ---- records that went on
-- Each record went on, and there are no more of them.
pub record KeepsAll (xs ys : List Entry) : Type 0 where
  pub kept : KeepsRecords xs ys
  pub long : length ys ≡ length xs

-- each of these records is one with the peer
abbrev pub AllWithPeer : EntityConfig → List Entry → Type 0
AllWithPeer c xs = (place : ℕ) (e : Entry) → slice_get xs place ≡ Some e → IsWithPeer c e.1

pub keeps-none : (xs : List Entry) → KeepsAll xs xs
keeps-none xs = record { kept = keeps-all xs; long = refl }

still-sends : (s t : Seen) → GoesOn s t → IsSending (Some s) → IsSending (Some t)
still-sends (Sends x) (Sends y) g h = tt
still-sends (Sends x) (Receives r m) g h = absurd g
still-sends (Receives r m) t g h = absurd h

nothing-there : (place : ℕ) (e : Entry) → slice_get [] place ≡ Some e → ⊥
nothing-there place e at = absurd cc

pub sending-kept : (id : TransactionId) (xs ys : List Entry) → KeepsRecords xs ys → IsSending (record_of id xs) → IsSending (record_of id ys)
sending-kept id [] ys k h = absurd h
sending-kept id (x ∷ xs) [] k h = let one = k 0 x refl in absurd (nothing-there 0 (x.0, one.0) one.1.0)
sending-kept id (x ∷ xs) (y ∷ ys) k h =
    let one = k 0 x refl in
    let there : Some y ≡ Some (x.0, one.0) = one.1.0 in
    let is : y ≡ (x.0, one.0) = cc in
    let rest : IsSending (record_of id xs) → IsSending (record_of id ys) = sending-kept id xs ys (λ p e at. k (suc p) e at) in
    subst (λ (z : Entry). IsSending (record_of id (z ∷ ys))) (sym is)
    (elim (same_id id x.0) as (λ b. IsSending (cond b (Some x.1) (record_of id xs)) → IsSending (cond b (Some one.0) (record_of id ys))) [
      | true ↦ still-sends x.1 one.0 one.1.1
      | false ↦ rest
    ] h)

still-with-peer : (c : EntityConfig) (s t : Seen) → GoesOn s t → IsWithPeer c s → IsWithPeer c t
still-with-peer c (Sends x) (Sends y) g h =
    (ap (λ (t : Transfer). t.addressing.destination) g.0 ∙ h.0, ap (λ (t : Transfer). (length t.source == 0) || (length t.destination == 0)) g.0 ∙ h.1)
still-with-peer c (Receives r m) (Receives s n) g h = (ap (λ (a : Addressing). a.id.source) g.0 ∙ h.0, ap (λ (a : Addressing). a.destination) g.0 ∙ h.1)
still-with-peer c (Sends x) (Receives s n) g h = absurd g
still-with-peer c (Receives r m) (Sends y) g h = absurd g

was-there : (xs ys : List Entry) (place : ℕ) (e : Entry) → length ys ≡ length xs → slice_get ys place ≡ Some e → (d : Entry) × (slice_get xs place ≡ Some d)
was-there xs [] place e long at = absurd cc
was-there [] (y ∷ ys) place e long at = absurd (omega (arith, long))
was-there (x ∷ xs) (y ∷ ys) zero e long at = (x, refl)
was-there (x ∷ xs) (y ∷ ys) (suc n) e long at = was-there xs ys n e (omega (arith, long)) at

pub peers-kept : (c : EntityConfig) (xs ys : List Entry) → KeepsAll xs ys → AllWithPeer c xs → AllWithPeer c ys
peers-kept c xs ys k all place e at =
    let d = was-there xs ys place e k.long at in
    let one = k.kept place d.0 d.1 in
    let there : Some (d.0.0, one.0) ≡ Some e = sym one.1.0 ∙ at in
    let is : (d.0.0, one.0) ≡ e = cc in
    subst (λ (z : Entry). IsWithPeer c z.1) is (still-with-peer c d.0.1 one.0 one.1.1 (all place d.0 d.1))

-- a record more
peers-push : (c : EntityConfig) (xs : List Entry) (id : TransactionId) (s : Seen) → AllWithPeer c xs → IsWithPeer c s → AllWithPeer c (xs ++ (id, s) ∷ [])
peers-push c [] id s all last zero e at = let is : (id, s) ≡ e = cc in subst (λ (z : Entry). IsWithPeer c z.1) is last
peers-push c [] id s all last (suc n) e at = absurd cc
peers-push c (x ∷ xs) id s all last zero e at = all zero e at
peers-push c (x ∷ xs) id s all last (suc n) e at = peers-push c xs id s (λ p d h. all (suc p) d h) last n e at

-- ---- steps of a table that open no record
step-long : (f : Entry → After) (place : ℕ) (st : TableState) → length (step_at f place st).records ≡ length st.records
step-long f place st = by (slice_get st.records place)
  where
    by : (o : Option Entry) → length (step_of f place o st).records ≡ length st.records
    by None = refl
    by (Some e) = length_set st.records place (f e).seen

expired-long : (t : Timer) (st : TableState) → length (expired t st).records ≡ length st.records
expired-long t st = by (place_of t.0 st.records)
  where
    by : (o : Option ℕ) → length (expired_in o t.1 st).records ≡ length st.records
    by None = refl
    by (Some place) = step-long (λ e. expires st.policy st.files t.1 e.1) place st

fired-long : (timers : List Timer) (st : TableState) → length (all_expired timers st).records ≡ length st.records
unfolding all_expired
fired-long [] st = refl
fired-long (t ∷ timers) st = fired-long timers (expired t st) ∙ expired-long t st

-- ---- the other entity, and what is on its way to this one
pub directed-so : (put_of puts_then : TransactionId → Option Put) (old new : EntityState) → FindsMore put_of puts_then → new.config ≡ old.config → (pdus : List Pdu) →
    AllTrue (IsDirected put_of old) pdus → AllTrue (IsDirected puts_then new) pdus
directed-so put_of puts_then old new more same pdus all = all-so (IsDirected put_of old) (IsDirected puts_then new) one pdus all
  where
    some : (id : TransactionId) (o : Option Put) → put_of id ≡ o → IsSome o → IsSome (puts_then id)
    some id None is h = absurd cc
    some id (Some put) is h = subst IsSome (sym (more id put is)) refl

    -- a put that is found now was found before
    was : (id : TransactionId) (o : Option Put) (put : Put) → put_of id ≡ o → IsSome o → puts_then id ≡ Some put → put_of id ≡ Some put
    was id None put is h found = absurd cc
    was id (Some before) put is h found = is ∙ sym (more id before is) ∙ found

    one : (p : Pdu) → IsDirected put_of old p → IsDirected puts_then new p
    one p d = record {
      fits = d.fits;
      addressed = ap (λ (c : EntityConfig). is_for c.entity c.peer p.0) same ∙ d.addressed;
      named = d.named;
      of_put = some p.0.id (put_of p.0.id) refl d.of_put;
      flag = λ down put found. d.flag down put (was p.0.id (put_of p.0.id) put refl d.of_put found);
    }

-- ---- an entity that went on
-- What is known stays if an entity keeps its configuration and its strays, its records go on, and
-- none is released.
pub record Continues (old new : EntityState) : Type 0 where
  pub config : new.config ≡ old.config
  pub strays : new.strays ≡ old.strays
  pub forgotten : new.forgotten ≡ old.forgotten
  pub records : KeepsAll old.table.records new.table.records

pub continues-none : (e : EntityState) → Continues e e
continues-none e = record { config = refl; strays = refl; forgotten = refl; records = keeps-none e.table.records }

pub continues-to : (old new : EntityState) (t : TableState) → new ≡ with_table old t → KeepsAll old.table.records t.records → Continues old new
continues-to old new t is k = subst (Continues old) (sym is) (record { config = refl; strays = refl; forgotten = refl; records = k })

module _ (put_of : TransactionId → Option Put) (old new theirs : EntityState) (forth back : List Pdu) where
  pub known-on : Continues old new → IsKnown put_of old theirs forth → IsKnown put_of new theirs forth
  known-on c k = record {
    sends = λ id some own. sending-kept id old.table.records new.table.records c.records.kept (k.sends id some (own ∙ ap (λ (g : EntityConfig). g.entity) c.config));
    with_peer = subst (λ g. AllWithPeer g new.table.records) (sym c.config) (peers-kept old.config old.table.records new.table.records c.records k.with_peer);
    few = subst (λ n. n ≤ most_records) (sym c.records.long) k.few;
    none_stray = c.strays ∙ k.none_stray;
    none_forgotten = c.forgotten ∙ k.none_forgotten;
    directed = k.directed;
  }

  pub known-there : new.config ≡ old.config → IsKnown put_of theirs old back → IsKnown put_of theirs new back
  known-there same k = record {
    sends = k.sends;
    with_peer = k.with_peer;
    few = k.few;
    none_stray = k.none_stray;
    none_forgotten = k.none_forgotten;
    directed = directed-so put_of put_of old new (λ id put is. is) same back k.directed;
  }

  pub both-on : Continues old new → AreKnown put_of old theirs forth back → AreKnown put_of new theirs forth back
  both-on c k = (known-on c k.0, known-there c.config k.1)

-- ---- what is on its way
module _ (put_of : TransactionId → Option Put) (mine theirs : EntityState) where
  pub known-with : (forth pdus : List Pdu) → AllTrue (IsDirected put_of theirs) pdus → IsKnown put_of mine theirs forth → IsKnown put_of mine theirs pdus
  known-with forth pdus d k = record { sends = k.sends; with_peer = k.with_peer; few = k.few; none_stray = k.none_stray; none_forgotten = k.none_forgotten; directed = d }

  -- one is lost, or a front of them is, or all but a part of a front
  pub lost-known : (before : List Pdu) (p : Pdu) (after back : List Pdu) → AreKnown put_of mine theirs (before ++ p ∷ after) back → AreKnown put_of mine theirs (before ++ after) back
  lost-known before p after back k = (known-with (before ++ p ∷ after) (before ++ after) (all-without (IsDirected put_of theirs) before p after k.0.directed) k.0, k.1)

  pub front-known : (before after back : List Pdu) → AreKnown put_of mine theirs (before ++ after) back → AreKnown put_of mine theirs after back
  front-known before after back k = (known-with (before ++ after) after (all-behind (IsDirected put_of theirs) before after k.0.directed) k.0, k.1)

  pub part-known : (part pdus rest back : List Pdu) → IsPartOf part pdus → AreKnown put_of mine theirs (pdus ++ rest) back → AreKnown put_of mine theirs (part ++ rest) back
  part-known part pdus rest back is k = all-lost (λ l. AreKnown put_of mine theirs l back) (λ before p after. lost-known before p after back) part pdus rest is k

  -- at first
  pub first-known : ((id : TransactionId) → IsSome (put_of id) → ⊥) → mine.table.records ≡ [] → mine.strays ≡ [] → mine.forgotten ≡ set.empty → IsKnown put_of mine theirs []
  first-known none empty_ strays forgotten = record {
    sends = λ id some own. absurd (none id some);
    with_peer = subst (AllWithPeer mine.config) (sym empty_) (λ place e at. absurd cc);
    few = subst (λ (xs : List Entry). length xs ≤ most_records) (sym empty_) (omega arith);
    none_stray = strays;
    none_forgotten = forgotten;
    directed = tt;
  }

-- ---- what is due, and whose turn it is
-- A record has the turn, and this is what its PDU says.
pub record TurnSays (e : EntityState) : Type 0 where
  pub place : ℕ
  pub is_turn : turn e ≡ Place place
  pub entry : Entry
  pub at : slice_get e.table.records place ≡ Some entry
  pub content : Content
  pub due : due_content e.table.sources entry.1 ≡ Some content
  pub spells : SpellsPdu (header_of (addressing_of entry.1) (large_of entry.1) content) content (turn_octets (turn e) e)

-- the PDU, as it is on its way
abbrev pub pdu_of : Entry → Content → Pdu
pdu_of e v = (header_of (addressing_of e.1) (large_of e.1) v, v)

turn-none : (e : EntityState) → e.strays ≡ [] → turn e ≡ record_turn (next_due e.cursor e.table.records)
turn-none e none = rw none refl

content-says : (e : EntityState) (place : ℕ) (d : Entry) (o : Option Content) → turn e ≡ Place place → slice_get e.table.records place ≡ Some d → due_content e.table.sources d.1 ≡ o
    → SpellsDue (large_of d.1) o (addressing_of d.1) (due_octets e.table.sources d.1) → due_octets e.table.sources d.1 ≡ turn_octets (turn e) e → TurnSays e
content-says e place d None is at due s octets = absurd s
content-says e place d (Some v) is at due s octets = record {
  place = place;
  is_turn = is;
  entry = d;
  at = at;
  content = v;
  due = due;
  spells =
      subst (SpellsPdu (header_of (addressing_of d.1) (large_of d.1) v) v) octets s;
}

entry-says : (e : EntityState) (place : ℕ) (o : Option Entry) → turn e ≡ Place place → slice_get e.table.records place ≡ o → SpellsEntry e.table.sources o → TurnSays e
entry-says e place None is at s = absurd s
entry-says e place (Some d) is at s = content-says e place d (due_content e.table.sources d.1) is at refl s (sym (ap (λ t. turn_octets t e) is ∙ ap (λ o. octets_due e.table.sources o) at))

pub turn-says : (e : EntityState) → e.strays ≡ [] → SpellsTurn (turn e) e → TurnSays e
turn-says e none s = by (next_due e.cursor e.table.records) (turn-none e none) (subst (λ t. SpellsTurn t e) (turn-none e none) s)
  where
    by : (o : Option ℕ) → turn e ≡ record_turn o → SpellsTurn (record_turn o) e → TurnSays e
    by None is s = absurd s
    by (Some place) is s = entry-says e place (slice_get e.table.records place) is refl s

-- ---- a PDU that a sender has due goes to the receiver, and names a file if it is Metadata
down-says : (octets : List ℕ) (x : SenderState) (d : SenderDue) → direction_of (pdu_says octets x d) ≡ TowardReceiver
down-says octets x (sender_dues.AckOfFinished condition) = refl
down-says octets x (sender_dues.Prompt keep_alive) = refl
down-says octets x sender_dues.Metadata = refl
down-says octets x (sender_dues.AskedData start end) = refl
down-says octets x (sender_dues.NewData start end) = refl
down-says octets x sender_dues.Eof = elim x.phase as (λ p. direction_of (eof_says p x) ≡ TowardReceiver) [
  | sending.Sending ↦ refl
  | sending.Cancelling ↦ refl
  | sending.Closed ↦ refl
]

named-says : (octets : List ℕ) (x : SenderState) (d : SenderDue) → ((length x.source == 0) || (length x.destination == 0)) ≡ false → names_no_file (pdu_says octets x d) ≡ false
named-says octets x (sender_dues.AckOfFinished condition) named = refl
named-says octets x (sender_dues.Prompt keep_alive) named = refl
named-says octets x sender_dues.Metadata named = named
named-says octets x (sender_dues.AskedData start end) named = refl
named-says octets x (sender_dues.NewData start end) named = refl
named-says octets x sender_dues.Eof named = elim x.phase as (λ p. names_no_file (eof_says p x) ≡ false) [
  | sending.Sending ↦ refl
  | sending.Cancelling ↦ refl
  | sending.Closed ↦ refl
]

up-says : (r : ReceiverState) (d : Due) → (direction_of (receiver_says r d) ≡ TowardSender) × (names_no_file (receiver_says r d) ≡ false)
up-says r (receiver_dues.AckOfEof condition) = (refl, refl)
up-says r (receiver_dues.Nak cursor) = (refl, refl)
up-says r receiver_dues.KeepAlive = (refl, refl)
up-says r (receiver_dues.Finished o) = (refl, refl)

-- if something is due, and is this
sender-down : (file : List ℕ) (x : SenderState) (o : Option SenderDue) (v : Content) → sender_content file x o ≡ Some v → ((length x.source == 0) || (length x.destination == 0)) ≡ false
    → (direction_of v ≡ TowardReceiver) × (names_no_file v ≡ false)
sender-down file x None v is named = absurd cc
sender-down file x (Some d) v is named =
    let same : sender_says file x d ≡ v = cc in
    subst (λ w. (direction_of w ≡ TowardReceiver) × (names_no_file w ≡ false)) same (down-says (carried file d) x d, named-says (carried file d) x d named)

receiver-up : (r : ReceiverState) (o : Option Due) (v : Content) → receiver_content r o ≡ Some v → (direction_of v ≡ TowardSender) × (names_no_file v ≡ false)
receiver-up r None v is = absurd cc
receiver-up r (Some d) v is =
    let same : receiver_says r d ≡ v = cc in
    subst (λ w. (direction_of w ≡ TowardSender) × (names_no_file w ≡ false)) same (up-says r d)

-- ---- for whom it is
fits-itself : (d : Direction) → (direction_bit d == direction_bit d) ≡ true
fits-itself TowardSender = refl
fits-itself TowardReceiver = refl

opposite : (d : Direction) → d ≡ TowardReceiver → d ≡ TowardSender → ⊥
opposite TowardReceiver a b = absurd cc
opposite TowardSender a b = absurd cc

both-true : (p q : Bool) → p ≡ true → q ≡ true → (p && q) ≡ true
both-true true q a b = b
both-true false q a b = absurd cc

is-for-own : (d : Direction) (source destination own peer : ℕ) → d ≡ TowardSender → source ≡ own → destination ≡ peer → goes_to d source destination own peer ≡ true
is-for-own TowardSender source destination own peer is s d = both-true (source == own) (destination == peer) (eq-eqb source own s) (eq-eqb destination peer d)
is-for-own TowardReceiver source destination own peer is s d = absurd cc

is-for-peer : (d : Direction) (source destination own peer : ℕ) → d ≡ TowardReceiver → source ≡ peer → destination ≡ own → goes_to d source destination own peer ≡ true
is-for-peer TowardReceiver source destination own peer is s d = both-true (source == peer) (destination == own) (eq-eqb source peer s) (eq-eqb destination own d)
is-for-peer TowardSender source destination own peer is s d = absurd cc

-- what the record at a place has due is for the other entity
module _ (put_of : TransactionId → Option Put) (heard : List (List ℕ)) (mine theirs : EntityState) (peers : ArePeers mine theirs) (id : TransactionId) (v : Content) where
  some-put : (a b : TransactionId) (put : Put) → a ≡ b → put_of b ≡ Some put → IsSome (put_of a)
  some-put a b put is found = subst (λ i. IsSome (put_of i)) (sym is) (subst IsSome (sym found) refl)

  -- the flag is the one of the put's size
  its-flag : (a b : TransactionId) (size : ℕ) (kept put : Put) → a ≡ b → put_of b ≡ Some kept → put_of a ≡ Some put → size ≡ length kept.octets → is_large size ≡ is_large (length put.octets)
  its-flag a b size kept put is found own same =
      let both : Some kept ≡ Some put = sym found ∙ ap put_of (sym is) ∙ own in
      let one : kept ≡ put = cc in
      ap is_large (same ∙ ap (λ (p : Put). length p.octets) one)

  directed-seen : (s : Seen) → due_content mine.table.sources s ≡ Some v → IsWithPeer mine.config s → KnowsTruth mine.config.entity put_of heard id s → SendsItsPut put_of mine.table.sources id s
      → IsDirected put_of theirs (header_of (addressing_of s) (large_of s) v, v)
  directed-seen (Sends x) due peer knows sends =
      let says = sender-down (octets_in mine.table.sources x.source) x (sender_due x) v due peer.1 in
      record {
        fits = fits-itself (direction_of v);
        addressed = is-for-peer (direction_of v) x.addressing.id.source x.addressing.destination theirs.config.entity theirs.config.peer says.0
            (ap (λ (i : TransactionId). i.source) knows.0 ∙ knows.1 ∙ sym peers.of_theirs) (peer.0 ∙ peers.of_mine);
        named = says.1;
        of_put = some-put x.addressing.id id sends.put knows.0 sends.is_put;
        flag = λ down put found. its-flag x.addressing.id id x.size sends.put put knows.0 sends.is_put found sends.sender.size;
      }
  directed-seen (Receives r m) due peer knows sends =
      let says = receiver-up r (receiver_due r) v due in
      record {
        fits = fits-itself (direction_of v);
        addressed = is-for-own (direction_of v) r.addressing.id.source r.addressing.destination theirs.config.entity theirs.config.peer says.0
            (peer.0 ∙ peers.of_mine) (peer.1 ∙ sym peers.of_theirs);
        named = says.1;
        of_put = some-put r.addressing.id id knows.put knows.same_id knows.is_put;
        flag = λ down put found. absurd (opposite (direction_of v) down says.0);
      }

pub directed-due : (put_of : TransactionId → Option Put) (heard : List (List ℕ)) (first : FileMap) (mine theirs : EntityState) (forth : List Pdu) (place : ℕ) (e : Entry) (v : Content) →
    IsSound put_of heard first mine → ArePeers mine theirs →
    IsKnown put_of mine theirs forth → slice_get mine.table.records place ≡ Some e → due_content mine.table.sources e.1 ≡ Some v → IsDirected put_of theirs (pdu_of e v)
directed-due put_of heard first mine theirs forth place e v sound peers k at due =
    directed-seen put_of heard mine theirs peers e.0 v e.1 due (k.with_peer place e at) (sound.knows.knows place e at) (sound.sends.sends place e at)

-- ---- a put that was accepted names its file
names-true : (b : Bool) (x y : Option PutError) → option_or (if not b then Some put_errors.Name else x) y ≡ None → b ≡ true
names-true true x y is = refl
names-true false x y is = absurd cc

not-empty : (n : ℕ) → nat_le 1 n ≡ true → (n == 0) ≡ false
not-empty zero is = absurd cc
not-empty (suc n) is = ne_eqb (suc n) 0 (λ e. omega (arith, e))

both-false : (p q : Bool) → p ≡ false → q ≡ false → (p || q) ≡ false
both-false false q a b = b
both-false true q a b = absurd cc

put-named : (source destination : List ℕ) (e : EntityState) → put_refusal Done source destination e ≡ None → ((length source == 0) || (length destination == 0)) ≡ false
put-named source destination e allowed =
    let named : are_names source destination ≡ true = names-true (are_names source destination)
    (if nat_le most_records (length e.table.records) then Some put_errors.TableFull else if not (nat_lt e.next (256 ^ e.config.number_width)) then Some put_errors.NumbersSpent else None)
    (asked Done (get e.table.sources source)) allowed in
    let names = and-parts (is_file_name source) (is_file_name destination) named in
    let one = and-parts (nat_le 1 (length source)) (nat_le (length source) 255) names.0 in
    let two = and-parts (nat_le 1 (length destination)) (nat_le (length destination) 255) names.1 in
    both-false (length source == 0) (length destination == 0) (not-empty (length source) one.0) (not-empty (length destination) two.0)

-- and found room in the table
room-by : (a b : Bool) (x y : Option PutError) → option_or (if not a then Some put_errors.Name else if b then Some put_errors.TableFull else x) y ≡ None → b ≡ false
room-by true true x y is = absurd cc
room-by true false x y is = refl
room-by false b x y is = absurd cc

put-room : (source destination : List ℕ) (e : EntityState) → put_refusal Done source destination e ≡ None → length e.table.records < most_records
put-room source destination e allowed =
    leb-false most_records (length e.table.records)
    (room-by (are_names source destination) (nat_le most_records (length e.table.records))
    (if not (nat_lt e.next (256 ^ e.config.number_width)) then Some put_errors.NumbersSpent else None) (asked Done (get e.table.sources source)) allowed)

-- ---- a record more
module _ (put_of puts_then : TransactionId → Option Put) (more : FindsMore put_of puts_then) (old new theirs : EntityState) (forth : List Pdu) (id : TransactionId) (s : Seen) where
  known-more : new.config ≡ old.config → new.strays ≡ old.strays → new.forgotten ≡ old.forgotten → new.table.records ≡ old.table.records ++ (id, s) ∷ [] → length old.table.records < most_records → IsWithPeer old.config s
      → ((q : TransactionId) → IsSome (puts_then q) → q.source ≡ old.config.entity → IsSending (record_of q (old.table.records ++ (id, s) ∷ []))) → IsKnown put_of old theirs forth →
      IsKnown puts_then new theirs forth
  known-more config strays forgotten records room peer sends k = record {
    sends = λ q some own. subst (λ xs. IsSending (record_of q xs)) (sym records) (sends q some (own ∙ ap (λ (g : EntityConfig). g.entity) config));
    with_peer = subst (λ g. AllWithPeer g new.table.records) (sym config) (subst (AllWithPeer old.config) (sym records) (peers-push old.config old.table.records id s k.with_peer peer));
    few = (let l : length new.table.records ≡ length old.table.records + 1 = ap length records ∙ length-append old.table.records ((id, s) ∷ []) in omega (arith, l, room));
    none_stray = strays ∙ k.none_stray;
    none_forgotten = forgotten ∙ k.none_forgotten;
    directed = directed-so put_of puts_then theirs theirs more refl forth k.directed;
  }

-- ---- the steps of an entity
module _ (put_of puts_then : TransactionId → Option Put) (source destination : List ℕ) (id : TransactionId) (old new theirs : EntityState) (forth back : List Pdu)
    (a : Accepts source destination id old new) (adds : AddsPut id put_of puts_then) (peers : ArePeers old theirs) where
  put-sends : IsKnown put_of old theirs forth → (q : TransactionId) → IsSome (puts_then q) → q.source ≡ old.config.entity →
      IsSending (record_of q (old.table.records ++ (next_id old, Sends (opened_sender (next_transfer source destination (length (octets_in old.table.sources source)) old))) ∷ []))
  put-sends k q some own = by (adds.only q some)
    where
      s : Seen
      s = Sends (opened_sender (next_transfer source destination (length (octets_in old.table.sources source)) old))

      fresh : record_of (next_id old) old.table.records ≡ None
      fresh = (no-record old.table.records (next_id old) (subst (λ i. place_of i old.table.records ≡ None) a.is_next a.fresh)).0

      by : (q ≡ id) ⊎ IsSome (put_of q) → IsSending (record_of q (old.table.records ++ (next_id old, s) ∷ []))
      by (inl is) = subst (λ i. IsSending (record_of i (old.table.records ++ (next_id old, s) ∷ []))) (sym (is ∙ a.is_next))
          (subst IsSending (sym (push-own old.table.records (next_id old) s fresh)) tt)
      by (inr before) = sending-kept q old.table.records (old.table.records ++ (next_id old, s) ∷ []) (keeps-push old.table.records ((next_id old, s) ∷ [])) (k.sends q before own)

  put-there : IsKnown put_of theirs old back → IsKnown puts_then theirs new back
  put-there k = record {
    sends = λ q some own. elim (adds.only q some) as (λ o. IsSending (record_of q theirs.table.records)) [
      | inl is ↦ absurd (peers.apart (sym (ap (λ (i : TransactionId). i.source) (is ∙ a.is_next)) ∙ own))
      | inr before ↦ k.sends q before own
    ];
    with_peer = k.with_peer;
    few = k.few;
    none_stray = k.none_stray;
    none_forgotten = k.none_forgotten;
    directed = directed-so put_of puts_then old new adds.more (ap (λ (e : EntityState). e.config) a.opened) back k.directed;
  }

  pub puts-known : AreKnown put_of old theirs forth back → AreKnown puts_then new theirs forth back
  puts-known k =
      let t : Transfer = next_transfer source destination (length (octets_in old.table.sources source)) old in (
        known-more put_of puts_then adds.more old new theirs forth (next_id old) (Sends (opened_sender t)) (ap (λ (e : EntityState). e.config) a.opened) (ap (λ (e : EntityState). e.strays) a.opened) (ap (λ (e : EntityState). e.forgotten) a.opened)
            (ap (λ (e : EntityState). e.table.records) a.opened) (put-room source destination old a.allowed) (refl, put-named source destination old a.allowed) (put-sends k.0) k.0,
        put-there k.1,
      )

-- a record that a PDU opens has its ids
abbrev IsReceiverOf : Addressing → Seen → Type 0
IsReceiverOf a (Receives r m) = r.addressing ≡ a
IsReceiverOf a (Sends x) = ⊥

same-seen : (id : TransactionId) (s t : Seen) → ◌≡◌ {A = Option Entry} (Some (id, s)) (Some (id, t)) → s ≡ t
same-seen id s t is = let pair : ◌≡◌ {A = Entry} (id, s) (id, t) = cc in ap (λ (e : Entry). e.1) pair

-- Over any steps of a table its records stay: the law of an entity.
module _ (stays : (old new : TableState) → Leads old new → KeepsRecords old.records new.records) where
  step-keeps : (s : TableStep) (st : TableState) → MayHappen s st → length (table_step s st).records ≡ length st.records → KeepsAll st.records (table_step s st).records
  step-keeps s st may long = record { kept = stays st (table_step s st) (leads-one s st may); long = long }

  pub called-continues : (c : Request) (id : TransactionId) (old new : EntityState) → IsCalled c id old new → Continues old new
  called-continues c id old new h = continues-to old new (after_request c id old.table) h.called (by (place_of id old.table.records))
    where
      by : (o : Option ℕ) → KeepsAll old.table.records (called_in c o old.table).records
      by None = keeps-none old.table.records
      by (Some place) = step-keeps (Calls place c) old.table tt (step-long (λ e. calls old.table.policy.times old.table.files c e.1) place old.table)

  pub ticks-continues : (now : ℕ) (old new : EntityState) → Ticks now old.table new.table → new ≡ with_table old new.table → Continues old new
  ticks-continues now old new t same = continues-to old new new.table same (record {
    kept = stays old.table new.table (leads-ticked now old.table new.table t);
    long = ap (λ (st : TableState). length st.records) t.ticked ∙ fired-long t.fired (at_time now old.table);
  })

  pub served-continues : (stored : Stored) (e : EntityState) → e.strays ≡ [] → Continues e (served stored (turn e) e)
  served-continues stored e none = subst (λ t. Continues e (served stored t e)) (sym (turn-none e none)) (by (next_due e.cursor e.table.records))
    where
      by : (o : Option ℕ) → Continues e (served stored (record_turn o) e)
      by None = continues-none e
      by (Some place) = record {
        config = refl;
        strays = refl;
        forgotten = refl;
        records = step-keeps (Takes stored place) e.table tt (step-long (λ d. takes stored e.table.policy.times e.table.sources e.table.files d.1) place e.table);
      }

  module _ (put_of : TransactionId → Option Put) (old new theirs : EntityState) (forth back : List Pdu) where
    pub called-known : (c : Request) (id : TransactionId) → IsCalled c id old new → AreKnown put_of old theirs forth back → AreKnown put_of new theirs forth back
    called-known c id h k = both-on put_of old new theirs forth back (called-continues c id old new h) k

    pub ticks-known : (now : ℕ) → Ticks now old.table new.table → new ≡ with_table old new.table → AreKnown put_of old theirs forth back → AreKnown put_of new theirs forth back
    ticks-known now t same k = both-on put_of old new theirs forth back (ticks-continues now old new t same) k

    pub fails-known : (stored : Stored) → new ≡ served stored (turn old) old → AreKnown put_of old theirs forth back → AreKnown put_of new theirs forth back
    fails-known stored is k = both-on put_of old new theirs forth back (subst (Continues old) (sym is) (served-continues stored old k.0.none_stray)) k

    -- a PDU that is sent is the last on its way
    pub sends-known : (heard : List (List ℕ)) (first : FileMap) (stored : Stored) (t : TurnSays old) → IsSound put_of heard first old → ArePeers old theirs → new ≡ served stored (turn old) old
        → AreKnown put_of old theirs forth back → AreKnown put_of new theirs (forth ++ pdu_of t.entry t.content ∷ []) back
    sends-known heard first stored t sound peers is k =
        let on = fails-known stored is k in
        let due : IsDirected put_of theirs (pdu_of t.entry t.content) = directed-due put_of heard first old theirs forth t.place t.entry t.content sound peers k.0 t.at t.due in
        (known-with put_of new theirs forth (forth ++ pdu_of t.entry t.content ∷ []) (all-append (IsDirected put_of theirs) forth (pdu_of t.entry t.content ∷ []) k.0.directed (due, tt)) on.0, on.1)

  -- ---- a PDU that is heard
  receiver-on : (a : Addressing) (s : Seen) → GoesOn (Receives (opened_receiver a) empty) s → IsReceiverOf a s
  receiver-on a (Receives r m) g = g.0
  receiver-on a (Sends x) g = absurd g

  opened-of : (begun stored : Stored) (large : Bool) (v : Content) (a : Addressing) (st : TableState) → IsReceiverOf a (opens begun stored st.policy.times st.files large v a).seen
  opened-of begun stored large v a st = by (closing v) begun
    where
      alone : TableState
      alone = record st { records = (a.id, Receives (opened_receiver a) empty) ∷ [] }

      heard-first : IsReceiverOf a (hears stored st.policy.times st.files large v (Receives (opened_receiver a) empty)).seen
      heard-first =
          let k = stays alone (heard_at stored 0 large v alone) (leads-one (Hears stored 0 large v) alone tt) 0 (a.id, Receives (opened_receiver a) empty) refl in
          let is : (hears stored st.policy.times st.files large v (Receives (opened_receiver a) empty)).seen ≡ k.0 = same-seen a.id _ k.0 k.1.0 in
          subst (IsReceiverOf a) (sym is) (receiver-on a k.0 k.1.1)

      by : (o : Option ℕ) (begun : Stored) → IsReceiverOf a (opens_by o begun stored st.policy.times st.files large v a).seen
      by (Some condition) begun = refl
      by None Done = heard-first
      by None Refused = refl

  receiver-peer : (c : EntityConfig) (a : Addressing) (s : Seen) → IsReceiverOf a s → a.id.source ≡ c.peer → a.destination ≡ c.entity → IsWithPeer c s
  receiver-peer c a (Receives r m) is source destination = (ap (λ (b : Addressing). b.id.source) is ∙ source, ap (λ (b : Addressing). b.destination) is ∙ destination)
  receiver-peer c a (Sends x) is source destination = absurd is

  module _ (put_of : TransactionId → Option Put) (theirs : EntityState) (forth back : List Pdu) (h : Header) (v : Content) (old new : Counted) where
    pub stepped-on : StepsRecord h v old new → Continues old.state new.state
    stepped-on s =
        let stored = s.steps.stored in
        continues-to old.state new.state (heard_at stored s.place h.large v old.state.table) s.steps.steps
        (step-keeps (Hears stored s.place h.large v) old.state.table tt (step-long (λ e. hears stored old.state.table.policy.times old.state.table.files h.large v e.1) s.place old.state.table))

    dropped-on : DropsNew h v old new → Continues old.state new.state
    dropped-on d = subst (Continues old.state) (sym d.is) (record { config = refl; strays = refl; forgotten = refl; records = keeps-none old.state.table.records })

    pub spoiled-on : SpoilsRecord h v old new → Continues old.state new.state
    spoiled-on s =
        let f = s.finds in
        record {
          config = ap (λ (e : EntityState). e.config) f.counted;
          strays = ap (λ (e : EntityState). e.strays) f.counted;
          forgotten = ap (λ (e : EntityState). e.forgotten) f.counted;
          records = record {
            kept = stays old.state.table new.state.table (leads-spoiled s.place v old.state.table new.state.table f.spoiled);
            long = ap (λ (st : TableState). length st.records) f.spoiled.table ∙ length_set old.state.table.records s.place f.spoiled.seen;
          };
        }

    opened-known : OpensRecord h v old new → IsDirected put_of old.state (h, v) → IsKnown put_of old.state theirs forth → IsKnown put_of new.state theirs forth
    opened-known o d k =
        let a : Addressing = addressing_in h in
        let begun = o.opens.begun in
        let stored = o.opens.stored in
        let t : TableState = opened_by begun stored a h.large v old.state.table in
        let s : Seen = (opens begun stored old.state.table.policy.times old.state.table.files h.large v a).seen in
        let is : new.state ≡ with_table old.state t = o.opens.opens in
        let peer = directed-peer put_of old.state h v d o.down in
        known-more put_of put_of (λ id put found. found) old.state new.state theirs forth a.id s (ap (λ (e : EntityState). e.config) is) (ap (λ (e : EntityState). e.strays) is) (ap (λ (e : EntityState). e.forgotten) is)
        (ap (λ (e : EntityState). e.table.records) is) o.room
        (receiver-peer old.state.config a s (opened-of begun stored h.large v a old.state.table) peer.0 peer.1)
        (λ q some own. sending-kept q old.state.table.records (old.state.table.records ++ (a.id, s) ∷ []) (keeps-push old.state.table.records ((a.id, s) ∷ [])) (k.sends q some own)) k

    so-known : IsDirected put_of old.state (h, v) → AreKnown put_of old.state theirs forth back → HeardSo h v old new → AreKnown put_of new.state theirs forth back
    so-known d k (inl s) = both-on put_of old.state new.state theirs forth back (stepped-on s) k
    so-known d k (inr (inl o)) = (opened-known o d k.0, known-there put_of old.state new.state theirs forth back (ap (λ (e : EntityState). e.config) o.opens.opens) k.1)
    so-known d k (inr (inr (inl x))) = both-on put_of old.state new.state theirs forth back (dropped-on x) k
    so-known d k (inr (inr (inr s))) = both-on put_of old.state new.state theirs forth back (spoiled-on s) k

    -- the first PDU on its way to an entity is taken or dropped by it
    pub hears-known : HearsOne h v old new → AreKnown put_of old.state theirs forth ((h, v) ∷ back) → AreKnown put_of new.state theirs forth back
    hears-known t k =
        let d : IsDirected put_of old.state (h, v) = k.1.directed.0 in
        so-known d (k.0, known-with put_of theirs old.state ((h, v) ∷ back) back k.1.directed.1 k.1) (heard-so put_of theirs forth h v old new k.0 d t)

  -- and so are all those of a front of what is on its way
  pub each-known : (put_of : TransactionId → Option Put) (theirs : EntityState) (forth pdus back : List Pdu) (old new : Counted) → HearsEach pdus old new →
      AreKnown put_of old.state theirs forth (pdus ++ back) → AreKnown put_of new.state theirs forth back
  each-known put_of theirs forth [] back old new h k = subst (λ (c : Counted). AreKnown put_of c.state theirs forth back) (sym h) k
  each-known put_of theirs forth (p ∷ pdus) back old new h k = each-known put_of theirs forth pdus back h.0 new h.2 (hears-known put_of theirs forth (pdus ++ back) p.0 p.1 old h.0 h.1 k)

-- ---- the same puts
-- If the same puts are found by another world, the same is known.
pub same-known : (put_of puts_then : TransactionId → Option Put) (mine theirs : EntityState) (forth back : List Pdu) → FindsMore put_of puts_then → FindsMore puts_then put_of →
    AreKnown put_of mine theirs forth back → AreKnown puts_then mine theirs forth back
same-known put_of puts_then mine theirs forth back more fewer k = (one mine theirs forth k.0, one theirs mine back k.1)
  where
    some : (id : TransactionId) (o : Option Put) → puts_then id ≡ o → IsSome o → IsSome (put_of id)
    some id None is h = absurd cc
    some id (Some put) is h = subst IsSome (sym (fewer id put is)) refl

    one : (a b : EntityState) (pdus : List Pdu) → IsKnown put_of a b pdus → IsKnown puts_then a b pdus
    one a b pdus known = record {
      sends = λ id found own. known.sends id (some id (puts_then id) refl found) own;
      with_peer = known.with_peer;
      few = known.few;
      none_stray = known.none_stray;
      none_forgotten = known.none_forgotten;
      directed = directed-so put_of puts_then b b more refl pdus known.directed;
    }
