-- The first settling of a recovery: if every unfinished transaction waits below its limits, each
-- stands still then until a timer of it expires, or nothing comes of it.
use Rattle.std.proofs.Common.{◌≡◌, ◌⊎◌, inl, inr, ℕ, suc, ◌<◌, true, false, cond, List, [], ◌∷◌, slice_get, Option, Some, None, refl, sym, ap, subst, ◌∙◌}
use Rattle.std.specs.Prelude.{Contains}
use Rattle.std.proofs.lemmas.Bool.{false≢true}
use Rattle.cfdp_header.specs.declared.value.TransactionId.{TransactionId}
use Rattle.cfdp_header.specs.Ids.{same_id}
use Rattle.cfdp_directives.specs.declared.user.limits.Limits.{Limits}
use Rattle.cfdp_directives.specs.Pdu.Content.{Content}
use Rattle.cfdp_directives.specs.User.Put.{Put}
use Rattle.cfdp_sender.specs.declared.phase.SenderPhase.{SenderPhase}
use Rattle.cfdp_sender.specs.declared.phase.SenderPhase.TheVariants as sending
use Rattle.cfdp_receiver.specs.declared.state.ReceiverPhase.{ReceiverPhase}
use Rattle.cfdp_receiver.specs.declared.state.ReceiverPhase.TheVariants as receiving
use Rattle.cfdp_receiver.specs.State.{ReceiverState}
use Rattle.cfdp_entity.specs.Entity.{EntityState}
use Rattle.cfdp_entity.specs.Seen.{Seen, Sends, Receives}
use Rattle.cfdp_entity.specs.Table.{record_of}
use Rattle.cfdp_entity.proofs.CallerLemmas.{same_id-true}
use Rattle.link_sim.specs.Between.{Pdu, of_id, IsReceiverIn, IsUnspoiled}
use Rattle.link_sim.specs.Course.{IsCourse}
use Rattle.link_sim.specs.EveryPut.{KeepsPuts}
use Rattle.link_sim.specs.Exchange.{maybe}
use Rattle.link_sim.specs.Found.{IsPutOf, HasExchange, RunsTo}
use Rattle.link_sim.specs.Runs.{Exchange, IsItsSender, Runs}
use Rattle.station_pair.specs.Stations.{other}
use Rattle.link_sim.specs.Sound.{IsSound}
use Rattle.link_sim.specs.Stages.{Stands, IsAtRest, IsActiveCourse, IsBelow, IsReceiverBelow, IsOver, IsOverAt}
use Rattle.link_sim.specs.Tracks.{StandsIn, StandsOf, OverIn, AllStand, AllTracked, RunsAlong}
use Rattle.link_sim.specs.Waiting.{policy_at, is_open, is_open_sender, is_open_receiver, IsWaitingRecord, IsWaitingIn, IsWaiting, IsOpen, IsComing, IsUnfinished, AllWait, IsUncancelled}
use Rattle.link_sim.specs.World.State.{WorldState, arriving_from, entity_at, on_way_from}
use Rattle.station_pair.specs.declared.side.Side.{Side}
use Rattle.link_sim.proofs.Clean.Puts.{IsText, text-at}
use Rattle.link_sim.proofs.Events.Keeping.{other-other}
use Rattle.link_sim.proofs.Recovery.Records.{IsSentHere, IsReceivedHere, sent-here, received-here, its-sender}

-- ---- the laws that are used
pub record FirstLaws : Type 0 where
  pub settled_below : (here there : Limits) (n : ℕ) (put : Put) (a b : Exchange) → IsItsSender put a.sender → IsActiveCourse put a → IsBelow here there a → Runs n put a b → IsAtRest b →
      Stands here there put b
  pub over_runs : (n : ℕ) (put : Put) (a b : Exchange) → IsOver a → Runs n put a b → IsOver b
  -- what will arrive is on its way
  pub arriving_among : (s : Side) (w : WorldState) → IsSound w → (text : List ℕ) → Contains (arriving_from s w) text → Contains (on_way_from s w) text
  pub has_exchange : (w : WorldState) → IsSound w → KeepsPuts w → (s : Side) (put : Put) → IsPutOf s put w → (e : Exchange) × HasExchange s put w e
  pub exchange_true : (w : WorldState) → IsSound w → KeepsPuts w → (s : Side) (put : Put) (e : Exchange) → IsPutOf s put w → HasExchange s put w e →
      IsUnspoiled false put.id (entity_at s w) (entity_at (other s) w)
      → IsCourse put false false false false e.sender e.receiver e.forth e.back e.told e.told_there

-- a PDU of the transaction is among those on their way
record OfIt (id : TransactionId) (pdus : List Pdu) : Type 0 where
  place : ℕ
  pdu : Pdu
  at : slice_get pdus place ≡ Some pdu
  of : id ≡ pdu.0.id

of-it : (id : TransactionId) (pdus : List Pdu) (v : Content) (rest : List Content) → of_id id pdus ≡ v ∷ rest → OfIt id pdus
of-it id [] v rest is = absurd (let e : [] ≡ v ∷ rest = is in cc)
of-it id (p ∷ pdus) v rest is = elim (same_id id p.0.id) as (λ b. same_id id p.0.id ≡ b → cond b (p.1 ∷ of_id id pdus) (of_id id pdus) ≡ v ∷ rest → OfIt id (p ∷ pdus)) [
  | true ↦ λ t h. record { place = 0; pdu = p; at = refl; of = same_id-true id p.0.id t }
  | false ↦ λ t h. (let o : OfIt id pdus = of-it id pdus v rest h in record { place = suc o.place; pdu = o.pdu; at = o.at; of = o.of })
] refl is

closed-sender : (p : SenderPhase) → is_open_sender p ≡ false → p ≡ sending.Closed
closed-sender sending.Sending h = absurd (false≢true (sym h))
closed-sender sending.Cancelling h = absurd (false≢true (sym h))
closed-sender sending.Closed h = refl

closed-receiver : (p : ReceiverPhase) → is_open_receiver p ≡ false → p ≡ receiving.Closed
closed-receiver receiving.Receiving h = absurd (false≢true (sym h))
closed-receiver receiving.Finishing h = absurd (false≢true (sym h))
closed-receiver receiving.Closed h = refl

open-sender : (p : SenderPhase) → (p ≡ sending.Closed → ⊥) → is_open_sender p ≡ true
open-sender sending.Sending h = refl
open-sender sending.Cancelling h = refl
open-sender sending.Closed h = absurd (h refl)

open-receiver : (p : ReceiverPhase) → (p ≡ receiving.Closed → ⊥) → is_open_receiver p ≡ true
open-receiver receiving.Receiving h = refl
open-receiver receiving.Finishing h = refl
open-receiver receiving.Closed h = absurd (h refl)

module _ (laws : FirstLaws) (w v : WorldState) (sound : IsSound w) (puts : KeepsPuts w) (along : RunsAlong w v)
    (rests : (s : Side) (put : Put) (e : Exchange) → IsPutOf s put v → HasExchange s put v e → IsAtRest e) (wait : AllWait w) where
  -- ---- a transaction that waits
  module _ (s : Side) (put : Put) (own : IsPutOf s put w) (e : Exchange) (has : HasExchange s put w e) (waits : IsWaiting put.id w) where
    mine : EntityState
    mine = entity_at s w

    sender_waits_so : IsWaitingRecord (policy_at s w).limits (Sends e.sender)
    sender_waits_so = subst (IsWaitingIn (policy_at s w).limits) has.is.is_sender (waits.all s).record_waits

    unspoiled : IsUnspoiled false put.id (entity_at s w) (entity_at (other s) w)
    unspoiled = record {
      told = (waits.all s).told;
      told_there = (waits.all (other s)).told;
      uncancelled = subst IsUncancelled (sym has.is.is_sender) sender_waits_so.uncancelled;
      heard = λ f. absurd (false≢true f);
      heard_there = λ f. absurd (false≢true f);
      awake = λ f. absurd (false≢true f);
      awake_there = λ f. absurd (false≢true f);
    }

    -- the receiver, if there is one
    receiver_waits_so : (o : Option ReceiverState) (q : Option Seen) → IsReceiverIn q o → IsWaitingIn (policy_at (other s) w).limits q → (maybe (λ r. r.suspended) o ≡ false)
        × IsReceiverBelow (policy_at (other s) w).limits o
    receiver_waits_so None q is h = (refl, tt)
    receiver_waits_so (Some r) None is h = absurd is
    receiver_waits_so (Some r) (Some (Sends x)) is h = absurd is
    receiver_waits_so (Some r) (Some (Receives t m)) is h = (
      ap (λ (u : ReceiverState). u.suspended) is ∙ h.awake,
      λ open_. subst (λ (u : ReceiverState). (u.nak_count < (policy_at (other s) w).limits.nak) × (u.finished_count < (policy_at (other s) w).limits.finished)) (sym is)
          (h.below (open-receiver t.phase (λ c. open_ (ap (λ (u : ReceiverState). u.phase) is ∙ c)))),
    )

    receiver_so : (maybe (λ r. r.suspended) e.receiver ≡ false) × IsReceiverBelow (policy_at (other s) w).limits e.receiver
    receiver_so = receiver_waits_so e.receiver (record_of put.id (entity_at (other s) w).table.records) has.is.is_receiver (waits.all (other s)).record_waits

    course : IsActiveCourse put e
    course =
        let c : IsCourse put false false false false e.sender e.receiver e.forth e.back e.told e.told_there = laws.exchange_true w sound puts s put e own has unspoiled in
        record {
          truth = c.truth;
          active = λ _. record { sender = sender_waits_so.awake; receiver = receiver_so.0 };
          ack_comes = λ f. absurd (false≢true f);
          file_comes = λ f. absurd (false≢true f);
          end_comes = λ f. absurd (false≢true f);
        }

    below : IsBelow (policy_at s w).limits (policy_at (other s) w).limits e
    below = record {
      sender = λ open_. sender_waits_so.below (open-sender e.sender.phase open_);
      receiver = receiver_so.1;
    }

    pub stands-then : StandsIn s put v
    stands-then =
        let r : RunsTo s put e v = along.runs s put own e has in
        let stands : Stands (policy_at s w).limits (policy_at (other s) w).limits put r.end =
        laws.settled_below (policy_at s w).limits (policy_at (other s) w).limits r.steps put e r.end (its-sender w sound s put e own has) course below r.runs
        (rests s put r.end (along.keeps.puts s put own) r.is_end) in
        record {
          exchange = r.end;
          has = r.is_end;
          stands = subst (λ p. Stands p.limits (policy_at (other s) v).limits put r.end) (sym (along.keeps.policy s))
              (subst (λ p. Stands (policy_at s w).limits p.limits put r.end) (sym (along.keeps.policy (other s))) stands);
        }

  -- ---- one of which nothing comes
  pub over-then : (s : Side) (put : Put) → IsPutOf s put w → (e : Exchange) → HasExchange s put w e → IsOver e → OverIn s put v
  over-then s put own e has over =
      let r : RunsTo s put e v = along.runs s put own e has in
      record { exchange = r.end; has = r.is_end; over = laws.over_runs r.steps put e r.end over r.runs }

  -- a PDU of it is on its way, and there is no receiver
  coming : (s : Side) (put : Put) (e : Exchange) (v : Content) (rest : List Content) → HasExchange s put w e → e.receiver ≡ None → e.forth ≡ v ∷ rest → IsComing put.id w
  coming s put e v rest has none is =
      let o : OfIt put.id has.forth = of-it put.id has.forth v rest (has.is.is_forth ∙ is) in
      let t : IsText (arriving_from s w) o.pdu = text-at (arriving_from s w) has.forth o.place o.pdu has.spelled o.at in
      record {
        to = other s;
        text = t.text;
        among = subst (λ (u : Side). Contains (on_way_from u w) t.text) (sym (other-other s)) (laws.arriving_among s w sound t.text t.among);
        header = o.pdu.0;
        content = o.pdu.1;
        spells = t.spells;
        of = sym o.of;
        none = no-record (record_of put.id (entity_at (other s) w).table.records) e.receiver has.is.is_receiver none;
      }
    where
      no-record : (q : Option Seen) (o : Option ReceiverState) → IsReceiverIn q o → o ≡ None → q ≡ None
      no-record None o h n = refl
      no-record (Some (Sends x)) None h n = absurd h
      no-record (Some (Sends x)) (Some r) h n = absurd h
      no-record (Some (Receives t m)) None h n = absurd h
      no-record (Some (Receives t m)) (Some r) h n = absurd (let e : Some r ≡ None = n in cc)

  -- it is unfinished, or nothing comes of it
  unfinished-or-over : (s : Side) (put : Put) (e : Exchange) → HasExchange s put w e → IsUnfinished put.id w ⊎ IsOver e
  unfinished-or-over s put e has = elim (is_open_sender e.sender.phase) as (λ b. is_open_sender e.sender.phase ≡ b → IsUnfinished put.id w ⊎ IsOver e) [
    | true ↦ λ is. inl (inl (record { side = s; still_open = ap is_open has.is.is_sender ∙ is }))
    | false ↦ λ is. closed (closed-sender e.sender.phase is)
  ] refl
    where
      none : e.receiver ≡ None → e.sender.phase ≡ sending.Closed → (forth : List Content) → e.forth ≡ forth → IsUnfinished put.id w ⊎ IsOver e
      none is c [] f = inr (record { sender = c; receiver = subst (λ o. IsOverAt o e.forth) (sym is) (subst (λ l. IsOverAt None l) (sym f) tt) })
      none is c (v ∷ rest) f = inl (inr (coming s put e v rest has is f))

      at : (o : Option ReceiverState) → e.receiver ≡ o → (q : Option Seen) → record_of put.id (entity_at (other s) w).table.records ≡ q → IsReceiverIn q o → e.sender.phase ≡ sending.Closed →
          IsUnfinished put.id w ⊎ IsOver e
      at None is q there h c = none is c e.forth refl
      at (Some r) is None there h c = absurd h
      at (Some r) is (Some (Sends x)) there h c = absurd h
      at (Some r) is (Some (Receives t m)) there h c = elim (is_open_receiver t.phase) as (λ b. is_open_receiver t.phase ≡ b → IsUnfinished put.id w ⊎ IsOver e) [
        | true ↦ λ o. inl (inl (record { side = other s; still_open = ap is_open there ∙ o }))
        | false ↦ λ o. inr (record { sender = c; receiver = subst (λ p. IsOverAt p e.forth) (sym is) (ap (λ (u : ReceiverState). u.phase) h ∙ closed-receiver t.phase o) })
      ] refl

      closed : e.sender.phase ≡ sending.Closed → IsUnfinished put.id w ⊎ IsOver e
      closed c = at e.receiver refl (record_of put.id (entity_at (other s) w).table.records) refl has.is.is_receiver c

  -- ---- all of them
  pub first-tracked : AllTracked v
  first-tracked s put own =
      let before : IsPutOf s put w = along.keeps.puts_before s put own in
      let x = laws.has_exchange w sound puts s put before in
      elim (unfinished-or-over s put x.0 x.1) [
        | inl unfinished ↦ inl (stands-then s put before x.0 x.1 (wait put.id unfinished))
        | inr over ↦ inr (over-then s put before x.0 x.1 over)
      ]

  -- those that are unfinished stand then
  pub unfinished-stands : (id : TransactionId) → IsUnfinished id w → StandsOf id v
  unfinished-stands id unfinished = by waits.unfinished
    where
      waits : IsWaiting id w
      waits = wait id unfinished

      of-put : (s : Side) (put : Put) → put.id ≡ id → IsPutOf s put w → StandsOf id v
      of-put s put of own =
          let x = laws.has_exchange w sound puts s put own in
          record { side = s; put = put; of = of; own = along.keeps.puts s put own; stands = stands-then s put own x.0 x.1 (subst (λ i. IsWaiting i w) (sym of) waits) }

      by : IsOpen id w → StandsOf id v
      by o = at (record_of id (entity_at o.side w).table.records) refl o.still_open
        where
          at : (q : Option Seen) → record_of id (entity_at o.side w).table.records ≡ q → is_open q ≡ true → StandsOf id v
          at None is h = absurd (false≢true h)
          at (Some (Sends x)) is h = (let t : IsSentHere o.side id x w = sent-here w sound o.side id x is in of-put o.side t.put t.of t.own)
          at (Some (Receives r m)) is h = (let t : IsReceivedHere o.side id r w = received-here w sound puts o.side id r m is in of-put (other o.side) t.put t.of t.own)

  pub first-stand : AllStand w v
  first-stand = record { tracked = first-tracked; unfinished = unfinished-stands }
