-- A put's transaction in a world, on its course, with so many tries left, and what each event of an
-- outage makes of it.
use Rattle.std.proofs.Common.{◌≡◌, ◌⊎◌, inl, inr, ℕ, Bool, true, false, List, [], ◌∷◌, ◌++◌, Option, Some, None, refl, sym, ap, subst, ◌∙◌}
use Rattle.std.proofs.lemmas.Bool.{false≢true}
use Rattle.aos_frame.specs.declared.config.Lane.{Lane}
use Rattle.cfdp_header.specs.declared.value.TransactionId.{TransactionId}
use Rattle.cfdp_directives.specs.declared.user.limits.Limits.{Limits}
use Rattle.cfdp_directives.specs.Pdu.Content.{Content}
use Rattle.cfdp_directives.specs.User.Put.{Put}
use Rattle.cfdp_sender.specs.State.{SenderState}
use Rattle.cfdp_receiver.specs.State.{ReceiverState}
use Rattle.cfdp_entity.specs.declared.config.EntityConfig.{EntityConfig}
use Rattle.cfdp_entity.specs.Entity.{EntityState}
use Rattle.cfdp_entity.specs.Seen.{Seen, Sends, Receives}
use Rattle.cfdp_entity.specs.Table.{record_of}
use Rattle.station_pair.specs.declared.refusal.Refusal.TheVariants as refusal
use Rattle.station_pair.specs.declared.side.Side.{Side}
use Rattle.station_pair.specs.Stations.{other}
use Rattle.link_sim.specs.declared.event.Event.{Event}
use Rattle.link_sim.specs.declared.event.Applied.{Applied}
use Rattle.link_sim.specs.declared.event.Applied.TheVariants as did
use Rattle.link_sim.specs.Between.{Pdu, AreSpelled, IsReceiverIn, of_id}
use Rattle.link_sim.specs.Course.{IsCourse}
use Rattle.link_sim.specs.EveryPut.{KeepsPuts}
use Rattle.link_sim.specs.Exchange.{is_closed, maybe, tells_complete}
use Rattle.link_sim.specs.Found.{HasExchange}
use Rattle.link_sim.specs.Runs.{Exchange, IsSwapped}
use Rattle.link_sim.specs.Sound.{IsSound}
use Rattle.link_sim.specs.Stages.{IsActiveCourse, is_answered}
use Rattle.link_sim.specs.Waiting.{one_tells, policy_at}
use Rattle.link_sim.specs.World.State.{AreRested, WorldState, arriving_from, entity_at}
use Rattle.link_sim.specs.World.Steps.{Damages, Steps, Strikes}
use Rattle.link_sim.proofs.Clean.Found.{steps-found}
use Rattle.link_sim.proofs.Clean.Settles.{CleanLaws}
use Rattle.link_sim.proofs.Course.All.{course-laws}
use Rattle.link_sim.proofs.EveryPut.Events.{steps-courses}
use Rattle.link_sim.proofs.EveryPut.Pdus.{InTwo, spelled-split}
use Rattle.link_sim.proofs.EveryPut.Views.{of_id-append}
use Rattle.link_sim.proofs.Events.Beginning.{event-moves}
use Rattle.link_sim.proofs.Events.Keeping.{sound-next}
use Rattle.link_sim.proofs.Events.Moving.{Moves}
use Rattle.link_sim.proofs.Events.Resting.{rests-kept}
use Rattle.link_sim.proofs.Found.Exchanges.{spelled-same}
use Rattle.link_sim.proofs.Lanes.Swapping.{SwapsPdus, swapped-course, swapped-of, swapped-spelled}
use Rattle.link_sim.proofs.Work.WithinWorld.{event-within}
use Rattle.outages.proofs.Budgets.{HoldsHere, HoldsThere}
use Rattle.outages.proofs.Lost.{IsLeft, Loses, damages, strikes}

-- ---- what every world keeps
pub record IsReached (w : WorldState) : Type 0 where
  pub sound : IsSound w
  pub kept : KeepsPuts w
  pub rested : (s : Side) → AreRested s w

pub reached-next : CleanLaws → (e : Event) (d : Applied) (old new : WorldState) → Steps e d old new → IsReached old → IsReached new
reached-next all e d old new h r =
    let m : Moves old new = event-moves all.entity old new r.sound e d h in
    record {
      sound = sound-next all.grounds old new r.sound m.sides m.puts (event-within old new (λ t. (r.sound t).entity.config) (λ t. (r.sound t).within) e d h);
      kept = record {
        course = steps-courses all.entity all.grounds all.stays old new r.sound e d h r.kept.course;
        found = steps-found all.entity old new r.sound e d h r.kept.found;
      };
      rested = rests-kept old new r.sound r.rested e d h;
    }

pub policy-next : CleanLaws → (e : Event) (d : Applied) (old new : WorldState) → Steps e d old new → IsSound old → (s : Side) → policy_at s new ≡ policy_at s old
policy-next all e d old new h sound s =
    let m : Moves old new = event-moves all.entity old new sound e d h in
    ap (λ (c : EntityConfig). c.policy) (m.sides s).goes.config

-- ---- a transaction
pub record Holds (strict : Bool) (here there : Limits) (put : Put) (eof nak finished : ℕ) (e : Exchange) : Type 0 where
  pub course : IsActiveCourse put e
  pub sender : HoldsHere strict here eof e.sender
  pub receiver : HoldsThere there nak finished e.receiver

-- What was answered stays so, and what is closed.
pub record Onward (a b : Exchange) : Type 0 where
  pub answered : is_answered a.sender ≡ true → is_answered b.sender ≡ true
  pub closed : maybe is_closed a.receiver ≡ true → maybe is_closed b.receiver ≡ true

pub onward-same : (a : Exchange) → Onward a a
onward-same a = record { answered = λ h. h; closed = λ h. h }

pub onward-both : (a b c : Exchange) → Onward a b → Onward b c → Onward a c
onward-both a b c one two = record { answered = λ h. two.answered (one.answered h); closed = λ h. two.closed (one.closed h) }

-- what a step makes of it
pub record Comes (strict : Bool) (s : Side) (put : Put) (eof nak finished : ℕ) (old new : WorldState) (e : Exchange) : Type 0 where
  pub end : Exchange
  pub has : HasExchange s put new end
  pub holds : Holds strict (policy_at s old).limits (policy_at (other s) old).limits put eof nak finished end
  pub onward : Onward e end

-- ---- one exchange at most
pub sender-in : (x y : SenderState) (o : Option Seen) → o ≡ Some (Sends x) → o ≡ Some (Sends y) → x ≡ y
sender-in x y o a b = let is : Some (Sends x) ≡ Some (Sends y) = sym a ∙ b in cc

pub receiver-in : (o : Option Seen) (a b : Option ReceiverState) → IsReceiverIn o a → IsReceiverIn o b → a ≡ b
receiver-in None None None h k = refl
receiver-in None None (Some s) h k = absurd k
receiver-in None (Some r) b h k = absurd h
receiver-in (Some (Receives r m)) (Some s) (Some t) h k = ap Some (h ∙ sym k)
receiver-in (Some (Receives r m)) (Some s) None h k = absurd k
receiver-in (Some (Receives r m)) None b h k = absurd h
receiver-in (Some (Sends x)) (Some s) b h k = absurd h
receiver-in (Some (Sends x)) None b h k = absurd h

-- ---- PDUs of it that are lost
-- of what would have arrived, some is left
record IsLeftOf (id : TransactionId) (before after : List Content) : Type 0 where
  gone : List Content
  swaps : IsSwapped before (gone ++ after)

left-of : (id : TransactionId) (texts left : List (List ℕ)) (pdus after : List Pdu) → IsLeft texts left → AreSpelled texts pdus → AreSpelled left after → IsLeftOf id (of_id id pdus) (of_id id after)
left-of id texts left pdus after l spelled spelled_after =
    let s : SwapsPdus (l.gone ++ left) pdus = swapped-spelled texts (l.gone ++ left) pdus l.swaps spelled in
    let two : InTwo l.gone left s.swapped = spelled-split l.gone left s.swapped s.spelled in
    let same : two.rest ≡ after = spelled-same left two.rest after two.spelled_rest spelled_after in
    record {
      gone = of_id id two.first;
      swaps = subst (λ ys. IsSwapped (of_id id pdus) ys)
          (ap (of_id id) two.joined ∙ of_id-append id two.first two.rest ∙ ap (λ l. of_id id two.first ++ of_id id l) same) (swapped-of id pdus s.swapped s.are);
    }

module _ (put : Put) (x : SenderState) (o : Option ReceiverState) (b c : Bool) where
  drop-forth : (gone rest back : List Content) → IsCourse put false false false false x o (gone ++ rest) back b c → IsCourse put false false false false x o rest back b c
  drop-forth [] rest back h = h
  drop-forth (v ∷ gone) rest back h = drop-forth gone rest back (course-laws.lost_forth put x o [] (gone ++ rest) back v b c h)

  drop-back : (forth gone rest : List Content) → IsCourse put false false false false x o forth (gone ++ rest) b c → IsCourse put false false false false x o forth rest b c
  drop-back forth [] rest h = h
  drop-back forth (v ∷ gone) rest h = drop-back forth gone rest (course-laws.lost_back put x o forth [] (gone ++ rest) v b c h)

  lost-course : (forth forth1 back back1 : List Content) → IsLeftOf put.id forth forth1 → IsLeftOf put.id back back1 → IsCourse put true false false false x o forth back b c →
      IsCourse put true false false false x o forth1 back1 b c
  lost-course forth forth1 back back1 f k h =
      let turned : IsCourse put true false false false x o (f.gone ++ forth1) (k.gone ++ back1) b c =
      swapped-course put x o forth (f.gone ++ forth1) back (k.gone ++ back1) b c f.swaps k.swaps true false false false h in
      let quiet : IsCourse put false false false false x o (f.gone ++ forth1) (k.gone ++ back1) b c = record {
        truth = turned.truth;
        active = λ g. absurd (false≢true g);
        ack_comes = turned.ack_comes;
        file_comes = turned.file_comes;
        end_comes = turned.end_comes;
      } in
      let less : IsCourse put false false false false x o forth1 back1 b c = drop-back forth1 k.gone back1 (drop-forth f.gone forth1 (k.gone ++ back1) quiet) in
      record { truth = less.truth; active = λ _. h.active refl; ack_comes = less.ack_comes; file_comes = less.file_comes; end_comes = less.end_comes }

-- ---- two worlds of which both entities are the same, except for what arrives
module _ (s : Side) (put : Put) (old new : WorldState) (e : Exchange) (has : HasExchange s put old e) (d : Exchange) (has_then : HasExchange s put new d)
    (entities : (t : Side) → entity_at t new ≡ entity_at t old) where
  mine : EntityState
  mine = entity_at s old

  same-sender : d.sender ≡ e.sender
  same-sender = sender-in d.sender e.sender (record_of put.id (entity_at s new).table.records) has_then.is.is_sender
      (ap (λ (x : EntityState). record_of put.id x.table.records) (entities s) ∙ has.is.is_sender)

  same-receiver : d.receiver ≡ e.receiver
  same-receiver = receiver-in (record_of put.id (entity_at (other s) new).table.records) d.receiver e.receiver has_then.is.is_receiver
      (subst (λ (x : EntityState). IsReceiverIn (record_of put.id x.table.records) e.receiver) (sym (entities (other s))) has.is.is_receiver)

  same-told : d.told ≡ e.told
  same-told = sym has_then.is.is_told ∙ ap (λ (x : EntityState). one_tells (tells_complete put.id) x.table.told) (entities s) ∙ has.is.is_told

  same-told-there : d.told_there ≡ e.told_there
  same-told-there = sym has_then.is.is_told_there ∙ ap (λ (x : EntityState). one_tells (tells_complete put.id) x.table.told) (entities (other s)) ∙ has.is.is_told_there

  but-ways : d ≡ record e { forth = d.forth; back = d.back }
  but-ways = λ i. record { sender = same-sender i; receiver = same-receiver i; forth = d.forth; back = d.back; told = same-told i; told_there = same-told-there i }

  pub lost-holds : (strict : Bool) (here there : Limits) (eof nak finished : ℕ) → ((t : Side) → IsLeft (arriving_from t old) (arriving_from t new)) → Holds strict here there put eof nak finished e →
      Holds strict here there put eof nak finished d × Onward e d
  lost-holds strict here there eof nak finished left h =
      let f : IsLeftOf put.id e.forth d.forth = subst (λ l. IsLeftOf put.id l d.forth) has.is.is_forth
      (subst (λ l. IsLeftOf put.id (of_id put.id has.forth) l) has_then.is.is_forth
      (left-of put.id (arriving_from s old) (arriving_from s new) has.forth has_then.forth (left s) has.spelled has_then.spelled)) in
      let k : IsLeftOf put.id e.back d.back = subst (λ l. IsLeftOf put.id l d.back) has.is.is_back
      (subst (λ l. IsLeftOf put.id (of_id put.id has.back) l) has_then.is.is_back
      (left-of put.id (arriving_from (other s) old) (arriving_from (other s) new) has.back has_then.back (left (other s)) has.spelled_back has_then.spelled_back)) in
      let m : Exchange = record e { forth = d.forth; back = d.back } in
      let holds : Holds strict here there put eof nak finished m = record {
        course = lost-course put e.sender e.receiver e.told e.told_there e.forth d.forth e.back d.back f k h.course;
        sender = h.sender;
        receiver = h.receiver;
      } in
      subst (λ (m : Exchange). Holds strict here there put eof nak finished m × Onward e m) (sym but-ways) (holds, record { answered = λ t. t; closed = λ t. t })

  -- if nothing of it was lost
  pub spared-same : d.forth ≡ e.forth → d.back ≡ e.back → d ≡ e
  spared-same f k = but-ways ∙ (λ i. record e { forth = f i; back = k i })

-- ---- frames that are lost
-- Nothing was lost, or a frame was.
abbrev pub HasLost : (old new : WorldState) → Type 0
HasLost old new = (new ≡ old) ⊎ ((s : Side) × ((l : Lane) × Loses s l old new))

pub strike-lost : (d : Applied) (s : Side) (l : Lane) (old new : WorldState) → IsSound old → Strikes d s l old new → HasLost old new
strike-lost did.Applied s l old new sound h = inr (s, (l, strikes s l old new (sound s).ways h))
strike-lost did.Nothing s l old new sound h = inl h.1
strike-lost (did.Refused (refusal.Put by)) s l old new sound h = absurd h
strike-lost (did.Refused (refusal.Call by)) s l old new sound h = absurd h
strike-lost (did.Refused refusal.LossRunTooLong) s l old new sound h = inl h.same
strike-lost (did.Refused refusal.NotDamaged) s l old new sound h = absurd h

pub damage-lost : (d : Applied) (s : Side) (l : Lane) (octets : List ℕ) (old new : WorldState) → Damages d s l octets old new → HasLost old new
damage-lost did.Applied s l octets old new h = inr (s, (l, damages s l octets old new h))
damage-lost did.Nothing s l octets old new h = inl h.1
damage-lost (did.Refused (refusal.Put by)) s l octets old new h = absurd h
damage-lost (did.Refused (refusal.Call by)) s l octets old new h = absurd h
damage-lost (did.Refused refusal.LossRunTooLong) s l octets old new h = inl h.same
damage-lost (did.Refused refusal.NotDamaged) s l octets old new h = inl h.same
