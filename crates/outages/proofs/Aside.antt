-- A put, a call on another transaction, and a tick by which none of its timers expires leave a
-- transaction as it is.
use Rattle.std.proofs.Common.{◌≡◌, ◌≢◌, ℕ, zero, suc, true, false, List, [], ◌∷◌, length, slice_get, Option, Some, None, inr, refl, sym, ap, subst, ◌∙◌}
use Rattle.std.specs.List.{IsDistinct}
use Rattle.std.specs.Map.{keys_of}
use Rattle.std.specs.Prelude.{Contains}
use Rattle.std.proofs.lemmas.Bool.{false_from_ne_true}
use Rattle.cfdp_header.specs.declared.value.TransactionId.{TransactionId}
use Rattle.cfdp_header.specs.Ids.{same_id}
use Rattle.cfdp_directives.specs.User.Put.{Put}
use Rattle.cfdp_store.specs.Files.{octets_in}
use Rattle.cfdp_timers.specs.declared.kind.Kind.{Kind}
use Rattle.cfdp_timers.specs.Order.{Timer}
use Rattle.cfdp_sender.specs.declared.transfer.Transfer.{Transfer}
use Rattle.cfdp_entity.specs.declared.request.Request.{Request}
use Rattle.cfdp_entity.specs.Entity.{EntityState}
use Rattle.cfdp_entity.specs.Opening.{puts}
use Rattle.cfdp_entity.specs.Putting.{next_transfer}
use Rattle.cfdp_entity.specs.Refusing.{called_in}
use Rattle.cfdp_entity.specs.Seen.{Sends}
use Rattle.cfdp_entity.specs.Steps.{After}
use Rattle.cfdp_entity.specs.Steps as steps
use Rattle.cfdp_entity.specs.Table.{Entry, TableState, all_expired, at_time, expired, place_of, record_of, step_of}
use Rattle.cfdp_entity.proofs.CallerLemmas.{push-other, same_id-true, step-other}
use Rattle.cfdp_entity.proofs.Histories.{key-at, no-record}
use Rattle.cfdp_entity.proofs.Timing.{distinct-fired, key-there}
use Rattle.station_pair.specs.declared.refusal.Refusal.TheVariants as refusal
use Rattle.station_pair.specs.declared.side.Side.{Side}
use Rattle.station_pair.specs.Stations.{other}
use Rattle.link_sim.specs.declared.event.Applied.{Applied}
use Rattle.link_sim.specs.declared.event.Applied.TheVariants as did
use Rattle.link_sim.specs.Between.{AreSpelled, IsReceiverIn, of_id}
use Rattle.link_sim.specs.Exchange.{tells_complete}
use Rattle.link_sim.specs.Found.{HasExchange, IsPutOf, RunsTo}
use Rattle.link_sim.specs.Runs.{Exchange, Runs, TellsMore}
use Rattle.link_sim.specs.Sound.{IsSound}
use Rattle.link_sim.specs.Waiting.{one_tells}
use Rattle.link_sim.specs.World.State.{WorldState, arriving_from, entity_at}
use Rattle.link_sim.specs.World.Steps.{Calls, KeepsLinks, Puts, TellsTime}
use Rattle.link_sim.proofs.Events.Keeping.{both}
use Rattle.link_sim.proofs.Events.Moving.{apart}
use Rattle.link_sim.proofs.Found.Exchanges.{has-exchange, spelled-same}
use Rattle.link_sim.proofs.Found.ExpiresWorld.{ExpiresOther, kinds-other, kinds-own, kinds_of, other-fired, told-grows}
use Rattle.link_sim.proofs.Lanes.Same.{same-arriving}
use Rattle.link_sim.proofs.Lanes.Ways.{back-kept, forth-kept}
use Rattle.link_sim.proofs.Stages.Rounds.{contains-first}
use Rattle.outages.specs.Spared.{IsUndue}
use Rattle.outages.specs.Tries.{time_told}
use Rattle.outages.proofs.Fired.{undue-apart}
use Rattle.outages.proofs.Tracking.{IsReached, receiver-in, sender-in}

-- At a station the record of this transaction is as it was, and what was indicated of it stays.
pub record Stays (id : TransactionId) (old new : TableState) : Type 0 where
  pub same : record_of id new.records ≡ record_of id old.records
  pub told : one_tells (tells_complete id) old.told ≡ true → one_tells (tells_complete id) new.told ≡ true

stays-same : (id : TransactionId) (old new : EntityState) → new ≡ old → Stays id old.table new.table
stays-same id old new is = subst (λ (e : EntityState). Stays id old.table e.table) (sym is) (record { same = refl; told = λ t. t })

-- So at both, and the same PDUs will arrive.
pub record GoesAside (id : TransactionId) (old new : WorldState) : Type 0 where
  pub stays : (t : Side) → Stays id (entity_at t old).table (entity_at t new).table
  pub ways : (t : Side) → arriving_from t new ≡ arriving_from t old

aside-none : (id : TransactionId) (old new : WorldState) → new ≡ old → GoesAside id old new
aside-none id old new is = subst (GoesAside id old) (sym is) (record { stays = λ t. record { same = refl; told = λ h. h }; ways = λ t. refl })

aside-at : (id : TransactionId) (s : Side) (old new : WorldState) → KeepsLinks s old new → Stays id (entity_at s old).table (entity_at s new).table → GoesAside id old new
aside-at id s old new links here = record {
  stays = both (λ t. Stays id (entity_at t old).table (entity_at t new).table) s here (stays-same id (entity_at (other s) old) (entity_at (other s) new) (ap (λ x. x.entity.state) links.spares.station));
  ways = both (λ t. arriving_from t new ≡ arriving_from t old) s (same-arriving s old new (forth-kept s old new links)) (same-arriving (other s) old new (back-kept s old new links));
}

-- ---- a put
module _ (s : Side) (put : Put) (old : WorldState) (sound : IsSound old) (own : IsPutOf s put old) (e : Exchange) (has : HasExchange s put old e) where
  abbrev IsOther : Side → Type 0
  IsOther t = (source : ℕ) (id : TransactionId) → place_of id (entity_at t old).table.records ≡ None → id.source ≡ (entity_at t old).config.entity → same_id put.id id ≡ false

  other-here : IsOther s
  other-here source id fresh of = false_from_ne_true (same_id put.id id) (λ t. (
      let none : record_of put.id (entity_at s old).table.records ≡ None = ap (λ i. record_of i (entity_at s old).table.records) (same_id-true put.id id t)
      ∙ (no-record (entity_at s old).table.records id fresh).0 in
      let bad : None ≡ Some (Sends e.sender) = sym none ∙ has.is.is_sender in
      cc))

  other-there : IsOther (other s)
  other-there source id fresh of = false_from_ne_true (same_id put.id id) (λ t. apart old sound s (sym own.own ∙ ap (λ (i : TransactionId). i.source) (same_id-true put.id id t) ∙ of))

  pub put-aside : (new : WorldState) (d : Applied) (T : Side) (source destination : List ℕ) → Puts d T source destination old new → GoesAside put.id old new
  put-aside new did.Applied T source destination h =
      let before : EntityState = entity_at T old in
      let t : Transfer = next_transfer source destination (length (octets_in before.table.sources source)) before in
      let fresh : place_of t.addressing.id before.table.records ≡ None = ap (λ i. place_of i before.table.records) (sym h.accepts.is_next) ∙ h.accepts.fresh in
      let differs : same_id put.id t.addressing.id ≡ false = both IsOther s other-here other-there T 0 t.addressing.id fresh refl in
      aside-at put.id T old new h.links
      (subst (λ (x : EntityState). Stays put.id before.table x.table) (sym h.accepts.opened) (record {
        same = push-other before.table.records t.addressing.id put.id (puts before.table.files t).seen differs;
        told = told-grows (tells_complete put.id) before.table.told (puts before.table.files t).told _ refl;
      }))
  put-aside new did.Nothing T source destination h = absurd h
  put-aside new (did.Refused (refusal.Put by)) T source destination h = aside-at put.id T old new h.stays.links (stays-same put.id (entity_at T old) (entity_at T new) h.stays.entity)
  put-aside new (did.Refused (refusal.Call by)) T source destination h = absurd h
  put-aside new (did.Refused refusal.LossRunTooLong) T source destination h = absurd h
  put-aside new (did.Refused refusal.NotDamaged) T source destination h = absurd h

-- ---- a call on another transaction
called-stays : (id of : TransactionId) → of ≢ id → (c : Request) (st : TableState) (o : Option ℕ) → place_of of st.records ≡ o → Stays id st (called_in c o st)
called-stays id of apart_so c st None is = record { same = refl; told = λ t. t }
called-stays id of apart_so c st (Some place) is = at (slice_get st.records place) refl
  where
    differs : same_id id of ≡ false
    differs = false_from_ne_true (same_id id of) (λ t. apart_so (sym (same_id-true id of t)))

    at : (o : Option Entry) → slice_get st.records place ≡ o → Stays id st (step_of (λ e. steps.calls st.policy.times st.files c e.1) place o st)
    at None nowhere = record { same = refl; told = λ t. t }
    at (Some e) there =
        let key : of ≡ e.0 = key-there of st.records place e is there in
        let a : After = steps.calls st.policy.times st.files c e.1 in
        record {
          same = step-other st.records place e.0 id a.seen (key-at st.records place e there) (ap (same_id id) (sym key) ∙ differs);
          told = told-grows (tells_complete id) st.told a.told _ refl;
        }

pub call-aside : (id of : TransactionId) → of ≢ id → (old new : WorldState) (d : Applied) (T : Side) (c : Request) → Calls d T c of old new → GoesAside id old new
call-aside id of apart_so old new did.Applied T c h =
    let before : EntityState = entity_at T old in
    aside-at id T old new h.links
    (subst (λ (x : EntityState). Stays id before.table x.table) (sym h.called.called) (called-stays id of apart_so c before.table (place_of of before.table.records) refl))
call-aside id of apart_so old new did.Nothing T c h = absurd h
call-aside id of apart_so old new (did.Refused (refusal.Put by)) T c h = absurd h
call-aside id of apart_so old new (did.Refused (refusal.Call by)) T c h = aside-none id old new h.same
call-aside id of apart_so old new (did.Refused refusal.LossRunTooLong) T c h = absurd h
call-aside id of apart_so old new (did.Refused refusal.NotDamaged) T c h = absurd h

-- ---- the time, if none of its timers is due
fired-stays : (id : TransactionId) (ts : List Timer) (st : TableState) → IsDistinct same_id (keys_of st.records) → ((k : Kind) → Contains (kinds_of id ts) k → ⊥) → Stays id st (all_expired ts st)
unfolding all_expired
fired-stays id [] st apart_so none = record { same = refl; told = λ t. t }
fired-stays id (t ∷ ts) st apart_so none = elim (same_id id t.0) as (λ b. same_id id t.0 ≡ b → Stays id st (all_expired ts (expired t st))) [
  | true ↦ λ is. absurd (none t.1 (subst (λ l. Contains l t.1) (sym (kinds-own id t ts is)) (contains-first t.1 (kinds_of id ts))))
  | false ↦ λ differs. (
      let o : ExpiresOther id st (expired t st) = other-fired id t st apart_so differs in
      let rest : Stays id (expired t st) (all_expired ts (expired t st)) = fired-stays id ts (expired t st) (distinct-fired t ts st apart_so)
      (λ k c. none k (subst (λ l. Contains l k) (sym (kinds-other id t ts differs)) c)) in
      record { same = rest.same ∙ o.same; told = λ was. rest.told (told-grows (tells_complete id) st.told o.more (expired t st).told o.told was) })
] refl

pub tick-aside : (id : TransactionId) (T : Side) (now : ℕ) (old new : WorldState) → IsSound old → TellsTime T now old new → IsUndue id T now old → GoesAside id old new
tick-aside id T now old new sound h undue =
    let st : TableState = (entity_at T old).table in
    let stays : Stays id (at_time now st) (all_expired h.ticked.fired (at_time now st)) = fired-stays id h.ticked.fired (at_time now st) (sound T).entity.once.distinct
    (λ k. undue-apart st.armed id k (time_told T now old) h.ticked.fired h.ticked.are (undue k)) in
    aside-at id T old new h.links (subst (λ (x : TableState). Stays id st x) (sym h.ticked.ticked) (record { same = stays.same; told = stays.told }))

-- ---- what it comes to
-- more was indicated, of whatever transaction
module _ (s : Side) (put : Put) (old new : WorldState) (next : IsReached new) (own : IsPutOf s put new) (e : Exchange) (has : HasExchange s put old e) (g : GoesAside put.id old new) where
  aside-more : (d : Exchange) → HasExchange s put new d → TellsMore e d
  aside-more d then_ = record {
    told = d.told;
    told_there = d.told_there;
    stays = λ t. sym then_.is.is_told ∙ (g.stays s).told (has.is.is_told ∙ t);
    stays_there = λ t. sym then_.is.is_told_there ∙ (g.stays (other s)).told (has.is.is_told_there ∙ t);
    is = λ i. record { sender = sender i; receiver = receiver i; forth = forth i; back = back i; told = d.told; told_there = d.told_there };
  }
    where
      sender : d.sender ≡ e.sender
      sender = sender-in d.sender e.sender (record_of put.id (entity_at s new).table.records) then_.is.is_sender ((g.stays s).same ∙ has.is.is_sender)

      receiver : d.receiver ≡ e.receiver
      receiver = receiver-in (record_of put.id (entity_at (other s) new).table.records) d.receiver e.receiver then_.is.is_receiver
          (subst (λ q. IsReceiverIn q e.receiver) (sym (g.stays (other s)).same) has.is.is_receiver)

      forth : d.forth ≡ e.forth
      forth = sym then_.is.is_forth ∙ ap (of_id put.id) (spelled-same (arriving_from s new) then_.forth has.forth then_.spelled (subst (λ l. AreSpelled l has.forth) (sym (g.ways s)) has.spelled))
          ∙ has.is.is_forth

      back : d.back ≡ e.back
      back = sym then_.is.is_back
          ∙ ap (of_id put.id) (spelled-same (arriving_from (other s) new) then_.back has.back then_.spelled_back (subst (λ l. AreSpelled l has.back) (sym (g.ways (other s))) has.spelled_back))
          ∙ has.is.is_back

  pub aside-run : RunsTo s put e new
  unfolding Runs
  aside-run =
      let x = has-exchange s put new next.sound next.kept.course own in
      record { steps = suc zero; end = x.0; is_end = x.1; runs = (e, (refl, inr (inr (inr (inr (inr (inr (inr (inr (inr (aside-more x.0 x.1))))))))))) }
