-- A station is given the time of a world: what becomes of each put's transaction.
use Rattle.std.proofs.Common.{◌≡◌, ℕ, ◌≤◌, true, List, [], Option, Some, None, is_some, refl, sym, ap, subst, ◌∙◌}
use Rattle.std.specs.Prelude.{Contains}
use Rattle.std.specs.FinMap as map
use Rattle.std.proofs.lemmas.Bool.{false≢true}
use Rattle.cfdp_directives.specs.User.Put.{Put}
use Rattle.cfdp_timers.specs.declared.kind.Kind.{Kind}
use Rattle.cfdp_sender.specs.State.{SenderState}
use Rattle.cfdp_receiver.specs.State.{ReceiverState}
use Rattle.cfdp_entity.specs.Entity.{EntityState}
use Rattle.cfdp_entity.specs.History.{KeepsRecords, Leads}
use Rattle.cfdp_entity.specs.Seen.{Seen, Sends, Receives}
use Rattle.cfdp_entity.specs.Sound.{FindsMore}
use Rattle.cfdp_entity.specs.Table.{TableState, all_expired, at_time, record_of}
use Rattle.cfdp_entity.specs.Timed.{waits_for}
use Rattle.link_sim.specs.Between.{Pdu, IsReceiverIn, AreSpelled}
use Rattle.link_sim.specs.Exchange.{tells_complete}
use Rattle.link_sim.specs.Found.{HasExchange, ExpiresHere, ExpiresThere, ExpiresOn}
use Rattle.link_sim.specs.Known.{AreKnown}
use Rattle.link_sim.specs.Observed.{seen}
use Rattle.link_sim.specs.Runs.{Exchange, expire_sender, ReceiverExpires}
use Rattle.station_pair.specs.Stations.{other}
use Rattle.link_sim.specs.Sound.{IsSound}
use Rattle.link_sim.specs.Stages.{AreWaitedBySender, AreWaitedByReceiver}
use Rattle.link_sim.specs.Theorem.{put_of}
use Rattle.link_sim.specs.Waiting.{one_tells}
use Rattle.link_sim.specs.World.State.{WorldState, arriving_from, entity_at}
use Rattle.link_sim.specs.World.Steps.{TellsTime}
use Rattle.station_pair.specs.declared.side.Side.{Side}
use Rattle.link_sim.proofs.Found.ExpiresWorld.{kinds_of, fired-sender, fired-receiver, fired-none, fired-waited, fired-all, expired-rest, none-expires, none-waited, SendsIn, Received, StaysNone}
use Rattle.link_sim.proofs.Events.Keeping.{other-other}
use Rattle.link_sim.proofs.EveryPut.Known.{ticks-known, same-known}
use Rattle.link_sim.proofs.Lanes.Same.{same-arriving}
use Rattle.link_sim.proofs.Lanes.Ways.{back-kept, forth-kept}

module _ (stays : (old new : TableState) → Leads old new → KeepsRecords old.records new.records) (s : Side) (now : ℕ) (old new : WorldState) (sound : IsSound old) (h : TellsTime s now old new)
    (same : FindsMore (put_of (seen old)) (put_of (seen new)) × FindsMore (put_of (seen new)) (put_of (seen old))) where
  abbrev st : TableState
  st = (entity_at s old).table

  abbrev st1 : TableState
  st1 = (entity_at s new).table

  policy : st.policy ≡ (entity_at s old).config.policy
  policy = (sound s).entity.policy

  theirs-same : entity_at (other s) new ≡ entity_at (other s) old
  theirs-same = ap (λ x. x.entity.state) h.links.spares.station

  -- what is known stays
  known-then : (forth back : List Pdu) → AreKnown (put_of (seen old)) (entity_at s old) (entity_at (other s) old) forth back →
      AreKnown (put_of (seen new)) (entity_at s new) (entity_at (other s) new) forth back
  known-then forth back k = subst (λ (e : EntityState). AreKnown (put_of (seen new)) (entity_at s new) e forth back) (sym theirs-same)
      (ticks-known stays (put_of (seen new)) (entity_at s old) (entity_at s new) (entity_at (other s) old) forth back now h.ticked h.table
      (same-known (put_of (seen old)) (put_of (seen new)) (entity_at s old) (entity_at (other s) old) forth back same.0 same.1 k))

  -- ---- a put of this station
  module _ (put : Put) (e : Exchange) (has : HasExchange s put old e) where
    abbrev kinds : List Kind
    kinds = kinds_of put.id h.ticked.fired

    waited : AreWaitedBySender e.sender kinds
    waited k c = sym (ap (waits_for k) has.is.is_sender) ∙ fired-waited now st st1 h.ticked (sound s).entity.timed put.id k c

    fired : SendsIn put (expire_sender (entity_at s old).config.policy put kinds e) st1
    fired = subst (λ (t : TableState). SendsIn put (expire_sender (entity_at s old).config.policy put kinds e) t) (sym h.ticked.ticked)
        (fired-sender put (entity_at s old).config.policy h.ticked.fired (at_time now st) e policy (sound s).entity.once.distinct (record { is = has.is.is_sender; told = λ b. has.is.is_told ∙ b })).0

    abbrev after : Exchange
    after = expire_sender (entity_at s old).config.policy put kinds e

    abbrev end : Exchange
    end = record after { told = one_tells (tells_complete put.id) st1.told; told_there = one_tells (tells_complete put.id) (entity_at (other s) new).table.told }

    -- of the rest nothing changed
    rest : (after.receiver ≡ e.receiver) × ((after.forth ≡ e.forth) × ((after.back ≡ e.back) × (after.told_there ≡ e.told_there)))
    rest = expired-rest (entity_at s old).config.policy put kinds e

    pub expires-here : ExpiresHere s now put e old new
    expires-here = record {
      kinds = kinds;
      waited = waited;
      all = λ k deadline is low. fired-all now st st1 h.ticked (sound s).entity.timed put.id k deadline is low;
      end = end;
      more = record {
        told = end.told;
        told_there = end.told_there;
        stays = λ t. fired.told t;
        stays_there = λ t. ap (λ (x : EntityState). one_tells (tells_complete put.id) x.table.told) theirs-same ∙ has.is.is_told_there ∙ sym rest.1.1.1 ∙ t;
        is = refl;
      };
      is_end = record {
        forth = has.forth;
        back = has.back;
        spelled = subst (λ l. AreSpelled l has.forth) (sym (same-arriving s old new (forth-kept s old new h.links))) has.spelled;
        spelled_back = subst (λ l. AreSpelled l has.back) (sym (same-arriving (other s) old new (back-kept s old new h.links))) has.spelled_back;
        known = known-then has.forth has.back has.known;
        is = record {
          is_sender = fired.is;
          is_receiver = subst (λ (x : EntityState). IsReceiverIn (record_of put.id x.table.records) after.receiver) (sym theirs-same)
              (subst (λ o. IsReceiverIn (record_of put.id (entity_at (other s) old).table.records) o) (sym rest.0) has.is.is_receiver);
          is_forth = has.is.is_forth ∙ sym rest.1.0;
          is_back = has.is.is_back ∙ sym rest.1.1.0;
          is_told = refl;
          is_told_there = refl;
        };
      };
    }

  -- ---- a put of the other station
  way-there : arriving_from (other s) new ≡ arriving_from (other s) old
  way-there = same-arriving (other s) old new (back-kept s old new h.links)

  way-here : arriving_from (other (other s)) new ≡ arriving_from (other (other s)) old
  way-here = ap (λ (t : Side). arriving_from t new) (other-other s) ∙ same-arriving s old new (forth-kept s old new h.links) ∙ sym (ap (λ (t : Side). arriving_from t old) (other-other s))

  module _ (put : Put) (e : Exchange) (has : HasExchange (other s) put old e) where
    abbrev kinds_there : List Kind
    kinds_there = kinds_of put.id h.ticked.fired

    -- the receiver stands at this station
    here-now : (w : WorldState) (P : EntityState → Type 0) → P (entity_at (other (other s)) w) → P (entity_at s w)
    here-now w P p = subst (λ (t : Side). P (entity_at t w)) (other-other s) p

    back-now : (w : WorldState) (P : EntityState → Type 0) → P (entity_at s w) → P (entity_at (other (other s)) w)
    back-now w P p = subst (λ (t : Side). P (entity_at t w)) (sym (other-other s)) p

    told-was : one_tells (tells_complete put.id) st.told ≡ e.told_there
    told-was = here-now old (λ x. one_tells (tells_complete put.id) x.table.told ≡ e.told_there) has.is.is_told_there

    receiver-was : IsReceiverIn (record_of put.id st.records) e.receiver
    receiver-was = here-now old (λ x. IsReceiverIn (record_of put.id x.table.records) e.receiver) has.is.is_receiver

    -- what is known stays
    known-there : AreKnown (put_of (seen new)) (entity_at (other s) new) (entity_at (other (other s)) new) has.forth has.back
    known-there =
        let k : AreKnown (put_of (seen old)) (entity_at (other s) old) (entity_at s old) has.forth has.back =
        here-now old (λ x. AreKnown (put_of (seen old)) (entity_at (other s) old) x has.forth has.back) has.known in
        let k1 = known-then has.back has.forth (k.1, k.0) in
        back-now new (λ x. AreKnown (put_of (seen new)) (entity_at (other s) new) x has.forth has.back) (k1.1, k1.0)

    -- if the receiver comes to this
    module _ (ks : List Kind) (expired : Exchange) (sender : expired.sender ≡ e.sender) (forth : expired.forth ≡ e.forth) (back : expired.back ≡ e.back) (told : expired.told ≡ e.told)
        (is_in : IsReceiverIn (record_of put.id st1.records) expired.receiver) (grows : expired.told_there ≡ true → one_tells (tells_complete put.id) st1.told ≡ true)
        (expires : ReceiverExpires (entity_at s old).config.policy put ks e expired) (waited : AreWaitedByReceiver e.receiver ks)
        (all : (k : Kind) (deadline : ℕ) → map.get st.armed (put.id, k) ≡ Some deadline → deadline ≤ now → Contains ks k) where
      abbrev last : Exchange
      last = record expired { told_there = one_tells (tells_complete put.id) st1.told }

      comes-there : ExpiresThere s now put e old new
      comes-there = record {
        kinds = ks;
        waited = waited;
        all = all;
        expired = expired;
        expires = expires;
        end = last;
        more = record { told = expired.told; told_there = last.told_there; stays = λ t. t; stays_there = grows; is = refl };
        is_end = record {
          forth = has.forth;
          back = has.back;
          spelled = subst (λ l. AreSpelled l has.forth) (sym way-there) has.spelled;
          spelled_back = subst (λ l. AreSpelled l has.back) (sym way-here) has.spelled_back;
          known = known-there;
          is = record {
            is_sender = ap (λ (x : EntityState). record_of put.id x.table.records) theirs-same ∙ has.is.is_sender ∙ ap (λ (x : SenderState). Some (Sends x)) (sym sender);
            is_receiver = back-now new (λ x. IsReceiverIn (record_of put.id x.table.records) expired.receiver) is_in;
            is_forth = has.is.is_forth ∙ sym forth;
            is_back = has.is.is_back ∙ sym back;
            is_told = ap (λ (x : EntityState). one_tells (tells_complete put.id) x.table.told) theirs-same ∙ has.is.is_told ∙ sym told;
            is_told_there = back-now new (λ x. one_tells (tells_complete put.id) x.table.told ≡ last.told_there) refl;
          };
        };
      }

    pub expires-there : ExpiresThere s now put e old new
    expires-there = by e.receiver refl (record_of put.id st.records) refl receiver-was
      where
        by : (o : Option ReceiverState) → e.receiver ≡ o → (q : Option Seen) → record_of put.id st.records ≡ q → IsReceiverIn q o → ExpiresThere s now put e old new
        by None is None at here = none is at
          where
            none : e.receiver ≡ None → record_of put.id st.records ≡ None → ExpiresThere s now put e old new
            none is at =
                let n : StaysNone put (at_time now st) (all_expired h.ticked.fired (at_time now st)) = fired-none put h.ticked.fired (at_time now st) (sound s).entity.once.distinct at in
                let n1 : StaysNone put (at_time now st) st1 = subst (λ (t : TableState). StaysNone put (at_time now st) t) (sym h.ticked.ticked) n in
                comes-there [] e refl refl refl refl
                (subst (λ o. IsReceiverIn (record_of put.id st1.records) o) (sym is) (subst (λ q. IsReceiverIn q None) (sym n1.none) tt))
                (λ t. n1.grows (told-was ∙ t)) (none-expires (entity_at s old).config.policy put e) (none-waited e.receiver)
                (λ k deadline armed low. absurd (false≢true (sym (ap (waits_for k) at) ∙ (sound s).entity.timed.waited put.id k (ap is_some armed))))
        by None is (Some (Sends x)) at here = absurd here
        by None is (Some (Receives r m)) at here = absurd here
        by (Some r) is None at here = absurd here
        by (Some r) is (Some (Sends x)) at here = absurd here
        by (Some r) is (Some (Receives t m)) at here = some
          where
            found : Received put (entity_at s old).config.policy kinds_there e (at_time now st) st1
            found = subst (λ (x : TableState). Received put (entity_at s old).config.policy kinds_there e (at_time now st) x) (sym h.ticked.ticked)
                (fired-receiver put (entity_at s old).config.policy h.ticked.fired (at_time now st) e policy (sound s).entity.once.distinct
                (record { receiver = r; is_receiver = is; octets = m; is = at ∙ ap (λ (x : ReceiverState). Some (Receives x m)) (sym here); told = λ b. told-was ∙ b }))

            waited : AreWaitedByReceiver e.receiver kinds_there
            waited = subst (λ o. AreWaitedByReceiver o kinds_there) (sym is)
                (λ k c. sym (ap (waits_for k) (at ∙ ap (λ (x : ReceiverState). Some (Receives x m)) (sym here))) ∙ fired-waited now st st1 h.ticked (sound s).entity.timed put.id k c)

            some : ExpiresThere s now put e old new
            some = comes-there kinds_there found.end found.same_sender found.same_forth found.same_back found.same_told
                (subst (λ q. IsReceiverIn q found.end.receiver) (sym found.is_in.is)
                (subst (λ o. IsReceiverIn (Some (Receives found.is_in.receiver found.is_in.octets)) o) (sym found.is_in.is_receiver) refl))
                found.is_in.told found.expires waited
                (λ k deadline armed low. fired-all now st st1 h.ticked (sound s).entity.timed put.id k deadline armed low)

-- what becomes of every put
pub expires-on : (stays : (old new : TableState) → Leads old new → KeepsRecords old.records new.records) (s : Side) (now : ℕ) (old new : WorldState) → IsSound old → TellsTime s now old new
    → FindsMore (put_of (seen old)) (put_of (seen new)) × FindsMore (put_of (seen new)) (put_of (seen old)) → ExpiresOn s now old new
expires-on stays s now old new sound h same = record {
  here = λ put own e has. expires-here stays s now old new sound h same put e has;
  there = λ put own e has. expires-there stays s now old new sound h same put e has;
}
