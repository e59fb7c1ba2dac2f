-- The end of a recovery: if no timer but Inactivity's is armed, each transaction that stands is
-- complete.
use Rattle.std.proofs.Common.{◌≡◌, ◌≢◌, ℕ, true, false, Option, Some, None, is_some, refl, sym, ap, subst, ◌∙◌}
use Rattle.std.specs.FinMap as map
use Rattle.std.proofs.lemmas.Bool.{false≢true, false_from_ne_true}
use Rattle.cfdp_header.specs.declared.value.TransactionId.{TransactionId}
use Rattle.cfdp_directives.specs.declared.user.limits.Limits.{Limits}
use Rattle.cfdp_directives.specs.User.Put.{Put}
use Rattle.cfdp_timers.specs.declared.kind.Kind.{Kind}
use Rattle.cfdp_timers.specs.declared.kind.Kind.TheVariants.{Inactivity}
use Rattle.cfdp_timers.specs.ButInactivity.{OnlyInactivity}
use Rattle.cfdp_sender.specs.Steps.{sender_waits}
use Rattle.cfdp_receiver.specs.State.{ReceiverState}
use Rattle.cfdp_receiver.specs.Steps.{waits}
use Rattle.cfdp_entity.specs.Seen.{Seen, Sends, Receives}
use Rattle.cfdp_entity.specs.Table.{record_of}
use Rattle.cfdp_entity.specs.Timed.{waits_for}
use Rattle.link_sim.specs.Between.{IsReceiverIn}
use Rattle.link_sim.specs.Clean.{IsCompleteAt}
use Rattle.link_sim.specs.Found.{IsPutOf}
use Rattle.link_sim.specs.Observed.{seen}
use Rattle.link_sim.specs.Runs.{Exchange}
use Rattle.station_pair.specs.Stations.{other}
use Rattle.link_sim.specs.Sound.{IsSound}
use Rattle.link_sim.specs.Stages.{Stands, IsCompleteExchange}
use Rattle.link_sim.specs.Theorem.{accepted_as}
use Rattle.link_sim.specs.Tracks.{StandsIn}
use Rattle.link_sim.specs.Waiting.{IsCompleted}
use Rattle.link_sim.specs.World.State.{WorldState, entity_at}
use Rattle.station_pair.specs.declared.side.Side.{Side}
use Rattle.link_sim.proofs.Clean.Ends.{complete-at, side-is}
use Rattle.link_sim.proofs.Found.Puts.{found-by, accepted-among}

abbrev pub EndLaw : Type 0
EndLaw = (here there : Limits) (put : Put) (a : Exchange) → Stands here there put a
    → ((k : Kind) → k ≢ Inactivity → sender_waits k a.sender ≡ false)
    → ((r : ReceiverState) → a.receiver ≡ Some r → (k : Kind) → k ≢ Inactivity → waits k r ≡ false) → IsCompleteExchange a

module _ (law : EndLaw) (w : WorldState) (sound : IsSound w) (only : (s : Side) → OnlyInactivity (entity_at s w).table.armed) where
  -- no record waits for anything else
  none-waits : (s : Side) (id : TransactionId) (k : Kind) → k ≢ Inactivity → waits_for k (record_of id (entity_at s w).table.records) ≡ false
  none-waits s id k apart = false_from_ne_true (waits_for k (record_of id (entity_at s w).table.records))
      (λ waits. armed (map.get (entity_at s w).table.armed (id, k)) refl ((sound s).entity.timed.armed id k waits))
    where
      armed : (o : Option ℕ) → map.get (entity_at s w).table.armed (id, k) ≡ o → is_some (map.get (entity_at s w).table.armed (id, k)) ≡ true → ⊥
      armed None is h = false≢true (sym (ap is_some is) ∙ h)
      armed (Some at) is h = apart ((only s).only (id, k) at is)

  complete-exchange : (s : Side) (put : Put) (x : StandsIn s put w) → IsCompleteExchange x.exchange
  complete-exchange s put x = law _ _ put x.exchange x.stands
      (λ k apart. sym (ap (waits_for k) x.has.is.is_sender) ∙ none-waits s put.id k apart)
      (λ r is k apart. receiver r k apart (record_of put.id (entity_at (other s) w).table.records) refl
      (subst (IsReceiverIn (record_of put.id (entity_at (other s) w).table.records)) is x.has.is.is_receiver))
    where
      receiver : (r : ReceiverState) (k : Kind) → k ≢ Inactivity → (q : Option Seen) → record_of put.id (entity_at (other s) w).table.records ≡ q → IsReceiverIn q (Some r) → waits k r ≡ false
      receiver r k apart None at h = absurd h
      receiver r k apart (Some (Sends x)) at h = absurd h
      receiver r k apart (Some (Receives t m)) at h = ap (waits k) h ∙ sym (ap (waits_for k) at) ∙ none-waits (other s) put.id k apart

  pub completed : (s : Side) (put : Put) → IsPutOf s put w → StandsIn s put w → IsCompleted put.id w
  completed s put own x =
      let c : IsCompleteExchange x.exchange = complete-exchange s put x in
      let q = found-by (seen w) (accepted_as w.puts put.id) put own.found in
      record {
        put = q.0;
        among = accepted-among w.puts put.id q.0 q.1.0;
        of = sym q.1.1;
        complete = subst (λ (u : Side). IsCompleteAt u q.0 w) (sym (side-is w sound s put.id.source own.own))
            (complete-at w sound s q.0 put q.1.1 own.own x.exchange.sender x.exchange.receiver x.has.is.is_sender x.has.is.is_receiver c.sender c.receiver
            (x.has.is.is_told ∙ c.told) (x.has.is.is_told_there ∙ c.told_there));
      }
