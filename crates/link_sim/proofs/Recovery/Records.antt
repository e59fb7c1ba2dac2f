-- The transactions of a world, by its records.
use Rattle.std.proofs.Common.{◌≡◌, ℕ, slice_get, Option, Some, None, refl, sym, ap, subst, ◌∙◌}
use Rattle.cfdp_header.specs.declared.value.TransactionId.{TransactionId}
use Rattle.cfdp_directives.specs.User.Put.{Put}
use Rattle.cfdp_store.specs.Staged.{OctetMap}
use Rattle.cfdp_sender.specs.State.{SenderState}
use Rattle.cfdp_receiver.specs.State.{ReceiverState}
use Rattle.cfdp_entity.specs.Entity.{EntityState}
use Rattle.cfdp_entity.specs.Seen.{Seen, Sends, Receives}
use Rattle.cfdp_entity.specs.Sending.{SendsPut, SendsItsPut}
use Rattle.cfdp_entity.specs.Table.{Entry, record_of}
use Rattle.cfdp_entity.specs.Truth.{KnowsTruth, KnowsPut}
use Rattle.cfdp_entity.proofs.CallerLemmas.{same_id-true}
use Rattle.link_sim.specs.Between.{IsReceiverIn}
use Rattle.link_sim.specs.EveryPut.{KeepsPuts}
use Rattle.link_sim.specs.Exchange.{is_closed, maybe}
use Rattle.link_sim.specs.Found.{IsPutOf, HasExchange}
use Rattle.link_sim.specs.Known.{IsWithPeer}
use Rattle.link_sim.specs.Observed.{seen}
use Rattle.link_sim.specs.Runs.{Exchange, IsItsSender}
use Rattle.station_pair.specs.Stations.{other}
use Rattle.link_sim.specs.Sound.{IsSound}
use Rattle.link_sim.specs.Stages.{is_answered}
use Rattle.link_sim.specs.Theorem.{put_of}
use Rattle.link_sim.specs.Tracks.{is_done, done_at}
use Rattle.link_sim.specs.World.State.{WorldState, entity_at}
use Rattle.station_pair.specs.declared.side.Side.{Side}
use Rattle.station_pair.specs.declared.side.Side.TheVariants.{One, Two}
use Rattle.link_sim.proofs.Clean.Puts.{StandsAt, stands-at}
use Rattle.link_sim.proofs.Found.Puts.{puts-by-id}

-- ---- what is done, by an exchange
pub done-sender : (s : Side) (put : Put) (w : WorldState) (e : Exchange) → HasExchange s put w e → done_at s w put.id ≡ is_answered e.sender
done-sender s put w e has = ap is_done has.is.is_sender

pub done-receiver : (s : Side) (put : Put) (w : WorldState) (e : Exchange) → HasExchange s put w e → done_at (other s) w put.id ≡ maybe is_closed e.receiver
done-receiver s put w e has = by e.receiver (record_of put.id (entity_at (other s) w).table.records) has.is.is_receiver
  where
    by : (o : Option ReceiverState) (q : Option Seen) → IsReceiverIn q o → is_done q ≡ maybe is_closed o
    by None None is = refl
    by None (Some (Sends x)) is = absurd is
    by None (Some (Receives r m)) is = absurd is
    by (Some t) None is = absurd is
    by (Some t) (Some (Sends x)) is = absurd is
    by (Some t) (Some (Receives r m)) is = ap is_closed (sym is)

-- ---- whose a record is
-- the record of a put of this station, which it sends
pub record IsSentHere (s : Side) (id : TransactionId) (x : SenderState) (w : WorldState) : Type 0 where
  pub put : Put
  pub of : put.id ≡ id
  pub own : IsPutOf s put w
  pub its : IsItsSender put x

-- the record of a put of the other station
pub record IsReceivedHere (s : Side) (id : TransactionId) (r : ReceiverState) (w : WorldState) : Type 0 where
  pub put : Put
  pub of : put.id ≡ id
  pub own : IsPutOf (other s) put w
  pub its : r.addressing.id ≡ put.id

same-put : (p q : Put) → Some p ≡ Some q → p ≡ q
same-put p q is = cc

-- what is known at either station
pub known-at : (s : Side) (w : WorldState) → KeepsPuts w → (place : ℕ) (e : Entry) → slice_get (entity_at s w).table.records place ≡ Some e → IsWithPeer (entity_at s w).config e.1
known-at One w k place e at = k.course.known.0.with_peer place e at
known-at Two w k place e at = k.course.known.1.with_peer place e at

module _ (w : WorldState) (sound : IsSound w) where
  pub sent-here : (s : Side) (id : TransactionId) (x : SenderState) → record_of id (entity_at s w).table.records ≡ Some (Sends x) → IsSentHere s id x w
  sent-here s id x is =
      let e : EntityState = entity_at s w in
      let at : StandsAt id e.table.records (Sends x) = stands-at id e.table.records (Sends x) is in
      let sends : SendsPut (put_of (seen w)) e.table.sources at.entry.0 x =
      subst (SendsItsPut (put_of (seen w)) e.table.sources at.entry.0) at.is ((sound s).entity.sends.sends at.place at.entry at.at) in
      let knows : (x.addressing.id ≡ at.entry.0) × (at.entry.0.source ≡ e.config.entity) =
      subst (KnowsTruth e.config.entity (put_of (seen w)) _ at.entry.0) at.is ((sound s).entity.knows.knows at.place at.entry at.at) in
      let key : id ≡ at.entry.0 = same_id-true id at.entry.0 at.own in
      let own : sends.put.id ≡ at.entry.0 = puts-by-id (seen w) at.entry.0 sends.put sends.is_put in
      record {
        put = sends.put;
        of = own ∙ sym key;
        own = record { found = ap (put_of (seen w)) own ∙ sends.is_put; own = ap (λ (i : TransactionId). i.source) own ∙ knows.1 };
        its = record { is_sender = sends.sender; in_file = sends.in_file };
      }

  pub received-here : KeepsPuts w → (s : Side) (id : TransactionId) (r : ReceiverState) (m : OctetMap) → record_of id (entity_at s w).table.records ≡ Some (Receives r m) → IsReceivedHere s id r w
  received-here k s id r m is =
      let e : EntityState = entity_at s w in
      let at : StandsAt id e.table.records (Receives r m) = stands-at id e.table.records (Receives r m) is in
      let knows : KnowsPut e.config.entity (put_of (seen w)) _ at.entry.0 r m =
      subst (KnowsTruth e.config.entity (put_of (seen w)) _ at.entry.0) at.is ((sound s).entity.knows.knows at.place at.entry at.at) in
      let peer : (r.addressing.id.source ≡ e.config.peer) × (r.addressing.destination ≡ e.config.entity) = subst (IsWithPeer e.config) at.is (known-at s w k at.place at.entry at.at) in
      let key : id ≡ at.entry.0 = same_id-true id at.entry.0 at.own in
      let own : knows.put.id ≡ at.entry.0 = puts-by-id (seen w) at.entry.0 knows.put knows.is_put in
      record {
        put = knows.put;
        of = own ∙ sym key;
        own = record {
          found = ap (put_of (seen w)) own ∙ knows.is_put;
          own = ap (λ (i : TransactionId). i.source) (own ∙ sym knows.same_id) ∙ peer.0 ∙ (sound s).peer;
        };
        its = knows.same_id ∙ sym own;
      }

  -- the sender of a put's transaction is the put's
  pub its-sender : (s : Side) (put : Put) (e : Exchange) → IsPutOf s put w → HasExchange s put w e → IsItsSender put e.sender
  its-sender s put e own has =
      let h : IsSentHere s put.id e.sender w = sent-here s put.id e.sender has.is.is_sender in
      let same : h.put ≡ put = same-put h.put put (sym h.own.found ∙ ap (put_of (seen w)) h.of ∙ own.found) in
      subst (λ (p : Put). IsItsSender p e.sender) same h.its

  pub its-receiver : KeepsPuts w → (s : Side) (put : Put) (e : Exchange) (r : ReceiverState) → HasExchange s put w e → e.receiver ≡ Some r → r.addressing.id ≡ put.id
  its-receiver k s put e r has is = by (record_of put.id (entity_at (other s) w).table.records) refl
      (subst (IsReceiverIn (record_of put.id (entity_at (other s) w).table.records)) is has.is.is_receiver)
    where
      by : (q : Option Seen) → record_of put.id (entity_at (other s) w).table.records ≡ q → IsReceiverIn q (Some r) → r.addressing.id ≡ put.id
      by None at here = absurd here
      by (Some (Sends x)) at here = absurd here
      by (Some (Receives t m)) at here =
          let h : IsReceivedHere (other s) put.id t w = received-here k (other s) put.id t m at in
          ap (λ (u : ReceiverState). u.addressing.id) here ∙ h.its ∙ h.of
