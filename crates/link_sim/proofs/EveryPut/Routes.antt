-- What an entity does with a PDU that is for it and of an accepted put: its record makes its step,
-- one is opened, or it is dropped. No acknowledgement of a transaction without a record is queued.
use Rattle.std.proofs.Common.{◌≡◌, ◌≢◌, ℕ, ◌<◌, ◌≤◌, ◌==◌, ◌&&◌, Bool, true, false, List, length, Option, Some, None, ◌⊎◌, inl, inr, refl, ap, subst, ◌∙◌, arith}
use Rattle.std.specs.Prelude.{nat_lt}
use Rattle.std.specs.FinSet as set
use Rattle.std.proofs.lemmas.Bool.{eqb-true, ltb-true, ltb-false}
use Rattle.cfdp_header.specs.declared.value.Direction.{Direction}
use Rattle.cfdp_header.specs.declared.value.Direction.TheVariants.{TowardReceiver, TowardSender}
use Rattle.cfdp_header.specs.declared.value.Header.{Header}
use Rattle.cfdp_header.specs.Header.{direction_bit}
use Rattle.cfdp_header.specs.declared.value.TransactionId.{TransactionId}
use Rattle.cfdp_header.specs.Ids.{id_cmp}
use Rattle.cfdp_extents.specs.Forgotten.{IdSet}
use Rattle.cfdp_directives.specs.declared.pdu.codes.Acknowledged.TheVariants as acknowledged
use Rattle.cfdp_directives.specs.Pdu.Addressing.{addressing_of as addressing_in}
use Rattle.cfdp_directives.specs.Pdu.Content.{Content, FileData, Metadata, Eof, Finished, Ack, Nak, Prompt, KeepAlive}
use Rattle.cfdp_directives.specs.Pdu.Direction.{direction_of, goes_to}
use Rattle.cfdp_directives.specs.User.Put.{Put}
use Rattle.cfdp_entity.specs.declared.error.EntityDrop.{EntityDrop}
use Rattle.cfdp_entity.specs.declared.error.EntityDrop.TheVariants as drops
use Rattle.cfdp_entity.specs.Entity.{EntityState, Counted, dropped, is_forgotten}
use Rattle.cfdp_entity.specs.Errors.{drop_number}
use Rattle.cfdp_entity.specs.Hearing.{opens_record, route, route_by, route_new, route_unplaced, Takes, DropsBy, StepsAt, OpensOne, FindsNoMemory}
use Rattle.cfdp_entity.specs.Table.{place_of, most_records}
use Rattle.cfdp_entity.proofs.Histories.{no-record}
use Rattle.link_sim.specs.Between.{Pdu}
use Rattle.link_sim.specs.Known.{IsDirected, IsSending, IsKnown}
use Rattle.link_sim.specs.Work.{opening_work}
use Rattle.link_sim.proofs.EveryPut.Pdus.{HearsOne}

-- ---- for whom a PDU is
fits-same : (a b : Direction) → (direction_bit a == direction_bit b) ≡ true → a ≡ b
fits-same TowardSender TowardSender is = refl
fits-same TowardReceiver TowardReceiver is = refl
fits-same TowardSender TowardReceiver is = absurd cc
fits-same TowardReceiver TowardSender is = absurd cc

pub either-way : (d : Direction) → (d ≡ TowardSender) ⊎ (d ≡ TowardReceiver)
either-way TowardSender = inl refl
either-way TowardReceiver = inr refl

pub and-parts : (p q : Bool) → (p && q) ≡ true → (p ≡ true) × (q ≡ true)
and-parts true q is = (refl, is)
and-parts false q is = absurd cc

-- toward the sender it is of a transaction of this entity, and otherwise of one of the peer
pub toward-own : (way : Direction) (source destination own peer : ℕ) → way ≡ TowardSender → goes_to way source destination own peer ≡ true → source ≡ own
toward-own TowardSender source destination own peer toward is = eqb-true source own (and-parts (source == own) (destination == peer) is).0
toward-own TowardReceiver source destination own peer toward is = absurd cc

pub from-peer : (way : Direction) (source destination own peer : ℕ) → way ≡ TowardReceiver → goes_to way source destination own peer ≡ true → (source ≡ peer) × (destination ≡ own)
from-peer TowardSender source destination own peer toward is = absurd cc
from-peer TowardReceiver source destination own peer toward is =
    let parts = and-parts (source == peer) (destination == own) is in
    (eqb-true source peer parts.0, eqb-true destination own parts.1)

module _ (put_of : TransactionId → Option Put) (e : EntityState) (h : Header) (v : Content) (d : IsDirected put_of e (h, v)) where
  pub directed-own : direction_of v ≡ TowardSender → h.id.source ≡ e.config.entity
  directed-own toward = toward-own h.direction h.id.source h.destination e.config.entity e.config.peer (fits-same h.direction (direction_of v) d.fits ∙ toward) d.addressed

  pub directed-peer : direction_of v ≡ TowardReceiver → (h.id.source ≡ e.config.peer) × (h.destination ≡ e.config.entity)
  directed-peer toward = from-peer h.direction h.id.source h.destination e.config.entity e.config.peer (fits-same h.direction (direction_of v) d.fits ∙ toward) d.addressed

  pub directed-route : route h v e ≡ route_by (place_of h.id e.table.records) h v e
  directed-route = rw (d.fits, d.addressed, d.named) refl

-- ---- what becomes of it
-- Its record made its step.
pub record StepsRecord (h : Header) (v : Content) (old new : Counted) : Type 0 where
  pub place : ℕ
  pub at : place_of h.id old.state.table.records ≡ Some place
  pub steps : StepsAt place h.large v old new

-- It opened a record.
pub record OpensRecord (h : Header) (v : Content) (old new : Counted) : Type 0 where
  pub none : place_of h.id old.state.table.records ≡ None
  pub room : length old.state.table.records < most_records
  pub opening : opening_work v ≢ 0
  pub down : direction_of v ≡ TowardReceiver
  pub opens : OpensOne (addressing_in h) h.large v old new

-- It was dropped, if its transaction has no record: if none is opened for it that is cause 14, and
-- by cause 15 only if the table is full.
pub record DropsNew (h : Header) (v : Content) (old new : Counted) : Type 0 where
  pub none : place_of h.id old.state.table.records ≡ None
  pub by : EntityDrop
  pub low : drop_number by < 18
  pub opening : (opening_work v ≡ 0) ⊎ (drop_number by ≢ 14)
  pub kinds : (drop_number by ≡ 14) ⊎ ((drop_number by ≡ 15) ⊎ (drop_number by ≡ 16))
  pub full : drop_number by ≡ 15 → most_records ≤ length old.state.table.records
  pub is : new.state ≡ dropped by old.state
  pub grows : old.inbox_failures ≤ new.inbox_failures

-- It was dropped for lack of memory at its record.
pub record SpoilsRecord (h : Header) (v : Content) (old new : Counted) : Type 0 where
  pub place : ℕ
  pub at : place_of h.id old.state.table.records ≡ Some place
  pub finds : FindsNoMemory place v old new

abbrev pub HeardSo : Header → Content → (old new : Counted) → Type 0
HeardSo h v old new = StepsRecord h v old new ⊎ (OpensRecord h v old new ⊎ (DropsNew h v old new ⊎ SpoilsRecord h v old new))

module _ (h : Header) (old new : Counted) (none : place_of h.id old.state.table.records ≡ None) where
  pub unheard : (v : Content) (by : EntityDrop) → drop_number by < 18 → (opening_work v ≡ 0) ⊎ (drop_number by ≢ 14) → (drop_number by ≡ 14) ⊎ ((drop_number by ≡ 15) ⊎ (drop_number by ≡ 16)) →
      (drop_number by ≡ 15 → most_records ≤ length old.state.table.records) → new.state ≡ dropped by old.state → old.inbox_failures ≤ new.inbox_failures → HeardSo h v old new
  unheard v by low opening kinds full is grows = inr (inr (inl (record { none = none; by = by; low = low; opening = opening; kinds = kinds; full = full; is = is; grows = grows })))

  same-inbox : (e : EntityState) → new ≡ record old { state = e } → old.inbox_failures ≤ new.inbox_failures
  same-inbox e is = let same : new.inbox_failures ≡ old.inbox_failures = ap (λ (c : Counted). c.inbox_failures) is in omega (arith, same)

  -- a PDU that opens a record, if the table isn't full
  module _ (v : Content) (opening : opening_work v ≢ 0) (down : direction_of v ≡ TowardReceiver) where
    open-takes : (b : Bool) → nat_lt (length old.state.table.records) most_records ≡ b → Takes (opens_record old.state) h v old new → HeardSo h v old new
    open-takes true is t =
        let f : Takes (opens_record old.state) h v old new → OpensOne (addressing_in h) h.large v old new = rw is (λ o. o) in
        inr (inl (record { none = none; room = ltb-true (length old.state.table.records) most_records is; opening = opening; down = down; opens = f t }))
    open-takes false is t =
        let f : Takes (opens_record old.state) h v old new → ⊥ = rw is (λ o. o) in
        absurd (f t)

    open-drops : (b : Bool) (by : EntityDrop) → nat_lt (length old.state.table.records) most_records ≡ b → DropsBy (opens_record old.state) by v old new → HeardSo h v old new
    open-drops true by is t =
        let f : DropsBy (opens_record old.state) by v old new → (new ≡ record old { state = dropped drops.NoMemory old.state }) = rw is (λ o. o.1) in
        unheard v drops.NoMemory (omega arith) (inr (λ h. omega (arith, h))) (inr (inr refl)) (λ h. omega (arith, h)) (ap (λ (c : Counted). c.state) (f t))
        (same-inbox (dropped drops.NoMemory old.state) (f t))
    open-drops false by is t =
        let f : DropsBy (opens_record old.state) by v old new → (new ≡ record old { state = dropped drops.TableFull old.state }) = rw is (λ o. o.1) in
        unheard v drops.TableFull (omega arith) (inr (λ h. omega (arith, h))) (inr (inl refl)) (λ h. ltb-false (length old.state.table.records) most_records is) (ap (λ (c : Counted). c.state) (f t))
        (same-inbox (dropped drops.TableFull old.state) (f t))

    pub open-heard : Takes (opens_record old.state) h v old new ⊎ ((by : EntityDrop) × DropsBy (opens_record old.state) by v old new) → HeardSo h v old new
    open-heard (inl t) = open-takes (nat_lt (length old.state.table.records) most_records) refl t
    open-heard (inr d) = open-drops (nat_lt (length old.state.table.records) most_records) d.0 refl d.1

  -- one that opens none
  pub lost-heard : (v : Content) → opening_work v ≡ 0 → ⊥ ⊎ ((by : EntityDrop) × ((by ≡ drops.Unknown) × (new ≡ record old { state = dropped drops.Unknown old.state }))) → HeardSo h v old new
  lost-heard v opening (inl t) = absurd t
  lost-heard v opening (inr d) = unheard v drops.Unknown (omega arith) (inl opening) (inl refl) (λ h. omega (arith, h)) (ap (λ (c : Counted). c.state) d.1.1)
      (same-inbox (dropped drops.Unknown old.state) d.1.1)

  pub new-heard : (v : Content) → (direction_of v ≡ TowardSender → ⊥) → Takes (route_new h v old.state) h v old new ⊎ ((by : EntityDrop) × DropsBy (route_new h v old.state) by v old new) →
      HeardSo h v old new
  new-heard (FileData offset bytes) own t = open-heard (FileData offset bytes) (λ e. omega (arith, e)) refl t
  new-heard (Metadata kind size source destination options) own t = open-heard (Metadata kind size source destination options) (λ e. omega (arith, e)) refl t
  new-heard (Eof condition checksum size tlvs) own t = open-heard (Eof condition checksum size tlvs) (λ e. omega (arith, e)) refl t
  new-heard (Finished condition delivery status tlvs) own t = absurd (own refl)
  new-heard (Ack acknowledged.Eof condition status) own t = lost-heard (Ack acknowledged.Eof condition status) refl t
  new-heard (Ack acknowledged.Finished condition status) own t = lost-heard (Ack acknowledged.Finished condition status) refl t
  new-heard (Nak start end pairs) own t = lost-heard (Nak start end pairs) refl t
  new-heard (Prompt keep_alive) own t = lost-heard (Prompt keep_alive) refl t
  new-heard (KeepAlive progress) own t = lost-heard (KeepAlive progress) refl t

module _ (put_of : TransactionId → Option Put) (theirs : EntityState) (forth : List Pdu) (h : Header) (v : Content) (old new : Counted) (own : IsKnown put_of old.state theirs forth)
    (d : IsDirected put_of old.state (h, v)) where
  -- a PDU toward the sender is of a put of this entity, which has its record
  pub has-record : place_of h.id old.state.table.records ≡ None → direction_of v ≡ TowardSender → ⊥
  has-record none toward =
      let sends = own.sends h.id d.of_put (directed-own put_of old.state h v d toward) in
      subst IsSending (no-record old.state.table.records h.id none).0 sends

  by-place : (o : Option ℕ) → place_of h.id old.state.table.records ≡ o → Takes (route_by o h v old.state) h v old new ⊎ ((by : EntityDrop) × DropsBy (route_by o h v old.state) by v old new) →
      HeardSo h v old new
  by-place (Some place) is (inl t) = inl (record { place = place; at = is; steps = t })
  by-place (Some place) is (inr t) = inr (inr (inr (record { place = place; at = is; finds = t.1.1 })))
  by-place None is t =
      let none : is_forgotten old.state h.id ≡ false = ap (λ (f : IdSet). set.contains f h.id) own.none_forgotten ∙ set.contains-empty id_cmp h.id in
      new-heard h old new is v (has-record is)
      (subst (λ b. Takes (route_unplaced b h v old.state) h v old new ⊎ ((by : EntityDrop) × DropsBy (route_unplaced b h v old.state) by v old new)) none t)

  pub heard-so : HearsOne h v old new → HeardSo h v old new
  heard-so t = by-place (place_of h.id old.state.table.records) refl (subst (λ r. Takes r h v old new ⊎ ((by : EntityDrop) × DropsBy r by v old new)) (directed-route put_of old.state h v d) t)
