-- A PDU that opens a record comes from the peer.
use Rattle.std.proofs.Common.{◌≡◌, ℕ, nat_lt, length, Bool, true, false, not, ◌==◌, ◌&&◌, if◌then◌else◌, Option, Some, None, refl, true≢false}
use Rattle.std.proofs.lemmas.Bool.{eqb-true}
use Rattle.cfdp_header.specs.declared.value.Direction.{Direction}
use Rattle.cfdp_header.specs.declared.value.Direction.TheVariants.{TowardReceiver, TowardSender}
use Rattle.cfdp_header.specs.declared.value.Header.{Header}
use Rattle.cfdp_header.specs.Header.{direction_bit}
use Rattle.cfdp_directives.specs.Pdu.Content.{Content, FileData, Metadata, Eof, Finished, Ack, Nak, Prompt, KeepAlive}
use Rattle.cfdp_directives.specs.Pdu.Direction.{direction_of, direction_fits, goes_to, is_for}
use Rattle.cfdp_entity.specs.declared.error.EntityDrop.{EntityDrop}
use Rattle.cfdp_entity.specs.declared.error.EntityDrop.TheVariants as drops
use Rattle.cfdp_entity.specs.declared.route.Route.{Route}
use Rattle.cfdp_entity.specs.declared.route.Route.TheVariants.{Drops, Opens, Queues}
use Rattle.cfdp_entity.specs.Entity.{EntityState, is_forgotten}
use Rattle.cfdp_entity.specs.Hearing.{route, route_by, route_unplaced, queues, names_no_file}
use Rattle.cfdp_entity.specs.Strays.{StrayAck, most_strays}
use Rattle.cfdp_entity.specs.Table.{place_of}

opens-past : (b : Bool) (d : EntityDrop) (r : Route) → (if b then Drops d else r) ≡ Opens → (b ≡ false) × (r ≡ Opens)
opens-past true d r is = absurd (cc)
opens-past false d r is = (refl, is)

queues-none : (s : StrayAck) (e : EntityState) → queues s e ≡ Opens → true ≡ false
queues-none s e is = elim (nat_lt (length e.strays) most_strays) as (λ b. (if b then Queues s else Drops drops.TableFull) ≡ Opens → true ≡ false) [
  | true ↦ λ h. absurd (cc)
  | false ↦ λ h. absurd (cc)
] is

opens-unplaced : (b : Bool) (h : Header) (v : Content) (e : EntityState) → is_forgotten e h.id ≡ b → route_unplaced b h v e ≡ Opens → (direction_of v ≡ TowardReceiver) × (is_forgotten e h.id ≡ false)
opens-unplaced true h (FileData offset bytes) e gone is = absurd (cc)
opens-unplaced true h (Metadata kind size source destination options) e gone is = absurd (cc)
opens-unplaced true h (Eof condition checksum size tlvs) e gone is = absurd (true≢false (queues-none _ e is))
opens-unplaced true h (Finished condition delivery status tlvs) e gone is = absurd (true≢false (queues-none _ e is))
opens-unplaced true h (Ack of condition status) e gone is = absurd (cc)
opens-unplaced true h (Nak start end pairs) e gone is = absurd (cc)
opens-unplaced true h (Prompt keep_alive) e gone is = absurd (cc)
opens-unplaced true h (KeepAlive progress) e gone is = absurd (cc)
opens-unplaced false h (FileData offset bytes) e gone is = (refl, gone)
opens-unplaced false h (Metadata kind size source destination options) e gone is = (refl, gone)
opens-unplaced false h (Eof condition checksum size tlvs) e gone is = (refl, gone)
opens-unplaced false h (Finished condition delivery status tlvs) e gone is = absurd (true≢false (queues-none _ e is))
opens-unplaced false h (Ack of condition status) e gone is = absurd (cc)
opens-unplaced false h (Nak start end pairs) e gone is = absurd (cc)
opens-unplaced false h (Prompt keep_alive) e gone is = absurd (cc)
opens-unplaced false h (KeepAlive progress) e gone is = absurd (cc)

opens-known : (o : Option ℕ) (h : Header) (v : Content) (e : EntityState) → route_by o h v e ≡ Opens → is_forgotten e h.id ≡ false
opens-known (Some place) h v e is = absurd (cc)
opens-known None h v e is = (opens-unplaced (is_forgotten e h.id) h v e refl is).1

opens-down : (o : Option ℕ) (h : Header) (v : Content) (e : EntityState) → route_by o h v e ≡ Opens → direction_of v ≡ TowardReceiver
opens-down (Some place) h v e is = absurd (cc)
opens-down None h v e is = (opens-unplaced (is_forgotten e h.id) h v e refl is).0

not-sender : (d down : Direction) → down ≡ TowardReceiver → not (direction_bit d == direction_bit down) ≡ false → d ≡ TowardReceiver
not-sender TowardSender TowardSender is fits = absurd (cc)
not-sender TowardSender TowardReceiver is fits = absurd (cc)
not-sender TowardReceiver down is fits = refl

first-of-both : (p q : Bool) → not (p && q) ≡ false → p ≡ true
first-of-both true q h = refl
first-of-both false q h = absurd (cc)

from-peer : (d : Direction) (source peer destination own : ℕ) → d ≡ TowardReceiver → not (goes_to d source destination own peer) ≡ false → source ≡ peer
from-peer TowardSender source peer destination own down is = absurd (cc)
from-peer TowardReceiver source peer destination own down is = eqb-true source peer (first-of-both (source == peer) (destination == own) is)

pub opens-peer : (h : Header) (v : Content) (e : EntityState) → route h v e ≡ Opens → h.id.source ≡ e.config.peer
opens-peer h v e is =
    let fits = opens-past (not (direction_fits h v)) drops.WrongDirection _ is in
    let for_us = opens-past (not (is_for e.config.entity e.config.peer h)) drops.NotForUs _ fits.1 in
    let named = opens-past (names_no_file v) drops.NoFile _ for_us.1 in
    let down = opens-down (place_of h.id e.table.records) h v e named.1 in
    from-peer h.direction h.id.source e.config.peer h.destination e.config.entity (not-sender h.direction (direction_of v) down fits.0) for_us.0

pub opens-unforgotten : (h : Header) (v : Content) (e : EntityState) → route h v e ≡ Opens → is_forgotten e h.id ≡ false
opens-unforgotten h v e is =
    let fits = opens-past (not (direction_fits h v)) drops.WrongDirection _ is in
    let for_us = opens-past (not (is_for e.config.entity e.config.peer h)) drops.NotForUs _ fits.1 in
    let named = opens-past (names_no_file v) drops.NoFile _ for_us.1 in
    opens-known (place_of h.id e.table.records) h v e named.1
