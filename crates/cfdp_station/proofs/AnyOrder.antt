-- Frames in any order, heard by a station.
use Rattle.std.proofs.Common.{◌≡◌, ℕ, suc, ◌<◌, List, [], ◌∷◌, ◌++◌, Option, IfSome, length, refl, sym, ap, subst, inl, inr, arith}
use Rattle.std.specs.List.{Contains}
use Rattle.std.proofs.lemmas.List.Elements.{Contains-append_right}
use Rattle.aos_frame.specs.Frame.{IsLink, lane_channel}
use Rattle.aos_frame.specs.declared.config.Lane.{Lane}
use Rattle.aos_frame.specs.declared.config.LinkConfig.{LinkConfig}
use Rattle.mpdu.specs.Packets.{busy}
use Rattle.mpdu.specs.Parts.{IsPartOf}
use Rattle.mpdu.proofs.Parts.{part-contains}
use Rattle.link_stack.specs.AnyOrder.{AreLeft, CountsTell, Delivery, GivesNone, GivesSent, IsFrameOf, IsStray, Receives}
use Rattle.link_stack.specs.Frames.{pdus_in}
use Rattle.link_stack.specs.Upward.{UpState}
use Rattle.cfdp_header.specs.Files.{FileMap}
use Rattle.cfdp_header.specs.declared.value.TransactionId.{TransactionId}
use Rattle.cfdp_directives.specs.Pdu.Faults.{pdu_fault}
use Rattle.cfdp_directives.specs.User.Put.{Put}
use Rattle.cfdp_entity.specs.declared.error.EntityDrop.{EntityDrop}
use Rattle.cfdp_entity.specs.Entity.{Counted, EntityState}
use Rattle.cfdp_entity.specs.Hearing.{HearsOctets, DropsOctets}
use Rattle.cfdp_entity.specs.Sound.{ComesTrue, FindsById, FindsMore, GoesOn, IsSound}
use Rattle.cfdp_station.specs.AnyOrder.{HearsNone, HearsSent, IsTruthOf}
use Rattle.cfdp_station.specs.Station.{StationState}
use Rattle.cfdp_station.specs.Taking.{HearsAll, HearsPdu, TakesFrame}

-- The laws that are used.
pub record AnyLaws : Type 0 where
  pub frame : (link : LinkConfig) (up new : UpState) (last : Lane → Option Delivery) (d : Delivery) (before after : List (List ℕ)) → IsLink link → AreLeft link up last →
      IsFrameOf (lane_channel d.lane link) d → IfSome (last d.lane) (λ b. CountsTell b d) → Receives d.octets up new before after → GivesSent link new last d before after
  pub stray : (link : LinkConfig) (up new : UpState) (last : Lane → Option Delivery) (octets : List ℕ) (before after : List (List ℕ)) → AreLeft link up last →
      ((lane : Lane) → IsStray (lane_channel lane link) octets) → Receives octets up new before after → GivesNone link new last before after

pub record TruthLaws : Type 0 where
  pub more : (put_of puts_then : TransactionId → Option Put) (heard more : List (List ℕ)) (first : FileMap) (e : EntityState) → FindsMore put_of puts_then → IsSound put_of heard first e →
      IsSound puts_then (heard ++ more) first e
  pub heard : (put_of : TransactionId → Option Put) (heard : List (List ℕ)) (first : FileMap) (pdu : List ℕ) (old new : Counted) → FindsById put_of → ComesTrue old.state.config.peer put_of heard pdu →
      HearsOctets pdu old new → IsSound put_of heard first old.state → IsSound put_of heard first new.state
  pub dropped : (put_of : TransactionId → Option Put) (heard : List (List ℕ)) (first : FileMap) (pdu : List ℕ) (by : EntityDrop) (old new : Counted) → DropsOctets (pdu_fault pdu) pdu by old new →
      IsSound put_of heard first old.state → IsSound put_of heard first new.state
  pub heard_on : (pdu : List ℕ) (old new : Counted) → HearsOctets pdu old new → GoesOn old.state new.state
  pub dropped_on : (pdu : List ℕ) (by : EntityDrop) (old new : Counted) → DropsOctets (pdu_fault pdu) pdu by old new → GoesOn old.state new.state

-- the station's end of the link received it
receives : (frame : List ℕ) (old new : StationState) (t : TakesFrame frame old new) → Receives frame old.up new.up [] t.pdus
receives frame old new t = record { taken = t.given; other = t.other; lane = t.lane }

pub hears_sent : AnyLaws → (link : LinkConfig) (old new : StationState) (last : Lane → Option Delivery) (d : Delivery) → IsLink link → AreLeft link old.up last → IsFrameOf (lane_channel d.lane link) d →
    IfSome (last d.lane) (λ b. CountsTell b d) → TakesFrame d.octets old new → HearsSent link old new last d
hears_sent laws link old new last d valid left of tell t =
    let g : GivesSent link new.up last d [] t.pdus = laws.frame link old.up new.up last d [] t.pdus valid left of tell (receives d.octets old new t) in
    record {
      left = g.left;
      pdus = t.pdus;
      sent = subst (λ l. IsPartOf l (pdus_in (busy d.packets))) (sym g.appended) g.sent;
      heard = t.heard;
      down = t.down;
    }

pub hears_none : AnyLaws → (link : LinkConfig) (old new : StationState) (last : Lane → Option Delivery) (octets : List ℕ) → AreLeft link old.up last → ((lane : Lane) → IsStray (lane_channel lane link) octets) →
    TakesFrame octets old new → HearsNone link old new last
hears_none laws link old new last octets left stray t =
    let g : GivesNone link new.up last [] t.pdus = laws.stray link old.up new.up last octets [] t.pdus left stray (receives octets old new t) in
    record {
      now = g.now;
      fewer = g.fewer;
      left = g.left;
      entity = subst (λ l. HearsAll l old.entity new.entity) g.appended t.heard;
      down = t.down;
    }

-- ---- what it hears is true
one_sound : TruthLaws → (p : TransactionId → Option Put) (heard : List (List ℕ)) (first : FileMap) → FindsById p → (pdu : List ℕ) (a b : Counted) → HearsPdu pdu a b →
    ComesTrue a.state.config.peer p heard pdu → IsSound p heard first a.state → IsSound p heard first b.state
one_sound laws p heard first ids pdu a b (inl h) t k = laws.heard p heard first pdu a b ids t h k
one_sound laws p heard first ids pdu a b (inr d) t k = laws.dropped p heard first pdu d.0 a b d.1 k

pub one_goes : TruthLaws → (pdu : List ℕ) (a b : Counted) → HearsPdu pdu a b → GoesOn a.state b.state
one_goes laws pdu a b (inl h) = laws.heard_on pdu a b h
one_goes laws pdu a b (inr d) = laws.dropped_on pdu d.0 a b d.1

pub all_sound : TruthLaws → (p : TransactionId → Option Put) (heard : List (List ℕ)) (first : FileMap) → FindsById p → (pdus : List (List ℕ)) (a b : Counted) → HearsAll pdus a b →
    ((x : List ℕ) → Contains pdus x → ComesTrue a.state.config.peer p heard x) → IsSound p heard first a.state → IsSound p heard first b.state
all_sound laws p heard first ids [] a b e t k = subst (λ (x : Counted). IsSound p heard first x.state) (sym e) k
all_sound laws p heard first ids (pdu ∷ pdus) a b (mid, here, rest) t k =
    let g : GoesOn a.state mid.state = one_goes laws pdu a mid here in
    let peer : mid.state.config.peer ≡ a.state.config.peer = ap (λ c. c.peer) g.config in
    all_sound laws p heard first ids pdus mid b rest
    (λ x c. subst (λ (n : ℕ). ComesTrue n p heard x) (sym peer) (t x (suc c.0, (let n = c.0 in let low : n < length pdus = c.1 in omega arith), c.2)))
    (one_sound laws p heard first ids pdu a mid here (t pdu (0, omega arith, refl)) k)

pub stays_true : TruthLaws → (put_of : TransactionId → Option Put) (heard : List (List ℕ)) (first : FileMap) (link : LinkConfig) (old new : StationState) (last : Lane → Option Delivery) (d : Delivery)
    (h : HearsSent link old new last d) → FindsById put_of →
    ((pdu : List ℕ) → Contains (pdus_in (busy d.packets)) pdu → IsTruthOf old.entity.state.config.peer put_of pdu) → IsSound put_of heard first old.entity.state →
    IsSound put_of (heard ++ h.pdus) first new.entity.state
stays_true laws put_of heard first link old new last d h ids says sound =
    let before : IsSound put_of (heard ++ h.pdus) first old.entity.state = laws.more put_of put_of heard h.pdus first old.entity.state (λ id put found. found) sound in
    all_sound laws put_of (heard ++ h.pdus) first ids h.pdus old.entity new.entity h.heard
    (λ (x : List ℕ) (c : Contains h.pdus x). record {
      among = Contains-append_right heard h.pdus x c;
      says = says x (part-contains h.pdus (pdus_in (busy d.packets)) x h.sent c);
    }) before
