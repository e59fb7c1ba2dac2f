-- The number of the next put stays, whatever is heard and whatever frames are given.
use Rattle.std.proofs.Common.{◌≡◌, ℕ, Option, Some, None, List, [], ◌∷◌, ◌++◌, append-nil, refl, ap, subst, ◌∙◌, inl, inr}
use Rattle.std.specs.List.{flat_map}
use Rattle.std.proofs.lemmas.Grind.{flat_map-append}
use Rattle.cfdp_header.specs.declared.value.Header.{Header}
use Rattle.cfdp_directives.specs.declared.pdu.error.PduError.{PduError}
use Rattle.cfdp_directives.specs.Pdu.Content.{Content}
use Rattle.cfdp_directives.specs.Pdu.Faults.{pdu_fault}
use Rattle.cfdp_entity.specs.declared.error.EntityDrop.{EntityDrop}
use Rattle.cfdp_entity.specs.Entity.{Counted, EntityState}
use Rattle.cfdp_entity.specs.Hearing.{DropsOctets}
use Rattle.cfdp_station.specs.Station.{StationState}
use Rattle.cfdp_station.specs.Taking.{HearsAll, HearsPdu}
use Rattle.cfdp_station.specs.Transmitting.{GivesFrame}
use Rattle.link_sim.proofs.Work.Routes.{Counts, Dropped, Opens, Passes, Queues, Spoils, Steps, Taken, is-dropped, is-taken}
use Rattle.any_order.specs.Kept.{GivesAll, LifeKept, MadeFrame, with_frame}

taken_next : (h : Header) (v : Content) (old new : Counted) → Taken h v old new → new.state.next ≡ old.state.next
taken_next h v old new (Steps place s) = ap (λ (e : EntityState). e.next) s.steps
taken_next h v old new (Opens a may o) = ap (λ (e : EntityState). e.next) o.opens
taken_next h v old new (Queues s of_end is) = ap (λ (e : EntityState). e.next) is
taken_next h v old new (Passes is) = ap (λ (c : Counted). c.state.next) is

lost_next : (v : Content) (old new : Counted) → Dropped v old new → new.state.next ≡ old.state.next
lost_next v old new (Counts d is) = ap (λ (e : EntityState). e.next) is
lost_next v old new (Spoils place f) = ap (λ (e : EntityState). e.next) f.counted

dropped_next : (o : Option PduError) (pdu : List ℕ) (by : EntityDrop) (old new : Counted) → DropsOctets o pdu by old new → new.state.next ≡ old.state.next
dropped_next (Some e) pdu by old new d = ap (λ (c : Counted). c.state.next) d.1
dropped_next None pdu by old new d = lost_next d.content old new (is-dropped d.header old new d.content by d.drops)

heard_next : (pdu : List ℕ) (old new : Counted) → HearsPdu pdu old new → new.state.next ≡ old.state.next
heard_next pdu old new (inl h) = taken_next h.header h.content old new (is-taken h.header old new h.content h.takes)
heard_next pdu old new (inr d) = dropped_next (pdu_fault pdu) pdu d.0 old new d.1

pub hears_next : (pdus : List (List ℕ)) (old new : Counted) → HearsAll pdus old new → new.state.next ≡ old.state.next
hears_next [] old new same = ap (λ (c : Counted). c.state.next) same
hears_next (pdu ∷ pdus) old new (mid, one, rest) = hears_next pdus mid new rest ∙ heard_next pdu old mid one

pub gives_next : (made : List MadeFrame) (old new : StationState) (k l : LifeKept) → GivesAll made old new k l → new.entity.state.next ≡ old.entity.state.next
gives_next [] old new k l (same, none) = ap (λ (s : StationState). s.entity.state.next) same
gives_next (m ∷ made) old new k l (mid, one, rest) = gives_next made mid new (with_frame m.lane m.octets k) l rest ∙ ap (λ (c : Counted). c.state.next) one.rest.0

-- one more frame is given
pub gives_more : (made : List MadeFrame) (m : MadeFrame) (old mid new : StationState) (k l n : LifeKept) → GivesAll made old mid k l → GivesFrame m.lane m.octets mid new →
    n ≡ with_frame m.lane m.octets l → GivesAll (made ++ m ∷ []) old new k n
gives_more [] m old mid new k l n (same, none) one kept =
    (new, subst (λ (s : StationState). GivesFrame m.lane m.octets s new) same one, (refl, kept ∙ ap (with_frame m.lane m.octets) none))
gives_more (first ∷ made) m old mid new k l n (after, is, rest) one kept =
    (after, is, gives_more made m after mid new (with_frame first.lane first.octets k) l n rest one kept)

-- what is said of one more
pub told_more : {X : Type 0} {A : Type 0} (f : X → List A) (xs : List X) (x : X) → flat_map f (xs ++ x ∷ []) ≡ flat_map f xs ++ f x
told_more f xs x = flat_map-append f xs (x ∷ []) ∙ ap (λ l. flat_map f xs ++ l) (append-nil (f x))
