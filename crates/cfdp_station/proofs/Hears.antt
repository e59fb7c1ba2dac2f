-- PDUs heard, one after another.
use Rattle.std.proofs.Common.{◌≡◌, ℕ, zero, suc, ◌+◌, ◌<◌, List, [], ◌∷◌, length, slice_index_or, drop, add-one, Result, Ok, Err, OnOk, IfErr, inl, inr, refl, sym, subst, arith}
use Rattle.cfdp_directives.specs.Pdu.Faults.{pdu_fault}
use Rattle.cfdp_entity.specs.declared.error.EntityDrop.{EntityDrop}
use Rattle.cfdp_entity.specs.Entity.{Counted}
use Rattle.cfdp_entity.specs.Hearing.{HearsOctets, DropsOctets}
use Rattle.cfdp_station.specs.Taking.{HearsPdu, HearsAll}

-- whichever way it went
pub hears_either : {X : Type 0} (r : Result X EntityDrop) (pdu : List ℕ) (old new : Counted) →
    OnOk r (HearsOctets pdu old new) → IfErr r (λ by. DropsOctets (pdu_fault pdu) pdu by old new) → HearsPdu pdu old new
hears_either (Ok x) pdu old new heard dropped = inl heard
hears_either (Err by) pdu old new heard dropped = inr (by, dropped)

-- one is heard, and then those after it
hears_next : (pdus : List (List ℕ)) (i : ℕ) (pdu : List ℕ) (now next end : Counted) → i < length pdus → pdu ≡ slice_index_or pdus i [] →
    HearsPdu pdu now next → HearsAll (drop (suc i) pdus) next end → HearsAll (drop i pdus) now end
hears_next [] i pdu now next end inside is one more = absurd (omega arith)
hears_next (p ∷ ps) zero pdu now next end inside is one more =
    (next, subst (λ (l : List ℕ). HearsPdu l now next) is one, more)
hears_next (p ∷ ps) (suc i) pdu now next end inside is one more = hears_next ps i pdu now next end (omega arith) is one more

pub hears_one : (pdus : List (List ℕ)) (i : ℕ) (pdu : List ℕ) (now next end : Counted) → i < length pdus → pdu ≡ slice_index_or pdus i [] →
    HearsPdu pdu now next → HearsAll (drop (i + 1) pdus) next end → HearsAll (drop i pdus) now end
hears_one pdus i pdu now next end inside is one more =
    hears_next pdus i pdu now next end inside is one (subst (λ (n : ℕ). HearsAll (drop n pdus) next end) (add-one i) more)

-- none is left
pub hears_none : (pdus : List (List ℕ)) (now : Counted) → pdus ≡ [] → HearsAll pdus now now
hears_none pdus now none = subst (λ (ps : List (List ℕ)). HearsAll ps now now) (sym none) refl
