use Rattle.std.proofs.Common.{◌≡◌, ℕ, ◌-◌, ◌*◌, ◌≤◌, Bool, List, ◌++◌, length, take, Result, Ok, Err, OnOk, OnErr, sym, ap, subst, ◌∙◌, arith}
use Rattle.mpdu.specs.Stream.{stream, zone, first_header_pointer, begun}
use Rattle.mpdu.specs.Reading.{Read, step}
use Rattle.mpdu.specs.Feeding.{IsNext, IsTaken, IsFrontTaken}
use Rattle.mpdu.proofs.Zone.{fed, FedRight}

-- the step at the next zone of a stream
pub next_right : (ps : List (List ℕ)) (marks : List Bool) (held : List ℕ) (at : ℕ) (octets : List ℕ) → 6 ≤ length octets → length octets ≤ 2040 →
    IsNext ps marks held at octets → FedRight (length octets) marks 0 ps (step (length octets) held at octets)
next_right ps marks held at octets lo hi is =
    let z : ℕ = length octets in
    let e0 : length marks * z - 0 ≡ length marks * z = omega arith in
    let right : FedRight z marks 0 ps (step z (begun z marks 0 ps) (first_header_pointer z (length marks * z) 0 ps) (zone z (length marks * z - 0) (stream ps))) =
    fed z marks 0 ps lo hi is.packets_whole (omega arith) (omega (arith, is.inside)) in
    let same : step z (begun z marks 0 ps) (first_header_pointer z (length marks * z) 0 ps) (zone z (length marks * z - 0) (stream ps)) ≡ step z held at octets =
    ap (λ n. step z (begun z marks 0 ps) (first_header_pointer z (length marks * z) 0 ps) (zone z n (stream ps))) e0
    ∙ ap (λ l. step z (begun z marks 0 ps) (first_header_pointer z (length marks * z) 0 ps) l) (sym is.cut_out)
    ∙ ap (λ n. step z (begun z marks 0 ps) n octets) (sym is.pointed)
    ∙ ap (λ l. step z l at octets) (sym is.as_left) in
    subst (λ (r : Read). FedRight z marks 0 ps r) same right

pub taken : (ps : List (List ℕ)) (marks : List Bool) (held : List ℕ) (at : ℕ) (octets after : List ℕ) (old new : List (List ℕ)) → 6 ≤ length octets → length octets ≤ 2040 →
    IsNext ps marks held at octets → after ≡ (step (length octets) held at octets).begun → new ≡ old ++ (step (length octets) held at octets).out →
    IsTaken ps marks (length octets) after old new
taken ps marks held at octets after old new lo hi is kept more =
    let right : FedRight (length octets) marks 0 ps (step (length octets) held at octets) = next_right ps marks held at octets lo hi is in
    record { as_left = kept ∙ right.held; added = (step (length octets) held at octets).out; completed = right.given; appended = more }

pub cut_short : (ps : List (List ℕ)) (marks : List Bool) (held : List ℕ) (at : ℕ) (octets : List ℕ) (old new : List (List ℕ)) → 6 ≤ length octets → length octets ≤ 2040 →
    IsNext ps marks held at octets → ((n : ℕ) × (new ≡ old ++ take n (step (length octets) held at octets).out)) →
    IsFrontTaken ps marks (length octets) old new
cut_short ps marks held at octets old new lo hi is more =
    let right : FedRight (length octets) marks 0 ps (step (length octets) held at octets) = next_right ps marks held at octets lo hi is in
    record { added = (step (length octets) held at octets).out; completed = right.given; count = more.0; appended = more.1 }

pub both_ok : {A E : Type 0} (P Q R : Type 0) (r : Result A E) → OnOk r P → OnOk r Q → (P → Q → R) → OnOk r R
both_ok P Q R (Ok x) p q f = f p q
both_ok P Q R (Err e) p q f = tt

pub on_err : {A E : Type 0} (P R : Type 0) (r : Result A E) → OnErr r P → (P → R) → OnErr r R
on_err P R (Ok x) p f = tt
on_err P R (Err e) p f = f p
