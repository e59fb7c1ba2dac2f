-- What is noted of the zones of a stream.
use Rattle.std.proofs.Common.{◌≡◌, ℕ, ◌+◌, ◌-◌, ◌*◌, ◌<◌, ◌≤◌, ◌⊎◌, Bool, true, false, not, ◌&&◌, ◌||◌, ◌==◌, nat_lt, nat_le, List, [], ◌∷◌, ◌++◌, length, take, drop, Result, Ok, Err, refl, sym, ap, subst, ◌∙◌, inl, inr, arith, length-append}
use Rattle.std.proofs.lemmas.Bool.{lt-ltb, le-ltb, le-leb, lt-leb, eqb-true, cases_lt, cases_Bool}
use Rattle.std.specs.Result.{IfOk}
use Rattle.mpdu.specs.declared.reassembler.Notes.{Notes}
use Rattle.mpdu.specs.Stream.{stream, header_len, header_ok, ArePackets, arrived, begun, first_header_pointer, zone}
use Rattle.mpdu.specs.Reading.{step, goes_on, turns_bad, pointer_after, is_usable, is_some, held_at, resync, bad_count}
use Rattle.mpdu.specs.Feeding.{IsNext}
use Rattle.mpdu.proofs.Spans.{arrived-behind}
use Rattle.mpdu.proofs.Scan.{packet_long, drop-append-past}
use Rattle.mpdu.proofs.Zone.{FedRight, goes_on_inside}
use Rattle.mpdu.proofs.Taken.{next_right}

-- At a zone nothing is begun, or the begun packet goes on.
abbrev pub Joins : ℕ → List ℕ → ℕ → List ℕ → Type 0
Joins z held at octets = (held ≡ []) ⊎ (goes_on z held at octets ≡ true)

pub joins : (z : ℕ) (marks : List Bool) (a : ℕ) (ps : List (List ℕ)) → 6 ≤ z → ArePackets ps → a ≤ length marks * z → length marks * z + z ≤ a + length (stream ps) →
    Joins z (begun z marks a ps) (first_header_pointer z (length marks * z) a ps) (zone z (length marks * z - a) (stream ps))
joins z marks a [] zl h le room = inl refl
joins z marks a (p ∷ ps) zl h le room =
    let e : ℕ = length marks * z in
    let long : 7 ≤ length p = packet_long p h.0 in
    let all : length (p ++ stream ps) ≡ length p + length (stream ps) = length-append p (stream ps) in
    let T : Type 0 = Joins z (begun z marks a (p ∷ ps)) (first_header_pointer z e a (p ∷ ps)) (zone z (e - a) (stream (p ∷ ps))) in
    let done : a + length p ≤ e → T = λ (c : a + length p ≤ e).
    let t : nat_le (a + length p) e ≡ true = le-leb (a + length p) e c in
    let u : nat_le e a ≡ false = lt-leb e a (omega arith) in
    let k : e - a - length p ≡ e - (a + length p) = omega arith in
    let octets : zone z (e - a) (p ++ stream ps) ≡ zone z (e - (a + length p)) (stream ps) = ap (λ l. take z l) (drop-append-past (e - a) p (stream ps) (omega arith))
    ∙ ap (λ n. take z (drop n (stream ps))) k in
    rw (t, u, octets) (joins z marks (a + length p) ps zl h.1 c (omega arith)) in
    let begins : e < a + length p → e ≤ a → T = λ (c : e < a + length p) (d : e ≤ a).
    let t : nat_le (a + length p) e ≡ false = lt-leb (a + length p) e c in
    let ok : arrived z 0 marks a e ≡ true = arrived-behind z 0 marks a e (omega arith) (omega arith) in
    let c0 : e - a ≡ 0 = omega arith in
    let held : begun z marks a (p ∷ ps) ≡ [] = rw (t, ok, c0) refl in
    inl held in
    let lost : e < a + length p → arrived z 0 marks a e ≡ false → T = λ (c : e < a + length p) (gone : arrived z 0 marks a e ≡ false).
    let t : nat_le (a + length p) e ≡ false = lt-leb (a + length p) e c in
    let held : begun z marks a (p ∷ ps) ≡ [] = rw (t, gone) refl in
    inl held in
    let inside : e < a + length p → a < e → T = λ (c : e < a + length p) (d : a < e).
    elim (cases_Bool (arrived z 0 marks a e)) [ inl y ↦ inr (goes_on_inside z marks a p ps zl h d c room y) | inr n ↦ lost c n ] in
    elim (cases_lt e (a + length p)) [ inl c ↦ elim (cases_lt a e) [ inl d ↦ inside c d | inr d ↦ begins c d ] | inr c ↦ done c ]

other : (n m : ℕ) → n < m → (n == m) ≡ false
other n m h = elim (cases_Bool (n == m)) [ inl e ↦ (let same : n ≡ m = eqb-true n m e in absurd (omega arith)) | inr e ↦ e ]

first_of : (x y : Bool) → (x && y) ≡ true → x ≡ true
first_of true y e = refl
first_of false y e = e

-- the next zone of a stream, as `IsNext` has it
joined : (ps : List (List ℕ)) (marks : List Bool) (held : List ℕ) (at : ℕ) (octets : List ℕ) → 6 ≤ length octets → IsNext ps marks held at octets → Joins (length octets) held at octets
joined ps marks held at octets lo is =
    let z : ℕ = length octets in
    let e0 : length marks * z - 0 ≡ length marks * z = omega arith in
    let j : Joins z (begun z marks 0 ps) (first_header_pointer z (length marks * z) 0 ps) (zone z (length marks * z - 0) (stream ps)) =
    joins z marks 0 ps lo is.packets_whole (omega arith) (omega (arith, is.inside)) in
    let j1 : Joins z (begun z marks 0 ps) (first_header_pointer z (length marks * z) 0 ps) octets =
    subst (λ (l : List ℕ). Joins z (begun z marks 0 ps) (first_header_pointer z (length marks * z) 0 ps) l) (ap (λ n. zone z n (stream ps)) e0 ∙ sym is.cut_out) j in
    let j2 : Joins z (begun z marks 0 ps) at octets = subst (λ (n : ℕ). Joins z (begun z marks 0 ps) n octets) (sym is.pointed) j1 in
    subst (λ (l : List ℕ). Joins z l at octets) (sym is.as_left) j2

-- A stream's pointers are usable, and none is the pointer of idle data.
pub usable : (z e a : ℕ) (ps : List (List ℕ)) → z ≤ 2040 → (is_usable z (first_header_pointer z e a ps) ≡ true) × ((first_header_pointer z e a ps == 2046) ≡ false)
usable z e a [] most = (rw (le-ltb 2047 z (omega arith)) refl, refl)
usable z e a (p ∷ ps) most =
    let G : Type 0 = (is_usable z (first_header_pointer z e a (p ∷ ps)) ≡ true) × ((first_header_pointer z e a (p ∷ ps) == 2046) ≡ false) in
    let near : e ≤ a → a < e + z → G = λ (c : e ≤ a) (d : a < e + z).
    let t : nat_le e a ≡ true = le-leb e a c in
    let u : nat_lt a (e + z) ≡ true = lt-ltb a (e + z) d in
    let v : nat_lt (a - e) z ≡ true = lt-ltb (a - e) z (omega arith) in
    let w : (a - e == 2046) ≡ false = other (a - e) 2046 (omega arith) in
    (rw (t, u, v) refl, rw (t, u) w) in
    let far : e ≤ a → e + z ≤ a → G = λ (c : e ≤ a) (d : e + z ≤ a).
    let t : nat_le e a ≡ true = le-leb e a c in
    let u : nat_lt a (e + z) ≡ false = le-ltb a (e + z) d in
    (rw (t, u, le-ltb 2047 z (omega arith)) refl, rw (t, u) refl) in
    let before : a < e → G = λ (c : a < e).
    let t : nat_le e a ≡ false = lt-leb e a c in
    rw t (usable z e (a + length p) ps most) in
    elim (cases_lt a e) [ inl c ↦ before c | inr c ↦ elim (cases_lt a (e + z)) [ inl d ↦ near c d | inr d ↦ far c d ] ]

and_false : (b : Bool) → (b && false) ≡ false
and_false true = refl
and_false false = refl

and_true : (b : Bool) → (b && true) ≡ b
and_true true = refl
and_true false = refl

not_bad : (z : ℕ) (held : List ℕ) (at : ℕ) (octets : List ℕ) → Joins z held at octets → turns_bad held octets ≡ false
not_bad z [] at octets j = refl
not_bad z (b ∷ bs) at octets (inl e) = absurd (cc)
not_bad z (b ∷ bs) at octets (inr e) = ap not (first_of (header_ok (b ∷ bs ++ octets)) (at == pointer_after z (header_len (b ∷ bs ++ octets) - length (b ∷ bs))) e)

-- what is discarded at a usable pointer: only what a lost zone cut
let_go : (z : ℕ) (held : List ℕ) (follows : Bool) (at : ℕ) (octets : List ℕ) → Joins z (held_at follows held) at octets →
    (is_some held && not (goes_on z (held_at follows held) at octets || turns_bad (held_at follows held) octets)) ≡ (not follows && is_some held)
let_go z held false at octets j = and_true (is_some held)
let_go z held true at octets (inl e) = rw e refl
let_go z held true at octets (inr e) = rw e (and_false (is_some held))

pub resync_is : (ps : List (List ℕ)) (marks : List Bool) (held : List ℕ) (follows : Bool) (at : ℕ) (octets : List ℕ) → 6 ≤ length octets → length octets ≤ 2040 →
    IsNext ps marks (held_at follows held) at octets → resync (length octets) held follows at octets ≡ (not follows && is_some held)
resync_is ps marks held follows at octets lo hi is =
    let z : ℕ = length octets in
    let fits = usable z (length marks * z) 0 ps hi in
    let u : is_usable z at ≡ true = ap (λ n. is_usable z n) is.pointed ∙ fits.0 in
    let v : (at == 2046) ≡ false = ap (λ n. n == 2046) is.pointed ∙ fits.1 in
    rw (v, u) (let_go z held follows at octets (joined ps marks (held_at follows held) at octets lo is))

pub bad_is : (ps : List (List ℕ)) (marks : List Bool) (held : List ℕ) (at : ℕ) (octets : List ℕ) → 6 ≤ length octets → length octets ≤ 2040 →
    IsNext ps marks held at octets → bad_count (length octets) held at octets ≡ 0
bad_is ps marks held at octets lo hi is =
    let z : ℕ = length octets in
    let right : FedRight z marks 0 ps (step z held at octets) = next_right ps marks held at octets lo hi is in
    rw (not_bad z held at octets (joined ps marks held at octets lo is), right.good, and_false (is_usable z at)) refl

pub notes_ok : {E : Type 0} (r : Result Notes E) (x x' : Bool) (n n' : ℕ) → IfOk r (λ notes. notes.resync ≡ x) → IfOk r (λ notes. notes.bad ≡ n) → x ≡ x' → n ≡ n' →
    IfOk r (λ notes. (notes.resync ≡ x') × (notes.bad ≡ n'))
notes_ok (Ok notes) x x' n n' p q e f = (p ∙ e, q ∙ f)
notes_ok (Err err) x x' n n' p q e f = tt
