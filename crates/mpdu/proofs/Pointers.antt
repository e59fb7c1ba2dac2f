-- First header pointers are first starts.
use Rattle.std.proofs.Common.{◌≡◌, ℕ, zero, suc, ◌+◌, ◌-◌, ◌<◌, ◌≤◌, ◌⊎◌, true, false, nat_lt, nat_le, List, [], ◌∷◌, length, refl, sym, subst, inl, inr, arith}
use Rattle.std.specs.Prelude.{Contains}
use Rattle.std.proofs.lemmas.Bool.{lt-ltb, le-ltb, le-leb, lt-leb, cases_lt}
use Rattle.mpdu.specs.Stream.{first_header_pointer}
use Rattle.mpdu.specs.Places.{starts, IsFirstStart, HasNoStart}

Contains-first : (x : ℕ) (xs : List ℕ) → Contains (x ∷ xs) x
Contains-first x xs = (0, omega arith, refl)

Contains-later : (y x : ℕ) (xs : List ℕ) → Contains xs x → Contains (y ∷ xs) x
Contains-later y x xs (k, lt, is) = (suc k, omega arith, is)

none_starts : (x : ℕ) → Contains [] x → ⊥
none_starts x (k, lt, is) = absurd (omega arith)

either : (y x : ℕ) (xs : List ℕ) → Contains (y ∷ xs) x → (x ≡ y) ⊎ Contains xs x
either y x xs (zero, lt, is) = inl (sym is)
either y x xs (suc k, lt, is) = inr (k, omega arith, is)

-- all starts lie at the first or after it
starts-above : (a s : ℕ) (ps : List (List ℕ)) → Contains (starts a ps) s → a ≤ s
starts-above a s [] h = absurd (none_starts s h)
starts-above a s (p ∷ ps) h =
    elim (either a s (starts (a + length p) ps) h) [ inl e ↦ omega arith | inr r ↦ (let le : a + length p ≤ s = starts-above (a + length p) s ps r in omega arith) ]

abbrev IsPointer : ℕ → ℕ → List ℕ → ℕ → Type 0
IsPointer z start places at = IsFirstStart z start places at ⊎ ((at ≡ 2047) × HasNoStart z start places)

pub first_start : (z start a : ℕ) (ps : List (List ℕ)) → IsPointer z start (starts a ps) (first_header_pointer z start a ps)
first_start z start a [] = inr (refl, λ s h le. absurd (none_starts s h))
first_start z start a (p ∷ ps) =
    let places : List ℕ = starts a (p ∷ ps) in
    let G : ℕ → Type 0 = λ (n : ℕ). IsPointer z start places n in
    let near : start ≤ a → a < start + z → G (first_header_pointer z start a (p ∷ ps)) = λ (c : start ≤ a) (d : a < start + z).
    let t : nat_le start a ≡ true = le-leb start a c in
    let u : nat_lt a (start + z) ≡ true = lt-ltb a (start + z) d in
    let there : a ≡ start + (a - start) = omega arith in
    let first : IsFirstStart z start places (a - start) = record {
      inside = omega arith;
      there = subst (λ (n : ℕ). Contains places n) there (Contains-first a (starts (a + length p) ps));
      least = λ s h le. (let above : a ≤ s = starts-above a s (p ∷ ps) h in omega arith);
    } in
    rw (t, u) (inl first) in
    let far : start ≤ a → start + z ≤ a → G (first_header_pointer z start a (p ∷ ps)) = λ (c : start ≤ a) (d : start + z ≤ a).
    let t : nat_le start a ≡ true = le-leb start a c in
    let u : nat_lt a (start + z) ≡ false = le-ltb a (start + z) d in
    let none : HasNoStart z start places = λ s h le. (let above : a ≤ s = starts-above a s (p ∷ ps) h in omega arith) in
    rw (t, u) (inr (refl, none)) in
    let before : a < start → G (first_header_pointer z start a (p ∷ ps)) = λ (c : a < start).
    let t : nat_le start a ≡ false = lt-leb start a c in
    let rest : List ℕ = starts (a + length p) ps in
    let at : ℕ = first_header_pointer z start (a + length p) ps in
    let ih : IsPointer z start rest at = first_start z start (a + length p) ps in
    let found : IsFirstStart z start rest at → G at = λ (i : IsFirstStart z start rest at). inl (record {
      inside = i.inside;
      there = Contains-later a (start + at) rest i.there;
      least = λ s h le. elim (either a s rest h) [ inl e ↦ absurd (omega arith) | inr r ↦ i.least s r le ];
    }) in
    let none : (at ≡ 2047) × HasNoStart z start rest → G at = λ (i : (at ≡ 2047) × HasNoStart z start rest). inr
    (i.0, λ s h le. elim (either a s rest h) [ inl e ↦ absurd (omega arith) | inr r ↦ i.1 s r le ]) in
    rw t (elim ih [ inl i ↦ found i | inr i ↦ none i ]) in
    elim (cases_lt a start) [ inl c ↦ before c | inr c ↦ elim (cases_lt a (start + z)) [ inl d ↦ near c d | inr d ↦ far c d ] ]
