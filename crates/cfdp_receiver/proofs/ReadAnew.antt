-- What was read of a file so far: its sums, range by range.
use Rattle.std.proofs.Common.{◌≡◌, ℕ, ◌+◌, ◌-◌, ◌<◌, ◌≤◌, Bool, true, false, ◌&&◌, ◌||◌, nat_lt, List, [], ◌∷◌, ◌++◌, length, Option, Some, IsSome, unwrap_or, refl, sym, ap, ap₂, subst, ◌∙◌, arith, inl, inr, if◌then◌else◌}
use Rattle.std.specs.Prelude.{count_by, slice_index}
use Rattle.std.specs.List.{AllByRecursion}
use Rattle.std.specs.FinMap as map
use Rattle.std.specs.FinSet as set
use Rattle.std.specs.Ordering.{nat_cmp}
use Rattle.std.proofs.lemmas.Bool.{false≢true, cases_lt, le-leb, lt-ltb, le-ltb, and_from, and_parts, leb-true, ltb-true}
use Rattle.std.proofs.lemmas.Option.{slice_get-get_or}
use Rattle.std.proofs.lemmas.List.Sums.{sum_by-cons}
use Rattle.cfdp_directives.specs.declared.pdu.sums.Checksums.{Checksums}
use Rattle.cfdp_directives.specs.Pdu.Checksum.{Piece, covers}
use Rattle.cfdp_directives.specs.Pdu.Sums.{AreSumsOf, all_summed, nothing_summed, summed}
use Rattle.cfdp_extents.specs.Offsets.{Offsets, AreApart, StartBehind, is_within, union_of}
use Rattle.cfdp_store.specs.Staged.{OctetMap, written}
use Rattle.cfdp_receiver.specs.Summed.{IsAdopted, IsStagedIn, SumsBelow}

abbrev mark : Bool → ℕ
mark b = if b then 1 else 0

-- what a law of checksums says
abbrev pub NoneSummed : Type 0
NoneSummed = (wanted : Option ℕ) → AreSumsOf wanted [] nothing_summed

abbrev pub MoreSummed : Type 0
MoreSummed = (wanted : Option ℕ) (front back : List Piece) (sums : Checksums) → AreSumsOf wanted front sums
    → AreSumsOf wanted (front ++ back) (all_summed wanted sums back)

-- what a law of what is written says
pub record WrittenStands : Type 0 where
  pub here : (m : OctetMap) (at : ℕ) (xs : List ℕ) (n : ℕ) → at ≤ n → n < at + length xs → map.get (written m at xs) n ≡ Some (slice_index xs (n - at))
  pub below : (m : OctetMap) (at : ℕ) (xs : List ℕ) (n : ℕ) → n < at → map.get (written m at xs) n ≡ map.get m n

-- what a law of sets says
abbrev pub UnionsHold : Type 0
UnionsHold = (r : ℕ × ℕ) (rs : List (ℕ × ℕ)) (n : ℕ) → set.contains (union_of (r ∷ rs)) n ≡ (is_within r.0 r.1 n || set.contains (union_of rs) n)

-- ---- counting
count-cons : (n : ℕ) (p : Piece) (ps : List Piece) → count_by (covers n) (p ∷ ps) ≡ mark (covers n p) + count_by (covers n) ps
count-cons n p ps = sum_by-cons (λ (q : Piece). mark (covers n q)) p ps

count-none : (n : ℕ) → count_by (covers n) [] ≡ 0
count-none n = refl

count-append : (n : ℕ) (ps : List Piece) (p : Piece) → count_by (covers n) (ps ++ p ∷ []) ≡ count_by (covers n) ps + mark (covers n p)
count-append n [] p = let a = count-cons n p [] in let b = count-none n in omega (arith, a, b)
count-append n (q ∷ ps) p =
    let a = count-cons n q (ps ++ p ∷ []) in let b = count-cons n q ps in let c = count-append n ps p in
    omega (arith, a, b, c)

not-true : (b : Bool) → (b ≡ true → ⊥) → b ≡ false
not-true true h = absurd (h refl)
not-true false h = refl

not-within : (s e n : ℕ) → n < s → is_within s e n ≡ false
not-within s e n low = not-true (is_within s e n) (λ is. (let h : s ≤ n = leb-true s n (and_parts _ _ is).0 in omega (arith, h, low)))

past-within : (s e n : ℕ) → e ≤ n → is_within s e n ≡ false
past-within s e n high = not-true (is_within s e n) (λ is. (let h : n < e = ltb-true n e (and_parts _ _ is).1 in omega (arith, h, high)))

is-within : (s e n : ℕ) → s ≤ n → n < e → is_within s e n ≡ true
is-within s e n low high = and_from _ _ (le-leb s n low) (lt-ltb n e high)

and-true : (h b : Bool) → b ≡ true → (h && b) ≡ h
and-true true b is = is
and-true false b is = refl

and-false : (h b : Bool) → b ≡ false → (h && b) ≡ false
and-false true b is = is
and-false false b is = refl

-- what is held below one offset, and between it and another one
counts : (h : Bool) (at end n : ℕ) → at ≤ end → (at ≤ n → n < end → h ≡ true) → mark (h && nat_lt n at) + mark (is_within at end n) ≡ mark (h && nat_lt n end)
counts h at end n order inside = elim (cases_lt n at) [
  | inl low ↦
      let a = ap mark (and-true h (nat_lt n at) (lt-ltb n at low)) in
      let b = ap mark (not-within at end n low) in
      let c = ap mark (and-true h (nat_lt n end) (lt-ltb n end (omega (arith, low, order)))) in
      omega (arith, a, b, c)
  | inr from ↦ elim (cases_lt n end) [
    | inl low ↦
        let a = ap mark (and-false h (nat_lt n at) (le-ltb n at from)) in
        let b = ap mark (is-within at end n from low) in
        let c = ap mark (and-true h (nat_lt n end) (lt-ltb n end low) ∙ inside from low) in
        omega (arith, a, b, c)
    | inr past ↦
        let a = ap mark (and-false h (nat_lt n at) (le-ltb n at from)) in
        let b = ap mark (past-within at end n past) in
        let c = ap mark (and-false h (nat_lt n end) (le-ltb n end past)) in
        omega (arith, a, b, c)
  ]
]

-- ---- pieces
all-append : (P : Piece → Type 0) (ps : List Piece) (p : Piece) → AllByRecursion P ps → P p → AllByRecursion P (ps ++ p ∷ [])
all-append P [] p all is = (is, tt)
all-append P (q ∷ ps) p all is = (all.0, all-append P ps p all.1 is)

abbrev ends_by : ℕ → Piece → Type 0
ends_by end p = p.offset + length p.bytes ≤ end

lower : (at end : ℕ) (ps : List Piece) → at ≤ end → AllByRecursion (ends_by at) ps → AllByRecursion (ends_by end) ps
lower at end [] order all = tt
lower at end (p ∷ ps) order all = (omega (arith, all.0, order), lower at end ps order all.1)

module _ (stands : WrittenStands) (m : OctetMap) (at : ℕ) (xs : List ℕ) where
  -- pieces below a write are staged as before
  still : (ps : List Piece) → AllByRecursion (IsStagedIn m) ps → AllByRecursion (ends_by at) ps → AllByRecursion (IsStagedIn (written m at xs)) ps
  still [] parts low = tt
  still (p ∷ ps) parts low = (
    record {
      some = parts.0.some;
      same = λ k h. stands.below m at xs (p.offset + k) (omega (arith, h, low.0)) ∙ parts.0.same k h;
    },
    still ps parts.1 low.1,
  )

  piece : Piece
  piece = record { offset = at; bytes = xs }

  -- what is written is staged
  newest : 0 < length xs → IsStagedIn (written m at xs) (record { offset = at; bytes = xs })
  newest some = record {
    some = some;
    same = λ k h.
        (let same_place : at + k - at ≡ k = omega arith in
        stands.here m at xs (at + k) (omega arith) (omega (arith, h))
        ∙ ap (λ j. Some (slice_index xs j)) same_place
        ∙ sym (slice_get-get_or xs k 0 h));
  }

module _ (wanted : Option ℕ) (held : Offsets) where
  -- nothing was read yet
  pub none-read : NoneSummed → (m : OctetMap) → SumsBelow wanted held 0 m nothing_summed
  none-read none m = record {
    backed = λ n is h. absurd (omega (arith, h));
    pieces = [];
    parts = tt;
    low = tt;
    once = λ n. ap mark (sym (and-false (set.contains held n) (nat_lt n 0) (le-ltb n 0 (omega arith))));
    are = none wanted;
  }

  -- nothing is held from one offset up to another one
  pub read-gap : {m : OctetMap} {sums : Checksums} (at end : ℕ) → at ≤ end → ((n : ℕ) → at ≤ n → n < end → set.contains held n ≡ false)
      → SumsBelow wanted held at m sums → SumsBelow wanted held end m sums
  read-gap {m} {sums} at end order gap was = record {
    backed = λ n is h. elim (cases_lt n at) [
      | inl low ↦ was.backed n is low
      | inr from ↦ absurd (false≢true (sym (gap n from h) ∙ is))
    ];
    pieces = was.pieces;
    parts = was.parts;
    low = lower at end was.pieces order was.low;
    once = λ n. was.once n ∙ ap mark (elim (cases_lt n at) [
      | inl low ↦ and-true (set.contains held n) (nat_lt n at) (lt-ltb n at low) ∙ sym (and-true (set.contains held n) (nat_lt n end) (lt-ltb n end (omega (arith, low, order))))
      | inr from ↦ and-false (set.contains held n) (nat_lt n at) (le-ltb n at from) ∙ sym (elim (cases_lt n end) [
        | inl low ↦ ap (λ b. b && nat_lt n end) (gap n from low)
        | inr past ↦ and-false (set.contains held n) (nat_lt n end) (le-ltb n end past)
      ])
    ]);
    are = was.are;
  }

  -- octets that are held were read
  pub read-more : MoreSummed → WrittenStands → {m : OctetMap} {sums : Checksums} (at : ℕ) (xs : List ℕ) → 0 < length xs
      → ((n : ℕ) → at ≤ n → n < at + length xs → set.contains held n ≡ true)
      → SumsBelow wanted held at m sums → SumsBelow wanted held (at + length xs) (written m at xs) (summed wanted sums (record { offset = at; bytes = xs }))
  read-more more stands {m} {sums} at xs some inside was =
      let p : Piece = record { offset = at; bytes = xs } in
      record {
        backed = λ n is h. elim (cases_lt n at) [
          | inl low ↦ subst IsSome (sym (stands.below m at xs n low)) (was.backed n is low)
          | inr from ↦ subst IsSome (sym (stands.here m at xs n from h)) refl
        ];
        pieces = was.pieces ++ p ∷ [];
        parts = all-append (IsStagedIn (written m at xs)) was.pieces p (still stands m at xs was.pieces was.parts was.low) (newest stands m at xs some);
        low = all-append (ends_by (at + length xs)) was.pieces p (lower at (at + length xs) was.pieces (omega arith) was.low) (omega arith);
        once = λ n. count-append n was.pieces p ∙ ap (λ k. k + mark (is_within at (at + length xs) n)) (was.once n)
            ∙ counts (set.contains held n) at (at + length xs) n (omega arith) (inside n);
        are = more wanted was.pieces (p ∷ []) sums was.are;
      }

  -- all that is held was read
  pub read-all : {m : OctetMap} {sums : Checksums} {staged : Option OctetMap} (end : ℕ) → IsSome staged → unwrap_or staged map.empty ≡ m
      → ((n : ℕ) → end ≤ n → set.contains held n ≡ false) → SumsBelow wanted held end m sums → IsAdopted wanted held staged sums
  read-all {m} {sums} {staged} end begun is past was =
      let below : (n : ℕ) → set.contains held n ≡ true → n < end = λ n h. elim (cases_lt n end) [
        | inl low ↦ low
        | inr from ↦ absurd (false≢true (sym (past n from) ∙ h))
      ] in
      record {
        begun = begun;
        backed = λ n h. subst (λ o. IsSome (map.get o n)) (sym is) (was.backed n h (below n h));
        summed = record {
          pieces = was.pieces;
          cut = record {
            parts = subst (λ o. AllByRecursion (IsStagedIn o) was.pieces) (sym is) was.parts;
            once = λ n. was.once n ∙ ap mark (elim (cases_lt n end) [
              | inl low ↦ and-true (set.contains held n) (nat_lt n end) (lt-ltb n end low)
              | inr from ↦ and-false (set.contains held n) (nat_lt n end) (le-ltb n end from) ∙ sym (past n from)
            ]);
          };
          are = was.are;
        };
      }

-- ---- ranges
-- the first of the ranges, if there is one, starts at n or after it
abbrev StartFrom : ℕ → List (ℕ × ℕ) → Type 0
StartFrom n [] = Unit {0}
StartFrom n (r ∷ rs) = n ≤ r.0

from-behind : (n : ℕ) (rs : List (ℕ × ℕ)) → StartBehind n rs → StartFrom n rs
from-behind n [] h = tt
from-behind n (r ∷ rs) h = omega (arith, h)

none-before : UnionsHold → (from n : ℕ) (rs : List (ℕ × ℕ)) → AreApart rs → StartFrom from rs → n < from → set.contains (union_of rs) n ≡ false
unfolding union_of
none-before unions from n [] apart start low = set.contains-empty nat_cmp n
none-before unions from n (r ∷ rs) apart start low =
    unions r rs n ∙ ap₂ (λ a b. a || b) (not-within r.0 r.1 n (omega (arith, start, low)))
    (none-before unions r.1 n rs apart.2 (from-behind r.1 rs apart.1) (omega (arith, start, low, apart.0)))

-- what is held was read up to some offset, and these ranges are the rest of it
pub record IsReadUpTo (wanted : Option ℕ) (held : Offsets) (m : OctetMap) (sums : Checksums) (rest : List (ℕ × ℕ)) : Type 0 where
  pub at : ℕ
  pub below : SumsBelow wanted held at m sums
  pub apart : AreApart rest
  pub start : StartFrom at rest
  pub left : (n : ℕ) → at ≤ n → set.contains held n ≡ set.contains (union_of rest) n

module _ (unions : UnionsHold) (wanted : Option ℕ) (held : Offsets) where
  pub read-first : NoneSummed → (m : OctetMap) (ranges : List (ℕ × ℕ)) → AreApart ranges → union_of ranges ≡ held → IsReadUpTo wanted held m nothing_summed ranges
  read-first none m ranges apart union = record {
    at = 0;
    below = none-read wanted held none m;
    apart = apart;
    start = from-zero ranges;
    left = λ n h. ap (λ o. set.contains o n) (sym union);
  }
    where
      from-zero : (rs : List (ℕ × ℕ)) → StartFrom 0 rs
      from-zero [] = tt
      from-zero (r ∷ rs) = omega arith

  module _ {m : OctetMap} {sums : Checksums} (r : ℕ × ℕ) (rs : List (ℕ × ℕ)) (was : IsReadUpTo wanted held m sums (r ∷ rs)) where
    -- up to the next range
    pub read-to : SumsBelow wanted held r.0 m sums
    read-to = read-gap wanted held was.at r.0 was.start (λ n from low.
        was.left n from ∙ unions r rs n ∙ ap₂ (λ a b. a || b) (not-within r.0 r.1 n low)
        (none-before unions r.1 n rs was.apart.2 (from-behind r.1 rs was.apart.1) (omega (arith, low, was.apart.0)))) was.below

    pub in-range : (n : ℕ) → r.0 ≤ n → n < r.1 → set.contains held n ≡ true
    in-range n low high = was.left n (omega (arith, was.start, low)) ∙ unions r rs n ∙ ap (λ a. a || set.contains (union_of rs) n) (is-within r.0 r.1 n low high)

    -- with it
    pub read-range : {now : OctetMap} {more : Checksums} → SumsBelow wanted held r.1 now more → IsReadUpTo wanted held now more rs
    read-range below = record {
      at = r.1;
      below = below;
      apart = was.apart.2;
      start = from-behind r.1 rs was.apart.1;
      left = λ n h. was.left n (omega (arith, h, was.start, was.apart.0)) ∙ unions r rs n ∙ ap (λ a. a || set.contains (union_of rs) n) (past-within r.0 r.1 n h);
    }

-- once no range is left
pub read-ends : {wanted : Option ℕ} {held : Offsets} {m : OctetMap} {sums : Checksums} {staged : Option OctetMap} → IsSome staged → unwrap_or staged map.empty ≡ m
    → IsReadUpTo wanted held m sums [] → IsAdopted wanted held staged sums
unfolding union_of
read-ends {wanted} {held} begun is was = read-all wanted held was.at begun is (λ n h. was.left n h ∙ set.contains-empty nat_cmp n) was.below

-- nothing is held
pub none-held : {wanted : Option ℕ} {held : Offsets} {staged : Option OctetMap} → NoneSummed → IsSome staged → held ≡ set.empty → IsAdopted wanted held staged nothing_summed
none-held {wanted} {held} {staged} none begun is = read-all wanted held 0 begun refl (λ n h. ap (λ o. set.contains o n) is ∙ set.contains-empty nat_cmp n) (none-read wanted held none (unwrap_or staged map.empty))
