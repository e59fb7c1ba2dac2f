-- Exported: what proofs of a crate above cite of sets of offsets: what they hold, their ranges,
-- gaps, end and front.
use Rattle.std.proofs.Common.{◌≡◌, ◌⊎◌, inl, inr, ℕ, ◌+◌, ◌-◌, ◌<◌, ◌≤◌, min, max, Bool, true, false, not, ◌&&◌, List, [], ◌∷◌, length, drop, Option, None, Some, refl, sym, ap, subst, ◌∙◌, arith, if◌then◌else◌, true≢false}
use Rattle.std.specs.FinSet as set
use Rattle.std.specs.FinSet.{contains, items, contains-items}
use Rattle.std.specs.List.{list_any, All, AllByRecursion}
use Rattle.std.specs.Ordering.{nat_cmp, eq_by_cmp}
use Rattle.std.specs.Cmp.{nat_cmp_total, unsigned_tied}
use Rattle.std.proofs.lemmas.Bool.{both_ways, cases_lt, eqb-true, eq-eqb, ne_eqb, and_from, le-leb, lt-ltb, or_left, or_right, or_cases}
use Rattle.std.proofs.lemmas.Bool.Decides.{nat_tests}
use Rattle.std.proofs.lemmas.List.Elements.{All-from_recursion}
use Rattle.cfdp_extents.specs.Offsets.{Offsets, is_within, range, union_of, missing_from, LiesIn, AreApart, AreRangesOf}
use Rattle.cfdp_extents.specs.Front.{IsFront}
use Rattle.cfdp_extents.specs.Terms.{ranges_in, gaps_of, end_of_items, end_of, ranges_of, front_in, front_of}
pub use Rattle.cfdp_extents.proofs.Members.{contains-range, contains-more, same_offsets}
pub use Rattle.cfdp_extents.proofs.Joined.{Decides-is_subset}
use Rattle.cfdp_extents.proofs.Missing.{only-ranges}
pub use Rattle.cfdp_extents.proofs.RangesIn.{IsRangeIn, AllRangesIn, ranges-in, ranges-some, ranges-none, ranges-apart, ranges-members}
use Rattle.cfdp_extents.proofs.Taken.{First, is-front, no-offsets}

-- ---- gaps
within_length : (start limit k : ℕ) → is_within start (start + (limit - start)) k ≡ is_within start limit k
within_length start limit k = grind (arith, nat_tests)

pub gaps-are : (held : Offsets) (start limit : ℕ) → AreRangesOf (missing_from held start limit) (gaps_of held start limit)
unfolding gaps_of
gaps-are held start limit = record {
  apart = ranges-apart (λ n. not (contains held n)) start (limit - start);
  union = same_offsets _ _ (λ k.
      ranges-members (λ n. not (contains held n)) start (limit - start) k ∙ ap (λ b. b && not (contains held k)) (within_length start limit k)
      ∙ ap (λ b. b && not (contains held k)) (sym (contains-range start limit k)) ∙ sym (set.contains-difference nat_cmp_total (range start limit) held k));
}

pub gaps-only : (held : Offsets) (start limit : ℕ) (gaps : List (ℕ × ℕ)) → AreRangesOf (missing_from held start limit) gaps → gaps ≡ gaps_of held start limit
gaps-only held start limit gaps are = only-ranges _ gaps _ are (gaps-are held start limit)

lie_in : (passes : ℕ → Bool) (start limit : ℕ) (rs : List (ℕ × ℕ)) → AllRangesIn passes start (start + (limit - start)) rs → AllByRecursion (LiesIn start limit) rs
lie_in passes start limit [] h = tt
lie_in passes start limit (r ∷ rs) h =
    let low : start ≤ r.0 = h.0.low in
    let some : r.0 < r.1 = h.0.some in
    let high : r.1 ≤ start + (limit - start) = h.0.high in
    ((low, some, omega arith), lie_in passes start limit rs h.1)

pub gaps-inside : (held : Offsets) (start limit : ℕ) → All (LiesIn start limit) (gaps_of held start limit)
unfolding gaps_of
gaps-inside held start limit =
    let test : ℕ → Bool = λ n. not (contains held n) in
    All-from_recursion (LiesIn start limit) _ (lie_in test start limit (ranges_in test start (limit - start)) (ranges-in test start (limit - start)))

-- ---- the end
before_end : (k : ℕ) (ks : List ℕ) → list_any (eq_by_cmp nat_cmp k) ks ≡ true → k < end_of_items ks
unfolding end_of_items
before_end k [] h = absurd (true≢false (sym h))
before_end k (x ∷ ks) h = elim (or_cases (eq_by_cmp nat_cmp k x) (list_any (eq_by_cmp nat_cmp k) ks) h) [
  | inl here ↦ let same : k ≡ x = eqb-true k x (sym (unsigned_tied k x) ∙ here) in omega arith
  | inr later ↦ let rest : k < end_of_items ks = before_end k ks later in omega arith
]

end_held : (ks : List ℕ) → 0 < end_of_items ks → list_any (eq_by_cmp nat_cmp (end_of_items ks - 1)) ks ≡ true
unfolding end_of_items
end_held [] h = absurd (omega arith)
end_held (x ∷ ks) h = elim (cases_lt x (end_of_items ks)) [
  | inl below ↦
      let is : max (x + 1) (end_of_items ks) - 1 ≡ end_of_items ks - 1 = omega arith in
      subst (λ n. list_any (eq_by_cmp nat_cmp n) (x ∷ ks) ≡ true) (sym is) (or_right (eq_by_cmp nat_cmp (end_of_items ks - 1) x) _ (end_held ks (omega arith)))
  | inr above ↦
      let is : max (x + 1) (end_of_items ks) - 1 ≡ x = omega arith in
      subst (λ n. list_any (eq_by_cmp nat_cmp n) (x ∷ ks) ≡ true) (sym is) (or_left (eq_by_cmp nat_cmp x x) _ (unsigned_tied x x ∙ eq-eqb x x refl))
]

-- what is held lies before the end
pub end-all_before : (held : Offsets) (n : ℕ) → contains held n ≡ true → n < end_of held
unfolding end_of
end-all_before held n h = before_end n (items held) (sym (contains-items held n) ∙ h)

pub end-last : (held : Offsets) → 0 < end_of held → contains held (end_of held - 1) ≡ true
unfolding end_of
end-last held pos = contains-items held (end_of held - 1) ∙ end_held (items held) pos

-- and so is no other number
pub end-within : (held : Offsets) (n : ℕ) → ((k : ℕ) → contains held k ≡ true → k < n) → end_of held ≤ n
end-within held n h = elim (cases_lt n (end_of held)) [
  | inr le ↦ le
  | inl past ↦ let last : end_of held - 1 < n = h (end_of held - 1) (end-last held (omega arith)) in absurd (omega arith)
]

pub end-only : (held : Offsets) (n : ℕ) → ((k : ℕ) → contains held k ≡ true → k < n) → (0 < n → contains held (n - 1) ≡ true) → n ≡ end_of held
end-only held n all last =
    let within : end_of held ≤ n = end-within held n all in
    elim (cases_lt (end_of held) n) [
      | inr le ↦ omega arith
      | inl less ↦ let past : n - 1 < end_of held = end-all_before held (n - 1) (last (omega arith)) in absurd (omega arith)
    ]

-- ---- the ranges
same_test : (a b : Bool) → (b ≡ true → a ≡ true) → (a && b) ≡ b
same_test true b h = refl
same_test false true h = absurd (true≢false (sym (h refl)))
same_test false false h = refl

-- the ranges below any limit that all offsets held lie below
pub ranges_below-are : (held : Offsets) (limit : ℕ) → ((k : ℕ) → contains held k ≡ true → k < limit) → AreRangesOf held (ranges_in (contains held) 0 limit)
ranges_below-are held limit all = record {
  apart = ranges-apart (contains held) 0 limit;
  union = same_offsets _ _ (λ k. ranges-members (contains held) 0 limit k
      ∙ same_test (is_within 0 (0 + limit) k) (contains held k) (λ here. let below : k < limit = all k here in
      and_from _ _ (le-leb 0 k (omega arith)) (lt-ltb k (0 + limit) (omega arith))));
}

pub ranges-are : (held : Offsets) → AreRangesOf held (ranges_of held)
unfolding ranges_of
ranges-are held = ranges_below-are held (end_of held) (end-all_before held)

pub ranges-only : (held : Offsets) (xs : List (ℕ × ℕ)) → AreRangesOf held xs → xs ≡ ranges_of held
ranges-only held xs are = only-ranges held xs _ are (ranges-are held)

-- ---- the front
front-by : (held : Offsets) (max : ℕ) (xs : List (ℕ × ℕ)) → AreRangesOf held xs → front_of held max ≡ front_in xs max
unfolding front_of
front-by held max xs are = ap (λ l. front_in l max) (sym (ranges-only held xs are))

nothing_taken : (xs : List (ℕ × ℕ)) (max : ℕ) → max ≡ 0 → front_in xs max ≡ None
nothing_taken [] max z = refl
nothing_taken (x ∷ xs) max z = ap (λ b. if b then None else Some (x.0, min x.1 (x.0 + max))) (eq-eqb max 0 z)

pub front-zero : (held : Offsets) (max : ℕ) → max ≡ 0 → front_of held max ≡ None
unfolding front_of
front-zero held max z = nothing_taken (ranges_of held) max z

pub front-empty : (held : Offsets) (max : ℕ) → held ≡ set.empty → front_of held max ≡ None
unfolding union_of
front-empty held max none = front-by held max [] (record { apart = tt; union = sym none })

first_taken : (max : ℕ) (r : ℕ × ℕ) (rs : List (ℕ × ℕ)) → (max ≡ 0 → ⊥) → front_in (r ∷ rs) max ≡ Some (r.0, min r.1 (r.0 + max))
first_taken max r rs pos = ap (λ b. if b then None else Some (r.0, min r.1 (r.0 + max))) (ne_eqb max 0 pos)

first-ranges : (xs : List (ℕ × ℕ)) (held : Offsets) (r : ℕ × ℕ) → First xs held r → AreRangesOf held (r ∷ drop 1 xs)
first-ranges xs held r f = record { apart = f.apart; union = f.view }

front-first : (xs : List (ℕ × ℕ)) (held : Offsets) (r : ℕ × ℕ) (max : ℕ) → First xs held r → (max ≡ 0 → ⊥) → Some (r.0, min r.1 (r.0 + max)) ≡ front_of held max
front-first xs held r max f pos =
    let by : front_of held max ≡ front_in (r ∷ drop 1 xs) max = front-by held max (r ∷ drop 1 xs) (first-ranges xs held r f) in
    sym (by ∙ first_taken max r (drop 1 xs) pos)

-- it is whole, or as long as it may be
pub front-whole : (xs : List (ℕ × ℕ)) (held : Offsets) (r : ℕ × ℕ) (max : ℕ) → First xs held r → (max ≡ 0 → ⊥) → r.1 - r.0 ≤ max → Some r ≡ front_of held max
front-whole xs held r max f pos h =
    let some : r.0 < r.1 = f.apart.0 in
    let end : min r.1 (r.0 + max) ≡ r.1 = omega arith in
    subst (λ e. Some (r.0, e) ≡ front_of held max) end (front-first xs held r max f pos)

pub front-part : (xs : List (ℕ × ℕ)) (held : Offsets) (r : ℕ × ℕ) (max : ℕ) → First xs held r → (max ≡ 0 → ⊥) → max < r.1 - r.0 → Some (r.0, r.0 + max) ≡ front_of held max
front-part xs held r max f pos h =
    let end : min r.1 (r.0 + max) ≡ r.0 + max = omega arith in
    subst (λ e. Some (r.0, e) ≡ front_of held max) end (front-first xs held r max f pos)

pub front-min : (xs : List (ℕ × ℕ)) (held : Offsets) (r : ℕ × ℕ) (max len : ℕ) → First xs held r → (max ≡ 0 → ⊥) → len ≡ min max (r.1 - r.0) → Some (r.0, r.0 + len) ≡ front_of held max
front-min xs held r max len f pos is =
    let some : r.0 < r.1 = f.apart.0 in
    let end : min r.1 (r.0 + max) ≡ r.0 + len = omega arith in
    subst (λ e. Some (r.0, e) ≡ front_of held max) end (front-first xs held r max f pos)

cases_zero : (n : ℕ) → (n ≡ 0) ⊎ (0 < n)
cases_zero n = elim (cases_lt 0 n) [ inl pos ↦ inr pos | inr z ↦ inl (omega arith) ]

is_front-in : (xs : List (ℕ × ℕ)) (max : ℕ) (q : ℕ × ℕ) → AreApart xs → front_in xs max ≡ Some q → IsFront (union_of xs) max q.0 q.1
is_front-in [] max q apart e = absurd (cc)
is_front-in (r ∷ rs) max q apart e = elim (cases_zero max) [
  | inl z ↦ let none : front_in (r ∷ rs) max ≡ None = nothing_taken (r ∷ rs) max z in absurd (cc)
  | inr pos ↦
      let some : r.0 < r.1 = apart.0 in
      let taken : front_in (r ∷ rs) max ≡ Some (r.0, min r.1 (r.0 + max)) = first_taken max r rs (λ z. omega arith) in
      let is : (r.0, min r.1 (r.0 + max)) ≡ q = cc in
      subst (λ p. IsFront (union_of (r ∷ rs)) max p.0 p.1) is
      (is-front r.0 r.1 (min r.1 (r.0 + max)) max rs apart (omega arith) (omega arith) (omega arith) (either r.0 r.1 max))
]
  where
    either : (s e max : ℕ) → (min e (s + max) ≡ s + max) ⊎ (min e (s + max) ≡ e)
    either s e max = elim (cases_lt e (s + max)) [ inl less ↦ inr (omega arith) | inr past ↦ inl (omega arith) ]

pub front-is : (held : Offsets) (max : ℕ) (r : ℕ × ℕ) → front_of held max ≡ Some r → IsFront held max r.0 r.1
unfolding front_of
front-is held max r e =
    let are = ranges-are held in
    subst (λ h. IsFront h max r.0 r.1) are.union (is_front-in (ranges_of held) max r are.apart e)

none-in : (xs : List (ℕ × ℕ)) (max : ℕ) → front_in xs max ≡ None → (max ≡ 0) ⊎ (length xs ≡ 0)
none-in [] max e = inr refl
none-in (r ∷ rs) max e = elim (cases_zero max) [
  | inl z ↦ inl z
  | inr pos ↦ let taken : front_in (r ∷ rs) max ≡ Some (r.0, min r.1 (r.0 + max)) = first_taken max r rs (λ z. omega arith) in absurd (cc)
]

pub front-none : (held : Offsets) (max : ℕ) → front_of held max ≡ None → (max ≡ 0) ⊎ (held ≡ set.empty)
unfolding front_of
front-none held max e = elim (none-in (ranges_of held) max e) [
  | inl z ↦ inl z
  | inr empty ↦ inr (sym (ranges-are held).union ∙ no-offsets (ranges_of held) empty)
]

-- two fronts of one set are one
held_at : (held : Offsets) (max start end n : ℕ) → IsFront held max start end → start ≤ n → n < end → contains held n ≡ true
held_at held max start end n f low high = set.is_subset-contains nat_cmp_total (range start end) held f.gapless n
    (contains-range start end n ∙ and_from _ _ (le-leb start n low) (lt-ltb n end high))

not_shorter : (held : Offsets) (max start end other : ℕ) → IsFront held max start end → IsFront held max start other → other ≤ end
not_shorter held max start end other f g = elim (cases_lt end other) [
  | inr le ↦ le
  | inl less ↦
      let some : start < end = f.some in
      let most : other ≤ start + max = g.at_most in
      absurd (elim f.whole [
        | inl full ↦ omega arith
        | inr stop ↦ both_ways _ stop (held_at held max start other end g (omega arith) less)
      ])
]

same_start : (held : Offsets) (max start end start' end' : ℕ) → IsFront held max start end → IsFront held max start' end' → start ≤ start'
same_start held max start end start' end' f g = f.least start' (held_at held max start' end' start' g (omega arith) g.some)

one_front : (held : Offsets) (max start end start' end' : ℕ) → IsFront held max start end → IsFront held max start' end' → (start ≡ start') × (end ≡ end')
one_front held max start end start' end' f g =
    let low = same_start held max start end start' end' f g in
    let high = same_start held max start' end' start end g f in
    let start_is : start ≡ start' = omega arith in
    let here : IsFront held max start' end = subst (λ s. IsFront held max s end) start_is f in
    let up = not_shorter held max start' end end' here g in
    let down = not_shorter held max start' end' end g here in
    (start_is, omega arith)

pub front-only : (held : Offsets) (max start end : ℕ) → IsFront held max start end → front_of held max ≡ Some (start, end)
front-only held max start end f = go (front_of held max) refl
  where
    go : (o : Option (ℕ × ℕ)) → front_of held max ≡ o → front_of held max ≡ Some (start, end)
    go (Some r) e =
        let same = one_front held max r.0 r.1 start end (front-is held max r e) f in
        e ∙ (λ i. Some (same.0 i, same.1 i))
    go None e = elim (front-none held max e) [
      | inl z ↦ let some : start < end = f.some in let most : end ≤ start + max = f.at_most in absurd (omega arith)
      | inr empty ↦ absurd (both_ways _ (set.contains-empty nat_cmp start) (ap (λ s. contains s start) (sym empty) ∙ held_at held max start end start f (omega arith) f.some))
    ]
