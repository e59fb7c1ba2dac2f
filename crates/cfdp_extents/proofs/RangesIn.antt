-- Of so many offsets, the ranges of the offsets that pass a test: where they lie, what they hold,
-- and when there is none.
use Rattle.std.proofs.Common.{◌≡◌, inl, inr, ℕ, zero, suc, ◌+◌, ◌<◌, ◌≤◌, Bool, true, false, ◌==◌, ◌&&◌, ◌||◌, eqb, List, [], ◌∷◌, refl, sym, ap, ◌∙◌, arith, if◌then◌else◌}
use Rattle.std.specs.FinSet as set
use Rattle.std.specs.Ordering.{nat_cmp}
use Rattle.std.proofs.lemmas.Bool.{both_ways, cond_both, cases_eq, eqb-true, eqb-false, eq-eqb, ne_eqb, and_left, and_right, and_from, or_left}
use Rattle.std.proofs.lemmas.Bool.Decides.{nat_tests}
use Rattle.cfdp_extents.specs.Offsets.{is_within, union_of, AreApart}
use Rattle.cfdp_extents.specs.Terms.{joined, ranges_in}
use Rattle.cfdp_extents.proofs.Members.{contains-more}

-- a range that isn't empty, from an offset on and up to a limit, whose first offset passes
pub record IsRangeIn (passes : ℕ → Bool) (at limit : ℕ) (r : ℕ × ℕ) : Type 0 where
  pub low : at ≤ r.0
  pub some : r.0 < r.1
  pub high : r.1 ≤ limit
  pub first : passes r.0 ≡ true

abbrev pub AllRangesIn : (ℕ → Bool) → ℕ → ℕ → List (ℕ × ℕ) → Type 0
AllRangesIn passes at limit [] = Unit {0}
AllRangesIn passes at limit (r ∷ rs) = IsRangeIn passes at limit r × AllRangesIn passes at limit rs

later : (passes : ℕ → Bool) (at limit limit1 : ℕ) (rs : List (ℕ × ℕ)) → limit1 ≡ limit → AllRangesIn passes (at + 1) limit1 rs → AllRangesIn passes at limit rs
later passes at limit limit1 [] e h = tt
later passes at limit limit1 (r ∷ rs) e h =
    (record { low = let l : at + 1 ≤ r.0 = h.0.low in omega arith; some = h.0.some; high = let l : r.1 ≤ limit1 = h.0.high in omega arith; first = h.0.first }, later passes at limit limit1 rs e h.1)

joined-in : (passes : ℕ → Bool) (at limit limit1 : ℕ) (rs : List (ℕ × ℕ)) → passes at ≡ true → limit1 ≡ limit → at < limit → AllRangesIn passes (at + 1) limit1 rs →
    AllRangesIn passes at limit (joined at rs)
joined-in passes at limit limit1 [] p e l h = (record { low = omega arith; some = omega arith; high = omega arith; first = p }, tt)
joined-in passes at limit limit1 (r ∷ rs) p e l h =
    let up : r.1 ≤ limit1 = h.0.high in
    let low : at + 1 ≤ r.0 = h.0.low in
    let some : r.0 < r.1 = h.0.some in
    cond_both (r.0 == at + 1) ((at, r.1) ∷ rs) ((at, at + 1) ∷ r ∷ rs) (AllRangesIn passes at limit)
    (λ _. (record { low = omega arith; some = omega arith; high = omega arith; first = p }, later passes at limit limit1 rs e h.1))
    (λ _. (record { low = omega arith; some = omega arith; high = omega arith; first = p }, later passes at limit limit1 (r ∷ rs) e h))

pub ranges-in : (passes : ℕ → Bool) (at n : ℕ) → AllRangesIn passes at (at + n) (ranges_in passes at n)
unfolding ranges_in
ranges-in passes at zero = tt
ranges-in passes at (suc n) =
    let e : at + 1 + n ≡ at + suc n = omega arith in
    cond_both (passes at) (joined at (ranges_in passes (at + 1) n)) (ranges_in passes (at + 1) n) (AllRangesIn passes at (at + suc n))
    (λ p. joined-in passes at (at + suc n) (at + 1 + n) (ranges_in passes (at + 1) n) p e (omega arith) (ranges-in passes (at + 1) n))
    (λ _. later passes at (at + suc n) (at + 1 + n) (ranges_in passes (at + 1) n) e (ranges-in passes (at + 1) n))

-- if one passes, there is a range
abbrev pub IsEmpty : List (ℕ × ℕ) → Type 0
IsEmpty [] = Unit {0}
IsEmpty (r ∷ rs) = ⊥

joined-some : (at : ℕ) (rs : List (ℕ × ℕ)) → IsEmpty (joined at rs) → ⊥
joined-some at [] h = h
joined-some at (r ∷ rs) h = cond_both (r.0 == at + 1) ((at, r.1) ∷ rs) ((at, at + 1) ∷ r ∷ rs) (λ l. IsEmpty l → ⊥) (λ _ h. h) (λ _ h. h) h

pub ranges-some : (passes : ℕ → Bool) (at n k : ℕ) → at ≤ k → k < at + n → passes k ≡ true → IsEmpty (ranges_in passes at n) → ⊥
unfolding ranges_in
ranges-some passes at zero k low high p h = absurd (omega arith)
ranges-some passes at (suc n) k low high p h =
    cond_both (passes at) (joined at (ranges_in passes (at + 1) n)) (ranges_in passes (at + 1) n) (λ l. IsEmpty l → ⊥)
    (λ _ e. joined-some at (ranges_in passes (at + 1) n) e)
    (λ no e. ranges-some passes (at + 1) n k (above at k low (λ same. both_ways (passes at) no (ap passes same ∙ p))) (omega arith) p e)
    h
  where
    above : (at k : ℕ) → at ≤ k → (at ≡ k → ⊥) → at + 1 ≤ k
    above at k low ne = omega (arith, ne)

-- if none passes, there is none
pub ranges-none : (passes : ℕ → Bool) (at n : ℕ) → ((k : ℕ) → at ≤ k → k < at + n → passes k ≡ false) → ranges_in passes at n ≡ []
unfolding ranges_in
ranges-none passes at zero h = refl
ranges-none passes at (suc n) h =
    ap (λ b. if b then joined at (ranges_in passes (at + 1) n) else ranges_in passes (at + 1) n) (h at (omega arith) (omega arith))
    ∙ ranges-none passes (at + 1) n (λ k low high. h k (omega arith) (omega arith))

-- ---- apart
joined-apart : (passes : ℕ → Bool) (at limit : ℕ) (rs : List (ℕ × ℕ)) → AllRangesIn passes (at + 1) limit rs → AreApart rs → AreApart (joined at rs)
joined-apart passes at limit [] h a = (omega arith, tt, tt)
joined-apart passes at limit (r ∷ rs) h a =
    let low : at + 1 ≤ r.0 = h.0.low in
    let some : r.0 < r.1 = h.0.some in
    cond_both (r.0 == at + 1) ((at, r.1) ∷ rs) ((at, at + 1) ∷ r ∷ rs) AreApart
    (λ _. (omega arith, a.1, a.2))
    (λ other. (omega arith, behind r.0 low (eqb-false r.0 (at + 1) other), a))
  where
    behind : (n : ℕ) → at + 1 ≤ n → (n ≡ at + 1 → ⊥) → at + 1 < n
    behind n low ne = omega (arith, ne)

pub ranges-apart : (passes : ℕ → Bool) (at n : ℕ) → AreApart (ranges_in passes at n)
unfolding ranges_in
ranges-apart passes at zero = tt
ranges-apart passes at (suc n) = cond_both (passes at) (joined at (ranges_in passes (at + 1) n)) (ranges_in passes (at + 1) n) AreApart
    (λ _. joined-apart passes at (at + 1 + n) (ranges_in passes (at + 1) n) (ranges-in passes (at + 1) n) (ranges-apart passes (at + 1) n))
    (λ _. ranges-apart passes (at + 1) n)

-- ---- members
member-none : (k : ℕ) → set.contains (union_of []) k ≡ false
unfolding union_of
member-none k = set.contains-empty nat_cmp k

one-offset : (at k : ℕ) → is_within at (at + 1) k ≡ eqb k at
one-offset at k = grind (arith, nat_tests)

wider : (at e k : ℕ) → at + 1 < e → is_within at e k ≡ (eqb k at || is_within (at + 1) e k)
wider at e k h = grind (arith, nat_tests)

or_assoc : (a b c : Bool) → ((a || b) || c) ≡ (a || (b || c))
or_assoc true b c = refl
or_assoc false b c = refl

or_false : (a b : Bool) → b ≡ false → (a || b) ≡ a
or_false true b h = refl
or_false false b h = h

joined-member : (passes : ℕ → Bool) (at limit k : ℕ) (rs : List (ℕ × ℕ)) → AllRangesIn passes (at + 1) limit rs → set.contains (union_of (joined at rs)) k ≡ (eqb k at || set.contains (union_of rs) k)
joined-member passes at limit k [] h =
    contains-more (at, at + 1) [] k ∙ or_false (is_within at (at + 1) k) _ (member-none k) ∙ one-offset at k ∙ sym (or_false (eqb k at) _ (member-none k))
joined-member passes at limit k (r ∷ rs) h =
    let some : r.0 < r.1 = h.0.some in
    cond_both (r.0 == at + 1) ((at, r.1) ∷ rs) ((at, at + 1) ∷ r ∷ rs) (λ l. set.contains (union_of l) k ≡ (eqb k at || set.contains (union_of (r ∷ rs)) k))
    (λ touches.
    let e : r.0 ≡ at + 1 = eqb-true r.0 (at + 1) touches in
    contains-more (at, r.1) rs k ∙ ap (λ b. b || set.contains (union_of rs) k) (wider at r.1 k (omega arith)) ∙ or_assoc (eqb k at) (is_within (at + 1) r.1 k) _
    ∙ ap (λ n. eqb k at || (is_within n r.1 k || set.contains (union_of rs) k)) (sym e) ∙ ap (λ b. eqb k at || b) (sym (contains-more r rs k)))
    (λ _. contains-more (at, at + 1) (r ∷ rs) k ∙ ap (λ b. b || set.contains (union_of (r ∷ rs)) k) (one-offset at k))

here_or_on : (passes : ℕ → Bool) (at n k : ℕ) → passes at ≡ true → (eqb k at || (is_within (at + 1) (at + 1 + n) k && passes k)) ≡ (is_within at (at + suc n) k && passes k)
here_or_on passes at n k p = elim (cases_eq k at) [
  | inl e ↦ or_left (eqb k at) _ (eq-eqb k at e) ∙ sym (and_from (is_within at (at + suc n) k) (passes k) (first k e) (ap passes e ∙ p))
  | inr ne ↦ ap (λ b. b || (is_within (at + 1) (at + 1 + n) k && passes k)) (ne_eqb k at ne) ∙ ap (λ b. b && passes k) (on k ne)
]
  where
    first : (k : ℕ) → k ≡ at → is_within at (at + suc n) k ≡ true
    first k e = grind (arith, nat_tests)

    on : (k : ℕ) → (k ≡ at → ⊥) → is_within (at + 1) (at + 1 + n) k ≡ is_within at (at + suc n) k
    on k ne = grind (arith, nat_tests)

not_here : (passes : ℕ → Bool) (at n k : ℕ) → passes at ≡ false → (is_within (at + 1) (at + 1 + n) k && passes k) ≡ (is_within at (at + suc n) k && passes k)
not_here passes at n k p = elim (cases_eq k at) [
  | inl e ↦ and_right (is_within (at + 1) (at + 1 + n) k) (passes k) (ap passes e ∙ p) ∙ sym (and_right (is_within at (at + suc n) k) (passes k) (ap passes e ∙ p))
  | inr ne ↦ ap (λ b. b && passes k) (on k ne)
]
  where
    on : (k : ℕ) → (k ≡ at → ⊥) → is_within (at + 1) (at + 1 + n) k ≡ is_within at (at + suc n) k
    on k ne = grind (arith, nat_tests)

pub ranges-members : (passes : ℕ → Bool) (at n k : ℕ) → set.contains (union_of (ranges_in passes at n)) k ≡ (is_within at (at + n) k && passes k)
unfolding ranges_in
ranges-members passes at zero k = member-none k ∙ sym (and_left (is_within at (at + 0) k) (passes k) (empty k))
  where
    empty : (k : ℕ) → is_within at (at + 0) k ≡ false
    empty k = grind (arith, nat_tests)
ranges-members passes at (suc n) k =
    cond_both (passes at) (joined at (ranges_in passes (at + 1) n)) (ranges_in passes (at + 1) n) (λ l. set.contains (union_of l) k ≡ (is_within at (at + suc n) k && passes k))
    (λ p. joined-member passes at (at + 1 + n) k (ranges_in passes (at + 1) n) (ranges-in passes (at + 1) n) ∙ ap (λ b. eqb k at || b) (ranges-members passes (at + 1) n k)
    ∙ here_or_on passes at n k p)
    (λ p. ranges-members passes (at + 1) n k ∙ not_here passes at n k p)
