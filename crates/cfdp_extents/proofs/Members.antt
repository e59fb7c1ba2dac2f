-- Exported: the offsets of ranges, one by one.
use Rattle.std.proofs.Common.{◌≡◌, ℕ, zero, suc, ◌+◌, ◌-◌, ◌<◌, ◌≤◌, false, ◌||◌, List, [], ◌∷◌, ap, ◌∙◌, arith, ◌⊎◌, inl, inr, eqb}
use Rattle.std.specs.Bool.{Decides}
use Rattle.std.specs.Ordering.{nat_cmp}
use Rattle.std.specs.Cmp.{nat_cmp_total, unsigned_tied}
use Rattle.std.specs.FinSet.{contains, contains-empty, contains-insert, contains-union, same_set, nat_cmp-IsAntisymmetric}
use Rattle.std.proofs.lemmas.Bool.{both_ways, leb-true, ltb-true, le-leb, lt-ltb, and_parts, and_from}
use Rattle.std.proofs.lemmas.Bool.Decides.{nat_tests, Decides-or, Decides-at}
use Rattle.cfdp_extents.specs.Offsets.{Offsets, is_within, offsets_from, range, union_of, AreApart, StartBehind}

pub Decides-within : (s e n : ℕ) → Decides (is_within s e n) ((s ≤ n) × (n < e))
Decides-within s e n = (
  λ t. let p = and_parts _ _ t in (leb-true s n p.0, ltb-true n e p.1),
  λ w. and_from _ _ (le-leb s n w.0) (lt-ltb n e w.1),
)

within_none : (s n : ℕ) → false ≡ is_within s (s + 0) n
within_none s n = grind (arith, nat_tests)

within_more : (s k n : ℕ) → (eqb n s || is_within (s + 1) (s + 1 + k) n) ≡ is_within s (s + suc k) n
within_more s k n = grind (arith, nat_tests)

contains-offsets_from : (s k n : ℕ) → contains (offsets_from s k) n ≡ is_within s (s + k) n
unfolding offsets_from
contains-offsets_from s zero n = contains-empty nat_cmp n ∙ within_none s n
contains-offsets_from s (suc k) n =
    contains-insert nat_cmp_total (offsets_from (s + 1) k) s n
    ∙ ap (λ b. b || contains (offsets_from (s + 1) k) n) (unsigned_tied n s)
    ∙ ap (λ b. eqb n s || b) (contains-offsets_from (s + 1) k n)
    ∙ within_more s k n

within_length : (s e n : ℕ) → is_within s (s + (e - s)) n ≡ is_within s e n
within_length s e n = grind (arith, nat_tests)

-- the offsets of a range
pub contains-range : (s e n : ℕ) → contains (range s e) n ≡ is_within s e n
unfolding range
contains-range s e n = contains-offsets_from s (e - s) n ∙ within_length s e n

-- and of ranges with one more
pub contains-more : (r : ℕ × ℕ) (rs : List (ℕ × ℕ)) (n : ℕ) → contains (union_of (r ∷ rs)) n ≡ (is_within r.0 r.1 n || contains (union_of rs) n)
unfolding union_of
contains-more r rs n = contains-union nat_cmp_total (range r.0 r.1) (union_of rs) n ∙ ap (λ b. b || contains (union_of rs) n) (contains-range r.0 r.1 n)

-- n lies in one of the ranges
abbrev pub InRanges : List (ℕ × ℕ) → ℕ → Type 0
InRanges [] n = ⊥
InRanges (r ∷ rs) n = ((r.0 ≤ n) × (n < r.1)) ⊎ InRanges rs n

pub Decides-union_of : (xs : List (ℕ × ℕ)) (n : ℕ) → Decides (contains (union_of xs) n) (InRanges xs n)
unfolding union_of
Decides-union_of [] n = (λ t. absurd (both_ways _ (contains-empty nat_cmp n) t), λ w. absurd w)
Decides-union_of (r ∷ rs) n =
    Decides-at _ _ (contains-union nat_cmp_total (range r.0 r.1) (union_of rs) n)
    (Decides-or _ _ (Decides-at _ _ (contains-range r.0 r.1 n) (Decides-within r.0 r.1 n)) (Decides-union_of rs n))

pub same_offsets : (a b : Offsets) → ((n : ℕ) → contains a n ≡ contains b n) → a ≡ b
same_offsets a b h = same_set nat_cmp_total nat_cmp-IsAntisymmetric a b h

-- if the first of some ranges starts after an offset, what lies in the ranges lies after it
pub behind_start : (m : ℕ) (xs : List (ℕ × ℕ)) (n : ℕ) → AreApart xs → StartBehind m xs → InRanges xs n → m < n
behind_start m [] n h b w = absurd w
behind_start m (x ∷ xs) n h b (inl w) = let low : x.0 ≤ n = w.0 in let first : m < x.0 = b in omega arith
behind_start m (x ∷ xs) n h b (inr w) =
    let later : x.1 < n = behind_start x.1 xs n h.2 h.1 w in
    let here : x.0 < x.1 = h.0 in
    let first : m < x.0 = b in
    omega arith
