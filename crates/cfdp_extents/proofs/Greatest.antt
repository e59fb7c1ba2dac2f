-- What a set of numbers holds that is kept as ranges, and the greatest number beside them.
use Rattle.std.proofs.Common.{eqb, ◌≡◌, ℕ, ◌+◌, ◌<◌, Bool, true, false, ◌||◌, refl, sym, ap, ◌∙◌, arith, true≢false}
use Rattle.std.specs.FinSet as set
use Rattle.std.specs.Ordering.{nat_cmp, eq_by_cmp}
use Rattle.std.specs.Cmp.{nat_cmp_total, unsigned_tied}
use Rattle.std.proofs.lemmas.Bool.{eqb-true, eq-eqb, ne_eqb}
use Rattle.std.proofs.lemmas.Bool.Decides.{nat_tests}
use Rattle.cfdp_extents.specs.Offsets.{range, is_within}
use Rattle.cfdp_extents.proofs.CallerLemmas.{contains-range, same_offsets, Decides-is_subset}
use Rattle.cfdp_extents.specs.Forgotten.{NumberSet, greatest_number, with_greatest}

-- a range of one
one_within : (n k : ℕ) → is_within n (n + 1) k ≡ eqb k n
one_within n k = grind (arith, nat_tests)

pub range-one : (s : NumberSet) (n end : ℕ) → end ≡ n + 1 → set.union s (range n end) ≡ set.insert s n
range-one s n end is = same_offsets _ _ (λ k.
    set.contains-union nat_cmp_total s (range n end) k
    ∙ ap (λ b. set.contains s k || b) (ap (λ e. set.contains (range n e) k) is ∙ contains-range n (n + 1) k ∙ one_within n k ∙ sym (unsigned_tied k n))
    ∙ or-swap (set.contains s k) (eq_by_cmp nat_cmp k n)
    ∙ sym (set.contains-insert nat_cmp_total s n k))
  where
    or-swap : (a b : Bool) → (a || b) ≡ (b || a)
    or-swap true true = refl
    or-swap true false = refl
    or-swap false true = refl
    or-swap false false = refl

pub subset-one : (s : NumberSet) (n end : ℕ) → end ≡ n + 1 → set.is_subset (range n end) s ≡ set.contains s n
subset-one s n end is = ap (λ e. set.is_subset (range n e) s) is ∙ by (set.contains s n) refl
  where
    by : (b : Bool) → set.contains s n ≡ b → set.is_subset (range n (n + 1)) s ≡ set.contains s n
    by true held = (Decides-is_subset n (n + 1) s).1 (λ k low high. let same : k ≡ n = omega (arith, low, high) in ap (λ q. set.contains s q) same ∙ held) ∙ sym held
    by false held = none (set.is_subset (range n (n + 1)) s) refl
      where
        none : (t : Bool) → set.is_subset (range n (n + 1)) s ≡ t → set.is_subset (range n (n + 1)) s ≡ set.contains s n
        none true t = absurd (true≢false (sym ((Decides-is_subset n (n + 1) s).0 t n (omega arith) (omega arith)) ∙ held))
        none false t = t ∙ sym held

-- a number before the greatest
pub other-number : (b : Bool) (s : NumberSet) (n : ℕ) → n < greatest_number → set.contains (with_greatest b s) n ≡ set.contains s n
other-number true s n less = set.contains-insert nat_cmp_total s greatest_number n ∙ ap (λ t. t || set.contains s n) (unsigned_tied n greatest_number ∙ ne_eqb n greatest_number (λ e. omega (arith, e, less)))
other-number false s n less = refl

-- the greatest
pub own-number : (b : Bool) (s : NumberSet) (n : ℕ) → n ≡ greatest_number → ((k : ℕ) → set.contains s k ≡ true → k < greatest_number) → set.contains (with_greatest b s) n ≡ b
own-number true s n is below = set.contains-insert nat_cmp_total s greatest_number n ∙ ap (λ t. t || set.contains s n) (unsigned_tied n greatest_number ∙ eq-eqb n greatest_number is)
own-number false s n is below = none (set.contains s n) refl
  where
    none : (t : Bool) → set.contains s n ≡ t → set.contains s n ≡ false
    none true t = let low = below n t in absurd (omega (arith, is, low))
    none false t = t

pub insert-other : (b : Bool) (s : NumberSet) (n : ℕ) → with_greatest b (set.insert s n) ≡ set.insert (with_greatest b s) n
insert-other true s n = same_offsets _ _ (λ k.
    set.contains-insert nat_cmp_total (set.insert s n) greatest_number k
    ∙ ap (λ t. eq_by_cmp nat_cmp k greatest_number || t) (set.contains-insert nat_cmp_total s n k)
    ∙ swap (eq_by_cmp nat_cmp k greatest_number) (eq_by_cmp nat_cmp k n) (set.contains s k)
    ∙ ap (λ t. eq_by_cmp nat_cmp k n || t) (sym (set.contains-insert nat_cmp_total s greatest_number k))
    ∙ sym (set.contains-insert nat_cmp_total (set.insert s greatest_number) n k))
  where
    swap : (a b c : Bool) → (a || (b || c)) ≡ (b || (a || c))
    swap true true c = refl
    swap true false c = refl
    swap false b c = refl
insert-other false s n = refl

pub insert-greatest : (b : Bool) (s : NumberSet) (n : ℕ) → n ≡ greatest_number → set.insert s greatest_number ≡ set.insert (with_greatest b s) n
insert-greatest true s n is = same_offsets _ _ (λ k.
    set.contains-insert nat_cmp_total s greatest_number k
    ∙ twice (eq_by_cmp nat_cmp k greatest_number) (set.contains s k)
    ∙ ap (λ t. eq_by_cmp nat_cmp k greatest_number || t) (sym (set.contains-insert nat_cmp_total s greatest_number k))
    ∙ ap (λ m. eq_by_cmp nat_cmp k m || set.contains (set.insert s greatest_number) k) (sym is)
    ∙ sym (set.contains-insert nat_cmp_total (set.insert s greatest_number) n k))
  where
    twice : (a b : Bool) → (a || b) ≡ (a || (a || b))
    twice true b = refl
    twice false b = refl
insert-greatest false s n is = ap (λ m. set.insert s m) (sym is)

-- ranges end before the greatest number
pub below-more : (s : NumberSet) (n : ℕ) → n < greatest_number → ((k : ℕ) → set.contains s k ≡ true → k < greatest_number) → (k : ℕ) → set.contains (set.insert s n) k ≡ true → k < greatest_number
below-more s n less below k held = by (eq_by_cmp nat_cmp k n) refl
  where
    by : (b : Bool) → eq_by_cmp nat_cmp k n ≡ b → k < greatest_number
    by true is = let same : k ≡ n = eqb-true k n (sym (unsigned_tied k n) ∙ is) in omega (arith, same, less)
    by false is = below k (sym (set.contains-insert nat_cmp_total s n k ∙ ap (λ t. t || set.contains s k) is) ∙ held)
