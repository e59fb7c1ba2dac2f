-- How many offsets of a set lie below one, and what a range takes off.
use Rattle.std.proofs.Common.{◌≡◌, ℕ, zero, suc, ◌+◌, ◌<◌, ◌≤◌, ◌&&◌, ◌⊎◌, inl, inr, not, Bool, true, false, refl, sym, ap, ◌∙◌, arith, if◌then◌else◌}
use Rattle.std.specs.FinSet as set
use Rattle.std.specs.Cmp.{nat_cmp_total}
use Rattle.std.proofs.lemmas.Bool.{false≢true, cond_both, cases_lt, and_from, and_parts, le-leb, lt-ltb}
use Rattle.cfdp_extents.specs.Offsets.{Offsets, range}
use Rattle.cfdp_extents.proofs.CallerLemmas.{contains-range}
use Rattle.cfdp_endings.specs.Dues.{count_below, one_if}

pub one-most : (b : Bool) → one_if b ≤ 1
one-most b = cond_both b 1 0 (λ n. n ≤ 1) (λ _. omega arith) (λ _. omega arith)

pub count-within : (held : Offsets) (n : ℕ) → count_below held n ≤ n
unfolding count_below
count-within held zero = omega arith
count-within held (suc n) = omega (arith, count-within held n, one-most (set.contains held n))

fewer : (a b : Bool) → (b ≡ true → a ≡ true) → one_if b ≤ one_if a
fewer true b h = one-most b
fewer false true h = absurd (false≢true (h refl))
fewer false false h = omega arith

count-subset : (s t : Offsets) (n : ℕ) → ((k : ℕ) → set.contains t k ≡ true → set.contains s k ≡ true) → count_below t n ≤ count_below s n
unfolding count_below
count-subset s t zero h = omega arith
count-subset s t (suc n) h = omega (arith, count-subset s t n h, fewer (set.contains s n) (set.contains t n) (h n))

count-less : (s t : Offsets) (n k : ℕ) → ((j : ℕ) → set.contains t j ≡ true → set.contains s j ≡ true) → k < n → set.contains s k ≡ true → set.contains t k ≡ false → count_below t n + 1
    ≤ count_below s n
unfolding count_below
count-less s t zero k h l in_s out = absurd (omega arith)
count-less s t (suc n) k h l in_s out = elim (cases k n l) [
  | inl here ↦ omega (
    arith,
    count-subset s t n h,
    ap {B = ℕ} (λ b. if b then 1 else 0) (ap (set.contains s) (sym here) ∙ in_s),
    ap {B = ℕ} (λ b. if b then 1 else 0) (ap (set.contains t) (sym here) ∙ out),
  )
  | inr below ↦ omega (arith, count-less s t n k h below in_s out, fewer (set.contains s n) (set.contains t n) (h n))
]
  where
    cases : (k n : ℕ) → k < suc n → (k ≡ n) ⊎ (k < n)
    cases k n l = elim (cases_lt k n) [ inl below ↦ inr below | inr past ↦ inl (omega arith) ]

not_both : (a b : Bool) → b ≡ true → (a && not b) ≡ false
not_both a true e = elim a as (λ a. (a && false) ≡ false) [ true ↦ refl | false ↦ refl ]
not_both a false e = absurd (false≢true e)

pub first_in : (start end : ℕ) → start < end → set.contains (range start end) start ≡ true
first_in start end some = contains-range start end start ∙ and_from _ _ (le-leb start start (omega arith)) (lt-ltb start end some)

-- a range taken off whose first offset is there
pub count-taken : (s : Offsets) (n start end : ℕ) → start < end → start < n → set.contains s start ≡ true → count_below (set.difference s (range start end)) n + 1 ≤ count_below s n
count-taken s n start end some l here =
    count-less s (set.difference s (range start end)) n start
    (λ j h. (and_parts (set.contains s j) _ (sym (set.contains-difference nat_cmp_total s (range start end) j) ∙ h)).0)
    l here
    (set.contains-difference nat_cmp_total s (range start end) start ∙ not_both (set.contains s start) (set.contains (range start end) start) (first_in start end some))
