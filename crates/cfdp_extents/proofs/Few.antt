-- Ranges, and the numbers between them.
use Rattle.std.proofs.Common.{◌≡◌, ◌⊎◌, ℕ, zero, suc, ◌+◌, ◌-◌, ◌<◌, ◌≤◌, ◌==◌, Bool, true, false, cond, List, [], ◌∷◌, length, refl, sym, ap, ◌∙◌, arith, true≢false, inl, inr}
use Rattle.std.specs.FinSet as set
use Rattle.std.proofs.lemmas.Bool.{cases_lt, eq-eqb}
use Rattle.cfdp_extents.specs.Terms.{joined, ranges_in, ranges_of, end_of}
use Rattle.cfdp_extents.proofs.CallerLemmas.{end-last}
use Rattle.cfdp_extents.specs.Forgotten.{NumberSet}
use Rattle.cfdp_extents.specs.Few.{left_out}

abbrev one_if : Bool → ℕ
one_if true = 1
one_if false = 0

-- 1 if the test passes at the first of so many numbers
abbrev at_first : (ℕ → Bool) → ℕ → ℕ → ℕ
at_first passes at zero = 0
at_first passes at (suc n) = one_if (passes at)

first-few : (passes : ℕ → Bool) (at n : ℕ) → at_first passes at n ≤ 1
first-few passes at zero = omega arith
first-few passes at (suc n) = by (passes at)
  where
    by : (b : Bool) → one_if b ≤ 1
    by true = omega arith
    by false = omega arith

-- if the test passes at once, the first of the ranges starts there
joined-start : (at : ℕ) (rs : List (ℕ × ℕ)) (r : ℕ × ℕ) (rest : List (ℕ × ℕ)) → joined at rs ≡ r ∷ rest → r.0 ≡ at
joined-start at [] r rest is = cc
joined-start at (x ∷ xs) r rest is = by (x.0 == at + 1) is
  where
    by : (b : Bool) → cond b ((at, x.1) ∷ xs) ((at, at + 1) ∷ x ∷ xs) ≡ r ∷ rest → r.0 ≡ at
    by true h = cc
    by false h = cc

starts : (passes : ℕ → Bool) (at n : ℕ) (r : ℕ × ℕ) (rest : List (ℕ × ℕ)) → ranges_in passes at n ≡ r ∷ rest → (r.0 ≡ at) ⊎ (at_first passes at n ≡ 0)
unfolding ranges_in
starts passes at zero r rest is = inr refl
starts passes at (suc n) r rest is =
    elim (passes at) as (λ b. cond b (joined at (ranges_in passes (at + 1) n)) (ranges_in passes (at + 1) n) ≡ r ∷ rest → (r.0 ≡ at) ⊎ (one_if b ≡ 0)) [
      | true ↦ λ h. inl (joined-start at (ranges_in passes (at + 1) n) r rest h)
      | false ↦ λ h. inr refl
    ] is

-- one more offset before ranges
joined-few : (passes : ℕ → Bool) (at n out : ℕ) (rs : List (ℕ × ℕ)) → ranges_in passes (at + 1) n ≡ rs → length rs ≤ at_first passes (at + 1) n + out → length (joined at rs) ≤ 1 + out
joined-few passes at n out [] is few = omega arith
joined-few passes at n out (r ∷ rs) is few = by (r.0 == at + 1) refl
  where
    by : (b : Bool) → (r.0 == at + 1) ≡ b → length (cond b ((at, r.1) ∷ rs) ((at, at + 1) ∷ r ∷ rs)) ≤ 1 + out
    by true same = let one = first-few passes (at + 1) n in omega (arith, few, one)
    by false apart = elim (starts passes (at + 1) n r rs is) [
      | inl here ↦ absurd (true≢false (sym (eq-eqb r.0 (at + 1) here) ∙ apart))
      | inr none ↦ omega (arith, few, none)
    ]

few-ranges : (passes : ℕ → Bool) (at n : ℕ) → length (ranges_in passes at n) ≤ at_first passes at n + left_out passes at n
unfolding ranges_in left_out
few-ranges passes at zero = omega arith
few-ranges passes at (suc n) =
    elim (passes at) as (λ b. length (cond b (joined at (ranges_in passes (at + 1) n)) (ranges_in passes (at + 1) n)) ≤ one_if b + cond b (left_out passes (at + 1) n) (1 + left_out passes (at + 1) n)) [
      | true ↦ joined-few passes at n (left_out passes (at + 1) n) (ranges_in passes (at + 1) n) refl (few-ranges passes (at + 1) n)
      | false ↦ (let rest = few-ranges passes (at + 1) n in let one = first-few passes (at + 1) n in omega (arith, rest, one))
    ]

-- numbers that fail the test make no range
skipped : (passes : ℕ → Bool) (at k n m : ℕ) → m ≡ k + n → ((i : ℕ) → at ≤ i → i < at + k → passes i ≡ false) → ranges_in passes at m ≡ ranges_in passes (at + k) n
unfolding ranges_in
skipped passes at zero n m is none =
    let many : m ≡ n = omega (arith, is) in
    let there : at ≡ at + 0 = omega arith in
    λ i. ranges_in passes (there i) (many i)
skipped passes at (suc k) n zero is none = absurd (omega (arith, is))
skipped passes at (suc k) n (suc m) is none =
    let there : at + 1 + k ≡ at + suc k = omega arith in
    ap (λ b. cond b (joined at (ranges_in passes (at + 1) m)) (ranges_in passes (at + 1) m)) (none at (omega arith) (omega arith))
    ∙ skipped passes (at + 1) k n m (omega (arith, is)) (λ i low high. none i (omega (arith, low)) (omega (arith, high)))
    ∙ ap (λ t. ranges_in passes t n) there

-- none is below the first
unheld : (held : NumberSet) (first : ℕ) → ((n : ℕ) → set.contains held n ≡ true → first ≤ n) → (i : ℕ) → i < first → set.contains held i ≡ false
unheld held first above i low = by (set.contains held i) refl
  where
    by : (b : Bool) → set.contains held i ≡ b → set.contains held i ≡ false
    by true there = let high = above i there in absurd (omega (arith, low, high))
    by false there = there

pub ranges-few : (held : NumberSet) (first : ℕ) → ((n : ℕ) → set.contains held n ≡ true → first ≤ n) → length (ranges_of held) ≤ 1 + left_out (set.contains held) first (end_of held - first)
unfolding ranges_of ranges_in
ranges-few held first above = elim (cases_lt first (end_of held)) [
  | inl below ↦
      (let rest = end_of held - first in
      let start : 0 + first ≡ first = omega arith in
      let split : end_of held ≡ first + rest = omega (arith, below) in
      let same : ranges_in (set.contains held) 0 (end_of held) ≡ ranges_in (set.contains held) first rest =
      skipped (set.contains held) 0 first rest (end_of held) split (λ i low high. unheld held first above i (omega (arith, high)))
      ∙ ap (λ t. ranges_in (set.contains held) t rest) start in
      let many : length (ranges_in (set.contains held) 0 (end_of held)) ≡ length (ranges_in (set.contains held) first rest) = ap length same in
      let few = few-ranges (set.contains held) first rest in
      let one = first-few (set.contains held) first rest in
      omega (arith, many, few, one))
  | inr past ↦ none-at (end_of held) refl past
]
  where
    none-at : (end : ℕ) → end_of held ≡ end → end_of held ≤ first → length (ranges_in (set.contains held) 0 (end_of held)) ≤ 1 + left_out (set.contains held) first (end_of held - first)
    none-at zero is past = let none : length (ranges_in (set.contains held) 0 (end_of held)) ≡ 0 = ap (λ t. length (ranges_in (set.contains held) 0 t)) is in omega (arith, none)
    none-at (suc n) is past =
        let last = above (end_of held - 1) (end-last held (omega (arith, is))) in
        absurd (omega (arith, is, past, last))
