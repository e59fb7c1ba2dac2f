-- A range more in what summarizes ranges.
use Rattle.std.proofs.Common.{◌≡◌, ◌<◌, ◌≤◌, ◌+◌, ◌-◌, ◌++◌, ℕ, List, [], ◌∷◌, length, take, min, arith, refl, sym, ap, subst, append_assoc, append-nil, ◌∙◌}
use Rattle.std.proofs.lemmas.List.{length-take, length_push, take_all, take-append-le}
use Rattle.cfdp_console.specs.Ranges.{Summarizes, most_counted, octets_of}
use Rattle.cfdp_console.specs.declared.ranges.RangeSummary.{RangeSummary}

-- fewer than all that may be kept are kept: so all are, and one more is
pub grown : (most : ℕ) (all first : List (ℕ × ℕ)) (r : ℕ × ℕ) → first ≡ take most all → length first < most → first ++ r ∷ [] ≡ take most (all ++ r ∷ [])
grown most all first r is few =
    let count : length first ≡ min most (length all) = ap length is ∙ length-take most all in
    let short : length all ≤ most = omega (arith, count, few) in
    let longer : length (all ++ r ∷ []) ≤ most = omega (arith, count, few, length_push all r) in
    ap (λ xs. xs ++ r ∷ []) (is ∙ take_all most all short) ∙ sym (take_all most (all ++ r ∷ []) longer)

-- as many as may be kept are kept: so they stay
pub full : (most : ℕ) (all first : List (ℕ × ℕ)) (r : ℕ × ℕ) → first ≡ take most all → most ≤ length first → first ≡ take most (all ++ r ∷ [])
full most all first r is many =
    let count : length first ≡ min most (length all) = ap length is ∙ length-take most all in
    let long : most ≤ length all = omega (arith, count, many) in
    is ∙ sym (take-append-le most all (r ∷ []) long)

octets-more : (all : List (ℕ × ℕ)) (r : ℕ × ℕ) → octets_of (all ++ r ∷ []) ≡ octets_of all + (r.1 - r.0)
octets-more [] r = omega arith
octets-more (x ∷ xs) r = omega (arith, octets-more xs r)

pub counted : (all : List (ℕ × ℕ)) (r : ℕ × ℕ) (count : ℕ) → count ≡ min (length all) most_counted → min (count + 1) most_counted ≡ min (length (all ++ r ∷ [])) most_counted
counted all r count is = omega (arith, is, length_push all r)

pub summed : (all : List (ℕ × ℕ)) (start end octets : ℕ) → octets ≡ min (octets_of all) most_counted → min (octets + (end - start)) most_counted ≡ min (octets_of (all ++ (start, end) ∷ [])) most_counted
summed all start end octets is = omega (arith, is, octets-more all (start, end))

-- ---- ranges that are added one by one
-- some of all ranges are added, and the others are left
pub record IsDone (left all : List (ℕ × ℕ)) (it : RangeSummary) : Type 0 where
  pub done : List (ℕ × ℕ)
  pub is : done ++ left ≡ all
  pub sums : Summarizes done it

pub begins : (all : List (ℕ × ℕ)) (it : RangeSummary) → Summarizes [] it → IsDone all all it
begins all it sums = record { done = []; is = refl; sums = sums }

pub goes_on : (r : ℕ × ℕ) (left all : List (ℕ × ℕ)) (old new : RangeSummary) → IsDone (r ∷ left) all old → ((some : List (ℕ × ℕ)) → Summarizes some old → Summarizes (some ++ (r.0, r.1) ∷ []) new) → IsDone left all new
goes_on r left all old new so_far adds = record {
  done = so_far.done ++ r ∷ [];
  is = append_assoc so_far.done (r ∷ []) left ∙ so_far.is;
  sums = adds so_far.done so_far.sums;
}

pub ends : (all : List (ℕ × ℕ)) (it : RangeSummary) → IsDone [] all it → Summarizes all it
ends all it so_far = subst (λ xs. Summarizes xs it) (sym (append-nil so_far.done) ∙ so_far.is) so_far.sums
