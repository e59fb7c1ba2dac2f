-- What arrived, zone by zone.
use Rattle.std.proofs.Common.{◌≡◌, ℕ, zero, suc, ◌+◌, ◌-◌, ◌*◌, ◌/◌, ◌<◌, ◌≤◌, ◌↔◌, Bool, true, false, ◌&&◌, cond, List, [], ◌∷◌, get_or, refl, inl, inr, arith}
use Rattle.std.proofs.lemmas.Bool.{lt-ltb, le-leb, leb-true, cases_lt}
use Rattle.std.proofs.Math.Nat.{div-mul-le_self, lt-div-mul-add}
use Rattle.mpdu.specs.Stream.{arrived, meets}
use Rattle.mpdu.specs.Places.{IsInSpan}
use Rattle.mpdu.proofs.Spans.{meets_no_behind, meets_no_before}

and_first : (x y : Bool) → (x && y) ≡ true → x ≡ true
and_first true y e = refl
and_first false y e = e

and_second : (x y : Bool) → (x && y) ≡ true → y ≡ true
and_second true y e = e
and_second false y e = absurd (cc)

either_second : (t x y : Bool) → cond t (x && y) y ≡ true → y ≡ true
either_second true x y e = and_second x y e
either_second false x y e = e

-- What a range that arrived says: each zone that has an octet in common with it was delivered.
pub arrived_says : (z s : ℕ) (marks : List Bool) (a b : ℕ) → arrived z s marks a b ≡ true →
    (f : ℕ) → s + f * z < b → a < s + f * z + z → get_or marks f false ≡ true
arrived_says z s [] a b ok f h1 h2 =
    let le : b ≤ s = leb-true b s ok in absurd (omega arith)
arrived_says z s (m ∷ marks) a b ok zero h1 h2 =
    let lt1 : s < b = omega arith in
    let lt2 : a < s + z = omega arith in
    and_first m (arrived z (s + z) marks a b) (rw (lt-ltb a (s + z) lt2, lt-ltb s b lt1) at ok)
arrived_says z s (m ∷ marks) a b ok (suc f) h1 h2 =
    arrived_says z (s + z) marks a b (either_second (meets s (s + z) a b) m (arrived z (s + z) marks a b) ok) f (omega arith) (omega arith)

some_zone : (z s a b : ℕ) → 0 < z → a < b → s < b → (f : ℕ) × (s + f * z < b) × (a < s + f * z + z)
some_zone z s a b pos lt out =
    elim (cases_lt s a) [
      | inl c ↦ (let q : ℕ = (a - s) / z in
          let low : q * z ≤ a - s = div-mul-le_self (a - s) z in
          let high : a - s < q * z + z = lt-div-mul-add pos in
          (q, omega arith, omega arith))
      | inr c ↦ (0, omega arith, omega arith)
    ]

pub arrived_from : (z s : ℕ) (marks : List Bool) (a b : ℕ) → 0 < z → a < b →
    ((f : ℕ) → s + f * z < b → a < s + f * z + z → get_or marks f false ≡ true) → arrived z s marks a b ≡ true
arrived_from z s [] a b pos lt each =
    elim (cases_lt s b) [
      | inl c ↦ (let w : (f : ℕ) × (s + f * z < b) × (a < s + f * z + z) = some_zone z s a b pos lt c in
          let bad : false ≡ true = each w.0 w.1 w.2 in absurd (cc))
      | inr c ↦ le-leb b s c
    ]
arrived_from z s (m ∷ marks) a b pos lt each =
    let ih : arrived z (s + z) marks a b ≡ true = arrived_from z (s + z) marks a b pos lt (λ (f : ℕ) (h1 : s + z + f * z < b) (h2 : a < s + z + f * z + z). each (suc f) (omega arith) (omega arith)) in
    let met : a < s + z → s < b → arrived z s (m ∷ marks) a b ≡ true = λ (h2 : a < s + z) (h1 : s < b).
    let first : m ≡ true = each 0 (omega arith) (omega arith) in
    rw (lt-ltb a (s + z) h2, lt-ltb s b h1, first, ih) refl in
    elim (cases_lt a (s + z)) [
      | inl h2 ↦ elim (cases_lt s b) [ inl h1 ↦ met h2 h1 | inr c ↦ rw (meets_no_behind s (s + z) a b c, ih) refl ]
      | inr c ↦ rw (meets_no_before s (s + z) a b c, ih) refl
    ]

-- What arrived is what has all zones of its span.
pub arrived_with_span : (z a b : ℕ) (marks : List Bool) → 0 < z → a < b → (arrived z 0 marks a b ≡ true) ↔ ((f : ℕ) → IsInSpan z a b f → get_or marks f false ≡ true)
arrived_with_span z a b marks pos lt = (
  (λ ok f h. arrived_says z 0 marks a b ok f (omega (arith, h.0)) (omega (arith, h.1))),
  (λ each. arrived_from z 0 marks a b pos lt (λ f h1 h2. each f (omega arith, omega arith))),
)
