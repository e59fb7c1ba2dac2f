-- What stands at an offset once octets are written, and in the front of what is staged.
use Rattle.std.proofs.Common.{◌≡◌, ◌≢◌, ◌==◌, ℕ, zero, suc, ◌+◌, ◌-◌, ◌<◌, ◌≤◌, cond, List, [], ◌∷◌, length, get_or, Option, Some, None, IsSome, unwrap_or, refl, sym, ap, subst, ◌∙◌, inl, inr, arith}
use Rattle.std.specs.Prelude.{slice_get, max}
use Rattle.std.proofs.lemmas.Bool.{cases_lt}
use Rattle.std.proofs.lemmas.Option.{slice_get-get_or}
use Rattle.std.specs.Cmp.{nat_cmp_total, unsigned_tied}
use Rattle.std.specs.FinMap.{get, get-insert}
use Rattle.std.proofs.lemmas.Bool.Decides.{eqb_tells}
use Rattle.cfdp_store.specs.Staged.{OctetMap, Covers, written, front_from, front}

-- one octet of a write, and the rest of it
first : (m : OctetMap) (at : ℕ) (x : ℕ) (xs : List ℕ) (n : ℕ) → get (written m at (x ∷ xs)) n ≡ cond (n == at) (Some x) (get (written m (at + 1) xs) n)
unfolding written
first m at x xs n =
    get-insert nat_cmp_total (written m (at + 1) xs) at x n
    ∙ ap (λ b. cond b (Some x) (get (written m (at + 1) xs) n)) (unsigned_tied n at)

here : (n at : ℕ) {A : Type 0} (p q : A) → n ≡ at → cond (n == at) p q ≡ p
here n at p q e = elim (eqb_tells n at) [
  | inl t ↦ rw t.0 refl
  | inr t ↦ absurd (t.1 e)
]

elsewhere : (n at : ℕ) {A : Type 0} (p q : A) → n ≢ at → cond (n == at) p q ≡ q
elsewhere n at p q ne = elim (eqb_tells n at) [
  | inl t ↦ absurd (ne t.1)
  | inr t ↦ rw t.0 refl
]

-- octets below a write stand
pub get-written_below : (m : OctetMap) (at : ℕ) (xs : List ℕ) (n : ℕ) → n < at → get (written m at xs) n ≡ get m n
unfolding written
get-written_below m at [] n h = refl
get-written_below m at (x ∷ xs) n h = first m at x xs n ∙ elsewhere n at _ _ (omega arith) ∙ get-written_below m (at + 1) xs n (omega arith)

-- octets after a write stand
pub get-written_behind : (m : OctetMap) (at : ℕ) (xs : List ℕ) (n : ℕ) → at + length xs ≤ n → get (written m at xs) n ≡ get m n
unfolding written
get-written_behind m at [] n h = refl
get-written_behind m at (x ∷ xs) n h = first m at x xs n ∙ elsewhere n at _ _ (omega arith) ∙ get-written_behind m (at + 1) xs n (omega arith)

-- what a write writes stands then
pub get-written_within : (m : OctetMap) (at : ℕ) (xs : List ℕ) (n d : ℕ) → at ≤ n → n < at + length xs → get (written m at xs) n ≡ Some (get_or xs (n - at) d)
get-written_within m at [] n d h k = absurd (omega arith)
get-written_within m at (x ∷ xs) n d h k = elim (eqb_tells n at) [
  | inl t ↦ let z : n - at ≡ 0 = omega (arith, t.1) in first m at x xs n ∙ here n at _ _ t.1 ∙ rw z refl
  | inr t ↦
      let ne : n ≢ at = t.1 in
      let z : n - at ≡ suc (n - (at + 1)) = omega (arith, ne) in
      first m at x xs n ∙ elsewhere n at _ _ ne ∙ get-written_within m (at + 1) xs n d (omega (arith, ne)) (omega arith) ∙ rw z refl
]

pub length-front_from : (m : OctetMap) (at n : ℕ) → length (front_from m at n) ≡ n
unfolding front_from
length-front_from m at zero = refl
length-front_from m at (suc n) = ap suc (length-front_from m (at + 1) n)

pub get_or-front_from : (m : OctetMap) (at n k d : ℕ) → k < n → get_or (front_from m at n) k d ≡ unwrap_or (get m (at + k)) 0
unfolding front_from
get_or-front_from m at zero k d h = absurd (omega arith)
get_or-front_from m at (suc n) zero d h = ap (λ j. unwrap_or (get m j) 0) (omega arith)
get_or-front_from m at (suc n) (suc k) d h = get_or-front_from m (at + 1) n k d (omega arith) ∙ ap (λ j. unwrap_or (get m j) 0) (omega arith)

-- the front has as many octets as were asked for
pub length-front : (m : OctetMap) (size : ℕ) → length (front m size) ≡ size
length-front m size = length-front_from m 0 size

-- each of them is what is staged there
pub get_or-front : (m : OctetMap) (size k d : ℕ) → k < size → get_or (front m size) k d ≡ unwrap_or (get m k) 0
get_or-front m size k d h = get_or-front_from m 0 size k d h ∙ ap (λ j. unwrap_or (get m j) 0) (omega arith)

-- if all of them were written, each is the octet that stands there
pub slice_get-front : (m : OctetMap) (size n : ℕ) → Covers size m → n < size → slice_get (front m size) n ≡ get m n
slice_get-front m size n covers h =
    let inside : n < length (front m size) = omega (arith, length-front m size) in
    slice_get-get_or (front m size) n 0 inside ∙ ap Some (get_or-front m size n 0 h) ∙ some_of (get m n) 0 (covers n h)
  where
    some_of : (o : Option ℕ) (d : ℕ) → IsSome o → Some (unwrap_or o d) ≡ o
    some_of None d s = absurd (cc)
    some_of (Some x) d s = refl

-- a write from within what was written, or just after it, on
pub Covers-written : (m : OctetMap) (size at : ℕ) (xs : List ℕ) → Covers size m → at ≤ size → Covers (max size (at + length xs)) (written m at xs)
Covers-written m size at xs covers within n h = elim (cases_lt n at) [
  | inl low ↦ subst IsSome (sym (get-written_below m at xs n low)) (covers n (omega arith))
  | inr from ↦ elim (cases_lt n (at + length xs)) [
    | inl low ↦ subst IsSome (sym (get-written_within m at xs n 0 from low)) refl
    | inr past ↦ subst IsSome (sym (get-written_behind m at xs n past)) (covers n (omega arith))
  ]
]
