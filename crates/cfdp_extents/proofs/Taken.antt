-- What is held after the front of the first range was taken, and the last offset held.
use Rattle.std.proofs.Common.{◌≡◌, ℕ, ◌+◌, ◌-◌, ◌<◌, ◌≤◌, true, List, [], ◌∷◌, length, set, subst, drop, refl, ap, ◌∙◌, sym, arith, ◌⊎◌, inl, inr}
use Rattle.std.specs.Cmp.{nat_cmp_total}
use Rattle.std.specs.Ordering.{nat_cmp}
use Rattle.std.specs.FinSet.{contains, contains-empty, empty, difference, contains-difference}
use Rattle.std.proofs.lemmas.Bool.{both_ways, cases_lt, false_from_ne_true}
use Rattle.std.proofs.lemmas.Bool.Decides.{Decides-and, Decides-not, Decides-at, Decides-like, same_from_decides}
use Rattle.cfdp_extents.specs.Offsets.{Offsets, range, union_of, AreApart}
use Rattle.cfdp_extents.specs.Front.{IsFront}
use Rattle.cfdp_extents.proofs.Members.{Decides-within, contains-range, InRanges, Decides-union_of, same_offsets, behind_start}
use Rattle.cfdp_extents.proofs.Joined.{Decides-is_subset}

-- ranges that hold what others do, without a range
pub difference-less : (new old : List (ℕ × ℕ)) (s e : ℕ) → ((n : ℕ) → InRanges new n → InRanges old n × ((s ≤ n) × (n < e) → ⊥)) →
    ((n : ℕ) → InRanges old n × ((s ≤ n) × (n < e) → ⊥) → InRanges new n) → union_of new ≡ difference (union_of old) (range s e)
difference-less new old s e forth back =
    same_offsets _ _ (λ n.
    same_from_decides _ _ (Decides-union_of new n)
    (Decides-at _ _ (contains-difference nat_cmp_total (union_of old) (range s e) n)
    (Decides-like _ (back n) (forth n)
    (Decides-and _ _ (Decides-union_of old n) (Decides-not _ (Decides-at _ _ (contains-range s e n) (Decides-within s e n)))))))

-- without its first range
pub union-without_first : (r : ℕ × ℕ) (rs : List (ℕ × ℕ)) → AreApart (r ∷ rs) → union_of rs ≡ difference (union_of (r ∷ rs)) (range r.0 r.1)
union-without_first r rs h = difference-less rs (r ∷ rs) r.0 r.1
    (λ n w. (inr w, λ i. let up : r.1 < n = behind_start r.1 rs n h.2 h.1 w in let high : n < r.1 = i.1 in omega arith))
    (λ n w. elim w.0 [ inl i ↦ absurd (w.1 i) | inr i ↦ i ])

-- without the front of its first range
pub union-without_front : (s e t : ℕ) (rs : List (ℕ × ℕ)) → AreApart ((s, e) ∷ rs) → s < t → t < e → union_of ((t, e) ∷ rs) ≡ difference (union_of ((s, e) ∷ rs)) (range s t)
union-without_front s e t rs h low high = difference-less ((t, e) ∷ rs) ((s, e) ∷ rs) s t
    (λ n w. elim w [
      | inl i ↦ let from : t ≤ n = i.0 in (inl (let le : s ≤ n = omega arith in le, i.1), λ j. let no : n < t = j.1 in omega arith)
      | inr i ↦ (inr i, λ j. let up : e < n = behind_start e rs n h.2 h.1 i in let no : n < t = j.1 in omega arith)
    ])
    (λ n w. elim w.0 [
      | inl i ↦ elim (cases_lt n t) [ inl before ↦ absurd (w.1 (i.0, before)) | inr from ↦ inl (from, i.1) ]
      | inr i ↦ inr i
    ])

pub apart-without_front : (s e t : ℕ) (rs : List (ℕ × ℕ)) → AreApart ((s, e) ∷ rs) → t < e → AreApart ((t, e) ∷ rs)
apart-without_front s e t rs h high = (high, h.1, h.2)

-- the front of the first range: whole, or as much of it as may be taken
pub is-front : (s e t max : ℕ) (rs : List (ℕ × ℕ)) → AreApart ((s, e) ∷ rs) → s < t → t ≤ e → t ≤ s + max → (t ≡ s + max) ⊎ (t ≡ e) → IsFront (union_of ((s, e) ∷ rs)) max s t
is-front s e t max rs h some within most whole = record {
  least = λ n held. elim ((Decides-union_of ((s, e) ∷ rs) n).0 held) [
    | inl i ↦ i.0
    | inr i ↦ let up : e < n = behind_start e rs n h.2 h.1 i in omega arith
  ];
  some = some;
  at_most = most;
  gapless = (Decides-is_subset s t (union_of ((s, e) ∷ rs))).1 (λ n low high. (Decides-union_of ((s, e) ∷ rs) n).1 (inl (low, let up : n < e = omega arith in up)));
  whole = elim whole [
    | inl is ↦ inl is
    | inr is ↦ inr (false_from_ne_true _ (λ held. elim ((Decides-union_of ((s, e) ∷ rs) t).0 held) [
      | inl i ↦ let no : t < e = i.1 in omega arith
      | inr i ↦ let no : e < t = behind_start e rs t h.2 h.1 i in omega arith
    ]))
  ];
}

pub no-offsets : (xs : List (ℕ × ℕ)) → length xs ≡ 0 → union_of xs ≡ empty
unfolding union_of
no-offsets [] l = refl
no-offsets (x ∷ xs) l = absurd (omega arith)

pub none-held : (xs : List (ℕ × ℕ)) → length xs ≡ 0 → (n : ℕ) → contains (union_of xs) n ≡ true → ⊥
none-held [] l n held = (Decides-union_of [] n).0 held
none-held (x ∷ xs) l n held = absurd (omega arith)

-- a set that is empty has no ranges
pub no_ranges : (xs : List (ℕ × ℕ)) → AreApart xs → union_of xs ≡ empty → length xs ≡ 0
no_ranges [] h e = refl
no_ranges (x ∷ xs) h e =
    let low : x.0 ≤ x.0 = omega arith in
    let here : contains (union_of (x ∷ xs)) x.0 ≡ true = (Decides-union_of (x ∷ xs) x.0).1 (inl (low, h.0)) in
    absurd (both_ways _ (contains-empty nat_cmp x.0) (ap (λ s. contains s x.0) (sym e) ∙ here))

-- the first range `r` of a set's ranges, and the rest
pub record First (xs : List (ℕ × ℕ)) (held : Offsets) (r : ℕ × ℕ) : Type 0 where
  pub is : xs ≡ r ∷ drop 1 xs
  pub apart : AreApart (r ∷ drop 1 xs)
  pub view : union_of (r ∷ drop 1 xs) ≡ held

pub whole-rest : (xs : List (ℕ × ℕ)) (held : Offsets) (r : ℕ × ℕ) → First xs held r → union_of (drop 1 xs) ≡ difference held (range r.0 r.1)
whole-rest xs held r f = union-without_first r (drop 1 xs) f.apart ∙ ap (λ s. difference s (range r.0 r.1)) f.view

pub part-rest : (xs : List (ℕ × ℕ)) (held : Offsets) (r : ℕ × ℕ) (max : ℕ) → First xs held r → (max ≡ 0 → ⊥) → max < r.1 - r.0 → union_of (set xs 0 (r.0 + max, r.1))
    ≡ difference held (range r.0 (r.0 + max))
part-rest xs held r max f pos h =
    let pos' : 0 < max = grind (arith, pos) in
    ap (λ v. union_of (set v 0 (r.0 + max, r.1))) f.is
    ∙ union-without_front r.0 r.1 (r.0 + max) (drop 1 xs) f.apart (omega arith) (omega arith)
    ∙ ap (λ s. difference s (range r.0 (r.0 + max))) f.view

pub part-apart : (xs : List (ℕ × ℕ)) (held : Offsets) (r : ℕ × ℕ) (max : ℕ) → First xs held r → max < r.1 - r.0 → AreApart (set xs 0 (r.0 + max, r.1))
part-apart xs held r max f h =
    subst (λ v. AreApart (set v 0 (r.0 + max, r.1))) (sym f.is) (apart-without_front r.0 r.1 (r.0 + max) (drop 1 xs) f.apart (omega arith))

pub first-of : (xs : List (ℕ × ℕ)) (held : Offsets) (r : ℕ × ℕ) → AreApart xs → union_of xs ≡ held → xs ≡ r ∷ drop 1 xs → First xs held r
first-of xs held r h view is = record { is = is; apart = subst AreApart is h; view = ap union_of (sym is) ∙ view }
