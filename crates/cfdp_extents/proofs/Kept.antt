-- Ranges kept by their ends.
use Rattle.std.proofs.Common.{◌≡◌, ℕ, ◌<◌, ◌≤◌, Less, Equal, Greater, true, ◌&&◌, length, List, [], ◌∷◌, None, Some, refl, ap, ◌∙◌, sym, arith, inl, inr, min, drop, Result, Ok, Err, OnOk, OnErr}
use Rattle.std.specs.Ordering.{nat_cmp, is_le, is_lt}
use Rattle.std.specs.Cmp.{nat_cmp_is}
use Rattle.std.specs.Map.{lookup, remove_entry}
use Rattle.std.specs.BTreeMap.{insert_entry, is_at}
use Rattle.std.specs.List.{filter}
use Rattle.std.proofs.lemmas.Bool.{lt-ltb, le-ltb, le-leb, lt-leb, cases_lt}
use Rattle.cfdp_extents.specs.Offsets.{AreApart, StartBehind}
use Rattle.cfdp_extents.specs.Ranges.{turned, first_from, first_behind, behind, low_of, key_at, put_in, outside, Untouched}

pub greater : (x y : ℕ) → y < x → nat_cmp x y ≡ Greater
greater x y h = sym (nat_cmp_is x y Greater h)

less : (x y : ℕ) → x < y → nat_cmp x y ≡ Less
less x y h = sym (nat_cmp_is x y Less h)

pub equal : (x y : ℕ) → x ≡ y → nat_cmp x y ≡ Equal
equal x y h = sym (nat_cmp_is x y Equal h)

-- ---- look-ups
pub from-below : (o : ℕ) (r : ℕ × ℕ) (rs : List (ℕ × ℕ)) → r.1 < o → first_from o (r ∷ rs) ≡ first_from o rs
from-below o r rs h = rw (lt-ltb r.1 o h) refl

pub from-here : (o : ℕ) (r : ℕ × ℕ) (rs : List (ℕ × ℕ)) → o ≤ r.1 → first_from o (r ∷ rs) ≡ Some r
from-here o r rs h = rw (le-ltb r.1 o h) refl

-- the first entry whose key passes a test is the entry of the first range
pub from_some : (o : ℕ) (es t : List (ℕ × ℕ)) (p : ℕ × ℕ) → filter (λ e. is_le (nat_cmp o e.0) && true) es ≡ p ∷ t → Some (p.1, p.0) ≡ first_from o (turned es)
from_some o [] t p h = absurd (cc)
from_some o (e ∷ es) t p h = elim (cases_lt e.0 o) [
  | inl c ↦ (let k = rw (greater o e.0 c) at h in from_some o es t p k) ∙ sym (from-below o (e.1, e.0) (turned es) c)
  | inr c ↦ elim (cases_lt o e.0) [
    | inl d ↦ (let k = rw (less o e.0 d) at h in let same : e ≡ p = cc in ap (λ x. Some (x.1, x.0)) (sym same)) ∙ sym (from-here o (e.1, e.0) (turned es) c)
    | inr d ↦ (let q : o ≡ e.0 = omega arith in let k = rw (equal o e.0 q) at h in let same : e ≡ p = cc in ap (λ x. Some (x.1, x.0)) (sym same)) ∙ sym (from-here o (e.1, e.0) (turned es) c)
  ]
]

pub from_none : (o : ℕ) (es : List (ℕ × ℕ)) → filter (λ e. is_le (nat_cmp o e.0) && true) es ≡ [] → None ≡ first_from o (turned es)
from_none o [] h = refl
from_none o (e ∷ es) h = elim (cases_lt e.0 o) [
  | inl c ↦ (let k = rw (greater o e.0 c) at h in from_none o es k) ∙ sym (from-below o (e.1, e.0) (turned es) c)
  | inr c ↦ elim (cases_lt o e.0) [
    | inl d ↦ (let k = rw (less o e.0 d) at h in absurd (cc))
    | inr d ↦ (let q : o ≡ e.0 = omega arith in let k = rw (equal o e.0 q) at h in absurd (cc))
  ]
]

pub behind-below : (o : ℕ) (r : ℕ × ℕ) (rs : List (ℕ × ℕ)) → r.1 ≤ o → first_behind o (r ∷ rs) ≡ first_behind o rs
behind-below o r rs h = rw (le-ltb o r.1 h) refl

pub behind-here : (o : ℕ) (r : ℕ × ℕ) (rs : List (ℕ × ℕ)) → o < r.1 → first_behind o (r ∷ rs) ≡ Some r
behind-here o r rs h = rw (lt-ltb o r.1 h) refl

pub behind_some : (o : ℕ) (es t : List (ℕ × ℕ)) (p : ℕ × ℕ) → filter (λ e. is_lt (nat_cmp o e.0) && true) es ≡ p ∷ t → Some (p.1, p.0) ≡ first_behind o (turned es)
behind_some o [] t p h = absurd (cc)
behind_some o (e ∷ es) t p h = elim (cases_lt o e.0) [
  | inl d ↦ (let k = rw (less o e.0 d) at h in let same : e ≡ p = cc in ap (λ x. Some (x.1, x.0)) (sym same)) ∙ sym (behind-here o (e.1, e.0) (turned es) d)
  | inr c ↦ elim (cases_lt e.0 o) [
    | inl d ↦ (let k = rw (greater o e.0 d) at h in behind_some o es t p k) ∙ sym (behind-below o (e.1, e.0) (turned es) c)
    | inr d ↦ (let q : o ≡ e.0 = omega arith in let k = rw (equal o e.0 q) at h in behind_some o es t p k) ∙ sym (behind-below o (e.1, e.0) (turned es) c)
  ]
]

pub behind_none : (o : ℕ) (es : List (ℕ × ℕ)) → filter (λ e. is_lt (nat_cmp o e.0) && true) es ≡ [] → None ≡ first_behind o (turned es)
behind_none o [] h = refl
behind_none o (e ∷ es) h = elim (cases_lt o e.0) [
  | inl d ↦ (let k = rw (less o e.0 d) at h in absurd (cc))
  | inr c ↦ elim (cases_lt e.0 o) [
    | inl d ↦ (let k = rw (greater o e.0 d) at h in behind_none o es k) ∙ sym (behind-below o (e.1, e.0) (turned es) c)
    | inr d ↦ (let q : o ≡ e.0 = omega arith in let k = rw (equal o e.0 q) at h in behind_none o es k) ∙ sym (behind-below o (e.1, e.0) (turned es) c)
  ]
]

-- ---- one range put in
key-high : (end : ℕ) (xs : List (ℕ × ℕ)) → end ≤ key_at end (first_from end xs)
key-high end [] = omega arith
key-high end (r ∷ rs) = elim (cases_lt r.1 end) [
  | inl c ↦ rw (from-below end r rs c) (key-high end rs)
  | inr c ↦ rw (from-here end r rs c) (elim (cases_lt end r.0) [
    | inl d ↦ rw (lt-leb r.0 end d) (omega arith)
    | inr d ↦ rw (le-leb r.0 end d) c
  ])
]

pub put_is : (low end : ℕ) (es : List (ℕ × ℕ)) → AreApart (turned es) → turned (insert_entry nat_cmp es (key_at end (first_from end (turned es))) low) ≡ put_in low end (turned es)
put_is low end [] h = refl
put_is low end (e ∷ es) h =
    let rs : List (ℕ × ℕ) = turned es in
    let G : Type 0 = turned (insert_entry nat_cmp (e ∷ es) (key_at end (first_from end ((e.1, e.0) ∷ rs))) low) ≡ put_in low end ((e.1, e.0) ∷ rs) in
    let below : e.0 < end → G = λ (c : e.0 < end).
    let past : e.0 < key_at end (first_from end rs) = omega (arith, key-high end rs) in
    rw (from-below end (e.1, e.0) rs c, greater (key_at end (first_from end rs)) e.0 past, lt-ltb e.0 end c) (ap (λ l. (e.1, e.0) ∷ l) (put_is low end es h.2)) in
    let touched : end ≤ e.0 → e.1 ≤ end → G = λ (c : end ≤ e.0) (d : e.1 ≤ end).
    rw (from-here end (e.1, e.0) rs c, le-leb e.1 end d, equal e.0 e.0 refl, le-ltb e.0 end c) refl in
    let apart : end ≤ e.0 → end < e.1 → G = λ (c : end ≤ e.0) (d : end < e.1).
    let up : end < e.0 = omega (arith, h.0) in
    rw (from-here end (e.1, e.0) rs c, lt-leb e.1 end d, less end e.0 up, le-ltb e.0 end c) refl in
    elim (cases_lt e.0 end) [ inl c ↦ below c | inr c ↦ elim (cases_lt end e.1) [ inl d ↦ apart c d | inr d ↦ touched c d ] ]

-- if the key is not there, the end touches no range
pub untouched_is : (end : ℕ) (es : List (ℕ × ℕ)) → lookup (is_at (nat_cmp (key_at end (first_from end (turned es))))) es ≡ None → Untouched end (first_from end (turned es))
untouched_is end [] h = tt
untouched_is end (e ∷ es) h =
    let rs : List (ℕ × ℕ) = turned es in
    elim (cases_lt e.0 end) [
      | inl c ↦
          let past : e.0 < key_at end (first_from end rs) = omega (arith, key-high end rs) in
          let same : key_at end (first_from end rs) ≡ key_at end (first_from end (turned (e ∷ es))) = ap (key_at end) (sym (from-below end (e.1, e.0) rs c)) in
          let h2 : lookup (is_at (nat_cmp (key_at end (first_from end rs)))) (e ∷ es) ≡ None = ap (λ k. lookup (is_at (nat_cmp k)) (e ∷ es)) same ∙ h in
          let k = rw (greater (key_at end (first_from end rs)) e.0 past) at h2 in
          rw (from-below end (e.1, e.0) rs c) (untouched_is end es k)
      | inr c ↦ rw (from-here end (e.1, e.0) rs c) (elim (cases_lt end e.1) [
        | inl d ↦ d
        | inr d ↦ (let k = rw (from-here end (e.1, e.0) rs c, le-leb e.1 end d, equal e.0 e.0 refl) at h in absurd (cc))
      ])
    ]

-- ---- ranges removed
pub from-low : (o : ℕ) (xs : List (ℕ × ℕ)) (r : ℕ × ℕ) → first_from o xs ≡ Some r → o ≤ r.1
from-low o [] r h = absurd (cc)
from-low o (x ∷ xs) r h = elim (cases_lt x.1 o) [
  | inl c ↦ from-low o xs r (sym (from-below o x xs c) ∙ h)
  | inr c ↦ let same : Some x ≡ Some r = sym (from-here o x xs c) ∙ h in let is : x ≡ r = cc in rw (← is) c
]

pub outside_less : (start end : ℕ) (es : List (ℕ × ℕ)) (r : ℕ × ℕ) → first_from start (turned es) ≡ Some r → r.1 < end →
    outside start end (turned (remove_entry (is_at (nat_cmp r.1)) es)) ≡ outside start end (turned es)
outside_less start end [] r h lt = absurd (cc)
outside_less start end (e ∷ es) r h lt =
    let rs : List (ℕ × ℕ) = turned es in
    elim (cases_lt e.0 start) [
      | inl c ↦
          let k : first_from start rs ≡ Some r = sym (from-below start (e.1, e.0) rs c) ∙ h in
          let past : e.0 < r.1 = omega (arith, from-low start rs r k) in
          rw (greater r.1 e.0 past, lt-ltb e.0 start c) (ap (λ l. (e.1, e.0) ∷ l) (outside_less start end es r k lt))
      | inr c ↦
          let same : Some (e.1, e.0) ≡ Some r = sym (from-here start (e.1, e.0) rs c) ∙ h in
          let is : (e.1, e.0) ≡ r = cc in
          let key : e.0 ≡ r.1 = ap (λ x. x.1) is in
          let lt2 : e.0 < end = omega arith in
          let q : r.1 ≡ e.0 = sym key in
          rw (equal r.1 e.0 q, le-ltb e.0 start c, lt-ltb e.0 end lt2) refl
    ]

pub outside_none : (start end : ℕ) (xs : List (ℕ × ℕ)) → first_from start xs ≡ None → xs ≡ outside start end xs
outside_none start end [] h = refl
outside_none start end (x ∷ xs) h = elim (cases_lt x.1 start) [
  | inl c ↦ rw (lt-ltb x.1 start c) (ap (λ l. x ∷ l) (outside_none start end xs (sym (from-below start x xs c) ∙ h)))
  | inr c ↦ (let k : Some x ≡ None = sym (from-here start x xs c) ∙ h in absurd (cc))
]

pub outside_past : (start end : ℕ) (xs : List (ℕ × ℕ)) (r : ℕ × ℕ) → first_from start xs ≡ Some r → end ≤ r.1 → xs ≡ outside start end xs
outside_past start end [] r h le = absurd (cc)
outside_past start end (x ∷ xs) r h le = elim (cases_lt x.1 start) [
  | inl c ↦ rw (lt-ltb x.1 start c) (ap (λ l. x ∷ l) (outside_past start end xs r (sym (from-below start x xs c) ∙ h) le))
  | inr c ↦
      let same : Some x ≡ Some r = sym (from-here start x xs c) ∙ h in
      let is : x ≡ r = cc in
      let past : end ≤ x.1 = omega (arith, ap (λ y. y.1) is) in
      rw (le-ltb x.1 start c, le-ltb x.1 end past) refl
]

pub removed_less : (start : ℕ) (es : List (ℕ × ℕ)) (r : ℕ × ℕ) → first_from start (turned es) ≡ Some r → length (remove_entry (is_at (nat_cmp r.1)) es) < length es
removed_less start [] r h = absurd (cc)
removed_less start (e ∷ es) r h =
    let rs : List (ℕ × ℕ) = turned es in
    elim (cases_lt e.0 start) [
      | inl c ↦
          let k : first_from start rs ≡ Some r = sym (from-below start (e.1, e.0) rs c) ∙ h in
          let past : e.0 < r.1 = omega (arith, from-low start rs r k) in
          rw (greater r.1 e.0 past) (let ih = removed_less start es r k in omega (arith, ih))
      | inr c ↦
          let same : Some (e.1, e.0) ≡ Some r = sym (from-here start (e.1, e.0) rs c) ∙ h in
          let is : (e.1, e.0) ≡ r = cc in
          let q : r.1 ≡ e.0 = sym (ap (λ x. x.1) is) in
          rw (equal r.1 e.0 q) (omega arith)
    ]

-- ---- where a joined range starts
pub low-some : (start : ℕ) (xs : List (ℕ × ℕ)) (r : ℕ × ℕ) → first_from start xs ≡ Some r → min start r.0 ≡ low_of start xs
low-some start [] r h = absurd (cc)
low-some start (x ∷ xs) r h = elim (cases_lt x.1 start) [
  | inl c ↦ rw (lt-ltb x.1 start c) (low-some start xs r (sym (from-below start x xs c) ∙ h))
  | inr c ↦
      let same : Some x ≡ Some r = sym (from-here start x xs c) ∙ h in
      let is : x ≡ r = cc in
      rw (le-ltb x.1 start c) (ap (λ y. min start y.0) (sym is))
]

pub low-none : (start : ℕ) (xs : List (ℕ × ℕ)) → first_from start xs ≡ None → start ≡ low_of start xs
low-none start [] h = refl
low-none start (x ∷ xs) h = elim (cases_lt x.1 start) [
  | inl c ↦ rw (lt-ltb x.1 start c) (low-none start xs (sym (from-below start x xs c) ∙ h))
  | inr c ↦ (let k : Some x ≡ None = sym (from-here start x xs c) ∙ h in absurd (cc))
]

-- ---- the first, the last and the rest
pub first-some : (xs : List (ℕ × ℕ)) (r : ℕ × ℕ) → first_from 0 xs ≡ Some r → xs ≡ r ∷ drop 1 xs
first-some [] r h = absurd (cc)
first-some (x ∷ xs) r h =
    let low : 0 ≤ x.1 = omega arith in
    let same : Some x ≡ Some r = sym (from-here 0 x xs low) ∙ h in
    let is : x ≡ r = cc in
    ap (λ y. y ∷ xs) is

pub first-none : (xs : List (ℕ × ℕ)) → first_from 0 xs ≡ None → length xs ≡ 0
first-none [] h = refl
first-none (x ∷ xs) h =
    let low : 0 ≤ x.1 = omega arith in
    let k : Some x ≡ None = sym (from-here 0 x xs low) ∙ h in
    absurd (cc)

pub only-ok : {T E A B : Type 0} (r : Result T E) → OnOk r A → OnErr r B → (B → ⊥) → A
only-ok (Ok x) a b never = a
only-ok (Err e) a b never = absurd (never b)

-- ---- the ranges after an offset
all-behind : (o m : ℕ) (es : List (ℕ × ℕ)) → o ≤ m → AreApart (turned es) → StartBehind m (turned es) → turned (filter (λ e. is_lt (nat_cmp o e.0) && true) es) ≡ turned es
all-behind o m [] le h b = refl
all-behind o m (e ∷ es) le h b =
    let up : o < e.0 = omega (arith, b, h.0) in
    let same : e.0 ≤ e.0 = omega arith in
    rw (less o e.0 up) (ap (λ l. (e.1, e.0) ∷ l) (all-behind o e.0 es (omega arith) h.2 h.1))

pub behind_is : (o : ℕ) (es : List (ℕ × ℕ)) → AreApart (turned es) → turned (filter (λ e. is_lt (nat_cmp o e.0) && true) es) ≡ behind o (turned es)
behind_is o [] h = refl
behind_is o (e ∷ es) h = elim (cases_lt o e.0) [
  | inl d ↦ rw (less o e.0 d, lt-ltb o e.0 d) (ap (λ l. (e.1, e.0) ∷ l) (all-behind o e.0 es (omega arith) h.2 h.1))
  | inr c ↦ elim (cases_lt e.0 o) [
    | inl d ↦ rw (greater o e.0 d, le-ltb o e.0 c) (behind_is o es h.2)
    | inr d ↦ (let q : o ≡ e.0 = omega arith in rw (equal o e.0 q, le-ltb o e.0 c) (behind_is o es h.2))
  ]
]
