-- What is held after a range was put in among ranges kept by their ends.
use Rattle.std.proofs.Common.{◌≡◌, ℕ, ◌+◌, ◌-◌, ◌<◌, ◌≤◌, Bool, true, false, leb, List, [], ◌∷◌, None, Some, refl, ap, ◌∙◌, sym, arith, ◌⊎◌, inl, inr, min, subst}
use Rattle.std.proofs.lemmas.Bool.{lt-ltb, le-ltb, le-leb, lt-leb, cases_lt, leb-true}
use Rattle.std.proofs.lemmas.Bool.Decides.{same_from_decides}
use Rattle.std.specs.FinSet.{union, contains, is_subset}
use Rattle.cfdp_extents.specs.Offsets.{Offsets, AreApart, StartBehind, union_of, range}
use Rattle.cfdp_extents.specs.Ranges.{low_of, joined_in, first_from, Untouched}
use Rattle.cfdp_extents.proofs.Members.{InRanges, behind_start, Decides-union_of}
use Rattle.cfdp_extents.proofs.Kept.{from-below, from-here, from-low}
use Rattle.cfdp_extents.proofs.Joined.{union-more, Decides-is_subset}

pub in-none : (low s e : ℕ) → s < e → joined_in low s e [] ≡ (low, e) ∷ []
in-none low s e some =
    let up : s ≤ e = omega arith in
    let same : e ≤ e = omega arith in
    rw (le-ltb e s up, le-ltb e e same) refl

pub in-before : (low s e : ℕ) (r : ℕ × ℕ) (rs : List (ℕ × ℕ)) → s < e → r.1 < s → joined_in low s e (r ∷ rs) ≡ r ∷ joined_in low s e rs
in-before low s e r rs some c =
    let past : r.1 < e = omega arith in
    rw (lt-ltb r.1 e past, lt-ltb r.1 s c) refl

pub in-within : (low s e : ℕ) (r : ℕ × ℕ) (rs : List (ℕ × ℕ)) → s ≤ r.1 → r.1 < e → joined_in low s e (r ∷ rs) ≡ joined_in low s e rs
in-within low s e r rs c d = rw (lt-ltb r.1 e d, le-ltb r.1 s c, lt-ltb r.1 e d) refl

pub in-touched : (low s e : ℕ) (r : ℕ × ℕ) (rs : List (ℕ × ℕ)) → s < e → e ≤ r.1 → r.0 ≤ e → joined_in low s e (r ∷ rs) ≡ (low, r.1) ∷ rs
in-touched low s e r rs some c d =
    let up : s ≤ r.1 = omega arith in
    rw (le-ltb r.1 e c, le-leb r.0 e d, le-ltb r.1 s up, le-ltb r.1 e c) refl

pub in-apart : (low s e : ℕ) (r : ℕ × ℕ) (rs : List (ℕ × ℕ)) → s < e → e ≤ r.1 → e < r.0 → joined_in low s e (r ∷ rs) ≡ (low, e) ∷ r ∷ rs
in-apart low s e r rs some c d =
    let up : s ≤ e = omega arith in
    let same : e ≤ e = omega arith in
    rw (le-ltb r.1 e c, lt-leb r.0 e d, le-ltb e s up, le-ltb e e same) refl

-- ranges that end at `s` or after it, and start at `low` or after it
abbrev Late : ℕ → ℕ → List (ℕ × ℕ) → Type 0
Late low s [] = Unit {0}
Late low s (r ∷ rs) = (s ≤ r.1) × (low ≤ r.0)

late-rest : (low s : ℕ) (r : ℕ × ℕ) (rs : List (ℕ × ℕ)) → AreApart (r ∷ rs) → Late low s (r ∷ rs) → Late low s rs
late-rest low s r [] h l = tt
late-rest low s r (x ∷ xs) h l = (omega (arith, h.0, h.1, h.2.0, l.0), omega (arith, h.0, h.1, l.1))

late-forth : (low s e n : ℕ) (xs : List (ℕ × ℕ)) → s < e → AreApart xs → Late low s xs → InRanges (joined_in low s e xs) n → InRanges xs n ⊎ ((low ≤ n) × (n < e))
late-forth low s e n [] some h l w = elim (subst (λ ys. InRanges ys n) (in-none low s e some) w) [ inl q ↦ inr q | inr q ↦ absurd q ]
late-forth low s e n (r ∷ rs) some h l w = elim (cases_lt r.1 e) [
  | inl d ↦ elim (late-forth low s e n rs some h.2 (late-rest low s r rs h l) (subst (λ ys. InRanges ys n) (in-within low s e r rs l.0 d) w)) [ inl q ↦ inl (inr q) | inr q ↦ inr q ]
  | inr c ↦ elim (cases_lt e r.0) [
    | inl d ↦ elim (subst (λ ys. InRanges ys n) (in-apart low s e r rs some c d) w) [ inl q ↦ inr q | inr q ↦ inl q ]
    | inr d ↦ elim (subst (λ ys. InRanges ys n) (in-touched low s e r rs some c d) w) [
      | inl q ↦ elim (cases_lt n e) [ inl k ↦ inr (q.0, k) | inr k ↦ inl (inl (omega (arith, d), q.1)) ]
      | inr q ↦ inl (inr q)
    ]
  ]
]

late-back : (low s e n : ℕ) (xs : List (ℕ × ℕ)) → s < e → AreApart xs → Late low s xs → InRanges xs n ⊎ ((low ≤ n) × (n < e)) → InRanges (joined_in low s e xs) n
late-back low s e n [] some h l (inl q) = absurd q
late-back low s e n [] some h l (inr q) = subst (λ ys. InRanges ys n) (sym (in-none low s e some)) (inl q)
late-back low s e n (r ∷ rs) some h l w = elim (cases_lt r.1 e) [
  | inl d ↦ subst (λ ys. InRanges ys n) (sym (in-within low s e r rs l.0 d))
      (late-back low s e n rs some h.2 (late-rest low s r rs h l) (elim w [
        | inl q ↦ elim q [ inl k ↦ inr (omega (arith, l.1, k.0), omega (arith, d, k.1)) | inr k ↦ inl k ]
        | inr q ↦ inr q
      ]))
  | inr c ↦ elim (cases_lt e r.0) [
    | inl d ↦ subst (λ ys. InRanges ys n) (sym (in-apart low s e r rs some c d)) (elim w [ inl q ↦ inr q | inr q ↦ inl q ])
    | inr d ↦ subst (λ ys. InRanges ys n) (sym (in-touched low s e r rs some c d)) (elim w [
      | inl q ↦ elim q [ inl k ↦ inl (omega (arith, l.1, k.0), k.1) | inr k ↦ inr k ]
      | inr q ↦ inl (q.0, omega (arith, c, q.1))
    ])
  ]
]

late-apart : (low s e : ℕ) (xs : List (ℕ × ℕ)) → s < e → low < e → AreApart xs → Late low s xs → AreApart (joined_in low s e xs)
late-apart low s e [] some up h l = subst AreApart (sym (in-none low s e some)) (up, tt, tt)
late-apart low s e (r ∷ rs) some up h l = elim (cases_lt r.1 e) [
  | inl d ↦ subst AreApart (sym (in-within low s e r rs l.0 d)) (late-apart low s e rs some up h.2 (late-rest low s r rs h l))
  | inr c ↦ elim (cases_lt e r.0) [
    | inl d ↦ subst AreApart (sym (in-apart low s e r rs some c d)) (up, d, h)
    | inr d ↦ subst AreApart (sym (in-touched low s e r rs some c d)) (omega (arith, up, c), h.1, h.2)
  ]
]

start-rest : (m : ℕ) (r : ℕ × ℕ) (rs : List (ℕ × ℕ)) → AreApart (r ∷ rs) → m < r.0 → StartBehind m rs
start-rest m r [] h b = tt
start-rest m r (x ∷ xs) h b = omega (arith, h.0, h.1, b)

-- The whole of it starts no earlier than what was there, or the new range.
behind-joined : (m low s e : ℕ) (xs : List (ℕ × ℕ)) → s < e → m < low → AreApart xs → StartBehind m xs → StartBehind m (joined_in low s e xs)
behind-joined m low s e [] some up h b = subst (StartBehind m) (sym (in-none low s e some)) up
behind-joined m low s e (r ∷ rs) some up h b =
    let rest : StartBehind m rs = start-rest m r rs h b in
    elim (cases_lt r.1 s) [
      | inl c ↦ subst (StartBehind m) (sym (in-before low s e r rs some c)) b
      | inr c ↦ elim (cases_lt r.1 e) [
        | inl d ↦ subst (StartBehind m) (sym (in-within low s e r rs c d)) (behind-joined m low s e rs some up h.2 rest)
        | inr d ↦ elim (cases_lt e r.0) [
          | inl k ↦ subst (StartBehind m) (sym (in-apart low s e r rs some d k)) up
          | inr k ↦ subst (StartBehind m) (sym (in-touched low s e r rs some d k)) up
        ]
      ]
    ]

pub low-below : (s : ℕ) (r : ℕ × ℕ) (rs : List (ℕ × ℕ)) → r.1 < s → low_of s (r ∷ rs) ≡ low_of s rs
low-below s r rs c = rw (lt-ltb r.1 s c) refl

pub low-here : (s : ℕ) (r : ℕ × ℕ) (rs : List (ℕ × ℕ)) → s ≤ r.1 → low_of s (r ∷ rs) ≡ min s r.0
low-here s r rs c = rw (le-ltb r.1 s c) refl

low-behind : (m s : ℕ) (xs : List (ℕ × ℕ)) → m < s → AreApart xs → StartBehind m xs → m < low_of s xs
low-behind m s [] up h b = up
low-behind m s (r ∷ rs) up h b = elim (cases_lt r.1 s) [
  | inl c ↦ rw (low-below s r rs c) (low-behind m s rs up h.2 (start-rest m r rs h b))
  | inr c ↦ rw (low-here s r rs c) (omega (arith, up, b))
]

forth : (s e n : ℕ) (xs : List (ℕ × ℕ)) → s < e → AreApart xs → InRanges (joined_in (low_of s xs) s e xs) n → InRanges xs n ⊎ ((s ≤ n) × (n < e))
forth s e n [] some h w = elim (subst (λ ys. InRanges ys n) (in-none s s e some) w) [ inl q ↦ inr q | inr q ↦ absurd q ]
forth s e n (r ∷ rs) some h w = elim (cases_lt r.1 s) [
  | inl c ↦
      let v : InRanges (r ∷ joined_in (low_of s rs) s e rs) n = subst (λ ys. InRanges ys n) (ap (λ low. joined_in low s e (r ∷ rs)) (low-below s r rs c) ∙ in-before (low_of s rs) s e r rs some c) w in
      elim v [ inl q ↦ inl (inl q) | inr q ↦ elim (forth s e n rs some h.2 q) [ inl k ↦ inl (inr k) | inr k ↦ inr k ] ]
  | inr c ↦
      let v : InRanges (joined_in (min s r.0) s e (r ∷ rs)) n = subst (λ ys. InRanges ys n) (ap (λ low. joined_in low s e (r ∷ rs)) (low-here s r rs c)) w in
      elim (late-forth (min s r.0) s e n (r ∷ rs) some h (c, omega arith) v) [
        | inl q ↦ inl q
        | inr q ↦ elim (cases_lt n s) [ inl k ↦ inl (inl (omega (arith, q.0, k), omega (arith, c, k))) | inr k ↦ inr (k, q.1) ]
      ]
]

back : (s e n : ℕ) (xs : List (ℕ × ℕ)) → s < e → AreApart xs → InRanges xs n ⊎ ((s ≤ n) × (n < e)) → InRanges (joined_in (low_of s xs) s e xs) n
back s e n [] some h (inl q) = absurd q
back s e n [] some h (inr q) = subst (λ ys. InRanges ys n) (sym (in-none s s e some)) (inl q)
back s e n (r ∷ rs) some h w = elim (cases_lt r.1 s) [
  | inl c ↦
      let eq = ap (λ low. joined_in low s e (r ∷ rs)) (low-below s r rs c) ∙ in-before (low_of s rs) s e r rs some c in
      subst (λ ys. InRanges ys n) (sym eq) (elim w [
        | inl q ↦ elim q [ inl k ↦ inl k | inr k ↦ inr (back s e n rs some h.2 (inl k)) ]
        | inr q ↦ inr (back s e n rs some h.2 (inr q))
      ])
  | inr c ↦
      let eq = ap (λ low. joined_in low s e (r ∷ rs)) (low-here s r rs c) in
      subst (λ ys. InRanges ys n) (sym eq) (late-back (min s r.0) s e n (r ∷ rs) some h (c, omega arith) (elim w [ inl q ↦ inl q | inr q ↦ inr (omega (arith, q.0), q.1) ]))
]

pub joined-apart : (s e : ℕ) (xs : List (ℕ × ℕ)) → s < e → AreApart xs → AreApart (joined_in (low_of s xs) s e xs)
joined-apart s e [] some h = subst AreApart (sym (in-none s s e some)) (some, tt, tt)
joined-apart s e (r ∷ rs) some h = elim (cases_lt r.1 s) [
  | inl c ↦
      let eq = ap (λ low. joined_in low s e (r ∷ rs)) (low-below s r rs c) ∙ in-before (low_of s rs) s e r rs some c in
      subst AreApart (sym eq) (h.0, behind-joined r.1 (low_of s rs) s e rs some (low-behind r.1 s rs c h.2 h.1) h.2 h.1, joined-apart s e rs some h.2)
  | inr c ↦
      let eq = ap (λ low. joined_in low s e (r ∷ rs)) (low-here s r rs c) in
      subst AreApart (sym eq) (late-apart (min s r.0) s e (r ∷ rs) some (omega arith) h (c, omega arith))
]

pub joined-union : (s e : ℕ) (xs : List (ℕ × ℕ)) → s < e → AreApart xs → union_of (joined_in (low_of s xs) s e xs) ≡ union (union_of xs) (range s e)
joined-union s e xs some h = union-more (joined_in (low_of s xs) s e xs) xs s e (λ n. forth s e n xs some h) (λ n. back s e n xs some h)

no-true : (b : Bool) → (b ≡ true → ⊥) → false ≡ b
no-true true h = absurd (h refl)
no-true false h = refl

-- what is held makes its end touch a range
pub untouched-end : (e n : ℕ) (xs : List (ℕ × ℕ)) → n + 1 ≡ e → AreApart xs → InRanges xs n → Untouched e (first_from e xs) → ⊥
untouched-end e n [] is h w u = w
untouched-end e n (r ∷ rs) is h w u = elim (cases_lt r.1 e) [
  | inl c ↦ elim w [
    | inl k ↦ absurd (omega (arith, k.1, c, is))
    | inr k ↦ untouched-end e n rs is h.2 k (subst (Untouched e) (from-below e r rs c) u)
  ]
  | inr c ↦
      let up : e < r.0 = subst (Untouched e) (from-here e r rs c) u in
      elim w [
        | inl k ↦ absurd (omega (arith, k.0, up, is))
        | inr k ↦ (let lt : r.1 < n = behind_start r.1 rs n h.2 h.1 k in absurd (omega (arith, lt, c, is)))
      ]
]

in-held : (s e n : ℕ) (xs : List (ℕ × ℕ)) (held : Offsets) → union_of xs ≡ held → is_subset (range s e) held ≡ true → s ≤ n → n < e → InRanges xs n
in-held s e n xs held view t low high = (Decides-union_of xs n).0 (ap (λ h. contains h n) view ∙ (Decides-is_subset s e held).0 t n low high)

pub touched_held : (s e : ℕ) (xs : List (ℕ × ℕ)) (held : Offsets) → s < e → AreApart xs → union_of xs ≡ held → is_subset (range s e) held ≡ true → Untouched e (first_from e xs) → ⊥
touched_held s e xs held some h view t u =
    let is : e - 1 + 1 ≡ e = omega arith in
    untouched-end e (e - 1) xs is h (in-held s e (e - 1) xs held view t (omega arith) (omega arith)) u

-- ---- whether a range is covered
in-first : (e n : ℕ) (xs : List (ℕ × ℕ)) (r : ℕ × ℕ) → first_from e xs ≡ Some r → r.0 ≤ n → n < r.1 → InRanges xs n
in-first e n [] r h low high = absurd (cc)
in-first e n (x ∷ xs) r h low high = elim (cases_lt x.1 e) [
  | inl c ↦ inr (in-first e n xs r (sym (from-below e x xs c) ∙ h) low high)
  | inr c ↦ (let same : Some x ≡ Some r = sym (from-here e x xs c) ∙ h in let is : x ≡ r = cc in inl (rw is low, rw is high))
]

first-behind : (m e : ℕ) (xs : List (ℕ × ℕ)) (r : ℕ × ℕ) → AreApart xs → StartBehind m xs → first_from e xs ≡ Some r → m < r.0
first-behind m e [] r h b f = absurd (cc)
first-behind m e (x ∷ xs) r h b f = elim (cases_lt x.1 e) [
  | inl c ↦ first-behind m e xs r h.2 (start-rest m x xs h b) (sym (from-below e x xs c) ∙ f)
  | inr c ↦ (let same : Some x ≡ Some r = sym (from-here e x xs c) ∙ f in let is : x ≡ r = cc in rw (← is) b)
]

not-first : (e q : ℕ) (xs : List (ℕ × ℕ)) (r : ℕ × ℕ) → AreApart xs → first_from e xs ≡ Some r → q + 1 ≡ min r.0 e → InRanges xs q → ⊥
not-first e q [] r h f is w = w
not-first e q (x ∷ xs) r h f is w = elim (cases_lt x.1 e) [
  | inl c ↦
      let k : first_from e xs ≡ Some r = sym (from-below e x xs c) ∙ f in
      let up : x.1 < r.0 = first-behind x.1 e xs r h.2 h.1 k in
      elim w [ inl v ↦ absurd (omega (arith, v.1, up, c, is)) | inr v ↦ not-first e q xs r h.2 k is v ]
  | inr c ↦
      let same : Some x ≡ Some r = sym (from-here e x xs c) ∙ f in
      let eq : x ≡ r = cc in
      let low : x.0 ≡ r.0 = ap (λ y. y.0) eq in
      elim w [
        | inl v ↦ absurd (omega (arith, v.0, low, is))
        | inr v ↦ (let lt : x.1 < q = behind_start x.1 xs q h.2 h.1 v in absurd (omega (arith, lt, c, is)))
      ]
]

none-from : (e n : ℕ) (xs : List (ℕ × ℕ)) → first_from e xs ≡ None → n + 1 ≡ e → InRanges xs n → ⊥
none-from e n [] f is w = w
none-from e n (x ∷ xs) f is w = elim (cases_lt x.1 e) [
  | inl c ↦ elim w [ inl v ↦ absurd (omega (arith, v.1, c, is)) | inr v ↦ none-from e n xs (sym (from-below e x xs c) ∙ f) is v ]
  | inr c ↦ (let k : Some x ≡ None = sym (from-here e x xs c) ∙ f in absurd (cc))
]

pub covers-some : (s e : ℕ) (xs : List (ℕ × ℕ)) (r : ℕ × ℕ) → s < e → AreApart xs → first_from e xs ≡ Some r → leb r.0 s ≡ is_subset (range s e) (union_of xs)
covers-some s e xs r some h f =
    let high : e ≤ r.1 = from-low e xs r f in
    same_from_decides _ _ (leb-true r.0 s, le-leb r.0 s) (
      λ t. elim (cases_lt s r.0) [
        | inr le ↦ le
        | inl lt ↦
            let q : ℕ = min r.0 e - 1 in
            let is : q + 1 ≡ min r.0 e = omega arith in
            absurd (not-first e q xs r h f is (in-held s e q xs (union_of xs) refl t (omega arith) (omega arith)))
      ],
      λ le. (Decides-is_subset s e (union_of xs)).1 (λ n low up. (Decides-union_of xs n).1 (in-first e n xs r f (omega arith) (omega arith))),
    )

pub covers-none : (s e : ℕ) (xs : List (ℕ × ℕ)) → s < e → first_from e xs ≡ None → false ≡ is_subset (range s e) (union_of xs)
covers-none s e xs some f =
    let is : e - 1 + 1 ≡ e = omega arith in
    no-true (is_subset (range s e) (union_of xs)) (λ t. none-from e (e - 1) xs f is (in-held s e (e - 1) xs (union_of xs) refl t (omega arith) (omega arith)))
