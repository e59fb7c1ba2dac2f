-- The gaps between ranges, and why there is only one list of them.
use Rattle.std.proofs.Common.{rules, subst, ◌≡◌, ℕ, ◌-◌, ◌<◌, ◌≤◌, List, [], ◌∷◌, length, refl, ap, ◌∙◌, sym, arith, inl, inr}
use Rattle.std.specs.Iterator.{MakesProgress, item_count}
use Rattle.std.specs.declared.option.Option.TheVariants.{Some, None}
use Rattle.std.specs.Cmp.{nat_cmp_total}
use Rattle.std.specs.FinSet.{contains, contains-difference}
use Rattle.std.proofs.lemmas.Bool.{cases_lt, lt-ltb, le-ltb}
use Rattle.std.proofs.lemmas.Bool.Decides.{Decides-and, Decides-not, Decides-at, Decides-like, same_from_decides}
use Rattle.cfdp_extents.specs.Offsets.{Offsets, range, union_of, missing_from, AreApart, AreRangesOf, StartBehind}
use Rattle.cfdp_extents.proofs.Kept.{behind-here, behind-below}
use Rattle.cfdp_extents.specs.Ranges.{gaps_between, behind, first_behind}
use Rattle.cfdp_extents.proofs.Members.{Decides-within, contains-range, InRanges, Decides-union_of, same_offsets, behind_start}

-- the three cases of a gap list
pub gaps-past : (start limit : ℕ) (rs : List (ℕ × ℕ)) → limit ≤ start → gaps_between start limit rs ≡ []
unfolding gaps_between
gaps-past start limit [] h = rw (le-ltb start limit h)
gaps-past start limit (r ∷ rs) h = rw (le-ltb start limit h)

pub gaps-last : (start limit : ℕ) (rs : List (ℕ × ℕ)) → start < limit → StartBehind (limit - 1) rs → gaps_between start limit rs ≡ (start, limit) ∷ []
unfolding gaps_between
gaps-last start limit [] h b = rw (lt-ltb start limit h)
gaps-last start limit (r ∷ rs) h b = let behind : limit - 1 < r.0 = b in let past : limit ≤ r.0 = omega arith in rw (lt-ltb start limit h, le-ltb r.0 limit past)

pub gaps-more : (start limit : ℕ) (r : ℕ × ℕ) (rs : List (ℕ × ℕ)) → start < limit → r.0 < limit → gaps_between start limit (r ∷ rs) ≡ (start, r.0) ∷ gaps_between r.1 limit rs
unfolding gaps_between
gaps-more start limit r rs h b = rw (lt-ltb start limit h, lt-ltb r.0 limit b)

-- the gaps start where they must
gaps-start : (n start limit : ℕ) (rs : List (ℕ × ℕ)) → n < start → StartBehind n (gaps_between start limit rs)
gaps-start n start limit rs h = elim (cases_lt start limit) [
  | inr past ↦ rw (gaps-past start limit rs past) tt
  | inl lt ↦ gaps-start-cases n start limit rs h lt
]
  where
    gaps-start-cases : (n start limit : ℕ) (rs : List (ℕ × ℕ)) → n < start → start < limit → StartBehind n (gaps_between start limit rs)
    gaps-start-cases n start limit [] h lt = rw (gaps-last start limit [] lt tt) h
    gaps-start-cases n start limit (r ∷ rs) h lt = elim (cases_lt r.0 limit) [
      | inl more ↦ rw (gaps-more start limit r rs lt more) h
      | inr past ↦ rw (gaps-last start limit (r ∷ rs) lt (let b : limit - 1 < r.0 = omega arith in b)) h
    ]

pub gaps-apart : (start limit : ℕ) (rs : List (ℕ × ℕ)) → StartBehind start rs → AreApart rs → AreApart (gaps_between start limit rs)
gaps-apart start limit [] b h = elim (cases_lt start limit) [
  | inr past ↦ rw (gaps-past start limit [] past) tt
  | inl lt ↦ rw (gaps-last start limit [] lt tt) (lt, tt, tt)
]
gaps-apart start limit (r ∷ rs) b h = elim (cases_lt start limit) [
  | inr past ↦ rw (gaps-past start limit (r ∷ rs) past) tt
  | inl lt ↦ elim (cases_lt r.0 limit) [
    | inl more ↦ rw (gaps-more start limit r rs lt more) (b, gaps-start r.0 r.1 limit rs h.0, gaps-apart r.1 limit rs h.1 h.2)
    | inr past ↦ rw (gaps-last start limit (r ∷ rs) lt (let b : limit - 1 < r.0 = omega arith in b)) (lt, tt, tt)
  ]
]

-- what lies in a gap: what lies between the limits and in no range
abbrev IsMissing : ℕ → ℕ → List (ℕ × ℕ) → ℕ → Type 0
IsMissing start limit rs n = ((start ≤ n) × (n < limit)) × (InRanges rs n → ⊥)

missing-none : (start limit n : ℕ) (rs : List (ℕ × ℕ)) → limit ≤ start → IsMissing start limit rs n → ⊥
missing-none start limit n rs past w = let low : start ≤ n = w.0.0 in let high : n < limit = w.0.1 in omega arith

in_gaps-forth : (start limit : ℕ) (rs : List (ℕ × ℕ)) (n : ℕ) → StartBehind start rs → AreApart rs → InRanges (gaps_between start limit rs) n → IsMissing start limit rs n
in_gaps-forth start limit [] n b h w = elim (cases_lt start limit) [
  | inr past ↦ absurd (rw (gaps-past start limit [] past) at w)
  | inl lt ↦ elim (rw (gaps-last start limit [] lt tt) at w) [ inl i ↦ (i, λ x. x) | inr x ↦ absurd x ]
]
in_gaps-forth start limit (r ∷ rs) n b h w = elim (cases_lt start limit) [
  | inr past ↦ absurd (rw (gaps-past start limit (r ∷ rs) past) at w)
  | inl lt ↦ elim (cases_lt r.0 limit) [
    | inl more ↦ elim (rw (gaps-more start limit r rs lt more) at w) [
      | inl i ↦
          let low : start ≤ n = i.0 in
          let high : n < r.0 = i.1 in (
            (low, omega arith),
            λ x. elim x [
              | inl y ↦ let up : r.0 ≤ n = y.0 in omega arith
              | inr y ↦ let up : r.1 < n = behind_start r.1 rs n h.2 h.1 y in let some : r.0 < r.1 = h.0 in omega arith
            ],
          )
      | inr i ↦
          let rest = in_gaps-forth r.1 limit rs n h.1 h.2 i in
          let low : r.1 ≤ n = rest.0.0 in
          let high : n < limit = rest.0.1 in
          let some : r.0 < r.1 = h.0 in
          let first : start < r.0 = b in
          ((omega arith, high), λ x. elim x [ inl y ↦ let up : n < r.1 = y.1 in omega arith | inr y ↦ rest.1 y ])
    ]
    | inr past ↦ elim (rw (gaps-last start limit (r ∷ rs) lt (let b : limit - 1 < r.0 = omega arith in b)) at w) [
      | inl i ↦
          let low : start ≤ n = i.0 in
          let high : n < limit = i.1 in (
            i,
            λ x. elim x [
              | inl y ↦ let up : r.0 ≤ n = y.0 in omega arith
              | inr y ↦ let up : r.1 < n = behind_start r.1 rs n h.2 h.1 y in let some : r.0 < r.1 = h.0 in omega arith
            ],
          )
      | inr x ↦ absurd x
    ]
  ]
]

in_gaps-back : (start limit : ℕ) (rs : List (ℕ × ℕ)) (n : ℕ) → IsMissing start limit rs n → InRanges (gaps_between start limit rs) n
in_gaps-back start limit [] n w = elim (cases_lt start limit) [
  | inr past ↦ absurd (missing-none start limit n [] past w)
  | inl lt ↦ rw (gaps-last start limit [] lt tt) (inl w.0)
]
in_gaps-back start limit (r ∷ rs) n w = elim (cases_lt start limit) [
  | inr past ↦ absurd (missing-none start limit n (r ∷ rs) past w)
  | inl lt ↦ elim (cases_lt r.0 limit) [
    | inl more ↦ rw (gaps-more start limit r rs lt more) (elim (cases_lt n r.0) [
      | inl before ↦ inl (w.0.0, before)
      | inr from ↦ elim (cases_lt n r.1) [
        | inl inside ↦ absurd (w.1 (inl (from, inside)))
        | inr behind ↦ inr (in_gaps-back r.1 limit rs n ((behind, w.0.1), λ x. w.1 (inr x)))
      ]
    ])
    | inr past ↦ rw (gaps-last start limit (r ∷ rs) lt (let b : limit - 1 < r.0 = omega arith in b)) (inl w.0)
  ]
]

-- what ranges are the ranges of what lies between two limits and not in others
pub are-missing : (gaps xs : List (ℕ × ℕ)) (start limit : ℕ) → AreApart gaps → ((n : ℕ) → InRanges gaps n → IsMissing start limit xs n) → ((n : ℕ) → IsMissing start limit xs n → InRanges gaps n) →
    AreRangesOf (missing_from (union_of xs) start limit) gaps
are-missing gaps xs start limit h forth back = record {
  apart = h;
  union = same_offsets _ _ (λ n.
      same_from_decides _ _ (Decides-union_of gaps n)
      (Decides-at _ _ (contains-difference nat_cmp_total (range start limit) (union_of xs) n)
      (Decides-like _ (back n) (forth n)
      (Decides-and _ _ (Decides-at _ _ (contains-range start limit n) (Decides-within start limit n)) (Decides-not _ (Decides-union_of xs n))))));
}

-- of two lists of ranges that hold the same, the first's start is in the second
same-first : (r : ℕ × ℕ) (rs : List (ℕ × ℕ)) (s : ℕ × ℕ) (ss : List (ℕ × ℕ)) → AreApart (r ∷ rs) → AreApart (s ∷ ss) → ((n : ℕ) → InRanges (r ∷ rs) n → InRanges (s ∷ ss) n) → s.0 ≤ r.0
same-first r rs s ss h k to = elim (to r.0 (inl (let le : r.0 ≤ r.0 = omega arith in le, h.0))) [
  | inl w ↦ w.0
  | inr w ↦ let up : s.1 < r.0 = behind_start s.1 ss r.0 k.2 k.1 w in let some : s.0 < s.1 = k.0 in omega arith
]

-- and if both start at the same offset, the second's end is no less than the first's
same-end : (r : ℕ × ℕ) (rs : List (ℕ × ℕ)) (s : ℕ × ℕ) (ss : List (ℕ × ℕ)) → AreApart (r ∷ rs) → AreApart (s ∷ ss) → r.0 ≡ s.0 → ((n : ℕ) → InRanges (r ∷ rs) n → InRanges (s ∷ ss) n) → r.1 ≤ s.1
same-end r rs s ss h k e to = elim (cases_lt s.1 r.1) [
  | inr le ↦ le
  | inl lt ↦
      let some : s.0 < s.1 = k.0 in
      elim (to s.1 (inl (let le : r.0 ≤ s.1 = omega arith in le, lt))) [
        | inl w ↦ let no : s.1 < s.1 = w.1 in absurd (omega arith)
        | inr w ↦ let no : s.1 < s.1 = behind_start s.1 ss s.1 k.2 k.1 w in absurd (omega arith)
      ]
]

-- what the first list holds after its first range, the second does
same-rest : (r : ℕ × ℕ) (rs : List (ℕ × ℕ)) (s : ℕ × ℕ) (ss : List (ℕ × ℕ)) → AreApart (r ∷ rs) → r.1 ≡ s.1 → ((n : ℕ) → InRanges (r ∷ rs) n → InRanges (s ∷ ss) n) → (n : ℕ) → InRanges rs n →
    InRanges ss n
same-rest r rs s ss h e to n w = elim (to n (inr w)) [
  | inl i ↦ let up : r.1 < n = behind_start r.1 rs n h.2 h.1 w in let high : n < s.1 = i.1 in absurd (omega arith)
  | inr i ↦ i
]

same-pair : (r s : ℕ × ℕ) → r.0 ≡ s.0 → r.1 ≡ s.1 → r ≡ s
same-pair (a, b) (c, d) e f = cc

pub same-ranges : (xs ys : List (ℕ × ℕ)) → AreApart xs → AreApart ys → ((n : ℕ) → InRanges xs n → InRanges ys n) → ((n : ℕ) → InRanges ys n → InRanges xs n) → xs ≡ ys
same-ranges [] [] h k to from = refl
same-ranges [] (s ∷ ss) h k to from = absurd (from s.0 (inl (let le : s.0 ≤ s.0 = omega arith in le, k.0)))
same-ranges (r ∷ rs) [] h k to from = absurd (to r.0 (inl (let le : r.0 ≤ r.0 = omega arith in le, h.0)))
same-ranges (r ∷ rs) (s ∷ ss) h k to from =
    let low = same-first r rs s ss h k to in
    let low' = same-first s ss r rs k h from in
    let starts : r.0 ≡ s.0 = omega arith in
    let high = same-end r rs s ss h k starts to in
    let high' = same-end s ss r rs k h (sym starts) from in
    let ends : r.1 ≡ s.1 = omega arith in
    let rest = same-ranges rs ss h.2 k.2 (same-rest r rs s ss h ends to) (same-rest s ss r rs k (sym ends) from) in
    let first = same-pair r s starts ends in
    cc

-- a set has one list of ranges
pub only-ranges : (held : Offsets) (xs ys : List (ℕ × ℕ)) → AreRangesOf held xs → AreRangesOf held ys → xs ≡ ys
only-ranges held xs ys h k = same-ranges xs ys h.apart k.apart
    (λ n w. (Decides-union_of ys n).0 (ap (λ s. contains s n) (k.union ∙ sym h.union) ∙ (Decides-union_of xs n).1 w))
    (λ n w. (Decides-union_of xs n).0 (ap (λ s. contains s n) (h.union ∙ sym k.union) ∙ (Decides-union_of ys n).1 w))

-- a list is longer than its rest
pub progress-first : (s : List (ℕ × ℕ)) (x : ℕ × ℕ) (t : List (ℕ × ℕ)) → s ≡ x ∷ t → MakesProgress (λ _. Unit {0}) (item_count {S = List (ℕ × ℕ)} {A = ℕ × ℕ} (λ rest. rest)) s (Some x) t
progress-first s x t e = rw e (search rules)

-- a first range that starts at the limit or after it
pub behind_limit : (limit : ℕ) (xs : List (ℕ × ℕ)) (r : ℕ × ℕ) (rs : List (ℕ × ℕ)) → 0 < limit → xs ≡ r ∷ rs → limit ≤ r.0 → StartBehind (limit - 1) xs
behind_limit limit xs r rs pos e h = rw e (let b : limit - 1 < r.0 = omega arith in b)

pub behind_none : (limit : ℕ) (xs : List (ℕ × ℕ)) → length xs ≡ 0 → StartBehind limit xs
behind_none limit [] e = tt
behind_none limit (x ∷ xs) e = absurd (omega arith)

-- ---- gaps between the ranges that end after an offset
pub skipped : (o : ℕ) (r : ℕ × ℕ) (rs : List (ℕ × ℕ)) → r.1 ≤ o → behind o (r ∷ rs) ≡ behind o rs
skipped o r rs h = rw (le-ltb o r.1 h) refl

pub here : (o : ℕ) (r : ℕ × ℕ) (rs : List (ℕ × ℕ)) → o < r.1 → behind o (r ∷ rs) ≡ r ∷ rs
here o r rs h = rw (lt-ltb o r.1 h) refl

apart-behind : (o : ℕ) (xs : List (ℕ × ℕ)) → AreApart xs → AreApart (behind o xs)
apart-behind o [] h = tt
apart-behind o (r ∷ rs) h = elim (cases_lt o r.1) [
  | inl d ↦ subst AreApart (sym (here o r rs d)) h
  | inr c ↦ subst AreApart (sym (skipped o r rs c)) (apart-behind o rs h.2)
]

to-behind : (o n : ℕ) (xs : List (ℕ × ℕ)) → o ≤ n → InRanges xs n → InRanges (behind o xs) n
to-behind o n [] le w = w
to-behind o n (r ∷ rs) le w = elim (cases_lt o r.1) [
  | inl d ↦ subst (λ ys. InRanges ys n) (sym (here o r rs d)) w
  | inr c ↦ subst (λ ys. InRanges ys n) (sym (skipped o r rs c)) (elim w [ inl q ↦ absurd (omega (arith, q.1, c, le)) | inr q ↦ to-behind o n rs le q ])
]

of-behind : (o n : ℕ) (xs : List (ℕ × ℕ)) → InRanges (behind o xs) n → InRanges xs n
of-behind o n [] w = w
of-behind o n (r ∷ rs) w = elim (cases_lt o r.1) [
  | inl d ↦ subst (λ ys. InRanges ys n) (here o r rs d) w
  | inr c ↦ inr (of-behind o n rs (subst (λ ys. InRanges ys n) (skipped o r rs c) w))
]

in-behind : (o n : ℕ) (xs : List (ℕ × ℕ)) (r : ℕ × ℕ) → first_behind o xs ≡ Some r → r.0 ≤ n → n < r.1 → InRanges xs n
in-behind o n [] r f low high = absurd (cc)
in-behind o n (x ∷ xs) r f low high = elim (cases_lt o x.1) [
  | inl d ↦ (let same : Some x ≡ Some r = sym (behind-here o x xs d) ∙ f in let is : x ≡ r = cc in inl (rw is low, rw is high))
  | inr c ↦ inr (in-behind o n xs r (sym (behind-below o x xs c) ∙ f) low high)
]

first-start : (o m : ℕ) (xs : List (ℕ × ℕ)) (r : ℕ × ℕ) → first_behind o xs ≡ Some r → m < r.0 → StartBehind m (behind o xs)
first-start o m [] r f up = tt
first-start o m (x ∷ xs) r f up = elim (cases_lt o x.1) [
  | inl d ↦ (let same : Some x ≡ Some r = sym (behind-here o x xs d) ∙ f in let is : x ≡ r = cc in let low : m < x.0 = rw is up in subst (StartBehind m) (sym (here o x xs d)) low)
  | inr c ↦ subst (StartBehind m) (sym (skipped o x xs c)) (first-start o m xs r (sym (behind-below o x xs c) ∙ f) up)
]

no-start : (o m : ℕ) (xs : List (ℕ × ℕ)) → first_behind o xs ≡ None → StartBehind m (behind o xs)
no-start o m [] f = tt
no-start o m (x ∷ xs) f = elim (cases_lt o x.1) [
  | inl d ↦ (let same : Some x ≡ None = sym (behind-here o x xs d) ∙ f in absurd (cc))
  | inr c ↦ subst (StartBehind m) (sym (skipped o x xs c)) (no-start o m xs (sym (behind-below o x xs c) ∙ f))
]

all-start : (m : ℕ) (xs : List (ℕ × ℕ)) → AreApart xs → StartBehind m xs → StartBehind m (behind m xs)
all-start m [] h b = tt
all-start m (x ∷ xs) h b = let up : m < x.1 = omega (arith, b, h.0) in subst (StartBehind m) (sym (here m x xs up)) b

next-start : (o : ℕ) (xs : List (ℕ × ℕ)) (r : ℕ × ℕ) → AreApart xs → first_behind o xs ≡ Some r → (o < r.1) × StartBehind r.1 (behind r.1 xs)
next-start o [] r h f = absurd (cc)
next-start o (x ∷ xs) r h f = elim (cases_lt o x.1) [
  | inl d ↦
      let same : Some x ≡ Some r = sym (behind-here o x xs d) ∙ f in
      let is : r ≡ x = cc in
      let end : r.1 ≡ x.1 = ap (λ y. y.1) is in
      let past : x.1 ≤ r.1 = omega arith in
      (omega (arith, d, end), subst (StartBehind r.1) (sym (skipped r.1 x xs past)) (rw end (all-start x.1 xs h.2 h.1)))
  | inr c ↦
      let more : (o < r.1) × StartBehind r.1 (behind r.1 xs) = next-start o xs r h.2 (sym (behind-below o x xs c) ∙ f) in
      let past : x.1 ≤ r.1 = omega (arith, c, more.0) in
      (more.0, subst (StartBehind r.1) (sym (skipped r.1 x xs past)) more.1)
]

gaps-from : (xs : List (ℕ × ℕ)) (start from limit : ℕ) → AreApart xs → start ≤ from → StartBehind from (behind from xs) → ((n : ℕ) → start ≤ n → n < from → InRanges xs n) →
    AreRangesOf (missing_from (union_of xs) start limit) (gaps_between from limit (behind from xs))
gaps-from xs start from limit h low next held =
    let rest : AreApart (behind from xs) = apart-behind from xs h in
    are-missing (gaps_between from limit (behind from xs)) xs start limit (gaps-apart from limit (behind from xs) next rest)
    (λ n w. let gap = in_gaps-forth from limit (behind from xs) n next rest w in let up : from ≤ n = gap.0.0 in
    ((omega (arith, low, up), gap.0.1), λ x. gap.1 (to-behind from n xs up x)))
    (λ n w. elim (cases_lt n from) [
      | inl before ↦ absurd (w.1 (held n w.0.0 before))
      | inr up ↦ in_gaps-back from limit (behind from xs) n ((up, w.0.1), λ x. w.1 (of-behind from n xs x))
    ])

-- an offset in a range: the search begins at that range's end
pub gaps-inside_range : (xs : List (ℕ × ℕ)) (start limit : ℕ) (r : ℕ × ℕ) → AreApart xs → first_behind start xs ≡ Some r → r.0 ≤ start →
    AreRangesOf (missing_from (union_of xs) start limit) (gaps_between r.1 limit (behind r.1 xs))
gaps-inside_range xs start limit r h f le =
    let next = next-start start xs r h f in
    let up : start < r.1 = next.0 in
    gaps-from xs start r.1 limit h (omega arith) next.1 (λ n low high. in-behind start n xs r f (omega arith) high)

-- an offset in no range: it begins there
pub gaps-before_range : (xs : List (ℕ × ℕ)) (start limit : ℕ) (r : ℕ × ℕ) → AreApart xs → first_behind start xs ≡ Some r → start < r.0 →
    AreRangesOf (missing_from (union_of xs) start limit) (gaps_between start limit (behind start xs))
gaps-before_range xs start limit r h f up = gaps-from xs start start limit h (omega arith) (first-start start start xs r f up) (λ n low high. absurd (omega arith))

pub gaps-behind_all : (xs : List (ℕ × ℕ)) (start limit : ℕ) → AreApart xs → first_behind start xs ≡ None →
    AreRangesOf (missing_from (union_of xs) start limit) (gaps_between start limit (behind start xs))
gaps-behind_all xs start limit h f = gaps-from xs start start limit h (omega arith) (no-start start start xs f) (λ n low high. absurd (omega arith))
