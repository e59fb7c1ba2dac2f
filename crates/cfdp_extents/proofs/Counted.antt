-- Exported: how many gaps there are before and between ranges, and what a range adds to them.
use Rattle.std.proofs.Common.{◌≡◌, ℕ, suc, ◌+◌, ◌-◌, ◌<◌, ◌≤◌, true, List, [], ◌∷◌, length, Option, None, Some, refl, ap, ◌∙◌, sym, subst, arith, inl, inr, min, max, ◌++◌, leb, ltb}
use Rattle.std.specs.FinSet.{contains, union}
use Rattle.std.proofs.lemmas.Bool.{cases_lt, cases_eq, eq-eqb, ne_eqb, lt-ltb, le-ltb, lt-leb, le-leb, leb-true}
use Rattle.cfdp_extents.specs.Offsets.{Offsets, AreApart, AreRangesOf, StartBehind, union_of, range}
use Rattle.cfdp_extents.specs.Ranges.{turned, with_last, first_from, first_behind, behind, low_of, joined_in, gaps_between, Untouched}
use Rattle.cfdp_extents.specs.Terms.{gaps_of, end_of, ranges_of}
use Rattle.cfdp_extents.specs.Count.{gap_count, gaps_among, admits}
use Rattle.cfdp_extents.proofs.Members.{InRanges, Decides-union_of}
use Rattle.cfdp_extents.proofs.Kept.{from-below, from-here, behind-here}
use Rattle.cfdp_extents.proofs.Missing.{gaps-past, gaps-more, skipped, here, gaps-inside_range, gaps-before_range, gaps-behind_all}
use Rattle.cfdp_extents.proofs.Inserted.{in-none, in-before, in-within, in-touched, in-apart, low-below, low-here, joined-apart, joined-union, untouched-end}
use Rattle.cfdp_extents.proofs.Joined.{union-nothing}
use Rattle.cfdp_extents.proofs.CallerLemmas.{end-only, gaps-only, ranges-are}

-- ---- where ranges end
abbrev end_after : ℕ → List (ℕ × ℕ) → ℕ
end_after start [] = start
end_after start (r ∷ rs) = end_after r.1 rs

end-up : (start : ℕ) (xs : List (ℕ × ℕ)) → StartBehind start xs → AreApart xs → start ≤ end_after start xs
end-up start [] b h = omega arith
end-up start (r ∷ rs) b h =
    let up : r.1 ≤ end_after r.1 rs = end-up r.1 rs h.1 h.2 in
    let some : r.0 < r.1 = h.0 in
    let later : start < r.0 = b in
    omega arith

before-end_after : (start n : ℕ) (xs : List (ℕ × ℕ)) → AreApart xs → InRanges xs n → n < end_after start xs
before-end_after start n [] h w = absurd w
before-end_after start n (r ∷ rs) h w = elim w [
  | inl k ↦ (let up : r.1 ≤ end_after r.1 rs = end-up r.1 rs h.1 h.2 in let high : n < r.1 = k.1 in omega arith)
  | inr k ↦ before-end_after r.1 n rs h.2 k
]

in-end_after : (start : ℕ) (r : ℕ × ℕ) (rs : List (ℕ × ℕ)) → AreApart (r ∷ rs) → InRanges (r ∷ rs) (end_after start (r ∷ rs) - 1)
in-end_after start r [] h = inl (let some : r.0 < r.1 = h.0 in omega arith, let some : r.0 < r.1 = h.0 in omega arith)
in-end_after start r (x ∷ xs) h = inr (in-end_after r.1 x xs h.2)

end-is : (xs : List (ℕ × ℕ)) → AreApart xs → end_after 0 xs ≡ end_of (union_of xs)
end-is xs h = end-only (union_of xs) (end_after 0 xs)
    (λ n held. before-end_after 0 n xs h ((Decides-union_of xs n).0 held))
    (last xs h)
  where
    last : (xs : List (ℕ × ℕ)) → AreApart xs → 0 < end_after 0 xs → contains (union_of xs) (end_after 0 xs - 1) ≡ true
    last [] h pos = absurd (omega arith)
    last (r ∷ rs) h pos = (Decides-union_of (r ∷ rs) (end_after 0 (r ∷ rs) - 1)).1 (in-end_after 0 r rs h)

-- ---- as many gaps as ranges after an offset
gaps-len : (start : ℕ) (xs : List (ℕ × ℕ)) → StartBehind start xs → AreApart xs → length (gaps_between start (end_after start xs) xs) ≡ length xs
gaps-len start [] b h = ap length (gaps-past start start [] (omega arith))
gaps-len start (r ∷ rs) b h =
    let up : r.1 ≤ end_after r.1 rs = end-up r.1 rs h.1 h.2 in
    let some : r.0 < r.1 = h.0 in
    let later : start < r.0 = b in
    ap length (gaps-more start (end_after r.1 rs) r rs (omega arith) (omega arith)) ∙ ap suc (gaps-len r.1 rs h.1 h.2)

behind-rest : (r : ℕ × ℕ) (rs : List (ℕ × ℕ)) → AreApart (r ∷ rs) → behind r.1 (r ∷ rs) ≡ rs
behind-rest r [] h = skipped r.1 r [] (omega arith)
behind-rest r (x ∷ xs) h =
    let some : x.0 < x.1 = h.2.0 in
    let later : r.1 < x.0 = h.1 in
    skipped r.1 r (x ∷ xs) (omega arith) ∙ here r.1 x xs (omega arith)

among-zero : (r : ℕ × ℕ) (rs : List (ℕ × ℕ)) → r.0 ≡ 0 → gaps_among (r ∷ rs) ≡ length rs
among-zero r rs z = rw (eq-eqb r.0 0 z) refl

among-later : (r : ℕ × ℕ) (rs : List (ℕ × ℕ)) → (r.0 ≡ 0 → ⊥) → gaps_among (r ∷ rs) ≡ suc (length rs)
among-later r rs z = rw (ne_eqb r.0 0 z) refl

among-len : (xs : List (ℕ × ℕ)) → AreApart xs → gaps_among xs ≡ length (gaps_of (union_of xs) 0 (end_after 0 xs))
among-len [] h =
    ap length (sym (gaps-past 0 0 [] (omega arith)) ∙ gaps-only (union_of []) 0 0 (gaps_between 0 0 []) (gaps-behind_all [] 0 0 tt refl))
among-len (r ∷ rs) h =
    let some : r.0 < r.1 = h.0 in
    let first : first_behind 0 (r ∷ rs) ≡ Some r = behind-here 0 r rs (omega arith) in
    let limit : ℕ = end_after r.1 rs in
    elim (cases_eq r.0 0) [
      | inl z ↦
          among-zero r rs z ∙ sym (gaps-len r.1 rs h.1 h.2) ∙ ap (λ l. length (gaps_between r.1 limit l)) (sym (behind-rest r rs h))
          ∙ ap length (gaps-only (union_of (r ∷ rs)) 0 limit _ (gaps-inside_range (r ∷ rs) 0 limit r h first (omega (arith, z))))
      | inr z ↦
          let later : 0 < r.0 = omega (arith, z) in
          among-later r rs z ∙ sym (gaps-len 0 (r ∷ rs) later h) ∙ ap (λ l. length (gaps_between 0 limit l)) (sym (here 0 r rs (omega arith)))
          ∙ ap length (gaps-only (union_of (r ∷ rs)) 0 limit _ (gaps-before_range (r ∷ rs) 0 limit r h first later))
    ]

-- the gaps of a set are those before and between its ranges
pub among-is : (xs : List (ℕ × ℕ)) → AreApart xs → gaps_among xs ≡ gap_count (union_of xs)
unfolding gap_count
among-is xs h = among-len xs h ∙ ap (λ n. length (gaps_of (union_of xs) 0 n)) (end-is xs h)

-- ---- one range joined in
-- a range that reaches the first of the later ones, or one of these, makes no more of them
record Reaches (low : ℕ) (most : ℕ) (ys : List (ℕ × ℕ)) : Type 0 where
  high : ℕ
  rest : List (ℕ × ℕ)
  is : ys ≡ (low, high) ∷ rest
  few : length rest ≤ most

ends-later : (s : ℕ) (r : ℕ × ℕ) (rs : List (ℕ × ℕ)) → AreApart (r ∷ rs) → s ≤ r.1 → (x : ℕ × ℕ) (xs : List (ℕ × ℕ)) → rs ≡ x ∷ xs → s ≤ x.1
ends-later s r [] h c x xs e = absurd (cc)
ends-later s r (y ∷ ys) h c x xs e =
    let is : y ≡ x = cc in
    subst (λ (q : ℕ × ℕ). s ≤ q.1) is (omega (arith, h.1, h.2.0, c))

late-shape : (low s e : ℕ) (xs : List (ℕ × ℕ)) → s < e → AreApart xs → ((x : ℕ × ℕ) (rest : List (ℕ × ℕ)) → xs ≡ x ∷ rest → s ≤ x.1) → Reaches low (length xs) (joined_in low s e xs)
late-shape low s e [] some h c = record { high = e; rest = []; is = in-none low s e some; few = omega arith }
late-shape low s e (r ∷ rs) some h c = elim (cases_lt r.1 e) [
  | inl d ↦
      let l = late-shape low s e rs some h.2 (ends-later s r rs h (c r rs refl)) in
      record { high = l.high; rest = l.rest; is = in-within low s e r rs (c r rs refl) d ∙ l.is; few = omega (arith, l.few) }
  | inr d ↦ elim (cases_lt e r.0) [
    | inl k ↦ record { high = e; rest = r ∷ rs; is = in-apart low s e r rs some d k; few = omega arith }
    | inr k ↦ record { high = r.1; rest = rs; is = in-touched low s e r rs some d k; few = omega arith }
  ]
]

joined-below : (s e : ℕ) (r : ℕ × ℕ) (rs : List (ℕ × ℕ)) → s < e → r.1 < s → joined_in (low_of s (r ∷ rs)) s e (r ∷ rs) ≡ r ∷ joined_in (low_of s rs) s e rs
joined-below s e r rs some c = ap (λ low. joined_in low s e (r ∷ rs)) (low-below s r rs c) ∙ in-before (low_of s rs) s e r rs some c

-- from a range on that it reaches
reaches-here : (low s e : ℕ) (r : ℕ × ℕ) (rs : List (ℕ × ℕ)) → s < e → AreApart (r ∷ rs) → s ≤ r.1 → r.0 ≤ e → Reaches low (length rs) (joined_in low s e (r ∷ rs))
reaches-here low s e r rs some h c d = elim (cases_lt r.1 e) [
  | inl k ↦
      let l = late-shape low s e rs some h.2 (ends-later s r rs h c) in
      record { high = l.high; rest = l.rest; is = in-within low s e r rs c k ∙ l.is; few = l.few }
  | inr k ↦ record { high = r.1; rest = rs; is = in-touched low s e r rs some k d; few = omega arith }
]

-- how many ranges there are then
alone-len : (s e : ℕ) (xs : List (ℕ × ℕ)) → s < e → AreApart xs → Untouched e (first_from s xs) → length (joined_in (low_of s xs) s e xs) ≡ suc (length xs)
alone-len s e [] some h u = ap length (in-none s s e some)
alone-len s e (r ∷ rs) some h u = elim (cases_lt r.1 s) [
  | inl c ↦ ap length (joined-below s e r rs some c) ∙ ap suc (alone-len s e rs some h.2 (subst (Untouched e) (from-below s r rs c) u))
  | inr c ↦
      let up : e < r.0 = subst (Untouched e) (from-here s r rs c) u in
      let more : r.0 < r.1 = h.0 in
      ap length (in-apart (low_of s (r ∷ rs)) s e r rs some (omega arith) up)
]

same-first : (s : ℕ) (r q : ℕ × ℕ) (rs : List (ℕ × ℕ)) → s ≤ r.1 → first_from s (r ∷ rs) ≡ Some q → r.0 ≡ q.0
same-first s r q rs c f = let same : Some r ≡ Some q = sym (from-here s r rs c) ∙ f in let is : r ≡ q = cc in ap (λ x. x.0) is

touched-len : (s e : ℕ) (xs : List (ℕ × ℕ)) (q : ℕ × ℕ) → s < e → AreApart xs → first_from s xs ≡ Some q → q.0 ≤ e → length (joined_in (low_of s xs) s e xs) ≤ length xs
touched-len s e [] q some h f t = absurd (cc)
touched-len s e (r ∷ rs) q some h f t = elim (cases_lt r.1 s) [
  | inl c ↦
      let less = touched-len s e rs q some h.2 (sym (from-below s r rs c) ∙ f) t in
      let is : length (joined_in (low_of s (r ∷ rs)) s e (r ∷ rs)) ≡ suc (length (joined_in (low_of s rs) s e rs)) = ap length (joined-below s e r rs some c) in
      omega (arith, less, is)
  | inr c ↦
      let l = reaches-here (low_of s (r ∷ rs)) s e r rs some h c (omega (arith, same-first s r q rs c f, t)) in
      let is : length (joined_in (low_of s (r ∷ rs)) s e (r ∷ rs)) ≡ suc (length l.rest) = ap length l.is in
      omega (arith, l.few, is)
]

-- how many of them begin after offset 0
among-most : (r : ℕ × ℕ) (rs : List (ℕ × ℕ)) → gaps_among (r ∷ rs) ≤ suc (length rs)
among-most r rs = elim (cases_eq r.0 0) [ inl z ↦ omega (arith, among-zero r rs z) | inr z ↦ omega (arith, among-later r rs z) ]

among-grows : (r : ℕ × ℕ) (rs ys : List (ℕ × ℕ)) → length ys ≡ suc (length rs) → gaps_among (r ∷ ys) ≡ suc (gaps_among (r ∷ rs))
among-grows r rs ys l = elim (cases_eq r.0 0) [
  | inl z ↦ among-zero r ys z ∙ l ∙ ap suc (sym (among-zero r rs z))
  | inr z ↦ among-later r ys z ∙ ap suc l ∙ ap suc (sym (among-later r rs z))
]

among-less : (r : ℕ × ℕ) (rs ys : List (ℕ × ℕ)) → length ys ≤ length rs → gaps_among (r ∷ ys) ≤ gaps_among (r ∷ rs)
among-less r rs ys l = elim (cases_eq r.0 0) [
  | inl z ↦ omega (arith, among-zero r ys z, among-zero r rs z, l)
  | inr z ↦ omega (arith, among-later r ys z, among-later r rs z, l)
]

-- a range that touches none, and begins after offset 0, makes one more gap
pub alone-among : (s e : ℕ) (xs : List (ℕ × ℕ)) → s < e → (s ≡ 0 → ⊥) → AreApart xs → Untouched e (first_from s xs) → gaps_among (joined_in (low_of s xs) s e xs) ≡ suc (gaps_among xs)
alone-among s e [] some pos h u = ap gaps_among (in-none s s e some) ∙ among-later (s, e) [] pos
alone-among s e (r ∷ rs) some pos h u = elim (cases_lt r.1 s) [
  | inl c ↦ ap gaps_among (joined-below s e r rs some c)
      ∙ among-grows r rs (joined_in (low_of s rs) s e rs) (alone-len s e rs some h.2 (subst (Untouched e) (from-below s r rs c) u))
  | inr c ↦
      let up : e < r.0 = subst (Untouched e) (from-here s r rs c) u in
      let more : r.0 < r.1 = h.0 in
      let low : low_of s (r ∷ rs) ≡ s = low-here s r rs c ∙ omega arith in
      ap gaps_among (in-apart (low_of s (r ∷ rs)) s e r rs some (omega arith) up)
      ∙ ap (λ n. gaps_among ((n, e) ∷ r ∷ rs)) low ∙ among-later (s, e) (r ∷ rs) pos ∙ ap suc (sym (among-later r rs (λ z. omega arith)))
]

-- a range that touches one makes no gap
pub touched-among : (s e : ℕ) (xs : List (ℕ × ℕ)) (q : ℕ × ℕ) → s < e → AreApart xs → first_from s xs ≡ Some q → q.0 ≤ e → gaps_among (joined_in (low_of s xs) s e xs) ≤ gaps_among xs
touched-among s e [] q some h f t = absurd (cc)
touched-among s e (r ∷ rs) q some h f t = elim (cases_lt r.1 s) [
  | inl c ↦
      subst (λ l. gaps_among l ≤ gaps_among (r ∷ rs)) (sym (joined-below s e r rs some c))
      (among-less r rs (joined_in (low_of s rs) s e rs) (touched-len s e rs q some h.2 (sym (from-below s r rs c) ∙ f) t))
  | inr c ↦
      let low : ℕ = low_of s (r ∷ rs) in
      let l = reaches-here low s e r rs some h c (omega (arith, same-first s r q rs c f, t)) in
      let least : low ≡ min s r.0 = low-here s r rs c in
      subst (λ x. gaps_among x ≤ gaps_among (r ∷ rs)) (sym l.is) (elim (cases_eq r.0 0) [
        | inl z ↦ omega (arith, among-zero (low, l.high) l.rest (omega (arith, z, least)), among-zero r rs z, l.few)
        | inr z ↦ omega (arith, among-most (low, l.high) l.rest, among-later r rs z, l.few)
      ])
]

-- nor does one from offset 0 on
pub first-among : (s e : ℕ) (xs : List (ℕ × ℕ)) → s < e → s ≡ 0 → AreApart xs → gaps_among (joined_in (low_of s xs) s e xs) ≤ gaps_among xs
first-among s e [] some z h = subst (λ l. gaps_among l ≤ 0) (sym (in-none s s e some)) (omega (arith, among-zero (s, e) [] z))
first-among s e (r ∷ rs) some z h =
    let c : s ≤ r.1 = omega (arith, z) in
    elim (cases_lt e r.0) [
      | inl up ↦
          let more : r.0 < r.1 = h.0 in
          let low : low_of s (r ∷ rs) ≡ 0 = low-here s r rs c ∙ omega (arith, z) in
          let is : gaps_among (joined_in (low_of s (r ∷ rs)) s e (r ∷ rs)) ≡ suc (length rs) =
          ap gaps_among (in-apart (low_of s (r ∷ rs)) s e r rs some (omega arith) up) ∙ among-zero (low_of s (r ∷ rs), e) (r ∷ rs) low in
          omega (arith, is, among-later r rs (λ n. omega (arith, n, up)))
      | inr t ↦ touched-among s e (r ∷ rs) r some h (from-here s r rs c) t
    ]

-- ---- what a limit admits
count-joined : (s e : ℕ) (xs : List (ℕ × ℕ)) (held : Offsets) → s < e → AreApart xs → union_of xs ≡ held → gaps_among (joined_in (low_of s xs) s e xs) ≡ gap_count (union held (range s e))
count-joined s e xs held some h view =
    among-is (joined_in (low_of s xs) s e xs) (joined-apart s e xs some h)
    ∙ ap gap_count (joined-union s e xs some h ∙ ap (λ v. union v (range s e)) view)

count-held : (xs : List (ℕ × ℕ)) (held : Offsets) → AreApart xs → union_of xs ≡ held → gaps_among xs ≡ gap_count held
count-held xs held h view = among-is xs h ∙ ap gap_count view

pub admits-no_more : (most s e : ℕ) (xs : List (ℕ × ℕ)) (held : Offsets) → s < e → AreApart xs → union_of xs ≡ held → gaps_among (joined_in (low_of s xs) s e xs) ≤ gaps_among xs →
    true ≡ admits most held s e
admits-no_more most s e xs held some h view less =
    sym (le-leb _ (max most (gap_count held)) (omega (arith, less, count-joined s e xs held some h view, count-held xs held h view)))

pub admits-nothing : (most s e : ℕ) (held : Offsets) → s ≡ e → true ≡ admits most held s e
admits-nothing most s e held none =
    sym (le-leb _ (max most (gap_count held)) (omega (arith, ap gap_count (union-nothing held s e none))))

pub admits-one_more : (most s e : ℕ) (xs : List (ℕ × ℕ)) (held : Offsets) → s < e → AreApart xs → union_of xs ≡ held → gaps_among (joined_in (low_of s xs) s e xs) ≡ suc (gaps_among xs) →
    (n : ℕ) → n ≡ gap_count held → ltb n most ≡ admits most held s e
admits-one_more most s e xs held some h view more n is =
    below (gap_count held) (gap_count (union held (range s e))) most n is (sym (count-joined s e xs held some h view) ∙ more ∙ ap suc (count-held xs held h view))
  where
    below : (old new most n : ℕ) → n ≡ old → new ≡ suc old → ltb n most ≡ leb new (max most old)
    below old new most n e f = elim (cases_lt n most) [
      | inl c ↦ lt-ltb n most c ∙ sym (le-leb new (max most old) (omega (arith, c, e, f)))
      | inr c ↦ le-ltb n most c ∙ sym (lt-leb new (max most old) (omega (arith, c, e, f)))
    ]

-- ---- the map's ranges and the greatest one
len-turned : (es : List (ℕ × ℕ)) (l : ℕ × ℕ) → length (turned es ++ (l ∷ [])) ≡ suc (length es)
len-turned [] l = refl
len-turned (e ∷ es) l = ap suc (len-turned es l)

len-last : (es : List (ℕ × ℕ)) (last : Option (ℕ × ℕ)) (r : ℕ × ℕ) → (last ≡ None → es ≡ []) → first_from 0 (with_last (turned es) last) ≡ Some r → length (with_last (turned es) last) ≡ suc (length es)
len-last es None r none f = let gone : first_from 0 (turned []) ≡ Some r = subst (λ l. first_from 0 (turned l) ≡ Some r) (none refl) f in absurd (cc)
len-last es (Some l) r none f = len-turned es l

zero-first : (xs : List (ℕ × ℕ)) (r : ℕ × ℕ) (n : ℕ) → first_from 0 xs ≡ Some r → r.0 ≡ 0 → length xs ≡ suc n → n ≡ gaps_among xs
zero-first [] r n f z l = absurd (cc)
zero-first (x ∷ xs) r n f z l = sym (among-zero x xs (same-first 0 x r xs (omega arith) f ∙ z) ∙ omega (arith, l))

later-first : (xs : List (ℕ × ℕ)) (r : ℕ × ℕ) (n : ℕ) → first_from 0 xs ≡ Some r → (r.0 ≡ 0 → ⊥) → length xs ≡ suc n → n + 1 ≡ gaps_among xs
later-first [] r n f z l = absurd (cc)
later-first (x ∷ xs) r n f z l = sym (among-later x xs (λ k. z (sym (same-first 0 x r xs (omega arith) f) ∙ k)) ∙ omega (arith, l))

pub counted-zero : (es : List (ℕ × ℕ)) (last : Option (ℕ × ℕ)) (r : ℕ × ℕ) → (last ≡ None → es ≡ []) → first_from 0 (with_last (turned es) last) ≡ Some r → r.0 ≡ 0 →
    length es ≡ gaps_among (with_last (turned es) last)
counted-zero es last r none f z = zero-first _ r (length es) f z (len-last es last r none f)

pub counted-later : (es : List (ℕ × ℕ)) (last : Option (ℕ × ℕ)) (r : ℕ × ℕ) → (last ≡ None → es ≡ []) → first_from 0 (with_last (turned es) last) ≡ Some r → (r.0 ≡ 0 → ⊥) →
    length es + 1 ≡ gaps_among (with_last (turned es) last)
counted-later es last r none f z = later-first _ r (length es) f z (len-last es last r none f)

pub untouched-some : (e : ℕ) (o : Option (ℕ × ℕ)) (r : ℕ × ℕ) → o ≡ Some r → e < r.0 → Untouched e o
untouched-some e o r is up = subst (Untouched e) (sym is) up

pub untouched-none : (e : ℕ) (o : Option (ℕ × ℕ)) → o ≡ None → Untouched e o
untouched-none e o is = subst (Untouched e) (sym is) tt

-- a part from offset 0 on
pub admits-first : (most s e : ℕ) (held : Offsets) → s ≤ e → s ≡ 0 → true ≡ admits most held s e
admits-first most s e held up z = elim (cases_lt s e) [
  | inr past ↦ admits-nothing most s e held (omega arith)
  | inl some ↦
      let are = ranges-are held in
      admits-no_more most s e (ranges_of held) held some are.apart are.union (first-among s e (ranges_of held) some z are.apart)
]

pub admits-from_zero : (most end : ℕ) (held : Offsets) → admits most held 0 end ≡ true
admits-from_zero most end held = sym (admits-first most 0 end held (omega arith) refl)

-- a part right after an offset that is held
abbrev IsLow : ℕ → Option (ℕ × ℕ) → Type 0
IsLow e None = ⊥
IsLow e (Some q) = q.0 ≤ e

first-touched : (n : ℕ) (xs : List (ℕ × ℕ)) → AreApart xs → InRanges xs n → (o : Option (ℕ × ℕ)) → first_from (n + 1) xs ≡ o → IsLow (n + 1) o
first-touched n xs h w None f = absurd (untouched-end (n + 1) n xs refl h w (subst (Untouched (n + 1)) (sym f) tt))
first-touched n xs h w (Some q) f = elim (cases_lt (n + 1) q.0) [
  | inl up ↦ absurd (untouched-end (n + 1) n xs refl h w (subst (Untouched (n + 1)) (sym f) up))
  | inr low ↦ low
]

pub admits-after : (most n end : ℕ) (held : Offsets) → contains held n ≡ true → n < end → admits most held (n + 1) end ≡ true
admits-after most n end held is up = elim (cases_lt (n + 1) end) [
  | inr past ↦ sym (admits-nothing most (n + 1) end held (omega arith))
  | inl some ↦ touching some (first_from (n + 1) (ranges_of held)) refl
]
  where
    are : AreRangesOf held (ranges_of held)
    are = ranges-are held

    there : InRanges (ranges_of held) n
    there = (Decides-union_of (ranges_of held) n).0 (ap (λ s. contains s n) are.union ∙ is)

    touching : n + 1 < end → (o : Option (ℕ × ℕ)) → first_from (n + 1) (ranges_of held) ≡ o → admits most held (n + 1) end ≡ true
    touching some None f = absurd (first-touched n (ranges_of held) are.apart there None f)
    touching some (Some q) f =
        let low : q.0 ≤ n + 1 = first-touched n (ranges_of held) are.apart there (Some q) f in
        sym (admits-no_more most (n + 1) end (ranges_of held) held some are.apart are.union
        (touched-among (n + 1) end (ranges_of held) q some are.apart f (omega (arith, low, some))))

pub keeps-limit : (most start end : ℕ) (held : Offsets) → admits most held start end ≡ true → gap_count held ≤ most → gap_count (union held (range start end)) ≤ most
keeps-limit most start end held is few =
    let le : gap_count (union held (range start end)) ≤ max most (gap_count held) = leb-true _ _ is in
    omega (arith, le, few)
