-- Ranges with the greatest one after them.
use Rattle.std.proofs.Common.{◌≡◌, ℕ, ◌<◌, ◌≤◌, ◌++◌, List, [], ◌∷◌, Option, None, Some, refl, ap, ◌∙◌, sym, arith, inl, inr, min, max, drop, set, length, subst, ◌-◌, Result, Ok, Err, OnOk, OnErr, IsOk, Bool, true, false, not, true≢false}
use Rattle.std.specs.Ordering.{nat_cmp}
use Rattle.std.specs.BTreeMap.{insert_entry, is_at}
use Rattle.std.specs.Map.{lookup, remove_entry}
use Rattle.std.specs.FinSet.{contains}
use Rattle.std.specs.Bool.{IsTrue}
use Rattle.std.specs.Option.{is_some}
use Rattle.std.proofs.lemmas.Bool.{lt-ltb, le-ltb, cases_lt}
use Rattle.cfdp_extents.specs.Offsets.{AreApart, StartBehind, union_of}
use Rattle.cfdp_extents.specs.Ranges.{turned, with_last, first_from, first_behind, behind, low_of, joined_in, outside, Untouched}
use Rattle.cfdp_extents.proofs.Members.{InRanges, Decides-union_of}
use Rattle.cfdp_extents.proofs.Kept.{greater, equal, from-below, from-here, behind-below, behind-here}
use Rattle.cfdp_extents.proofs.Missing.{skipped, here}
use Rattle.cfdp_extents.proofs.Inserted.{in-none, in-before, in-within, in-touched, in-apart, low-below, low-here}

start-init : (m : ℕ) (xs : List (ℕ × ℕ)) (r : ℕ × ℕ) → StartBehind m (xs ++ (r ∷ [])) → StartBehind m xs
start-init m [] r h = tt
start-init m (x ∷ xs) r h = h

pub apart-init : (xs : List (ℕ × ℕ)) (r : ℕ × ℕ) → AreApart (xs ++ (r ∷ [])) → AreApart xs
apart-init [] r h = tt
apart-init (x ∷ xs) r h = (h.0, start-init x.1 xs r h.1, apart-init xs r h.2)

before-last : (x : ℕ × ℕ) (xs : List (ℕ × ℕ)) (r : ℕ × ℕ) → AreApart (x ∷ (xs ++ (r ∷ []))) → x.1 < r.0
before-last x [] r h = h.1
before-last x (y ∷ ys) r h =
    let later : y.1 < r.0 = before-last y ys r h.2 in
    let next : x.1 < y.0 = h.1 in
    let some : y.0 < y.1 = h.2.0 in
    omega arith

pub last-some : (xs : List (ℕ × ℕ)) (r : ℕ × ℕ) → AreApart (xs ++ (r ∷ [])) → r.0 < r.1
last-some [] r h = h.0
last-some (x ∷ xs) r h = last-some xs r h.2

-- ---- look-ups
pub from-last : (o : ℕ) (xs : List (ℕ × ℕ)) (r : ℕ × ℕ) → AreApart (xs ++ (r ∷ [])) → r.0 ≤ o → first_from o (xs ++ (r ∷ [])) ≡ first_from o (r ∷ [])
from-last o [] r h le = refl
from-last o (x ∷ xs) r h le =
    let up : x.1 < r.0 = before-last x xs r h in
    let c : x.1 < o = omega arith in
    from-below o x (xs ++ (r ∷ [])) c ∙ from-last o xs r h.2 le

pub from-found : (o : ℕ) (xs : List (ℕ × ℕ)) (r q : ℕ × ℕ) → first_from o xs ≡ Some q → first_from o (xs ++ (r ∷ [])) ≡ Some q
from-found o [] r q f = absurd (cc)
from-found o (x ∷ xs) r q f = elim (cases_lt x.1 o) [
  | inl c ↦ from-below o x (xs ++ (r ∷ [])) c ∙ from-found o xs r q (sym (from-below o x xs c) ∙ f)
  | inr c ↦ from-here o x (xs ++ (r ∷ [])) c ∙ sym (from-here o x xs c) ∙ f
]

pub from-missed : (o : ℕ) (xs : List (ℕ × ℕ)) (r : ℕ × ℕ) → first_from o xs ≡ None → first_from o (xs ++ (r ∷ [])) ≡ first_from o (r ∷ [])
from-missed o [] r f = refl
from-missed o (x ∷ xs) r f = elim (cases_lt x.1 o) [
  | inl c ↦ from-below o x (xs ++ (r ∷ [])) c ∙ from-missed o xs r (sym (from-below o x xs c) ∙ f)
  | inr c ↦ (let same : Some x ≡ None = sym (from-here o x xs c) ∙ f in absurd (cc))
]

pub past-last : (o : ℕ) (xs : List (ℕ × ℕ)) (r : ℕ × ℕ) → AreApart (xs ++ (r ∷ [])) → r.0 ≤ o → first_behind o (xs ++ (r ∷ [])) ≡ first_behind o (r ∷ [])
past-last o [] r h le = refl
past-last o (x ∷ xs) r h le =
    let up : x.1 < r.0 = before-last x xs r h in
    let c : x.1 ≤ o = omega arith in
    behind-below o x (xs ++ (r ∷ [])) c ∙ past-last o xs r h.2 le

pub past-found : (o : ℕ) (xs : List (ℕ × ℕ)) (r q : ℕ × ℕ) → first_behind o xs ≡ Some q → first_behind o (xs ++ (r ∷ [])) ≡ Some q
past-found o [] r q f = absurd (cc)
past-found o (x ∷ xs) r q f = elim (cases_lt o x.1) [
  | inl c ↦ behind-here o x (xs ++ (r ∷ [])) c ∙ sym (behind-here o x xs c) ∙ f
  | inr c ↦ behind-below o x (xs ++ (r ∷ [])) c ∙ past-found o xs r q (sym (behind-below o x xs c) ∙ f)
]

pub past-missed : (o : ℕ) (xs : List (ℕ × ℕ)) (r : ℕ × ℕ) → first_behind o xs ≡ None → first_behind o (xs ++ (r ∷ [])) ≡ first_behind o (r ∷ [])
past-missed o [] r f = refl
past-missed o (x ∷ xs) r f = elim (cases_lt o x.1) [
  | inl c ↦ (let same : Some x ≡ None = sym (behind-here o x xs c) ∙ f in absurd (cc))
  | inr c ↦ behind-below o x (xs ++ (r ∷ [])) c ∙ past-missed o xs r (sym (behind-below o x xs c) ∙ f)
]

-- ---- the ranges after an offset
behind-most : (o : ℕ) (xs : List (ℕ × ℕ)) (r : ℕ × ℕ) → o < r.1 → behind o (xs ++ (r ∷ [])) ≡ behind o xs ++ (r ∷ [])
behind-most o [] r d = here o r [] d
behind-most o (x ∷ xs) r d = elim (cases_lt o x.1) [
  | inl c ↦ here o x (xs ++ (r ∷ [])) c ∙ ap (λ l. l ++ (r ∷ [])) (sym (here o x xs c))
  | inr c ↦ skipped o x (xs ++ (r ∷ [])) c ∙ behind-most o xs r d ∙ ap (λ l. l ++ (r ∷ [])) (sym (skipped o x xs c))
]

behind-none : (o : ℕ) (xs : List (ℕ × ℕ)) (r : ℕ × ℕ) → AreApart (xs ++ (r ∷ [])) → r.1 ≤ o → behind o (xs ++ (r ∷ [])) ≡ behind o xs
behind-none o [] r h d = skipped o r [] d
behind-none o (x ∷ xs) r h d =
    let up : x.1 < r.0 = before-last x xs r h in
    let some : r.0 < r.1 = last-some xs r h.2 in
    let c : x.1 ≤ o = omega arith in
    skipped o x (xs ++ (r ∷ [])) c ∙ behind-none o xs r h.2 d ∙ sym (skipped o x xs c)

-- the greatest one, if it ends after an offset
pub behind-last : (o : ℕ) (xs : List (ℕ × ℕ)) (last kept : Option (ℕ × ℕ)) → AreApart (with_last xs last) → with_last [] kept ≡ behind o (with_last [] last) →
    with_last (behind o xs) kept ≡ behind o (with_last xs last)
behind-last o xs None None h k = refl
behind-last o xs None (Some q) h k = absurd (cc)
behind-last o xs (Some r) kept h k = elim (cases_lt o r.1) [
  | inl d ↦
      let is : kept ≡ Some r = only kept r (k ∙ here o r [] d) in
      ap (with_last (behind o xs)) is ∙ sym (behind-most o xs r d)
  | inr d ↦
      let is : kept ≡ None = none kept (k ∙ skipped o r [] d) in
      ap (with_last (behind o xs)) is ∙ sym (behind-none o xs r h d)
]
  where
    only : (kept : Option (ℕ × ℕ)) (r : ℕ × ℕ) → with_last [] kept ≡ r ∷ [] → kept ≡ Some r
    only None r e = absurd (cc)
    only (Some q) r e = let is : q ≡ r = cc in ap Some is

    none : (kept : Option (ℕ × ℕ)) → with_last [] kept ≡ [] → kept ≡ None
    none None e = refl
    none (Some q) e = absurd (cc)

-- ---- one range put in
-- after the greatest
low-past : (s : ℕ) (xs : List (ℕ × ℕ)) (r : ℕ × ℕ) → AreApart (xs ++ (r ∷ [])) → r.1 < s → low_of s (xs ++ (r ∷ [])) ≡ s
low-past s [] r h c = low-below s r [] c
low-past s (x ∷ xs) r h c =
    let up : x.1 < r.0 = before-last x xs r h in
    let some : r.0 < r.1 = last-some xs r h.2 in
    let d : x.1 < s = omega arith in
    low-below s x (xs ++ (r ∷ [])) d ∙ low-past s xs r h.2 c

in-past : (low s e : ℕ) (xs : List (ℕ × ℕ)) (r : ℕ × ℕ) → s < e → AreApart (xs ++ (r ∷ [])) → r.1 < s → joined_in low s e (xs ++ (r ∷ [])) ≡ (xs ++ (r ∷ [])) ++ ((low, e) ∷ [])
in-past low s e [] r some h c = in-before low s e r [] some c ∙ ap (λ l. r ∷ l) (in-none low s e some)
in-past low s e (x ∷ xs) r some h c =
    let up : x.1 < r.0 = before-last x xs r h in
    let more : r.0 < r.1 = last-some xs r h.2 in
    let d : x.1 < s = omega arith in
    in-before low s e x (xs ++ (r ∷ [])) some d ∙ ap (λ l. x ∷ l) (in-past low s e xs r some h.2 c)

pub joined-past : (s e : ℕ) (xs : List (ℕ × ℕ)) (r : ℕ × ℕ) → s < e → AreApart (xs ++ (r ∷ [])) → r.1 < s →
    (xs ++ (r ∷ [])) ++ ((s, e) ∷ []) ≡ joined_in (low_of s (xs ++ (r ∷ []))) s e (xs ++ (r ∷ []))
joined-past s e xs r some h c =
    sym (ap (λ low. joined_in low s e (xs ++ (r ∷ []))) (low-past s xs r h c) ∙ in-past s s e xs r some h c)

-- before the greatest
low-before : (s : ℕ) (xs : List (ℕ × ℕ)) (r : ℕ × ℕ) → AreApart (xs ++ (r ∷ [])) → s ≤ r.0 → low_of s (xs ++ (r ∷ [])) ≡ low_of s xs
low-before s [] r h c =
    let some : r.0 < r.1 = h.0 in
    let d : s ≤ r.1 = omega arith in
    let least : min s r.0 ≡ s = omega arith in
    low-here s r [] d ∙ least
low-before s (x ∷ xs) r h c = elim (cases_lt x.1 s) [
  | inl d ↦ low-below s x (xs ++ (r ∷ [])) d ∙ low-before s xs r h.2 c ∙ sym (low-below s x xs d)
  | inr d ↦ low-here s x (xs ++ (r ∷ [])) d ∙ sym (low-here s x xs d)
]

in-early : (low s e : ℕ) (xs : List (ℕ × ℕ)) (r : ℕ × ℕ) → s < e → AreApart (xs ++ (r ∷ [])) → e < r.0 → joined_in low s e xs ++ (r ∷ []) ≡ joined_in low s e (xs ++ (r ∷ []))
in-early low s e [] r some h c =
    let more : r.0 < r.1 = h.0 in
    let d : e ≤ r.1 = omega arith in
    ap (λ l. l ++ (r ∷ [])) (in-none low s e some) ∙ sym (in-apart low s e r [] some d c)
in-early low s e (x ∷ xs) r some h c = elim (cases_lt x.1 e) [
  | inl d ↦ elim (cases_lt x.1 s) [
    | inl k ↦ ap (λ l. l ++ (r ∷ [])) (in-before low s e x xs some k) ∙ ap (λ l. x ∷ l) (in-early low s e xs r some h.2 c) ∙ sym (in-before low s e x (xs ++ (r ∷ [])) some k)
    | inr k ↦ ap (λ l. l ++ (r ∷ [])) (in-within low s e x xs k d) ∙ in-early low s e xs r some h.2 c ∙ sym (in-within low s e x (xs ++ (r ∷ [])) k d)
  ]
  | inr d ↦ elim (cases_lt e x.0) [
    | inl k ↦ ap (λ l. l ++ (r ∷ [])) (in-apart low s e x xs some d k) ∙ sym (in-apart low s e x (xs ++ (r ∷ [])) some d k)
    | inr k ↦ ap (λ l. l ++ (r ∷ [])) (in-touched low s e x xs some d k) ∙ sym (in-touched low s e x (xs ++ (r ∷ [])) some d k)
  ]
]

pub joined-early : (s e : ℕ) (xs : List (ℕ × ℕ)) (r : ℕ × ℕ) → s < e → AreApart (xs ++ (r ∷ [])) → e < r.0 →
    joined_in (low_of s xs) s e xs ++ (r ∷ []) ≡ joined_in (low_of s (xs ++ (r ∷ []))) s e (xs ++ (r ∷ []))
joined-early s e xs r some h c =
    let low : s ≤ r.0 = omega arith in
    in-early (low_of s xs) s e xs r some h c ∙ ap (λ low. joined_in low s e (xs ++ (r ∷ []))) (sym (low-before s xs r h low))

pub untouched-early : (e : ℕ) (xs : List (ℕ × ℕ)) (r : ℕ × ℕ) → e < r.0 → AreApart (xs ++ (r ∷ [])) → Untouched e (first_from e xs) → Untouched e (first_from e (xs ++ (r ∷ [])))
untouched-early e [] r c h u =
    let more : r.0 < r.1 = h.0 in
    let d : e ≤ r.1 = omega arith in
    subst (Untouched e) (sym (from-here e r [] d)) c
untouched-early e (x ∷ xs) r c h u = elim (cases_lt x.1 e) [
  | inl d ↦ subst (Untouched e) (sym (from-below e x (xs ++ (r ∷ [])) d)) (untouched-early e xs r c h.2 (subst (Untouched e) (from-below e x xs d) u))
  | inr d ↦ subst (Untouched e) (sym (from-here e x (xs ++ (r ∷ [])) d)) (subst (Untouched e) (from-here e x xs d) u)
]

pub untouched-past : (s e : ℕ) (xs : List (ℕ × ℕ)) (r : ℕ × ℕ) → s < e → AreApart (xs ++ (r ∷ [])) → r.1 < s → Untouched e (first_from e (xs ++ (r ∷ [])))
untouched-past s e xs r some h c =
    let more : r.0 < r.1 = last-some xs r h in
    let low : r.0 ≤ e = omega arith in
    let high : r.1 < e = omega arith in
    subst (Untouched e) (sym (from-last e xs r h low ∙ from-below e r [] high)) tt

-- touching the greatest
out-before : (s e : ℕ) (x : ℕ × ℕ) (xs : List (ℕ × ℕ)) → x.1 < s → outside s e (x ∷ xs) ≡ x ∷ outside s e xs
out-before s e x xs c = rw (lt-ltb x.1 s c) refl

out-within : (s e : ℕ) (x : ℕ × ℕ) (xs : List (ℕ × ℕ)) → s ≤ x.1 → x.1 < e → outside s e (x ∷ xs) ≡ outside s e xs
out-within s e x xs c d = rw (le-ltb x.1 s c, lt-ltb x.1 e d) refl

in-late : (low s e : ℕ) (xs : List (ℕ × ℕ)) (r : ℕ × ℕ) → s < e → AreApart (xs ++ (r ∷ [])) → s ≤ r.1 → r.0 ≤ e →
    outside s e xs ++ ((low, max r.1 e) ∷ []) ≡ joined_in low s e (xs ++ (r ∷ []))
in-late low s e [] r some h c d = elim (cases_lt r.1 e) [
  | inl k ↦ (let is : max r.1 e ≡ e = omega arith in ap (λ n. (low, n) ∷ []) is ∙ sym (in-within low s e r [] c k ∙ in-none low s e some))
  | inr k ↦ (let is : max r.1 e ≡ r.1 = omega arith in ap (λ n. (low, n) ∷ []) is ∙ sym (in-touched low s e r [] some k d))
]
in-late low s e (x ∷ xs) r some h c d =
    let up : x.1 < r.0 = before-last x xs r h in
    let high : x.1 < e = omega arith in
    elim (cases_lt x.1 s) [
      | inl k ↦ ap (λ l. l ++ ((low, max r.1 e) ∷ [])) (out-before s e x xs k) ∙ ap (λ l. x ∷ l) (in-late low s e xs r some h.2 c d) ∙ sym (in-before low s e x (xs ++ (r ∷ [])) some k)
      | inr k ↦ ap (λ l. l ++ ((low, max r.1 e) ∷ [])) (out-within s e x xs k high) ∙ in-late low s e xs r some h.2 c d ∙ sym (in-within low s e x (xs ++ (r ∷ [])) k high)
    ]

pub joined-late : (s e : ℕ) (xs : List (ℕ × ℕ)) (r : ℕ × ℕ) → s < e → AreApart (xs ++ (r ∷ [])) → s < r.0 → r.0 ≤ e →
    outside s e xs ++ ((low_of s xs, max r.1 e) ∷ []) ≡ joined_in (low_of s (xs ++ (r ∷ []))) s e (xs ++ (r ∷ []))
joined-late s e xs r some h c d =
    let more : r.0 < r.1 = last-some xs r h in
    let low : s ≤ r.0 = omega arith in
    let high : s ≤ r.1 = omega arith in
    in-late (low_of s xs) s e xs r some h high d ∙ ap (λ low. joined_in low s e (xs ++ (r ∷ []))) (sym (low-before s xs r h low))

-- starting in the greatest
low-inside : (s : ℕ) (xs : List (ℕ × ℕ)) (r : ℕ × ℕ) → AreApart (xs ++ (r ∷ [])) → r.0 ≤ s → s ≤ r.1 → low_of s (xs ++ (r ∷ [])) ≡ r.0
low-inside s [] r h c d = let least : min s r.0 ≡ r.0 = omega arith in low-here s r [] d ∙ least
low-inside s (x ∷ xs) r h c d =
    let up : x.1 < r.0 = before-last x xs r h in
    let k : x.1 < s = omega arith in
    low-below s x (xs ++ (r ∷ [])) k ∙ low-inside s xs r h.2 c d

out-inside : (s e : ℕ) (xs : List (ℕ × ℕ)) (r : ℕ × ℕ) → AreApart (xs ++ (r ∷ [])) → r.0 ≤ s → outside s e xs ≡ xs
out-inside s e [] r h c = refl
out-inside s e (x ∷ xs) r h c =
    let up : x.1 < r.0 = before-last x xs r h in
    let k : x.1 < s = omega arith in
    out-before s e x xs k ∙ ap (λ l. x ∷ l) (out-inside s e xs r h.2 c)

pub joined-inside : (s e : ℕ) (xs : List (ℕ × ℕ)) (r : ℕ × ℕ) → s < e → AreApart (xs ++ (r ∷ [])) → r.0 ≤ s → s ≤ r.1 →
    xs ++ ((r.0, max r.1 e) ∷ []) ≡ joined_in (low_of s (xs ++ (r ∷ []))) s e (xs ++ (r ∷ []))
joined-inside s e xs r some h c d =
    let low : r.0 ≤ e = omega arith in
    ap (λ l. l ++ ((r.0, max r.1 e) ∷ [])) (sym (out-inside s e xs r h c))
    ∙ in-late r.0 s e xs r some h d low
    ∙ ap (λ low. joined_in low s e (xs ++ (r ∷ []))) (sym (low-inside s xs r h c d))

-- the greatest goes to the others
pub put_last : (es : List (ℕ × ℕ)) (r : ℕ × ℕ) → AreApart (turned es ++ (r ∷ [])) → turned (insert_entry nat_cmp es r.1 r.0) ≡ turned es ++ (r ∷ [])
put_last [] r h = refl
put_last (e ∷ es) r h =
    let up : e.0 < r.0 = before-last (e.1, e.0) (turned es) r h in
    let some : r.0 < r.1 = last-some (turned es) r h.2 in
    let past : e.0 < r.1 = omega arith in
    rw (greater r.1 e.0 past) (ap (λ l. (e.1, e.0) ∷ l) (put_last es r h.2))

-- ---- the same, if the greatest may be missing
pub apart-others : (xs : List (ℕ × ℕ)) (last : Option (ℕ × ℕ)) → AreApart (with_last xs last) → AreApart xs
apart-others xs None h = h
apart-others xs (Some r) h = apart-init xs r h

pub found-from : (o : ℕ) (xs : List (ℕ × ℕ)) (last : Option (ℕ × ℕ)) (r : ℕ × ℕ) → AreApart (with_last xs last) → last ≡ Some r → r.0 ≤ o → o ≤ r.1 → Some r ≡ first_from o (with_last xs last)
found-from o xs last r h is low high = subst (λ l. AreApart (with_last xs l) → Some r ≡ first_from o (with_last xs l)) (sym is) (λ k. sym (from-last o xs r k low ∙ from-here o r [] high)) h

pub none-from : (o : ℕ) (xs : List (ℕ × ℕ)) (last : Option (ℕ × ℕ)) (r : ℕ × ℕ) → AreApart (with_last xs last) → last ≡ Some r → r.0 ≤ o → r.1 < o → None ≡ first_from o (with_last xs last)
none-from o xs last r h is low high = subst (λ l. AreApart (with_last xs l) → None ≡ first_from o (with_last xs l)) (sym is) (λ k. sym (from-last o xs r k low ∙ from-below o r [] high)) h

pub other-from : (o : ℕ) (xs : List (ℕ × ℕ)) (last : Option (ℕ × ℕ)) (q : ℕ × ℕ) → first_from o xs ≡ Some q → Some q ≡ first_from o (with_last xs last)
other-from o xs None q f = sym f
other-from o xs (Some r) q f = sym (from-found o xs r q f)

pub missed-from : (o : ℕ) (xs : List (ℕ × ℕ)) (last : Option (ℕ × ℕ)) (r : ℕ × ℕ) → AreApart (with_last xs last) → last ≡ Some r → o < r.0 → first_from o xs ≡ None → last
    ≡ first_from o (with_last xs last)
missed-from o xs last r h is low f = subst (λ l. AreApart (with_last xs l) → l ≡ first_from o (with_last xs l)) (sym is)
    (λ k. let some : r.0 < r.1 = last-some xs r k in let high : o ≤ r.1 = omega arith in sym (from-missed o xs r f ∙ from-here o r [] high)) h

pub missing-from : (o : ℕ) (xs : List (ℕ × ℕ)) (last : Option (ℕ × ℕ)) → last ≡ None → first_from o xs ≡ None → last ≡ first_from o (with_last xs last)
missing-from o xs last is f = subst (λ l. l ≡ first_from o (with_last xs l)) (sym is) (sym f)

pub found-past : (o : ℕ) (xs : List (ℕ × ℕ)) (last : Option (ℕ × ℕ)) (r : ℕ × ℕ) → AreApart (with_last xs last) → last ≡ Some r → r.0 ≤ o → o < r.1 → Some r ≡ first_behind o (with_last xs last)
found-past o xs last r h is low high = subst (λ l. AreApart (with_last xs l) → Some r ≡ first_behind o (with_last xs l)) (sym is) (λ k. sym (past-last o xs r k low ∙ behind-here o r [] high)) h

pub none-past : (o : ℕ) (xs : List (ℕ × ℕ)) (last : Option (ℕ × ℕ)) (r : ℕ × ℕ) → AreApart (with_last xs last) → last ≡ Some r → r.0 ≤ o → r.1 ≤ o → None ≡ first_behind o (with_last xs last)
none-past o xs last r h is low high = subst (λ l. AreApart (with_last xs l) → None ≡ first_behind o (with_last xs l)) (sym is) (λ k. sym (past-last o xs r k low ∙ behind-below o r [] high)) h

pub other-past : (o : ℕ) (xs : List (ℕ × ℕ)) (last : Option (ℕ × ℕ)) (q : ℕ × ℕ) → first_behind o xs ≡ Some q → Some q ≡ first_behind o (with_last xs last)
other-past o xs None q f = sym f
other-past o xs (Some r) q f = sym (past-found o xs r q f)

pub missed-past : (o : ℕ) (xs : List (ℕ × ℕ)) (last : Option (ℕ × ℕ)) (r : ℕ × ℕ) → AreApart (with_last xs last) → last ≡ Some r → o < r.0 → first_behind o xs ≡ None → last
    ≡ first_behind o (with_last xs last)
missed-past o xs last r h is low f = subst (λ l. AreApart (with_last xs l) → l ≡ first_behind o (with_last xs l)) (sym is)
    (λ k. let some : r.0 < r.1 = last-some xs r k in let high : o < r.1 = omega arith in sym (past-missed o xs r f ∙ behind-here o r [] high)) h

pub missing-past : (o : ℕ) (xs : List (ℕ × ℕ)) (last : Option (ℕ × ℕ)) → last ≡ None → first_behind o xs ≡ None → last ≡ first_behind o (with_last xs last)
missing-past o xs last is f = subst (λ l. l ≡ first_behind o (with_last xs l)) (sym is) (sym f)

-- a range joined in
pub join-past : (s e : ℕ) (es new : List (ℕ × ℕ)) (last : Option (ℕ × ℕ)) (r : ℕ × ℕ) → s < e → AreApart (with_last (turned es) last) → last ≡ Some r → r.1 < s →
    new ≡ insert_entry nat_cmp es r.1 r.0 →
    turned new ++ ((s, e) ∷ []) ≡ joined_in (low_of s (with_last (turned es) last)) s e (with_last (turned es) last)
join-past s e es new last r some h is c put =
    subst (λ l. AreApart (with_last (turned es) l) → turned new ++ ((s, e) ∷ []) ≡ joined_in (low_of s (with_last (turned es) l)) s e (with_last (turned es) l)) (sym is)
    (λ k. ap (λ l. turned l ++ ((s, e) ∷ [])) put ∙ ap (λ l. l ++ ((s, e) ∷ [])) (put_last es r k) ∙ joined-past s e (turned es) r some k c) h

pub untouched-behind : (s e : ℕ) (xs : List (ℕ × ℕ)) (last : Option (ℕ × ℕ)) (r : ℕ × ℕ) → s < e → AreApart (with_last xs last) → last ≡ Some r → r.1 < s →
    Untouched e (first_from e (with_last xs last))
untouched-behind s e xs last r some h is c =
    subst (λ l. AreApart (with_last xs l) → Untouched e (first_from e (with_last xs l))) (sym is) (λ k. untouched-past s e xs r some k c) h

pub join-early : (s e : ℕ) (xs new : List (ℕ × ℕ)) (last : Option (ℕ × ℕ)) (r : ℕ × ℕ) → s < e → AreApart (with_last xs last) → last ≡ Some r → e < r.0 →
    new ≡ joined_in (low_of s xs) s e xs → with_last new last ≡ joined_in (low_of s (with_last xs last)) s e (with_last xs last)
join-early s e xs new last r some h is c put =
    subst (λ l. AreApart (with_last xs l) → with_last new l ≡ joined_in (low_of s (with_last xs l)) s e (with_last xs l)) (sym is)
    (λ k. ap (λ l. l ++ (r ∷ [])) put ∙ joined-early s e xs r some k c) h

pub untouched-before : (e : ℕ) (xs : List (ℕ × ℕ)) (last : Option (ℕ × ℕ)) (r : ℕ × ℕ) → AreApart (with_last xs last) → last ≡ Some r → e < r.0 → Untouched e (first_from e xs) →
    Untouched e (first_from e (with_last xs last))
untouched-before e xs last r h is c u =
    subst (λ l. AreApart (with_last xs l) → Untouched e (first_from e (with_last xs l))) (sym is) (λ k. untouched-early e xs r c k u) h

pub join-inside : (s e end : ℕ) (xs : List (ℕ × ℕ)) (last : Option (ℕ × ℕ)) (r : ℕ × ℕ) → s < e → AreApart (with_last xs last) → last ≡ Some r → r.0 ≤ s → s ≤ r.1 →
    end ≡ max r.1 e → xs ++ ((r.0, end) ∷ []) ≡ joined_in (low_of s (with_last xs last)) s e (with_last xs last)
join-inside s e end xs last r some h is low high most =
    subst (λ l. AreApart (with_last xs l) → xs ++ ((r.0, end) ∷ []) ≡ joined_in (low_of s (with_last xs l)) s e (with_last xs l)) (sym is)
    (λ k. ap (λ n. xs ++ ((r.0, n) ∷ [])) most ∙ joined-inside s e xs r some k low high) h

pub join-late : (s e low end : ℕ) (xs new : List (ℕ × ℕ)) (last : Option (ℕ × ℕ)) (r : ℕ × ℕ) → s < e → AreApart (with_last xs last) → last ≡ Some r → s < r.0 → r.0 ≤ e →
    low ≡ low_of s xs → end ≡ max r.1 e → new ≡ outside s e xs → new ++ ((low, end) ∷ []) ≡ joined_in (low_of s (with_last xs last)) s e (with_last xs last)
join-late s e low end xs new last r some h is before touches least most rest =
    subst (λ l. AreApart (with_last xs l) → new ++ ((low, end) ∷ []) ≡ joined_in (low_of s (with_last xs l)) s e (with_last xs l)) (sym is)
    (λ k. ap (λ l. l ++ ((low, end) ∷ [])) rest ∙ ap (λ p. outside s e xs ++ (p ∷ [])) (λ i. (least i, most i)) ∙ joined-late s e xs r some k before touches) h

-- the first taken away, or cut
there-at : (e : ℕ × ℕ) (es : List (ℕ × ℕ)) (last : Option (ℕ × ℕ)) (r : ℕ × ℕ) → first_from 0 (with_last (turned (e ∷ es)) last) ≡ Some r → (e.1, e.0) ≡ r
there-at e es None r f =
    let low : 0 ≤ e.0 = omega arith in
    let same : Some (e.1, e.0) ≡ Some r = sym (from-here 0 (e.1, e.0) (turned es) low) ∙ f in
    cc
there-at e es (Some q) r f =
    let low : 0 ≤ e.0 = omega arith in
    let same : Some (e.1, e.0) ≡ Some r = sym (from-here 0 (e.1, e.0) (turned es ++ (q ∷ [])) low) ∙ f in
    cc

there-key : (e : ℕ × ℕ) (es : List (ℕ × ℕ)) (last : Option (ℕ × ℕ)) (r : ℕ × ℕ) → first_from 0 (with_last (turned (e ∷ es)) last) ≡ Some r → r.1 ≡ e.0
there-key e es last r f = sym (ap (λ x. x.1) (there-at e es last r f))

pub dropped : (es : List (ℕ × ℕ)) (last : Option (ℕ × ℕ)) (r : ℕ × ℕ) → first_from 0 (with_last (turned es) last) ≡ Some r → (length es ≡ 0 → ⊥) →
    with_last (turned (remove_entry (is_at (nat_cmp r.1)) es)) last ≡ drop 1 (with_last (turned es) last)
dropped [] last r f some = absurd (some refl)
dropped (e ∷ es) None r f some = rw (equal r.1 e.0 (there-key e es None r f)) refl
dropped (e ∷ es) (Some q) r f some = rw (equal r.1 e.0 (there-key e es (Some q) r f)) refl

pub cut-first : (es : List (ℕ × ℕ)) (last : Option (ℕ × ℕ)) (r : ℕ × ℕ) (v : ℕ) → first_from 0 (with_last (turned es) last) ≡ Some r → (length es ≡ 0 → ⊥) →
    with_last (turned (insert_entry nat_cmp es r.1 v)) last ≡ set (with_last (turned es) last) 0 (v, r.1)
cut-first [] last r v f some = absurd (some refl)
cut-first (e ∷ es) None r v f some =
    let q : r.1 ≡ e.0 = there-key e es None r f in
    rw (equal r.1 e.0 q) (ap (λ k. (v, k) ∷ turned es) (sym q))
cut-first (e ∷ es) (Some l) r v f some =
    let q : r.1 ≡ e.0 = there-key e es (Some l) r f in
    rw (equal r.1 e.0 q) (ap (λ k. (v, k) ∷ (turned es ++ (l ∷ []))) (sym q))

pub is-there : (es : List (ℕ × ℕ)) (last : Option (ℕ × ℕ)) (r : ℕ × ℕ) → first_from 0 (with_last (turned es) last) ≡ Some r → (length es ≡ 0 → ⊥) → lookup (is_at (nat_cmp r.1)) es ≡ None → ⊥
is-there [] last r f some none = some refl
is-there (e ∷ es) last r f some none =
    let k = rw (equal r.1 e.0 (there-key e es last r f)) at none in
    absurd (cc)

-- ---- the end
in-last : (xs : List (ℕ × ℕ)) (r : ℕ × ℕ) (n : ℕ) → AreApart (xs ++ (r ∷ [])) → InRanges (xs ++ (r ∷ [])) n → n < r.1
in-last [] r n h w = elim w [ inl k ↦ k.1 | inr k ↦ absurd k ]
in-last (x ∷ xs) r n h w = elim w [
  | inl k ↦ (let up : x.1 < r.0 = before-last x xs r h in let some : r.0 < r.1 = last-some xs r h.2 in let high : n < x.1 = k.1 in omega arith)
  | inr k ↦ in-last xs r n h.2 k
]

at-last : (xs : List (ℕ × ℕ)) (r : ℕ × ℕ) (n : ℕ) → r.0 ≤ n → n < r.1 → InRanges (xs ++ (r ∷ [])) n
at-last [] r n low high = inl (low, high)
at-last (x ∷ xs) r n low high = inr (at-last xs r n low high)

-- what is held lies before the end of the greatest range, whose last offset is held
pub before-end : (xs : List (ℕ × ℕ)) (last : Option (ℕ × ℕ)) (r : ℕ × ℕ) (n : ℕ) → AreApart (with_last xs last) → last ≡ Some r → contains (union_of (with_last xs last)) n ≡ true → n < r.1
before-end xs last r n h is held =
    subst (λ l. AreApart (with_last xs l) → contains (union_of (with_last xs l)) n ≡ true → n < r.1) (sym is)
    (λ k t. in-last xs r n k ((Decides-union_of (xs ++ (r ∷ [])) n).0 t)) h held

pub end-held : (xs : List (ℕ × ℕ)) (last : Option (ℕ × ℕ)) (r : ℕ × ℕ) → AreApart (with_last xs last) → last ≡ Some r → contains (union_of (with_last xs last)) (r.1 - 1) ≡ true
end-held xs last r h is =
    subst (λ l. AreApart (with_last xs l) → contains (union_of (with_last xs l)) (r.1 - 1) ≡ true) (sym is)
    (λ k. let some : r.0 < r.1 = last-some xs r k in (Decides-union_of (xs ++ (r ∷ [])) (r.1 - 1)).1 (at-last xs r (r.1 - 1) (omega arith) (omega arith))) h

-- without the greatest there are no ranges
pub no-last : (es : List (ℕ × ℕ)) (last : Option (ℕ × ℕ)) → last ≡ None → (last ≡ None → es ≡ []) → length (with_last (turned es) last) ≡ 0
no-last es last is none = subst (λ l. length (with_last (turned es) l) ≡ 0) (sym is) (ap (λ l. length (turned l)) (none is))

pub none-last : (xs : List (ℕ × ℕ)) (last : Option (ℕ × ℕ)) → length (with_last xs last) ≡ 0 → last ≡ None
none-last xs None l = refl
none-last [] (Some r) l = absurd (omega arith)
none-last (x ∷ xs) (Some r) l = absurd (omega arith)

pub on_ok : {T E A B : Type 0} (r : Result T E) → (A → B) → OnOk r A → OnOk r B
on_ok (Ok x) f a = f a
on_ok (Err e) f a = tt

pub on_err : {T E A B : Type 0} (r : Result T E) → (A → B) → OnErr r A → OnErr r B
on_err (Ok x) f a = tt
on_err (Err e) f a = f a

pub either_way : {T E A B C D : Type 0} (r : Result T E) → (A → D) → (B → C → D) → OnOk r A → OnErr r B → OnErr r C → D
either_way (Ok x) f g a b c = f a
either_way (Err e) f g a b c = g b c

pub is_ok-and : {T E A B : Type 0} (r : Result T E) → OnOk r A → OnErr r B → (B → ⊥) → IsOk r × A
is_ok-and (Ok x) a b never = (refl, a)
is_ok-and (Err e) a b never = absurd (never b)

pub none-by_test : (last : Option (ℕ × ℕ)) (none : Bool) → is_some last ≡ not none → IsTrue none → last ≡ None
none-by_test None b e t = refl
none-by_test (Some r) true e t = absurd (true≢false e)
none-by_test (Some r) false e t = absurd (true≢false (sym t))

pub test-by_none : (last : Option (ℕ × ℕ)) (none : Bool) → is_some last ≡ not none → last ≡ None → IsTrue none
test-by_none last true e n = refl
test-by_none None false e n = absurd (true≢false (sym e))
test-by_none (Some r) false e n = absurd (cc)

pub same_whole : (new old : List (ℕ × ℕ)) (last before : Option (ℕ × ℕ)) → new ≡ old → last ≡ before → with_last (turned new) last ≡ with_last (turned old) before
same_whole new old last before e l = λ i. with_last (turned (e i)) (l i)
