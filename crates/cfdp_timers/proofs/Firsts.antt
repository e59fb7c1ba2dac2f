-- The earliest deadlines of blocks: what an index that is added or set does to them, and that the
-- earliest of theirs is the earliest of all.
use Rattle.std.proofs.Common.{◌≡◌, ◌≢◌, ◌⊎◌, inl, inr, ℕ, zero, suc, ◌+◌, ◌*◌, ◌/◌, ◌%◌, ◌<◌, ◌≤◌, List, [], ◌∷◌, ◌++◌, length, take, drop, set, get_or, refl, sym, ap, subst, ◌∙◌, not, true, false, true≢false, Option, Some, None, arith, min, nat_le, nat_eq, length-drop, length-append, length-take, length-set}
use Rattle.std.proofs.lemmas.Bool.{leb-true, leb-false, eqb-true, eq-eqb}
use Rattle.std.specs.Option.{option_eq}
use Rattle.std.proofs.lemmas.List.{take-append-drop, take_all, drop_all, take-append-le, drop-append-le, take-set-le, drop-set-lt, drop-set-add, drop-drop, set_split, drop_more, set-set, set-get_or, get_or-take, get_or-drop, get_or-set_same}
use Rattle.std.proofs.lemmas.Nat.{div-add-mod', mod_below, div_below}
use Rattle.cfdp_timers.specs.Entries.{earlier, earliest_of, AreFirsts}
use Rattle.cfdp_timers.proofs.Alarms.{earlier_assoc, earlier_none}

-- ---- the earlier of two
pub earlier_comm : (a b : Option ℕ) → earlier a b ≡ earlier b a
earlier_comm None b = sym (earlier_none b)
earlier_comm (Some x) None = refl
earlier_comm (Some x) (Some y) = ap Some (two x y)
  where
    two : (x y : ℕ) → min x y ≡ min y x
    two x y = omega arith

earlier_is : (a b : Option ℕ) → (earlier a b ≡ a) ⊎ (earlier a b ≡ b)
earlier_is None b = inr refl
earlier_is (Some x) None = inl refl
earlier_is (Some x) (Some y) = elim (nat_le x y) as (λ b. nat_le x y ≡ b → (Some (min x y) ≡ Some x) ⊎ (Some (min x y) ≡ Some y)) [
  | true ↦ λ le. let l = leb-true x y le in let is : min x y ≡ x = omega (arith, l) in inl (ap Some is)
  | false ↦ λ gt. let l = leb-false x y gt in let is : min x y ≡ y = omega (arith, l) in inr (ap Some is)
] refl

-- ---- the earliest of several
pub earliest_of-nil : earliest_of [] ≡ None
unfolding earliest_of
earliest_of-nil = refl

pub earliest_of-cons : (x : Option ℕ) (xs : List (Option ℕ)) → earliest_of (x ∷ xs) ≡ earlier x (earliest_of xs)
unfolding earliest_of
earliest_of-cons x xs = refl

pub earliest_of-append : (xs ys : List (Option ℕ)) → earliest_of (xs ++ ys) ≡ earlier (earliest_of xs) (earliest_of ys)
unfolding earliest_of
earliest_of-append [] ys = refl
earliest_of-append (x ∷ xs) ys = ap (earlier x) (earliest_of-append xs ys) ∙ sym (earlier_assoc x (earliest_of xs) (earliest_of ys))

pub earliest_of-push : (xs : List (Option ℕ)) → earliest_of (xs ++ None ∷ []) ≡ earliest_of xs
unfolding earliest_of
earliest_of-push xs = earliest_of-append xs (None ∷ []) ∙ earlier_none (earliest_of xs)

-- one deadline is changed to v: o stands for the others
changed : (o old v : Option ℕ) → (earlier old o ≢ old) ⊎ (earlier old v ≡ v) → earlier v o ≡ earlier (earlier old o) v
changed o old v (inl apart) = elim (earlier_is old o) as (λ _. earlier v o ≡ earlier (earlier old o) v) [
  | inl h ↦ absurd (apart h)
  | inr h ↦ earlier_comm v o ∙ ap (λ x. earlier x v) (sym h)
]
changed o old v (inr later) =
    ap (λ x. earlier x o) (sym later) ∙ earlier_assoc old v o ∙ ap (earlier old) (earlier_comm v o) ∙ sym (earlier_assoc old o v)

-- the one at an index, and the others
apart_at : (xs : List (Option ℕ)) (x : Option ℕ) (ys : List (Option ℕ)) → earliest_of (xs ++ x ∷ ys) ≡ earlier x (earlier (earliest_of xs) (earliest_of ys))
unfolding earliest_of
apart_at xs x ys =
    earliest_of-append xs (x ∷ ys) ∙ sym (earlier_assoc (earliest_of xs) x (earliest_of ys)) ∙ ap (λ o. earlier o (earliest_of ys)) (earlier_comm (earliest_of xs) x)
    ∙ earlier_assoc x (earliest_of xs) (earliest_of ys)

split_at : (xs : List (Option ℕ)) (i : ℕ) → i < length xs → xs ≡ take i xs ++ get_or xs i None ∷ drop (i + 1) xs
split_at xs i l = sym (take-append-drop i xs) ∙ ap (λ l. take i xs ++ l) (drop_more xs i None l)

pub earliest_of-set : (xs : List (Option ℕ)) (i : ℕ) (v : Option ℕ) → i < length xs → (earliest_of xs ≢ get_or xs i None) ⊎ (earlier (get_or xs i None) v ≡ v)
    → earliest_of (set xs i v) ≡ earlier (earliest_of xs) v
earliest_of-set xs i v l how =
    let old = get_or xs i None in
    let others = earlier (earliest_of (take i xs)) (earliest_of (drop (i + 1) xs)) in
    let was : earliest_of xs ≡ earlier old others = ap earliest_of (split_at xs i l) ∙ apart_at (take i xs) old (drop (i + 1) xs) in
    let next : suc i ≡ i + 1 = omega arith in
    ap earliest_of (set_split xs i v l ∙ ap (λ n. take i xs ++ v ∷ drop n xs) next) ∙ apart_at (take i xs) v (drop (i + 1) xs)
    ∙ changed others old v (elim how as (λ _. (earlier old others ≢ old) ⊎ (earlier old v ≡ v)) [ inl h ↦ inl (λ e. h (was ∙ e)) | inr h ↦ inr h ])
    ∙ ap (λ o. earlier o v) (sym was)

-- ---- blocks of n places
set-take : (n : ℕ) (xs : List (Option ℕ)) (i : ℕ) (v : Option ℕ) → take n (set xs i v) ≡ set (take n xs) i v
set-take zero xs i v = refl
set-take (suc n) [] i v = refl
set-take (suc n) (x ∷ xs) zero v = refl
set-take (suc n) (x ∷ xs) (suc i) v = ap (λ l. x ∷ l) (set-take n xs i v)

module _ (n : ℕ) where
  pub earliest-firsts : (each firsts : List (Option ℕ)) → AreFirsts n each firsts → earliest_of firsts ≡ earliest_of each
  unfolding AreFirsts earliest_of
  earliest-firsts each [] h = ap earliest_of (sym h)
  earliest-firsts each (f ∷ fs) h =
      (λ i. earlier (h.0 i) (earliest-firsts (drop n each) fs h.1 i)) ∙ sym (earliest_of-append (take n each) (drop n each)) ∙ ap earliest_of (take-append-drop n each)

  pub firsts-cover : (each firsts : List (Option ℕ)) → AreFirsts n each firsts → length each ≤ n * length firsts
  unfolding AreFirsts
  firsts-cover each [] h = let e = ap length h in omega (arith, e)
  firsts-cover each (f ∷ fs) h =
      let rest = firsts-cover (drop n each) fs h.1 in
      let cut = length-drop n each in
      let more : n * suc (length fs) ≡ n + n * length fs = mul_suc n (length fs) in
      omega (arith, rest, cut, more)
    where
      mul_suc : (n m : ℕ) → n * suc m ≡ n + n * m
      mul_suc n m = omega arith

  pub firsts-grown : (each firsts : List (Option ℕ)) → AreFirsts n each firsts → AreFirsts n each (firsts ++ None ∷ [])
  unfolding AreFirsts earliest_of
  firsts-grown each [] h =
      let none : take n each ≡ [] = ap (take n) h ∙ take_all n [] (omega arith) in
      (sym (ap earliest_of none), ap (drop n) h ∙ drop_all n [] (omega arith))
  firsts-grown each (f ∷ fs) h = (h.0, firsts-grown (drop n each) fs h.1)

  pub firsts-push : (each firsts : List (Option ℕ)) → AreFirsts n each firsts → length each < n * length firsts → AreFirsts n (each ++ None ∷ []) firsts
  unfolding AreFirsts
  firsts-push each [] h l = absurd (omega (arith, l))
  firsts-push each (f ∷ fs) h l =
      elim (nat_le n (length each)) as (λ b. nat_le n (length each) ≡ b → AreFirsts n (each ++ None ∷ []) (f ∷ fs)) [
        | true ↦ λ full. behind (leb-true n (length each) full) (firsts-push (drop n each) fs h.1)
        | false ↦ λ part. here (leb-false n (length each) part)
      ] refl
    where
      behind : n ≤ length each → (length (drop n each) < n * length fs → AreFirsts n (drop n each ++ None ∷ []) fs) → AreFirsts n (each ++ None ∷ []) (f ∷ fs)
      behind full rest =
          let cut = length-drop n each in
          let more : n * suc (length fs) ≡ n + n * length fs = omega arith in
          let room : length (drop n each) < n * length fs = omega (arith, cut, more, l, full) in
          (h.0 ∙ ap earliest_of (sym (take-append-le n each (None ∷ []) full)), subst (λ es. AreFirsts n es fs) (sym (drop-append-le n each (None ∷ []) full)) (rest room))

      here : length each < n → AreFirsts n (each ++ None ∷ []) (f ∷ fs)
      here part =
          let many = length-append each (None ∷ []) in
          let none : drop n each ≡ [] = drop_all n each (omega (arith, part)) in
          let none' : drop n (each ++ None ∷ []) ≡ [] = drop_all n (each ++ None ∷ []) (omega (arith, part, many)) in
          let whole : take n each ≡ each = take_all n each (omega (arith, part)) in
          let whole' : take n (each ++ None ∷ []) ≡ each ++ None ∷ [] = take_all n (each ++ None ∷ []) (omega (arith, part, many)) in
          (h.0 ∙ ap earliest_of whole ∙ sym (earliest_of-push each) ∙ ap earliest_of (sym whole'), subst (λ es. AreFirsts n es fs) (none ∙ sym none') h.1)

  -- the block of an index
  next_block : (b : ℕ) (each : List (Option ℕ)) → drop (b * n) (drop n each) ≡ drop (suc b * n) each
  next_block b each =
      let e : n + b * n ≡ suc b * n = omega arith in
      drop-drop (b * n) n each ∙ ap (λ k. drop k each) e

  pub first-at : (each firsts : List (Option ℕ)) (b : ℕ) → AreFirsts n each firsts → b < length firsts → get_or firsts b None ≡ earliest_of (take n (drop (b * n) each))
  unfolding AreFirsts
  first-at each [] b h l = absurd (omega (arith, l))
  first-at each (f ∷ fs) zero h l =
      let e : zero * n ≡ 0 = omega arith in
      h.0 ∙ ap (λ k. earliest_of (take n (drop k each))) (sym e)
  first-at each (f ∷ fs) (suc b) h l =
      let within : b < length fs = omega (arith, l) in
      first-at (drop n each) fs b h.1 within ∙ ap (λ w. earliest_of (take n w)) (next_block b each)

  pub firsts-set : (each firsts : List (Option ℕ)) (b r : ℕ) (v x : Option ℕ) → r < n → b * n + r < length each → AreFirsts n each firsts
      → x ≡ earliest_of (set (take n (drop (b * n) each)) r v) → AreFirsts n (set each (b * n + r) v) (set firsts b x)
  unfolding AreFirsts
  firsts-set each [] b r v x low within h is = absurd (let e = ap length h in omega (arith, e, within))
  firsts-set each (f ∷ fs) zero r v x low within h is =
      let e : zero * n ≡ 0 = omega arith in
      let at : zero * n + r ≡ r = omega arith in (
        is ∙ ap (λ k. earliest_of (set (take n (drop k each)) r v)) e ∙ ap earliest_of (sym (set-take n each r v)) ∙ ap (λ k. earliest_of (take n (set each k v))) (sym at),
        subst (λ es. AreFirsts n es fs) (sym (ap (λ k. drop n (set each k v)) at ∙ drop-set-lt n each r v low)) h.1,
      )
  firsts-set each (f ∷ fs) (suc b) r v x low within h is =
      let at : suc b * n + r ≡ n + (b * n + r) = omega arith in
      let cut = length-drop n each in
      let front : n ≤ suc b * n + r = omega (arith, at) in
      let rest : b * n + r < length (drop n each) = omega (arith, cut, within, at) in (
        h.0 ∙ ap earliest_of (sym (take-set-le n each (suc b * n + r) v front)),
        subst (λ es. AreFirsts n es (set fs b x)) (sym (ap (λ k. drop n (set each k v)) at ∙ drop-set-add n each (b * n + r) v))
            (firsts-set (drop n each) fs b r v x low rest h.1 (is ∙ ap (λ w. earliest_of (set (take n w) r v)) (sym (next_block b each)))),
      )

  -- an index that had another deadline before
  module _ (each : List (Option ℕ)) (place : ℕ) (old : Option ℕ) (some : 0 < n) (within : place < length each) where
    abbrev before : List (Option ℕ)
    before = set each place old

    abbrev window : List (Option ℕ)
    window = take n (drop (place / n * n) each)

    abbrev before_window : List (Option ℕ)
    before_window = take n (drop (place / n * n) before)

    abbrev now : Option ℕ
    now = get_or each place None

    back : set before place now ≡ each
    back = set-set each place old now ∙ set-get_or each place None

    whole : place / n * n + place % n ≡ place
    whole = div-add-mod' place n

    low : place % n < n
    low = mod_below place n some

    room : place < length before
    room = let e = length-set each place old in omega (arith, e, within)

    window-is : window ≡ set before_window (place % n) now
    window-is =
        ap (λ es. take n (drop (place / n * n) es)) (sym back)
        ∙ ap (λ k. take n (drop (place / n * n) (set before k now))) (sym whole)
        ∙ ap (take n) (drop-set-add (place / n * n) before (place % n) now)
        ∙ set-take n (drop (place / n * n) before) (place % n) now

    was-old : get_or before_window (place % n) None ≡ old
    was-old =
        get_or-take n (drop (place / n * n) before) (place % n) None low ∙ get_or-drop (place / n * n) before (place % n) None ∙ ap (λ k. get_or before k None) whole
        ∙ get_or-set_same each place old None within

    inside : place % n < length before_window
    inside =
        let a = length-take n (drop (place / n * n) before) in
        let b = length-drop (place / n * n) before in
        let e = whole in
        let r = room in
        let l = low in
        omega (arith, a, b, e, r, l)

    pub window-changed : (first : Option ℕ) → first ≡ earliest_of before_window → (first ≢ old) ⊎ (earlier old now ≡ now) → earlier first now ≡ earliest_of window
    window-changed first was how =
        ap (λ o. earlier o now) was
        ∙ sym (earliest_of-set before_window (place % n) now inside (elim how as
        (λ _. (earliest_of before_window ≢ get_or before_window (place % n) None) ⊎ (earlier (get_or before_window (place % n) None) now ≡ now)) [
          | inl h ↦ inl (λ e. h (was ∙ e ∙ was-old))
          | inr h ↦ inr (ap (λ o. earlier o now) was-old ∙ h)
        ]))
        ∙ ap earliest_of (sym window-is)

    module _ (firsts : List (Option ℕ)) (are : AreFirsts n before firsts) where
      pub block-within : place / n < length firsts
      block-within =
          let cover = firsts-cover before firsts are in
          let r = room in
          div_below place n (length firsts) some (omega (arith, cover, r))

      pub first-before : get_or firsts (place / n) None ≡ earliest_of before_window
      first-before = first-at before firsts (place / n) are block-within

      pub firsts-put : (x : Option ℕ) → x ≡ earliest_of window → AreFirsts n each (set firsts (place / n) x)
      firsts-put x is =
          let at : place / n * n + place % n < length before = let e = whole in let r = room in omega (arith, e, r) in
          subst (λ es. AreFirsts n es (set firsts (place / n) x)) (ap (λ k. set before k now) whole ∙ back)
          (firsts-set before firsts (place / n) (place % n) now x low at are (is ∙ ap earliest_of window-is))

-- what `==` says of two deadlines
pub same_deadline : (a b : Option ℕ) → option_eq nat_eq a b ≡ true → a ≡ b
same_deadline None None e = refl
same_deadline None (Some y) e = absurd (true≢false (sym e))
same_deadline (Some x) None e = absurd (true≢false (sym e))
same_deadline (Some x) (Some y) e = ap Some (eqb-true x y e)

pub other_deadline : (a b : Option ℕ) → not (option_eq nat_eq a b) ≡ true → a ≢ b
other_deadline a b e same = true≢false (sym e ∙ ap (λ o. not (option_eq nat_eq o b)) same ∙ itself b)
  where
    itself : (b : Option ℕ) → not (option_eq nat_eq b b) ≡ false
    itself None = refl
    itself (Some y) = ap not (eq-eqb y y refl)
