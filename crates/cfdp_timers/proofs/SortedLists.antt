-- Lists in strict order.
use Rattle.std.proofs.Common.{◌≡◌, suc, ◌+◌, List, [], ◌∷◌, map, get_or, refl, sym, ap, subst, ◌∙◌, T, Bool, true, false, cond, true≢false, ◌&&◌, ◌||◌, arith, Option, Some, None, is_some, is_lt}
use Rattle.std.specs.declared.cmp.Ordering.{Ordering}
use Rattle.std.specs.declared.cmp.Ordering.TheVariants.{Less, Equal, Greater}
use Rattle.std.specs.Cmp.{IsTotalOrder}
use Rattle.std.specs.List.{list_any, IsDistinct, AllByRecursion, All}
use Rattle.std.specs.List.Sorted.{IsStrictlySortedBy, IsSorted}
use Rattle.std.specs.Ordering.{eq_by_cmp, is_eq, ordering_reverse}
use Rattle.std.specs.FinMap.Entries.{below_all, same_entries, find, is_sorted}
use Rattle.std.proofs.lemmas.List.Elements.{recursion_from_All, All-from_recursion}
use Rattle.std.proofs.lemmas.List.Sorted.{sorted_far, ranks_by}
use Rattle.std.proofs.lemmas.Map.Keys.{IsDistinct-tail, IsDistinct-head}

both : (a b : Bool) → a ≡ true → b ≡ true → (a && b) ≡ true
both true b p q = q
both false b p q = absurd (true≢false (sym p))

mark : {K : Type 0} → List K → List (K × Unit {0})
mark ks = map (λ k. (k, tt)) ks

keys-mark : {K : Type 0} (ks : List K) → map (λ (e : K × Unit {0}). e.0) (mark ks) ≡ ks
unfolding mark
keys-mark [] = refl
keys-mark (k ∷ ks) = ap (λ l. k ∷ l) (keys-mark ks)

found : {K : Type 0} (R : K → K → Ordering) (q : K) (ks : List K) → is_some (find R q (mark ks)) ≡ list_any (eq_by_cmp R q) ks
unfolding mark
found R q [] = refl
found R q (k ∷ ks) = elim (eq_by_cmp R q k) as (λ b. is_some (cond b (Some tt) (find R q (mark ks))) ≡ (b || list_any (eq_by_cmp R q) ks)) [ true ↦ refl | false ↦ found R q ks ]

alike : (x y : Option (Unit {0})) → is_some x ≡ is_some y → x ≡ y
alike None None e = refl
alike None (Some y) e = absurd (true≢false (sym e))
alike (Some x) None e = absurd (true≢false e)
alike (Some x) (Some y) e = refl

below : {K : Type 0} (R : K → K → Ordering) (k : K) (ks : List K) → AllByRecursion (λ y. R k y ≡ Less) ks → below_all R k (mark ks) ≡ true
unfolding mark
below R k [] h = refl
below R k (y ∷ ks) h = both (is_lt (R k y)) (below_all R k (mark ks)) (ap is_lt h.0) (below R k ks h.1)

rises : {K : Type 0} (R : K → K → Ordering) (ks : List K) → IsStrictlySortedBy R ks → is_sorted R (mark ks) ≡ true
unfolding mark IsStrictlySortedBy
rises R [] h = refl
rises R (k ∷ ks) h = both (below_all R k (mark ks)) (is_sorted R (mark ks)) (below R k ks h.0) (rises R ks h.1)

-- two lists in order that have the same elements are one
pub same_list : {K : Type 0} {R : K → K → Ordering} → IsTotalOrder R → ((x y : K) → R x y ≡ Equal → x ≡ y) → (xs ys : List K)
    → IsStrictlySortedBy R xs → IsStrictlySortedBy R ys → ((q : K) → list_any (eq_by_cmp R q) xs ≡ list_any (eq_by_cmp R q) ys) → xs ≡ ys
same_list {K} {R} o same xs ys g h is =
    sym (keys-mark xs)
    ∙ ap (λ l. map (λ (e : K × Unit {0}). e.0) l) (same_entries R o same (mark xs) (mark ys) (subst T (sym (rises R xs g)) tt) (subst T (sym (rises R ys h)) tt)
    (λ q. alike _ _ (found R q xs ∙ is q ∙ sym (found R q ys))))
    ∙ keys-mark ys

by_tests : (r : Ordering) → is_lt (ordering_reverse r) ≡ false → is_eq r ≡ false → r ≡ Less
by_tests Less p q = refl
by_tests Equal p q = absurd (true≢false q)
by_tests Greater p q = absurd (true≢false p)

tail_sorted : {K : Type 0} (R : K → K → Ordering) (x : K) (xs : List K) → IsSorted R (x ∷ xs) → IsSorted R xs
tail_sorted R x xs h = λ k d low high.
    let next : suc k + 1 ≡ suc (k + 1) = omega arith in
    subst (λ i. is_lt (R (get_or (x ∷ xs) i d) (get_or xs k d)) ≡ false) next (h (suc k) d (omega arith) (omega arith))

-- a list in order with no two elements that tie is in strict order
pub strictly : {K : Type 0} {R : K → K → Ordering} → IsTotalOrder R → (xs : List K) → IsSorted R xs → IsDistinct (eq_by_cmp R) xs → IsStrictlySortedBy R xs
unfolding IsStrictlySortedBy
strictly o [] up apart = tt
strictly {K} {R} o (x ∷ xs) up apart =
    let far = sorted_far (λ a b. is_lt (R a b)) (ranks_by o (λ k. k)) (x ∷ xs) up in
    let others : All (λ y. eq_by_cmp R x y ≡ false) xs = All-from_recursion _ xs (IsDistinct-head (eq_by_cmp R) x xs apart) in (
      recursion_from_All _ xs (λ k d l. by_tests (R x (get_or xs k d)) (ap is_lt (sym (o.antisymm (get_or xs k d) x)) ∙ far 0 (suc k) d (omega arith) (omega arith)) (others k d l)),
      strictly o xs (tail_sorted R x xs up) (IsDistinct-tail (eq_by_cmp R) x xs apart),
    )
