-- Numbers of one source, joined with those that are there.
use Rattle.std.proofs.Common.{◌≡◌, ℕ, zero, suc, ◌+◌, ◌-◌, ◌<◌, ◌≤◌, ◌==◌, Bool, true, false, not, ◌&&◌, ◌||◌, List, [], ◌∷◌, ◌++◌, slice_get, Some, refl, sym, ap, ◌∙◌, arith}
use Rattle.std.specs.FinSet as set
use Rattle.std.specs.List.{list_any}
use Rattle.std.specs.Map.{values_of}
use Rattle.std.specs.Ordering.{nat_cmp, eq_by_cmp}
use Rattle.std.specs.Cmp.{nat_cmp_total, unsigned_tied}
use Rattle.std.proofs.lemmas.Bool.{eqb-true}
use Rattle.std.proofs.lemmas.Bool.Decides.{nat_tests}
use Rattle.indexmap.specs.IndexMap.{set_value_at}
use Rattle.cfdp_header.specs.declared.value.TransactionId.{TransactionId}
use Rattle.cfdp_header.proofs.Ids.{id_total}
use Rattle.cfdp_extents.specs.Offsets.{range, is_within}
use Rattle.cfdp_extents.proofs.CallerLemmas.{contains-range, same_offsets}
use Rattle.cfdp_extents.specs.Forgotten.{NumberSet, ids_of, is_of, greatest_number, with_greatest, below_greatest}
use Rattle.cfdp_extents.proofs.Sets.{contains-ids, same_ids}

-- ---- numbers
in-none : (start end k : ℕ) → end ≤ start → is_within start end k ≡ false
in-none start end k le = grind (arith, nat_tests)

or-none : (a b : Bool) → b ≡ false → (a || b) ≡ a
or-none true b is = refl
or-none false b is = is

-- an empty range adds none
pub union-none : (s : NumberSet) (start end : ℕ) → end ≤ start → s ≡ set.union s (range start end)
union-none s start end le = same_offsets _ _ (λ k.
    sym (or-none (set.contains s k) _ (contains-range start end k ∙ in-none start end k le))
    ∙ sym (set.contains-union nat_cmp_total s (range start end) k))

-- a range beside the greatest number
pub union-other : (b : Bool) (s t : NumberSet) → with_greatest b (set.union s t) ≡ set.union (with_greatest b s) t
union-other true s t = same_offsets _ _ (λ k.
    set.contains-insert nat_cmp_total (set.union s t) greatest_number k
    ∙ ap (λ v. eq_by_cmp nat_cmp k greatest_number || v) (set.contains-union nat_cmp_total s t k)
    ∙ or-assoc (eq_by_cmp nat_cmp k greatest_number) (set.contains s k) (set.contains t k)
    ∙ ap (λ v. v || set.contains t k) (sym (set.contains-insert nat_cmp_total s greatest_number k))
    ∙ sym (set.contains-union nat_cmp_total (set.insert s greatest_number) t k))
  where
    or-assoc : (a b c : Bool) → (a || (b || c)) ≡ ((a || b) || c)
    or-assoc true b c = refl
    or-assoc false b c = refl
union-other false s t = refl

within-end : (start end k : ℕ) → is_within start end k ≡ true → k < end
within-end start end k is = grind (arith, nat_tests)

-- ranges end before the greatest number
pub below-range : (s : NumberSet) (start end : ℕ) → end ≤ greatest_number → ((k : ℕ) → set.contains s k ≡ true → k < greatest_number)
    → (k : ℕ) → set.contains (set.union s (range start end)) k ≡ true → k < greatest_number
below-range s start end le below k held = by (set.contains s k) refl
  where
    by : (b : Bool) → set.contains s k ≡ b → k < greatest_number
    by true is = below k is
    by false is =
        let there : is_within start end k ≡ true = sym (contains-range start end k) ∙ sym (set.contains-union nat_cmp_total s (range start end) k ∙ ap (λ v. v || set.contains (range start end) k) is) ∙ held in
        let low = within-end start end k there in
        omega (arith, low, le)

-- the ranges without the greatest number
pub without-greatest : (b : Bool) (s : NumberSet) → ((k : ℕ) → set.contains s k ≡ true → k < greatest_number) → s ≡ below_greatest (with_greatest b s)
without-greatest b s below = same_offsets _ _ (λ k. sym (set.contains-remove nat_cmp_total (with_greatest b s) greatest_number k ∙ at_each b k (eq_by_cmp nat_cmp k greatest_number) refl))
  where
    unheld : (k : ℕ) (t : Bool) → k ≡ greatest_number → set.contains s k ≡ t → false ≡ set.contains s k
    unheld k true is held = let low = below k held in absurd (omega (arith, is, low))
    unheld k false is held = sym held

    at_each : (b : Bool) (k : ℕ) (t : Bool) → eq_by_cmp nat_cmp k greatest_number ≡ t → (not (eq_by_cmp nat_cmp k greatest_number) && set.contains (with_greatest b s) k) ≡ set.contains s k
    at_each b k true is =
        ap (λ v. not v && set.contains (with_greatest b s) k) is
        ∙ unheld k (set.contains s k) (eqb-true k greatest_number (sym (unsigned_tied k greatest_number) ∙ is)) refl
    at_each true k false is =
        ap (λ v. not v && set.contains (set.insert s greatest_number) k) is
        ∙ set.contains-insert nat_cmp_total s greatest_number k
        ∙ ap (λ v. v || set.contains s k) is
    at_each false k false is = ap (λ v. not v && set.contains s k) is

-- ---- transactions
spread : (a b c r : Bool) → ((a && (b || c)) || r) ≡ ((a && c) || ((a && b) || r))
spread true true true r = refl
spread true true false r = refl
spread true false c r = refl
spread false b c r = refl

or-swap : (a b c : Bool) → (a || (b || c)) ≡ (b || (a || c))
or-swap true true c = refl
or-swap true false c = refl
or-swap false b c = refl

-- numbers more of the source at a place
pub any-join : (q : TransactionId) (source : ℕ) (t : NumberSet) (es : List (ℕ × NumberSet)) (place : ℕ) (s : NumberSet) → slice_get es place ≡ Some (source, s)
    → list_any (is_of q) (set_value_at es place (set.union s t)) ≡ (is_of q (source, t) || list_any (is_of q) es)
any-join q source t [] place s at = absurd cc
any-join q source t (e ∷ es) zero s at =
    let key : e.0 ≡ source = cc in
    let value : e.1 ≡ s = cc in
    let more : set.contains (set.union s t) q.number ≡ (set.contains s q.number || set.contains t q.number) = set.contains-union nat_cmp_total s t q.number in
    (λ i. ((q.source == key i) && more i) || list_any (is_of q) es)
    ∙ spread (q.source == source) (set.contains s q.number) (set.contains t q.number) (list_any (is_of q) es)
    ∙ (λ i. is_of q (source, t) || (((q.source == sym key i) && set.contains (sym value i) q.number) || list_any (is_of q) es))
any-join q source t (e ∷ es) (suc n) s at =
    ap (λ b. is_of q e || b) (any-join q source t es n s at) ∙ or-swap (is_of q e) (is_of q (source, t)) (list_any (is_of q) es)

-- a source more, with numbers
pub any-append : (q : TransactionId) (source : ℕ) (t : NumberSet) (es : List (ℕ × NumberSet)) → list_any (is_of q) (es ++ (source, set.union set.empty t) ∷ []) ≡ (is_of q (source, t) || list_any (is_of q) es)
any-append q source t [] =
    let same : set.contains (set.union set.empty t) q.number ≡ set.contains t q.number
    = set.contains-union nat_cmp_total set.empty t q.number ∙ ap (λ b. b || set.contains t q.number) (set.contains-empty nat_cmp q.number) in
    ap (λ b. ((q.source == source) && b) || false) same
any-append q source t (e ∷ es) = ap (λ b. is_of q e || b) (any-append q source t es) ∙ or-swap (is_of q e) (is_of q (source, t)) (list_any (is_of q) es)

-- so much is among them once these numbers are
pub ids-joined : (es fs : List (ℕ × NumberSet)) (source : ℕ) (t : NumberSet) → ((q : TransactionId) → list_any (is_of q) fs ≡ (is_of q (source, t) || list_any (is_of q) es))
    → ids_of fs ≡ set.union (ids_of es) (ids_of ((source, t) ∷ []))
ids-joined es fs source t more = same_ids _ _ (λ q.
    contains-ids fs q ∙ more q
    ∙ turned (is_of q (source, t)) (list_any (is_of q) es)
    ∙ (λ i. sym (contains-ids es q) i || sym (contains-ids ((source, t) ∷ []) q) i)
    ∙ sym (set.contains-union id_total (ids_of es) (ids_of ((source, t) ∷ [])) q))
  where
    turned : (a b : Bool) → (a || b) ≡ (b || (a || false))
    turned true true = refl
    turned true false = refl
    turned false true = refl
    turned false false = refl

-- a value put where it stands
pub same-value : (es : List (ℕ × NumberSet)) (place : ℕ) (s : NumberSet) → slice_get (values_of es) place ≡ Some s → set_value_at es place s ≡ es
same-value [] place s at = absurd cc
same-value (e ∷ es) zero s at = let is : e.1 ≡ s = cc in λ i. (e.0, sym is i) ∷ es
same-value (e ∷ es) (suc n) s at = ap (λ l. e ∷ l) (same-value es n s at)
