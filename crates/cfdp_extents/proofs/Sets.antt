-- Transactions by the numbers of each source.
use Rattle.std.proofs.Common.{eqb, ◌≡◌, ℕ, zero, suc, ◌<◌, ◌==◌, Bool, true, false, cond, ◌&&◌, ◌||◌, List, [], ◌∷◌, ◌++◌, length, slice_get, get_or, position, None, Some, refl, sym, ap, subst, ◌∙◌, arith, true≢false}
use Rattle.std.specs.FinSet as set
use Rattle.std.specs.List.{IsDistinct, AllByRecursion, list_any}
use Rattle.std.specs.Map.{keys_of, lookup}
use Rattle.std.specs.Ordering.{nat_cmp, eq_by_cmp}
use Rattle.std.specs.Cmp.{nat_cmp_total, unsigned_tied}
use Rattle.std.proofs.lemmas.Bool.{eqb-true, eq-eqb}
use Rattle.std.proofs.lemmas.List.{get_or-map}
use Rattle.std.proofs.lemmas.List.Folds.{list_any-append}
use Rattle.std.proofs.lemmas.List.Quantifiers.{position-Some}
use Rattle.std.proofs.lemmas.Map.Entries.{length-keys_of}
use Rattle.std.proofs.lemmas.Option.{slice_get-get_or}
use Rattle.indexmap.specs.IndexMap.{set_value_at}
use Rattle.cfdp_header.specs.declared.value.TransactionId.{TransactionId}
use Rattle.cfdp_header.specs.Ids.{id_cmp, same_id}
use Rattle.cfdp_header.proofs.Ids.{id_total, id_cmp-IsAntisymmetric, id_eq}
use Rattle.cfdp_extents.specs.Forgotten.{NumberSet, IdSet, ids_from, all_ids, ids_of, numbers_at, is_of}

-- ---- what is among them
and-nothing : (a : Bool) → (a && false) ≡ false
and-nothing true = refl
and-nothing false = refl

and-or : (a b c : Bool) → ((a && b) || (a && c)) ≡ (a && (b || c))
and-or true b c = refl
and-or false b c = refl

one_id : (q : TransactionId) (source n : ℕ) → eq_by_cmp id_cmp q (record { source = source; number = n }) ≡ ((q.source == source) && eq_by_cmp nat_cmp q.number n)
one_id q source n = sym (id_eq q (record { source = source; number = n })) ∙ ap (λ b. (q.source == source) && b) (sym (unsigned_tied q.number n))

any-from : (q : TransactionId) (source : ℕ) (ns : List ℕ) → list_any (eq_by_cmp id_cmp q) (ids_from source ns) ≡ ((q.source == source) && list_any (eq_by_cmp nat_cmp q.number) ns)
any-from q source [] = sym (and-nothing (q.source == source))
any-from q source (n ∷ ns) =
    (λ i. one_id q source n i || any-from q source ns i)
    ∙ and-or (q.source == source) (eq_by_cmp nat_cmp q.number n) (list_any (eq_by_cmp nat_cmp q.number) ns)

any-all : (q : TransactionId) (es : List (ℕ × NumberSet)) → list_any (eq_by_cmp id_cmp q) (all_ids es) ≡ list_any (is_of q) es
any-all q [] = refl
any-all q (e ∷ es) =
    list_any-append (eq_by_cmp id_cmp q) (ids_from e.0 (set.items e.1)) (all_ids es)
    ∙ (λ i. (any-from q e.0 (set.items e.1) ∙ ap (λ b. (q.source == e.0) && b) (sym (set.contains-items e.1 q.number))) i || any-all q es i)

pub contains-ids : (es : List (ℕ × NumberSet)) (q : TransactionId) → set.contains (ids_of es) q ≡ list_any (is_of q) es
unfolding ids_of
contains-ids es q = set.contains-from_list id_total (all_ids es) q ∙ any-all q es

pub same_ids : (a b : IdSet) → ((q : TransactionId) → set.contains a q ≡ set.contains b q) → a ≡ b
same_ids a b h = set.same_set id_total id_cmp-IsAntisymmetric a b h

pub ids-none : ids_of [] ≡ set.empty
unfolding ids_of
ids-none = refl

-- ---- by the place of a source
-- a source that no entry has
none-of : (q : TransactionId) (source : ℕ) (es : List (ℕ × NumberSet)) → (q.source == source) ≡ true → AllByRecursion (λ (y : ℕ). (source == y) ≡ false) (keys_of es) → list_any (is_of q) es ≡ false
none-of q source [] same apart = refl
none-of q source (e ∷ es) same apart =
    let here : (q.source == e.0) ≡ false = ap (λ s. s == e.0) (eqb-true q.source source same) ∙ apart.0 in
    (λ i. (here i && set.contains e.1 q.number) || none-of q source es same apart.1 i)

or-nothing : (a : Bool) → (a || false) ≡ a
or-nothing true = refl
or-nothing false = refl

or-swap : (a b c : Bool) → (a || (b || c)) ≡ (b || (a || c))
or-swap true true c = refl
or-swap true false c = refl
or-swap false b c = refl

eqb-symm : (a b : ℕ) → (a == b) ≡ false → (b == a) ≡ false
eqb-symm a b apart = by (b == a) refl
  where
    by : (t : Bool) → (b == a) ≡ t → (b == a) ≡ false
    by true is = absurd (true≢false (sym (eq-eqb a b (sym (eqb-true b a is))) ∙ apart))
    by false is = is

key-at : (P : ℕ → Type 0) (es : List (ℕ × NumberSet)) (place k : ℕ) (s : NumberSet) → AllByRecursion P (keys_of es) → slice_get es place ≡ Some (k, s) → P k
key-at P [] place k s all at = absurd cc
key-at P (e ∷ es) zero k s all at = let is : e.0 ≡ k = cc in subst P is all.0
key-at P (e ∷ es) (suc n) k s all at = key-at P es n k s all.1 at

pub any-at : (q : TransactionId) (es : List (ℕ × NumberSet)) (place : ℕ) (s : NumberSet) → IsDistinct eqb (keys_of es) → slice_get es place ≡ Some (q.source, s) → list_any (is_of q) es ≡ set.contains s q.number
unfolding IsDistinct
any-at q [] place s apart at = absurd cc
any-at q (e ∷ es) zero s apart at =
    let key : e.0 ≡ q.source = cc in
    let value : e.1 ≡ s = cc in
    let same : (q.source == e.0) ≡ true = eq-eqb q.source e.0 (sym key) in
    (λ i. (same i && set.contains (value i) q.number) || none-of q e.0 es same apart.0 i) ∙ or-nothing (set.contains s q.number)
any-at q (e ∷ es) (suc n) s apart at =
    let other : (q.source == e.0) ≡ false = eqb-symm e.0 q.source (key-at (λ y. (e.0 == y) ≡ false) es n q.source s apart.0 at) in
    ap (λ b. (b && set.contains e.1 q.number) || list_any (is_of q) es) other ∙ any-at q es n s apart.1 at

-- if no entry has its source, a transaction is not among them
pub any-nowhere : (q : TransactionId) (es : List (ℕ × NumberSet)) → lookup (eqb q.source) es ≡ None → list_any (is_of q) es ≡ false
any-nowhere q [] none = refl
any-nowhere q (e ∷ es) none =
    elim (q.source == e.0) as (λ b. cond b (Some e.1) (lookup (eqb q.source) es) ≡ None → ((b && set.contains e.1 q.number) || list_any (is_of q) es) ≡ false) [
      | true ↦ λ h. absurd cc
      | false ↦ λ h. any-nowhere q es h
    ] none

-- ---- one more
spread : (a b c r : Bool) → ((a && (b || c)) || r) ≡ ((a && b) || ((a && c) || r))
spread true true c r = refl
spread true false c r = refl
spread false b c r = refl

-- one more number of the source at an index
pub any-set : (q id : TransactionId) (es : List (ℕ × NumberSet)) (place : ℕ) (s : NumberSet) → slice_get es place ≡ Some (id.source, s)
    → list_any (is_of q) (set_value_at es place (set.insert s id.number)) ≡ (same_id q id || list_any (is_of q) es)
any-set q id [] place s at = absurd cc
any-set q id (e ∷ es) zero s at =
    let key : e.0 ≡ id.source = cc in
    let value : e.1 ≡ s = cc in
    let more : set.contains (set.insert s id.number) q.number ≡ ((q.number == id.number) || set.contains s q.number)
    = set.contains-insert nat_cmp_total s id.number q.number ∙ ap (λ b. b || set.contains s q.number) (unsigned_tied q.number id.number) in
    (λ i. ((q.source == key i) && more i) || list_any (is_of q) es)
    ∙ spread (q.source == id.source) (q.number == id.number) (set.contains s q.number) (list_any (is_of q) es)
    ∙ (λ i. same_id q id || (((q.source == sym key i) && set.contains (sym value i) q.number) || list_any (is_of q) es))
any-set q id (e ∷ es) (suc n) s at =
    ap (λ b. is_of q e || b) (any-set q id es n s at) ∙ or-swap (is_of q e) (same_id q id) (list_any (is_of q) es)

-- one more source, with one number
pub any-push : (q id : TransactionId) (es : List (ℕ × NumberSet)) → list_any (is_of q) (es ++ (id.source, set.insert set.empty id.number) ∷ []) ≡ (same_id q id || list_any (is_of q) es)
any-push q id [] =
    let one : set.contains (set.insert set.empty id.number) q.number ≡ (q.number == id.number)
    = set.contains-insert nat_cmp_total set.empty id.number q.number ∙ (λ i. unsigned_tied q.number id.number i || set.contains-empty nat_cmp q.number i) ∙ or-nothing (q.number == id.number) in
    ap (λ b. ((q.source == id.source) && b) || false) one
any-push q id (e ∷ es) = ap (λ b. is_of q e || b) (any-push q id es) ∙ or-swap (is_of q e) (same_id q id) (list_any (is_of q) es)

-- so much is among them once one more is
pub ids-more : (es fs : List (ℕ × NumberSet)) (id : TransactionId) → ((q : TransactionId) → list_any (is_of q) fs ≡ (same_id q id || list_any (is_of q) es)) → ids_of fs ≡ set.insert (ids_of es) id
ids-more es fs id more = same_ids _ _ (λ q.
    contains-ids fs q ∙ more q
    ∙ (λ i. id_eq q id i || sym (contains-ids es q) i)
    ∙ sym (set.contains-insert id_total (ids_of es) id q))

-- ---- where a source is
pub position-at : (k : ℕ) (es : List (ℕ × NumberSet)) (place : ℕ) → position (eqb k) (keys_of es) ≡ Some place → slice_get es place ≡ Some (k, numbers_at es place)
position-at k es place is =
    let none : ℕ × NumberSet = (k, set.empty) in
    let found = position-Some (eqb k) (keys_of es) place k is in
    let many : length (keys_of es) ≡ length es = length-keys_of es in
    let below : place < length es = let l = found.0 in omega (arith, l, many) in
    let passes : eqb k (get_or es place none).0 ≡ true = ap (eqb k) (sym (get_or-map (λ (e : ℕ × NumberSet). e.0) es place none k below)) ∙ found.1 in
    let value : (get_or es place none).1 ≡ numbers_at es place = sym (get_or-map (λ (e : ℕ × NumberSet). e.1) es place none set.empty below) in
    slice_get-get_or es place none below ∙ (λ i. Some (sym (eqb-true k (get_or es place none).0 passes) i, value i))
