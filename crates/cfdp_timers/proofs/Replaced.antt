-- An entry whose deadlines are replaced, and one that is added.
use Rattle.std.proofs.Common.{◌≡◌, ℕ, zero, suc, ◌<◌, List, [], ◌∷◌, ◌++◌, length, set, get_or, slice_get, refl, sym, ap, ◌∙◌, arith, Bool, true, false, cond, Some, None}
use Rattle.std.specs.Cmp.{Equal-is}
use Rattle.std.specs.List.{IsDistinct, position}
use Rattle.std.specs.Map.{keys_of, lookup}
use Rattle.std.specs.Ordering.{eq_by_cmp}
use Rattle.std.proofs.lemmas.List.{length-map, get_or-map}
use Rattle.std.proofs.lemmas.List.Quantifiers.{position-Some}
use Rattle.std.proofs.lemmas.Map.{lookup-none}
use Rattle.std.proofs.lemmas.Map.Entries.{none_past_head, lookup_from_place, length-keys_of}
use Rattle.std.proofs.lemmas.Map.Keys.{IsDistinct-tail}
use Rattle.std.proofs.lemmas.Option.{same_Some, none-some, slice_get-get_or}
use Rattle.indexmap.specs.IndexMap.{set_value_at}
use Rattle.cfdp_header.specs.declared.value.TransactionId.{TransactionId}
use Rattle.cfdp_header.specs.Ids.{id_cmp}
use Rattle.cfdp_header.specs.contracts.value.TransactionIdPartialEq.TheImpl.{eq-value}
use Rattle.cfdp_header.proofs.Ids.{id_laws, id_cmp-IsAntisymmetric, id_eq}
use Rattle.cfdp_timers.specs.declared.deadlines.Deadlines.{Deadlines}
use Rattle.cfdp_timers.specs.Entries.{no_deadlines, deadlines_in, other_of, others_of}

-- ---- any map
module _ {K X : Type 0} where
  pub keys-replaced : (es : List (K × X)) (i : ℕ) (w : X) → keys_of (set_value_at es i w) ≡ keys_of es
  keys-replaced [] i w = refl
  keys-replaced (e ∷ es) zero w = refl
  keys-replaced (e ∷ es) (suc i) w = ap (λ l. e.0 ∷ l) (keys-replaced es i w)

-- the entry at the index that was found is the one that was looked for
pub found-entry : (es : List (TransactionId × Deadlines)) (id : TransactionId) (place : ℕ) → position ((eq-value).it id) (keys_of es) ≡ Some place → slice_get es place
    ≡ Some (id, deadlines_in es place)
found-entry es id place is =
    let none : TransactionId × Deadlines = (id, no_deadlines) in
    let found = position-Some ((eq-value).it id) (keys_of es) place id is in
    let many : length (keys_of es) ≡ length es = length-keys_of es in
    let below : place < length es = let l = found.0 in omega (arith, l, many) in
    let passes : (eq-value).it id (get_or es place none).0 ≡ true = ap ((eq-value).it id) (sym (get_or-map (λ (e : TransactionId × Deadlines). e.0) es place none id below)) ∙ found.1 in
    let key : id ≡ (get_or es place none).0 = id_cmp-IsAntisymmetric id _ ((Equal-is (id_cmp id (get_or es place none).0)).0 (sym (id_eq id (get_or es place none).0) ∙ passes)) in
    let value : (get_or es place none).1 ≡ deadlines_in es place = sym (get_or-map (λ (e : TransactionId × Deadlines). e.1) es place none no_deadlines below) in
    slice_get-get_or es place none below ∙ (λ i. Some (sym key i, value i))

-- what is found once the value at an index is another one
pub lookup-replaced : {X : Type 0} (es : List (TransactionId × X)) (i : ℕ) (k : TransactionId) (v w : X) (q : TransactionId) → IsDistinct (eq_by_cmp id_cmp) (keys_of es)
    → slice_get es i ≡ Some (k, v) → lookup (eq_by_cmp id_cmp q) (set_value_at es i w) ≡ cond (eq_by_cmp id_cmp k q) (Some w) (lookup (eq_by_cmp id_cmp q) es)
lookup-replaced [] i k v w q apart at = absurd (none-some (k, v) at)
lookup-replaced {X} (e ∷ es) zero k v w q apart at =
    let key : e.0 ≡ k = ap (λ p. p.0) (same_Some e (k, v) at) in
    let tie : eq_by_cmp id_cmp k q ≡ eq_by_cmp id_cmp q e.0 = id_laws.symm k q ∙ ap (eq_by_cmp id_cmp q) (sym key) in
    twice (eq_by_cmp id_cmp q e.0) ∙ ap (λ b. cond b (Some w) (cond (eq_by_cmp id_cmp q e.0) (Some e.1) (lookup (eq_by_cmp id_cmp q) es))) (sym tie)
  where
    twice : (b : Bool) → cond b (Some w) (lookup (eq_by_cmp id_cmp q) es) ≡ cond b (Some w) (cond b (Some e.1) (lookup (eq_by_cmp id_cmp q) es))
    twice true = refl
    twice false = refl
lookup-replaced {X} (e ∷ es) (suc i) k v w q apart at =
    let behind = IsDistinct-tail (eq_by_cmp id_cmp) e.0 (keys_of es) apart in
    ap (λ r. cond (eq_by_cmp id_cmp q e.0) (Some e.1) r) (lookup-replaced es i k v w q behind at)
    ∙ elim (eq_by_cmp id_cmp q e.0) as (λ b. eq_by_cmp id_cmp q e.0 ≡ b
    → cond b (Some e.1) (cond (eq_by_cmp id_cmp k q) (Some w) (lookup (eq_by_cmp id_cmp q) es)) ≡ cond (eq_by_cmp id_cmp k q) (Some w) (cond b (Some e.1) (lookup (eq_by_cmp id_cmp q) es))) [
      | true ↦ λ tie. ap (λ b. cond b (Some w) (Some e.1)) (sym (differ tie (lookup_from_place id_laws es i k v behind at)))
      | false ↦ λ tie. refl
    ] refl
  where
    differ : eq_by_cmp id_cmp q e.0 ≡ true → lookup (eq_by_cmp id_cmp k) es ≡ Some v → eq_by_cmp id_cmp k q ≡ false
    differ tie found = elim (eq_by_cmp id_cmp k q) as (λ b. eq_by_cmp id_cmp k q ≡ b → b ≡ false) [
      | true ↦ λ same.
          let key : k ≡ q = id_cmp-IsAntisymmetric k q ((Equal-is (id_cmp k q)).0 same) in
          let head : eq_by_cmp id_cmp k e.0 ≡ true = ap (λ x. eq_by_cmp id_cmp x e.0) key ∙ tie in
          absurd (none-some v (sym (lookup-none (eq_by_cmp id_cmp k) es (none_past_head id_laws k e es apart head)) ∙ found))
      | false ↦ λ same. refl
    ] refl

-- ---- the earliest deadlines beside the entries
pub others_of-nil : others_of [] ≡ []
unfolding others_of
others_of-nil = refl

pub others_of-push : (es : List (TransactionId × Deadlines)) (id : TransactionId) → others_of (es ++ (id, no_deadlines) ∷ []) ≡ others_of es ++ None ∷ []
unfolding others_of
others_of-push [] id = refl
others_of-push (e ∷ es) id = ap (λ l. other_of e.1 ∷ l) (others_of-push es id)

pub others_of-replaced : (es : List (TransactionId × Deadlines)) (i : ℕ) (w : Deadlines) → others_of (set_value_at es i w) ≡ set (others_of es) i (other_of w)
unfolding others_of
others_of-replaced [] i w = refl
others_of-replaced (e ∷ es) zero w = refl
others_of-replaced (e ∷ es) (suc i) w = ap (λ l. other_of e.1 ∷ l) (others_of-replaced es i w)

pub others_of-at : (es : List (TransactionId × Deadlines)) (i : ℕ) (k : TransactionId) (d : Deadlines) → slice_get es i ≡ Some (k, d) → get_or (others_of es) i None ≡ other_of d
unfolding others_of
others_of-at [] i k d h = absurd (none-some (k, d) h)
others_of-at (e ∷ es) zero k d h = ap (λ p. other_of p.1) (same_Some e (k, d) h)
others_of-at (e ∷ es) (suc i) k d h = others_of-at es i k d h

pub length-others_of : (es : List (TransactionId × Deadlines)) → length (others_of es) ≡ length es
unfolding others_of
length-others_of es = length-map es (λ e. other_of e.1)
