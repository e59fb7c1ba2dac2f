-- Exported: what the layer above cites: a step changes the record of one transaction and no other,
-- seen by look-ups.
use Rattle.std.proofs.Common.{arith, ◌<◌, ◌+◌, length, get_or, drop, position, ◌≡◌, ℕ, zero, suc, Bool, true, false, cond, ◌&&◌, ◌==◌, List, [], ◌∷◌, ◌++◌, slice_get, Option, Some, None, refl, sym, ap, ◌∙◌}
use Rattle.std.specs.List.{IsDistinct}
use Rattle.std.specs.Map.{keys_of}
use Rattle.std.proofs.lemmas.Bool.{eqb-true}
use Rattle.std.proofs.lemmas.Map.Keys.{IsDistinct-head, IsDistinct-tail}
use Rattle.indexmap.specs.IndexMap.{set_value_at}
use Rattle.cfdp_header.specs.declared.value.TransactionId.{TransactionId}
use Rattle.cfdp_header.specs.Ids.{same_id}
use Rattle.cfdp_entity.specs.Seen.{Seen}
use Rattle.std.specs.List.{position_or_len}
use Rattle.std.specs.Option.{option_or, option_map}
use Rattle.std.proofs.lemmas.List.{get_or-drop}
use Rattle.std.proofs.lemmas.List.Quantifiers.{position-Some}
use Rattle.std.proofs.lemmas.List.Sums.{fails_before_first}
use Rattle.cfdp_entity.proofs.Places.{position-none}
use Rattle.cfdp_entity.specs.Table.{Entry, record_of, next_due, has_due}
use Rattle.cfdp_entity.proofs.Entries.{same_id-itself, at_place}

both : (p q : Bool) → (p && q) ≡ true → (p ≡ true) × (q ≡ true)
both true true e = (refl, refl)
both true false e = absurd (cc)
both false q e = absurd (cc)

pub same_id-true : (a b : TransactionId) → same_id a b ≡ true → a ≡ b
same_id-true a b e =
    let p = both (a.source == b.source) (a.number == b.number) e in
    let s : a.source ≡ b.source = eqb-true a.source b.source p.0 in
    let n : a.number ≡ b.number = eqb-true a.number b.number p.1 in
    λ i. record { source = s i; number = n i }

pub same_id-symm : (a b : TransactionId) → same_id a b ≡ false → same_id b a ≡ false
same_id-symm a b e = elim (same_id b a) as (λ t. same_id b a ≡ t → t ≡ false) [
  | true ↦ λ h. (let yes : same_id a b ≡ true = same_id-itself a b (sym (same_id-true b a h)) in absurd (cc))
  | false ↦ λ h. refl
] refl

-- the record at an index is the one written there
pub step-own : (xs : List Entry) (place : ℕ) (e : Entry) (s : Seen) → IsDistinct same_id (keys_of xs) → slice_get (keys_of xs) place ≡ Some e.0 → record_of e.0 (set_value_at xs place s) ≡ Some s
step-own [] place e s apart at = absurd (cc)
step-own (x ∷ xs) zero e s apart at =
    let is : x.0 ≡ e.0 = cc in
    ap (λ b. cond b (Some s) (record_of e.0 xs)) (same_id-itself e.0 x.0 (sym is))
step-own (x ∷ xs) (suc n) e s apart at =
    let other : same_id x.0 e.0 ≡ false = at_place (λ k. same_id x.0 k ≡ false) (keys_of xs) n e.0 (IsDistinct-head same_id x.0 (keys_of xs) apart) at in
    ap (λ b. cond b (Some x.1) (record_of e.0 (set_value_at xs n s))) (same_id-symm x.0 e.0 other) ∙ step-own xs n e s (IsDistinct-tail same_id x.0 (keys_of xs) apart) at

-- every other record is as it was
pub step-other : (xs : List Entry) (place : ℕ) (id q : TransactionId) (s : Seen) → slice_get (keys_of xs) place ≡ Some id → same_id q id ≡ false → record_of q (set_value_at xs place s)
    ≡ record_of q xs
step-other [] place id q s at apart = refl
step-other (x ∷ xs) zero id q s at apart =
    let is : x.0 ≡ id = cc in
    let no : same_id q x.0 ≡ false = ap (same_id q) is ∙ apart in
    ap (λ b. cond b (Some s) (record_of q xs)) no ∙ sym (ap (λ b. cond b (Some x.1) (record_of q xs)) no)
step-other (x ∷ xs) (suc n) id q s at apart = ap (cond (same_id q x.0) (Some x.1)) (step-other xs n id q s at apart)

-- a record more is that of its transaction, and leaves the others
pub push-own : (xs : List Entry) (id : TransactionId) (s : Seen) → record_of id xs ≡ None → record_of id (xs ++ (id, s) ∷ []) ≡ Some s
push-own [] id s none = ap (λ b. cond b (Some s) None) (same_id-itself id id refl)
push-own (x ∷ xs) id s none =
    elim (same_id id x.0) as (λ b. cond b (Some x.1) (record_of id xs) ≡ None → cond b (Some x.1) (record_of id (xs ++ (id, s) ∷ [])) ≡ Some s) [
      | true ↦ λ h. absurd (cc)
      | false ↦ λ h. push-own xs id s h
    ] none

pub push-other : (xs : List Entry) (id q : TransactionId) (s : Seen) → same_id q id ≡ false → record_of q (xs ++ (id, s) ∷ []) ≡ record_of q xs
push-other [] id q s apart = ap (λ b. cond b (Some s) None) apart
push-other (x ∷ xs) id q s apart = ap (cond (same_id q x.0) (Some x.1)) (push-other xs id q s apart)

-- ---- what a poll finds
none_second : {X : Type 0} (x y : Option X) → option_or x y ≡ None → y ≡ None
none_second None y h = h
none_second (Some a) y h = absurd (cc)

-- if there is no next, no record has something due
pub nothing-due : (from : ℕ) (records : List Entry) → next_due from records ≡ None → (k : ℕ) (d : Entry) → k < length records → has_due (get_or records k d) ≡ false
nothing-due from records none = λ k d low.
    let none_at : position has_due records ≡ None = none_second (option_map (λ i. from + i) (position has_due (drop from records))) (position has_due records) none in
    let all : position_or_len has_due records ≡ length records = position-none has_due records none_at in
    fails_before_first has_due records k d (omega (arith, all, low))

-- and the next has something due
pub next-due : (from : ℕ) (records : List Entry) (place : ℕ) (d : Entry) → next_due from records ≡ Some place → has_due (get_or records place d) ≡ true
next-due from records place d is = by (position has_due (drop from records)) refl is
  where
    by : (o : Option ℕ) → position has_due (drop from records) ≡ o → option_or (option_map (λ i. from + i) o) (position has_due records) ≡ Some place → has_due (get_or records place d) ≡ true
    by None e h = (position-Some has_due records place d h).1
    by (Some i) e h =
        let here : from + i ≡ place = cc in
        ap has_due (sym (get_or-drop from records i d ∙ ap (λ n. get_or records n d) here)) ∙ (position-Some has_due (drop from records) i d e).1
