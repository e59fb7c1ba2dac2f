-- The index of a record, and which one is next.
use Rattle.std.proofs.Common.{◌≡◌, ℕ, zero, suc, ◌+◌, ◌≤◌, ◌<◌, Bool, true, false, cond, not, List, [], ◌∷◌, map, drop, length, position, Option, Some, None, IfSome, refl, sym, ap, subst, ◌∙◌, arith}
use Rattle.std.specs.Prelude.{nat_lt}
use Rattle.std.specs.List.{position_or_len}
use Rattle.std.specs.Option.{option_or, option_map}
use Rattle.std.specs.List.{IsDistinct}
use Rattle.std.specs.Map.{keys_of, lookup}
use Rattle.std.proofs.lemmas.Bool.{ltb-false}
use Rattle.std.proofs.lemmas.List.Sums.{prefix_len-le-length}
use Rattle.cfdp_header.specs.declared.value.TransactionId.{TransactionId}
use Rattle.cfdp_header.specs.Ids.{same_id}
use Rattle.cfdp_entity.specs.declared.record.Record.{Record}
use Rattle.cfdp_entity.specs.Ready.{next_true}
use Rattle.cfdp_entity.specs.Table.{Entry, place_of, next_due, has_due}
use Rattle.cfdp_entity.specs.Desk.{Staged, DeskState}
use Rattle.cfdp_entity.specs.Whole.{entry_seen, entries_seen, AllReady, IsWhole}

module _ {A B : Type 0} (f : A → B) where
  length_map : (xs : List A) → length (map f xs) ≡ length xs
  length_map [] = refl
  length_map (x ∷ xs) = ap suc (length_map xs)

  prefix-map : (p : B → Bool) (xs : List A) → position_or_len p (map f xs) ≡ position_or_len (λ x. p (f x)) xs
  prefix-map p [] = refl
  prefix-map p (x ∷ xs) = ap (λ n. cond (not (p (f x))) (1 + n) 0) (prefix-map p xs)

  pub position-map : (p : B → Bool) (xs : List A) → position p (map f xs) ≡ position (λ x. p (f x)) xs
  position-map p xs = λ i. cond (nat_lt (prefix-map p xs i) (length_map xs i)) (Some (prefix-map p xs i)) None

  pub drop_map : (n : ℕ) (xs : List A) → drop n (map f xs) ≡ map f (drop n xs)
  drop_map zero xs = refl
  drop_map (suc n) [] = refl
  drop_map (suc n) (x ∷ xs) = drop_map n xs

pub place-seen : (staged : Staged) (es : List (TransactionId × Record)) (id : TransactionId) → position (same_id id) (keys_of es) ≡ place_of id (entries_seen staged es)
unfolding entries_seen
place-seen staged es id = position-map (λ (e : TransactionId × Record). e.0) (same_id id) es ∙ sym (position-map (entry_seen staged) (λ e. same_id id e.0) es)

pub next-seen : (xs : List Entry) (flags : List Bool) (from : ℕ) → flags ≡ map has_due xs → next_true from flags ≡ next_due from xs
next-seen xs flags from is =
    ap (next_true from) is
    ∙ (λ i. option_or (option_map (λ n. from + n) ((ap (position (λ b. b)) (drop_map has_due from xs) ∙ position-map has_due (λ b. b) (drop from xs)) i)) (position-map has_due (λ b. b) xs i))

-- if no record has a key, look-up finds none
absent-lookup : (es : List (TransactionId × Record)) (id : TransactionId) → position_or_len (same_id id) (keys_of es) ≡ length (keys_of es) → lookup (same_id id) es ≡ None
absent-lookup [] id none = refl
absent-lookup (e ∷ es) id none =
    elim (same_id id e.0) as (λ b. cond (not b) (1 + position_or_len (same_id id) (keys_of es)) 0 ≡ suc (length (keys_of es)) → cond b (Some e.1) (lookup (same_id id) es) ≡ None) [
      | true ↦ λ h. absurd (omega (arith, h))
      | false ↦ λ h. (let n : position_or_len (same_id id) (keys_of es) ≡ length (keys_of es) = omega (arith, h) in absent-lookup es id n)
    ] none

pub position-none : {X : Type 0} (p : X → Bool) (xs : List X) → position p xs ≡ None → position_or_len p xs ≡ length xs
position-none p xs h =
    elim (nat_lt (position_or_len p xs) (length xs)) as (λ b. nat_lt (position_or_len p xs) (length xs) ≡ b → cond b (Some (position_or_len p xs)) None ≡ None → position_or_len p xs ≡ length xs) [
      | true ↦ λ t n. absurd (cc)
      | false ↦ λ t n. (let l : length xs ≤ position_or_len p xs = ltb-false _ _ t in let m : position_or_len p xs ≤ length xs = prefix_len-le-length (λ x. not (p x)) xs in omega (arith, l, m))
    ] refl h

pub absent-seen : (staged : Staged) (es : List (TransactionId × Record)) (id : TransactionId) → place_of id (entries_seen staged es) ≡ None → lookup (same_id id) es ≡ None
absent-seen staged es id none = absent-lookup es id (position-none (same_id id) (keys_of es) (place-seen staged es id ∙ none))

pub length_entries : (staged : Staged) (es : List (TransactionId × Record)) → length (entries_seen staged es) ≡ length es
unfolding entries_seen
length_entries staged es = length_map (entry_seen staged) es

pub first-whole : (desk : DeskState) (es : List (TransactionId × Record)) (flags : List Bool) → es ≡ [] → flags ≡ [] → IsWhole desk es flags
unfolding IsDistinct AllReady entries_seen
first-whole desk es flags none no_flags =
    let empty : IsWhole desk [] [] = record { distinct = tt; ready = tt; flagged = refl; few = omega arith } in
    subst (λ l. IsWhole desk l flags) (sym none) (subst (IsWhole desk []) (sym no_flags) empty)

pub seen-nil : (staged : Staged) (es : List (TransactionId × Record)) → es ≡ [] → entries_seen staged es ≡ []
unfolding entries_seen
seen-nil staged es none = ap (entries_seen staged) none

pub few-next : (n : ℕ) (o : Option ℕ) → n ≤ 4096 → IfSome o (λ p. p < n) → IfSome o (λ p. p < 4096)
few-next n None l h = tt
few-next n (Some p) l h = omega arith

pub keys-seen : (staged : Staged) (es : List (TransactionId × Record)) → keys_of (entries_seen staged es) ≡ keys_of es
unfolding entries_seen
keys-seen staged [] = refl
keys-seen staged (e ∷ es) = ap (λ ks. e.0 ∷ ks) (keys-seen staged es)
