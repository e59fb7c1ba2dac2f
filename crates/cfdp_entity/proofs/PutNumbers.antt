-- The numbers that are free: a step of a record changes no transaction's index.
use Rattle.std.proofs.Common.{arith, ◌≡◌, ◌≢◌, ℕ, zero, suc, ◌+◌, ◌^◌, ◌<◌, ◌≤◌, ◌==◌, ◌&&◌, nat_lt, Bool, true, false, not, cond, List, [], ◌∷◌, ◌++◌, length, position, Option, Some, None, SomeIff, Result, Ok, Err, OnOk, OnErr, slice_get, refl, sym, ap, ◌∙◌}
use Rattle.std.specs.List.{position_or_len}
use Rattle.std.proofs.lemmas.Bool.{le-ltb, ne_eqb}
use Rattle.std.specs.Map.{keys_of}
use Rattle.cfdp_header.specs.declared.value.TransactionId.{TransactionId}
use Rattle.cfdp_header.specs.Ids.{same_id}
use Rattle.cfdp_header.specs.Files.{FileMap}
use Rattle.cfdp_directives.specs.declared.user.policy.Policy.{Policy}
use Rattle.cfdp_sender.specs.declared.transfer.Transfer.{Transfer}
use Rattle.cfdp_timers.specs.declared.kind.Kind.{Kind}
use Rattle.cfdp_timers.specs.Order.{Timer}
use Rattle.cfdp_directives.specs.declared.pdu.addressing.Addressing.{Addressing}
use Rattle.cfdp_directives.specs.Pdu.Content.{Content}
use Rattle.cfdp_store.specs.declared.stored.Stored.{Stored}
use Rattle.cfdp_entity.specs.declared.request.Request.{Request}
use Rattle.std.specs.FinSet as finset
use Rattle.cfdp_header.specs.Ids.{id_cmp}
use Rattle.cfdp_extents.specs.Forgotten.{IdSet}
use Rattle.cfdp_entity.specs.Entity.{AreFree, AreUnforgotten, own_id, next_of}
use Rattle.cfdp_entity.specs.Opening.{puts, opens}
use Rattle.cfdp_entity.specs.Steps.{After, hears, expires, calls, takes}
use Rattle.cfdp_entity.specs.Table.{Entry, TableState, place_of, step_of, expired, expired_in, all_expired, Ticks, at_time, SpoiledAt, heard_at, called_at, taken_at, put_in, opened_by, first_table, standing}
use Rattle.cfdp_entity.proofs.Entries.{keys_set}
use Rattle.cfdp_entity.proofs.Places.{position-map, position-none}

place-keys : (xs : List Entry) (id : TransactionId) → place_of id xs ≡ position (same_id id) (keys_of xs)
place-keys xs id = sym (position-map (λ (e : Entry). e.0) (same_id id) xs)

-- what is free is so by the keys alone
pub free_by_keys : (entity next : ℕ) (xs ys : List Entry) → keys_of ys ≡ keys_of xs → AreFree entity next xs → AreFree entity next ys
unfolding AreFree
free_by_keys entity next xs ys same free = λ n l. place-keys ys (own_id entity n) ∙ ap (position (same_id (own_id entity n))) same ∙ sym (place-keys xs (own_id entity n)) ∙ free n l

keys-stepped : (f : Entry → After) (place : ℕ) (o : Option Entry) (t : TableState) → keys_of ((step_of f place o t).records) ≡ keys_of t.records
keys-stepped f place None t = refl
keys-stepped f place (Some e) t = keys_set t.records place ((f e).seen)

keys-expired : (o : Option ℕ) (k : Kind) (t : TableState) → keys_of ((expired_in o k t).records) ≡ keys_of t.records
keys-expired None k t = refl
keys-expired (Some place) k t = keys-stepped (λ e. expires t.policy t.files k e.1) place (slice_get t.records place) t

keys-all-expired : (ts : List Timer) (t : TableState) → keys_of ((all_expired ts t).records) ≡ keys_of t.records
unfolding all_expired
keys-all-expired [] t = refl
keys-all-expired (x ∷ ts) t = keys-all-expired ts (expired x t) ∙ keys-expired (place_of x.0 t.records) x.1 t

-- a record more is after the others
len-push : {X : Type 0} (p : X → Bool) (xs : List X) (x : X) → p x ≡ false → position_or_len p xs ≡ length xs → position_or_len p (xs ++ x ∷ []) ≡ length (xs ++ x ∷ [])
len-push p [] x off all = ap (λ b. cond (not b) 1 0) off
len-push p (y ∷ ys) x off all =
    elim (p y) as (λ b. cond (not b) (1 + position_or_len p ys) 0 ≡ suc (length ys) → cond (not b) (1 + position_or_len p (ys ++ x ∷ [])) 0 ≡ suc (length (ys ++ x ∷ []))) [
      | true ↦ λ h. absurd (omega (arith, h))
      | false ↦ λ h. (let less : position_or_len p ys ≡ length ys = omega (arith, h) in let more = len-push p ys x off less in omega (arith, more))
    ] all

pub none-past : {X : Type 0} (p : X → Bool) (xs : List X) → position_or_len p xs ≡ length xs → position p xs ≡ None
none-past p xs all = rw all (rw (le-ltb (length xs) (length xs) (omega arith)) refl)

pub place-push : (xs : List Entry) (e : Entry) (id : TransactionId) → place_of id xs ≡ None → same_id id e.0 ≡ false → place_of id (xs ++ e ∷ []) ≡ None
place-push xs e id none apart = none-past (λ (x : Entry). same_id id x.0) (xs ++ e ∷ []) (len-push (λ (x : Entry). same_id id x.0) xs e apart (position-none (λ (x : Entry). same_id id x.0) xs none))

own-apart : (entity n m : ℕ) → n ≢ m → same_id (own_id entity n) (own_id entity m) ≡ false
own-apart entity n m apart = elim (entity == entity) as (λ b. (b && (n == m)) ≡ false) [
  | true ↦ ne_eqb n m apart
  | false ↦ refl
]

-- ---- each step leaves free what was free
module _ (entity next : ℕ) (before old new : TableState) (same : old ≡ before) (free : AreFree entity next before.records) where
  from : keys_of new.records ≡ keys_of old.records → AreFree entity next new.records
  from keys = free_by_keys entity next before.records new.records (keys ∙ ap (λ (t : TableState). keys_of t.records) same) free

  pub free-stepped : (f : Entry → After) (place : ℕ) → new ≡ step_of f place (slice_get old.records place) old → AreFree entity next new.records
  free-stepped f place is = from (ap (λ (t : TableState). keys_of t.records) is ∙ keys-stepped f place (slice_get old.records place) old)

  pub free-called : (place : ℕ) (c : Request) → new ≡ called_at place c old → AreFree entity next new.records
  free-called place c is = free-stepped (λ e. calls old.policy.times old.files c e.1) place is

  pub free-heard : (stored : Stored) (place : ℕ) (large : Bool) (v : Content) → new ≡ heard_at stored place large v old → AreFree entity next new.records
  free-heard stored place large v is = free-stepped (λ e. hears stored old.policy.times old.files large v e.1) place is

  pub free-taken : (stored : Stored) (place : ℕ) → new ≡ taken_at stored place old → AreFree entity next new.records
  free-taken stored place is = free-stepped (λ e. takes stored old.policy.times old.sources old.files e.1) place is

  pub free-spoiled : (place : ℕ) (v : Content) → SpoiledAt place v old new → AreFree entity next new.records
  free-spoiled place v s = from (ap (λ (t : TableState). keys_of t.records) s.table ∙ keys_set old.records place s.seen)

  pub free-same : new ≡ old → AreFree entity next new.records
  free-same is = from (ap (λ (t : TableState). keys_of t.records) is)

  pub free-ticked : {X E : Type 0} (r : Result X E) (now : ℕ) → OnOk r (Ticks now old new) → OnErr r (new ≡ old) → AreFree entity next new.records
  free-ticked (Ok x) now t same_now = from (ap (λ (t : TableState). keys_of t.records) t.ticked ∙ keys-all-expired t.fired (at_time now old))
  free-ticked (Err e) now t same_now = free-same same_now

  -- the record of the next number makes it taken, and those after it stay free
  pub free-put : (t : Transfer) → new ≡ put_in t old → t.addressing.id ≡ own_id entity next → (o : Option ℕ) → next_of o ≡ next + 1 → AreFree entity (next_of o) new.records
  unfolding AreFree
  free-put t is own o risen = λ n l.
      let apart : same_id (own_id entity n) (t.addressing.id) ≡ false = ap (same_id (own_id entity n)) own ∙ own-apart entity n next (λ h. absurd (omega (arith, h, l, risen))) in
      let left : place_of (own_id entity n) old.records ≡ None = ap (λ (t : TableState). place_of (own_id entity n) t.records) same ∙ free n (omega (arith, l, risen)) in
      ap (λ (t : TableState). place_of (own_id entity n) t.records) is ∙ place-push old.records (t.addressing.id, (puts old.files t).seen) (own_id entity n) left apart

  -- and so does a record of the peer's
  pub free-opened : (begun stored : Stored) (a : Addressing) (large : Bool) (v : Content) → new ≡ opened_by begun stored a large v old → a.id.source ≢ entity → AreFree entity next new.records
  unfolding AreFree
  free-opened begun stored a large v is other = λ n l.
      let apart : same_id (own_id entity n) (a.id) ≡ false = ap (λ b. b && (n == a.id.number)) (ne_eqb entity a.id.source (λ h. other (sym h))) in
      let left : place_of (own_id entity n) old.records ≡ None = ap (λ (t : TableState). place_of (own_id entity n) t.records) same ∙ free n l in
      ap (λ (t : TableState). place_of (own_id entity n) t.records) is ∙ place-push old.records (a.id, (opens begun stored old.policy.times old.files large v a).seen) (own_id entity n) left apart

-- if all are free that are not below a number, it is free itself
pub free-at : (entity next : ℕ) (records : List Entry) → AreFree entity next records → place_of (own_id entity next) records ≡ None
unfolding AreFree
free-at entity next records free = free next (omega arith)

pub free-first : (entity next : ℕ) (t : TableState) (stands : Bool) (sources files : FileMap) (policy : Policy) → t ≡ standing stands (first_table sources files policy) → AreFree entity next t.records
unfolding AreFree
free-first entity next t stands sources files policy is = λ n l. ap (λ (t : TableState). place_of (own_id entity n) t.records) is

pub risen : (o : Option ℕ) (n : ℕ) → n < 2 ^ 64 → SomeIff o (n + 1 < 2 ^ 64) (n + 1) → next_of o ≡ n + 1
risen None n low h = omega (arith, low, h)
risen (Some m) n low h = h.1

-- the number after the last of eight octets fits no width
pub past_width : (w : ℕ) → w ≤ 8 → nat_lt (2 ^ 64) (256 ^ w) ≡ false
past_width zero l = refl
past_width (suc zero) l = refl
past_width (suc (suc zero)) l = refl
past_width (suc (suc (suc zero))) l = refl
past_width (suc (suc (suc (suc zero)))) l = refl
past_width (suc (suc (suc (suc (suc zero))))) l = refl
past_width (suc (suc (suc (suc (suc (suc zero)))))) l = refl
past_width (suc (suc (suc (suc (suc (suc (suc zero))))))) l = refl
past_width (suc (suc (suc (suc (suc (suc (suc (suc zero)))))))) l = refl
past_width (suc (suc (suc (suc (suc (suc (suc (suc (suc n))))))))) l = absurd (omega (arith, l))

-- ---- numbers of which none was discarded
pub unforgotten-first : (entity next : ℕ) (forgotten : IdSet) → forgotten ≡ finset.empty → AreUnforgotten entity next forgotten
unfolding AreUnforgotten
unforgotten-first entity next forgotten is = λ n l. ap (λ (s : IdSet). finset.contains s (own_id entity n)) is ∙ finset.contains-empty id_cmp (own_id entity n)

pub unforgotten-at : (entity next : ℕ) (forgotten : IdSet) → AreUnforgotten entity next forgotten → finset.contains forgotten (own_id entity next) ≡ false
unfolding AreUnforgotten
unforgotten-at entity next forgotten none = none next (omega arith)

pub unforgotten-behind : (entity next : ℕ) (forgotten : IdSet) (o : Option ℕ) → next_of o ≡ next + 1 → AreUnforgotten entity next forgotten → AreUnforgotten entity (next_of o) forgotten
unfolding AreUnforgotten
unforgotten-behind entity next forgotten o risen none = λ n l. none n (omega (arith, l, risen))
