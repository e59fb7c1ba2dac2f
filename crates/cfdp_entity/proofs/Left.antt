-- A table without the record at an index.
use Rattle.std.proofs.Common.{◌≡◌, ℕ, zero, suc, ◌+◌, ◌≤◌, Bool, true, false, not, cond, ◌&&◌, ◌||◌, List, [], ◌∷◌, ◌++◌, map, length, get_or, remove, slice_get, Some, None, refl, sym, ap, subst, ◌∙◌, arith}
use Rattle.std.specs.FinSet as set
use Rattle.std.specs.List.{IsDistinct, AllByRecursion, position_or_len}
use Rattle.std.specs.Map.{keys_of}
use Rattle.cfdp_header.specs.declared.value.TransactionId.{TransactionId}
use Rattle.cfdp_header.specs.Files.{FileMap}
use Rattle.cfdp_header.specs.Ids.{id_cmp, same_id}
use Rattle.cfdp_header.proofs.Ids.{id_total, id_eq, same_id-is}
use Rattle.cfdp_directives.specs.declared.user.indication.Indication.{Indication}
use Rattle.cfdp_timers.specs.Armed.{TimersState, cleared}
use Rattle.cfdp_entity.specs.declared.record.Record.{Record}
use Rattle.cfdp_entity.specs.Desk.{Staged, DeskState}
use Rattle.cfdp_entity.specs.Forgetting.{left_at}
use Rattle.cfdp_entity.specs.Roomy.{Roomy, Becomes}
use Rattle.std.proofs.lemmas.List.Quantifiers.{position-Some}
use Rattle.std.proofs.lemmas.Option.{slice_get-get_or}
use Rattle.cfdp_entity.specs.Seen.{Seen}
use Rattle.cfdp_entity.specs.Table.{Entry, has_due, place_of}
use Rattle.cfdp_entity.specs.Whole.{entry_seen, entries_seen, state_of, roomy_of, AllReady, IsWhole}
use Rattle.cfdp_extents.specs.Forgotten.{IdSet}
use Rattle.cfdp_entity.specs.Entity.{AreFree, AreUnforgotten, own_id}
use Rattle.cfdp_entity.proofs.CallerLemmas.{same_id-symm}
use Rattle.cfdp_entity.proofs.Histories.{no-record}
use Rattle.cfdp_entity.proofs.PutNumbers.{none-past}
use Rattle.cfdp_entity.proofs.Places.{keys-seen, position-none}

abbrev Records : Type 0
Records = List (TransactionId × Record)

map-left : {A B : Type 0} (f : A → B) (xs : List A) (place : ℕ) → map f (remove xs place) ≡ remove (map f xs) place
map-left f [] zero = refl
map-left f [] (suc n) = refl
map-left f (x ∷ xs) zero = refl
map-left f (x ∷ xs) (suc n) = ap (λ l. f x ∷ l) (map-left f xs n)

all-left : (P : TransactionId → Type 0) (es : Records) (place : ℕ) → AllByRecursion P (keys_of es) → AllByRecursion P (keys_of (remove es place))
all-left P [] zero all = all
all-left P [] (suc n) all = all
all-left P (e ∷ es) zero all = all.1
all-left P (e ∷ es) (suc n) all = (all.0, all-left P es n all.1)

distinct-left : (es : Records) (place : ℕ) → IsDistinct same_id (keys_of es) → IsDistinct same_id (keys_of (remove es place))
unfolding IsDistinct
distinct-left [] zero d = d
distinct-left [] (suc n) d = d
distinct-left (e ∷ es) zero d = d.1
distinct-left (e ∷ es) (suc n) d = (all-left (λ y. same_id e.0 y ≡ false) es n d.0, distinct-left es n d.1)

key-among : (P : TransactionId → Type 0) (es : Records) (place : ℕ) (id : TransactionId) → AllByRecursion P (keys_of es) → slice_get (keys_of es) place ≡ Some id → P id
key-among P [] place id all at = absurd cc
key-among P (e ∷ es) zero id all at = let is : e.0 ≡ id = cc in subst P is all.0
key-among P (e ∷ es) (suc n) id all at = key-among P es n id all.1 at

still-roomy : (roomy : set.FinSet id_cmp) (id q : TransactionId) → same_id q id ≡ false → set.contains roomy q ≡ true → set.contains (set.remove roomy id) q ≡ true
still-roomy roomy id q apart had =
    set.contains-remove id_total roomy id q ∙ (λ i. not ((sym (id_eq q id) ∙ apart) i) && had i)

-- those of other keys keep their room
ready-apart : (staged : Staged) (sources : FileMap) (roomy : set.FinSet id_cmp) (id : TransactionId) (es : Records) → AllByRecursion (λ y. same_id id y ≡ false) (keys_of es) → AllReady staged sources roomy es →
    AllReady staged sources (set.remove roomy id) es
unfolding AllReady
ready-apart staged sources roomy id [] apart all = tt
ready-apart staged sources roomy id (e ∷ es) apart all = (all.0, still-roomy roomy id e.0 (same_id-symm id e.0 apart.0) all.1, ready-apart staged sources roomy id es apart.1 all.2)

ready-left : (staged : Staged) (sources : FileMap) (roomy : set.FinSet id_cmp) (es : Records) (place : ℕ) (id : TransactionId) → IsDistinct same_id (keys_of es) → slice_get (keys_of es) place ≡ Some id →
    AllReady staged sources roomy es → AllReady staged sources (set.remove roomy id) (remove es place)
unfolding AllReady IsDistinct
ready-left staged sources roomy [] place id d at all = absurd cc
ready-left staged sources roomy (e ∷ es) zero id d at all =
    let is : e.0 ≡ id = cc in
    ready-apart staged sources roomy id es (subst (λ k. AllByRecursion (λ y. same_id k y ≡ false) (keys_of es)) is d.0) all.2
ready-left staged sources roomy (e ∷ es) (suc n) id d at all =
    let other : same_id e.0 id ≡ false = key-among (λ y. same_id e.0 y ≡ false) es n id d.0 at in
    (all.0, still-roomy roomy id e.0 other all.1, ready-left staged sources roomy es n id d.1 at all.2)

length-left : {A : Type 0} (xs : List A) (place : ℕ) → length (remove xs place) ≤ length xs
length-left [] zero = omega arith
length-left [] (suc n) = omega arith
length-left (x ∷ xs) zero = omega arith
length-left (x ∷ xs) (suc n) = let rest = length-left xs n in omega (arith, rest)

pub seen-left : (staged : Staged) (es : Records) (place : ℕ) → entries_seen staged (remove es place) ≡ remove (entries_seen staged es) place
unfolding entries_seen
seen-left staged es place = map-left (entry_seen staged) es place

-- which transaction's record is at an index, by the table that is seen
pub at-view : (past : List Indication) (desk : DeskState) (es : Records) (place : ℕ) (id : TransactionId) (v : Roomy) → roomy_of past desk es ≡ v
    → slice_get (keys_of v.state.records) place ≡ Some id → slice_get (keys_of es) place ≡ Some id
at-view past desk es place id v is at = ap (λ ks. slice_get ks place) (sym (keys-seen desk.staged es)) ∙ ap (λ (w : Roomy). slice_get (keys_of w.state.records) place) is ∙ at

module _ (past : List Indication) (desk new : DeskState) (es fs : Records) (flags left : List Bool) (place : ℕ) (id : TransactionId) (whole : IsWhole desk es flags) (at : slice_get (keys_of es) place ≡ Some id)
    (records : fs ≡ remove es place) (ready : left ≡ remove flags place) (timers : TimersState)
    (desk-is : new ≡ record desk { effects = record desk.effects { timers = timers } }) (time : timers.time ≡ desk.effects.timers.time)
    (roomy : timers.roomy ≡ set.remove desk.effects.timers.roomy id) (armed : timers.armed ≡ cleared desk.effects.timers.armed id) where
  abbrev then : DeskState
  then = record desk { effects = record desk.effects { timers = timers } }

  whole-there : IsWhole then (remove es place) (remove flags place)
  whole-there = record {
    distinct = distinct-left es place whole.distinct;
    ready = subst (λ s. AllReady desk.staged desk.sources s (remove es place)) (sym roomy) (ready-left desk.staged desk.sources desk.effects.timers.roomy es place id whole.distinct at whole.ready);
    flagged = ap (λ l. remove l place) whole.flagged ∙ sym (map-left has_due (entries_seen desk.staged es) place) ∙ ap (map has_due) (sym (seen-left desk.staged es place));
    few = (let few = whole.few in let less = length-left es place in omega (arith, few, less));
  }

  pub whole-left : IsWhole new fs left
  whole-left = subst (λ d. IsWhole d fs left) (sym desk-is) (subst (λ l. IsWhole then l left) (sym records) (subst (IsWhole then (remove es place)) (sym ready) whole-there))

  pub becomes-left : Becomes (left_at place id (state_of past desk es)) (roomy_of past desk es) (roomy_of past new fs)
  becomes-left = record {
    state = ap (λ d. state_of past d fs) desk-is ∙ ap (state_of past then) records ∙ (λ i. record {
      records = seen-left desk.staged es place i;
      now = time i;
      armed = armed i;
      told = past ++ desk.effects.told.items;
      gone = length past;
      files = desk.files;
      sources = desk.sources;
      stands = desk.stands;
      policy = desk.policy;
    });
    inbox = ap (λ (d : DeskState). d.inbox_failures) desk-is;
    outbox = ap (λ (d : DeskState). d.outbox_failures) desk-is;
  }

-- ---- numbers
abbrev Entries : Type 0
Entries = List Entry

none-left : (p : Entry → Bool) (xs : Entries) (place : ℕ) → position_or_len p xs ≡ length xs → position_or_len p (remove xs place) ≡ length (remove xs place)
none-left p [] zero all = all
none-left p [] (suc n) all = all
none-left p (x ∷ xs) zero all =
    elim (p x) as (λ b. cond (not b) (1 + position_or_len p xs) 0 ≡ suc (length xs) → position_or_len p xs ≡ length xs) [
      | true ↦ λ h. absurd (omega (arith, h))
      | false ↦ λ h. omega (arith, h)
    ] all
none-left p (x ∷ xs) (suc n) all =
    elim (p x) as (λ b. cond (not b) (1 + position_or_len p xs) 0 ≡ suc (length xs) → cond (not b) (1 + position_or_len p (remove xs n)) 0 ≡ suc (length (remove xs n))) [
      | true ↦ λ h. absurd (omega (arith, h))
      | false ↦ λ h. (let less : position_or_len p xs ≡ length xs = omega (arith, h) in let rest = none-left p xs n less in omega (arith, rest))
    ] all

place-left : (xs : Entries) (place : ℕ) (id : TransactionId) → place_of id xs ≡ None → place_of id (remove xs place) ≡ None
place-left xs place id none =
    none-past (λ (e : Entry). same_id id e.0) (remove xs place) (none-left (λ (e : Entry). same_id id e.0) xs place (position-none (λ (e : Entry). same_id id e.0) xs none))

pub free-left : (entity next : ℕ) (xs ys : Entries) (place : ℕ) → ys ≡ remove xs place → AreFree entity next xs → AreFree entity next ys
unfolding AreFree
free-left entity next xs ys place is free = λ n l. ap (place_of (own_id entity n)) is ∙ place-left xs place (own_id entity n) (free n l)

key-there : (P : TransactionId → Type 0) (xs : Entries) (place : ℕ) (id : TransactionId) → AllByRecursion P (keys_of xs) → slice_get (keys_of xs) place ≡ Some id → P id
key-there P [] place id all at = absurd cc
key-there P (x ∷ xs) zero id all at = let is : x.0 ≡ id = cc in subst P is all.0
key-there P (x ∷ xs) (suc n) id all at = key-there P xs n id all.1 at

-- a number that has no record is none of those that are discarded
pub unforgotten-left : (entity next : ℕ) (xs : Entries) (place : ℕ) (id : TransactionId) (before now : IdSet) → slice_get (keys_of xs) place ≡ Some id → AreFree entity next xs → now ≡ set.insert before id →
    AreUnforgotten entity next before → AreUnforgotten entity next now
unfolding AreFree AreUnforgotten
unforgotten-left entity next xs place id before now at free is none = λ n l.
    let apart : same_id (own_id entity n) id ≡ false = key-there (λ k. same_id (own_id entity n) k ≡ false) xs place id (no-record xs (own_id entity n) (free n l)).1 at in
    ap (λ (s : IdSet). set.contains s (own_id entity n)) is ∙ set.contains-insert id_total before id (own_id entity n)
    ∙ (λ i. (sym (id_eq (own_id entity n) id) ∙ apart) i || none n l i)

-- ---- the record of a transaction that has an index
pub entry-there : (xs : Entries) (id : TransactionId) (place : ℕ) → place_of id xs ≡ Some place → (s : Seen) × (slice_get xs place ≡ Some (id, s))
entry-there [] id place is = absurd cc
entry-there (x ∷ xs) id place is =
    let found = position-Some (λ (e : Entry). same_id id e.0) (x ∷ xs) place x is in
    let here : Entry = get_or (x ∷ xs) place x in
    let key : id ≡ here.0 = same_id-is id here.0 found.1 in
    (here.1, slice_get-get_or (x ∷ xs) place x found.0 ∙ (λ i. Some (sym key i, here.1)))
