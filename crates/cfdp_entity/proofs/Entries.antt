-- Exported: what a step of the record at an index does to the entries.
use Rattle.std.proofs.Common.{◌<◌, arith, length-append, ◌≡◌, ◌≢◌, ℕ, zero, suc, ◌≤◌, Bool, true, false, ◌&&◌, ◌==◌, List, [], ◌∷◌, ◌++◌, map, length, cond, slice_get, Some, None, Result, Ok, Err, IfOk, OnErr, refl, sym, ap, subst, ◌∙◌}
use Rattle.std.specs.Prelude.{IsSome, Vec, unwrap_or, slice_set}
use Rattle.std.specs.declared.alloc.Global.{Global}
use Rattle.std.specs.FinMap.{empty, get}
use Rattle.std.specs.List.{IsDistinct, AllByRecursion}
use Rattle.std.specs.Map.{keys_of, values_of, lookup}
use Rattle.std.proofs.lemmas.List.{map-append, append_assoc}
use Rattle.std.specs.FinSet as set
use Rattle.std.proofs.lemmas.Bool.{eq-eqb}
use Rattle.std.proofs.lemmas.Map.Keys.{IsDistinct-head, IsDistinct-tail}
use Rattle.indexmap.specs.IndexMap.{set_value_at}
use Rattle.cfdp_header.specs.declared.value.TransactionId.{TransactionId}
use Rattle.cfdp_header.specs.Ids.{id_cmp, same_id}
use Rattle.cfdp_header.specs.Files.{FileMap}
use Rattle.cfdp_timers.specs.Armed.{TimersState}
use Rattle.cfdp_store.specs.Staged.{OthersKeep}
use Rattle.cfdp_store.specs.Stores.{Counts}
use Rattle.cfdp_store.specs.Chains.{Raises}
use Rattle.cfdp_store.specs.declared.stored.Stored.{Stored}
use Rattle.cfdp_store.specs.declared.stored.Stored.TheVariants.{Done}
use Rattle.cfdp_directives.specs.declared.user.indication.Indication.{Indication}
use Rattle.cfdp_directives.specs.Pdu.Content.{Content}
use Rattle.cfdp_receiver.specs.State.{ReceiverState, IsReady}
use Rattle.cfdp_sender.specs.Does.{HasOwnFile}
use Rattle.cfdp_sender.specs.State.{SenderState}
use Rattle.cfdp_entity.specs.declared.record.Record.{Record}
use Rattle.cfdp_entity.specs.declared.record.Record.TheVariants as held
use Rattle.cfdp_entity.specs.Desk.{Staged, DeskState, spare}
use Rattle.cfdp_entity.specs.Does.{Made, Keeps, Stays, Asked, Opens, OpensNone, Widens, seen_as}
use Rattle.cfdp_entity.specs.Roomy.{Roomy, Becomes, Steps, LacksMemory}
use Rattle.cfdp_entity.specs.Seen.{Seen, seen, is_due}
use Rattle.cfdp_entity.specs.Steps.{After, Spoils}
use Rattle.cfdp_entity.specs.Storing.{AsksAs, AsksOf}
use Rattle.cfdp_entity.specs.Table.{Entry, TableState, has_due, step_of, with_record}
use Rattle.cfdp_entity.specs.Whole.{entry_seen, entries_seen, state_of, roomy_of, id_of, AllReady, IsReadyRecord, IsWhole, MayStep}

pub same_id-itself : (a b : TransactionId) → a ≡ b → same_id a b ≡ true
same_id-itself a b e =
    let s : (a.source == b.source) ≡ true = eq-eqb a.source b.source (ap (λ (x : TransactionId). x.source) e) in
    let n : (a.number == b.number) ≡ true = eq-eqb a.number b.number (ap (λ (x : TransactionId). x.number) e) in
    ap (λ p. p && (a.number == b.number)) s ∙ n

differ : (a b : TransactionId) → same_id a b ≡ false → a ≢ b
differ a b e = λ h. (let yes : same_id a b ≡ true = same_id-itself a b h in cc)

pub at_place : {K : Type 0} (P : K → Type 0) (ks : List K) (i : ℕ) (k : K) → AllByRecursion P ks → slice_get ks i ≡ Some k → P k
at_place P [] i k all e = absurd (cc)
at_place P (x ∷ ks) zero k all e = let is : x ≡ k = cc in subst P is all.0
at_place P (x ∷ ks) (suc i) k all e = at_place P ks i k all.1 e

pub keys_set : {K X : Type 0} (es : List (K × X)) (i : ℕ) (w : X) → keys_of (set_value_at es i w) ≡ keys_of es
keys_set [] i w = refl
keys_set (e ∷ es) zero w = refl
keys_set (e ∷ es) (suc i) w = ap (λ ks. e.0 ∷ ks) (keys_set es i w)

pub length_set : {K X : Type 0} (es : List (K × X)) (i : ℕ) (w : X) → length (set_value_at es i w) ≡ length es
length_set [] i w = refl
length_set (e ∷ es) zero w = refl
length_set (e ∷ es) (suc i) w = ap suc (length_set es i w)

-- a record is ready by what is staged for its transaction alone
pub ready-moved : (old new : Staged) (sources : FileMap) (id : TransactionId) (r : Record) → new id ≡ old id → IsReadyRecord old sources id r → IsReadyRecord new sources id r
unfolding IsReadyRecord
ready-moved old new sources id (held.Sends x) same is_ready = is_ready
ready-moved old new sources id (held.Receives r) same is_ready =
    let here : new r.addressing.id ≡ old r.addressing.id = ap new is_ready.0 ∙ same ∙ sym (ap old is_ready.0) in (
      is_ready.0,
      record {
        begun = λ receiving. subst IsSome (sym here) (is_ready.1.begun receiving);
        backed = λ receiving n is_held. subst (λ o. IsSome (get (unwrap_or o empty) n)) (sym here) (is_ready.1.backed receiving n is_held);
      },
    )

module _ (old new : Staged) (sources : FileMap) (id : TransactionId) (keep : OthersKeep id old new) where
  -- entries of other transactions look as before
  pub seen-others : (es : List (TransactionId × Record)) → AllByRecursion (λ k. same_id id k ≡ false) (keys_of es) → entries_seen new es ≡ entries_seen old es
  unfolding entries_seen
  seen-others [] apart = refl
  seen-others (e ∷ es) apart =
      let here : new e.0 ≡ old e.0 = keep e.0 (λ h. differ id e.0 apart.0 (sym h)) in
      λ i. (e.0, seen (here i) e.1) ∷ seen-others es apart.1 i

  pub ready-others : (roomy : set.FinSet id_cmp) (es : List (TransactionId × Record)) → AllByRecursion (λ k. same_id id k ≡ false) (keys_of es) → AllReady old sources roomy es →
      AllReady new sources roomy es
  unfolding AllReady
  ready-others roomy [] apart all = tt
  ready-others roomy (e ∷ es) apart all =
      let here : new e.0 ≡ old e.0 = keep e.0 (λ h. differ id e.0 apart.0 (sym h)) in
      (ready-moved old new sources e.0 e.1 here all.0, all.1, ready-others roomy es apart.1 all.2)

  -- a record written at the index of the transaction is the only one that looks other than before
  pub seen-set : (es : List (TransactionId × Record)) (i : ℕ) (r : Record) → IsDistinct same_id (keys_of es) → slice_get (keys_of es) i ≡ Some id
      → entries_seen new (set_value_at es i r) ≡ set_value_at (entries_seen old es) i (seen (new id) r)
  unfolding entries_seen
  seen-set [] i r apart at = refl
  seen-set (e ∷ es) zero r apart at =
      let is : e.0 ≡ id = cc in
      let others : AllByRecursion (λ k. same_id id k ≡ false) (keys_of es) = subst (λ j. AllByRecursion (λ k. same_id j k ≡ false) (keys_of es)) is (IsDistinct-head same_id e.0 (keys_of es) apart) in
      λ i. (e.0, seen (new (is i)) r) ∷ seen-others es others i
  seen-set (e ∷ es) (suc n) r apart at =
      let other : same_id e.0 id ≡ false = at_place (λ k. same_id e.0 k ≡ false) (keys_of es) n id (IsDistinct-head same_id e.0 (keys_of es) apart) at in
      let here : new e.0 ≡ old e.0 = keep e.0 (differ e.0 id other) in
      λ i. (e.0, seen (here i) e.1) ∷ seen-set es n r (IsDistinct-tail same_id e.0 (keys_of es) apart) at i

  pub ready-set : (roomy : set.FinSet id_cmp) (es : List (TransactionId × Record)) (i : ℕ) (r : Record) → IsDistinct same_id (keys_of es) → slice_get (keys_of es) i ≡ Some id
      → IsReadyRecord new sources id r → AllReady old sources roomy es → AllReady new sources roomy (set_value_at es i r)
  unfolding AllReady
  ready-set roomy [] i r apart at is_ready all = tt
  ready-set roomy (e ∷ es) zero r apart at is_ready all =
      let is : e.0 ≡ id = cc in
      let others : AllByRecursion (λ k. same_id id k ≡ false) (keys_of es) = subst (λ j. AllByRecursion (λ k. same_id j k ≡ false) (keys_of es)) is (IsDistinct-head same_id e.0 (keys_of es) apart) in
      (subst (λ j. IsReadyRecord new sources j r) (sym is) is_ready, all.1, ready-others roomy es others all.2)
  ready-set roomy (e ∷ es) (suc n) r apart at is_ready all =
      let other : same_id e.0 id ≡ false = at_place (λ k. same_id e.0 k ≡ false) (keys_of es) n id (IsDistinct-head same_id e.0 (keys_of es) apart) at in
      let here : new e.0 ≡ old e.0 = keep e.0 (differ e.0 id other) in
      (ready-moved old new sources e.0 e.1 here all.0, all.1, ready-set roomy es n r (IsDistinct-tail same_id e.0 (keys_of es) apart) at is_ready all.2)

-- what is at an index
pub seen_at : (staged : Staged) (es : List (TransactionId × Record)) (i : ℕ) (id : TransactionId) (r : Record) → slice_get (keys_of es) i ≡ Some id → slice_get (values_of es) i ≡ Some r
    → slice_get (entries_seen staged es) i ≡ Some (id, seen (staged id) r)
unfolding entries_seen
seen_at staged [] i id r at is = absurd (cc)
seen_at staged (e ∷ es) zero id r at is =
    let key : e.0 ≡ id = cc in
    let value : e.1 ≡ r = cc in
    λ i. Some (key i, seen (staged (key i)) (value i))
seen_at staged (e ∷ es) (suc n) id r at is = seen_at staged es n id r at is

-- a record that is ready stands under its own transaction
pub own-id : (staged : Staged) (sources : FileMap) (id : TransactionId) (r : Record) → IsReadyRecord staged sources id r → id_of r ≡ id
unfolding IsReadyRecord
own-id staged sources id (held.Sends x) is_ready = is_ready.0
own-id staged sources id (held.Receives r) is_ready = is_ready.0

-- the record at an index: its key, that it is ready, and the room of its timers
pub ready_at : (staged : Staged) (sources : FileMap) (roomy : set.FinSet id_cmp) (es : List (TransactionId × Record)) (i : ℕ) (r : Record) → slice_get (values_of es) i ≡ Some r
    → AllReady staged sources roomy es → ((slice_get (keys_of es) i ≡ Some (id_of r)) × IsReadyRecord staged sources (id_of r) r) × (set.contains roomy (id_of r) ≡ true)
unfolding AllReady
ready_at staged sources roomy [] i r is all = absurd (cc)
ready_at staged sources roomy (e ∷ es) zero r is all =
    let value : e.1 ≡ r = cc in
    let key : e.0 ≡ id_of r = sym (own-id staged sources e.0 e.1 all.0) ∙ ap id_of value in (
      (ap Some key, subst (λ k. IsReadyRecord staged sources k r) key (subst (IsReadyRecord staged sources e.0) value all.0)),
      subst (λ k. set.contains roomy k ≡ true) key all.1,
    )
ready_at staged sources roomy (e ∷ es) (suc n) r is all = ready_at staged sources roomy es n r is all.2

due-set : (xs : List Entry) (i : ℕ) (s : Seen) → map has_due (set_value_at xs i s) ≡ slice_set (map has_due xs) i (is_due s)
due-set [] i s = refl
due-set (x ∷ xs) zero s = refl
due-set (x ∷ xs) (suc n) s = ap (λ bs. has_due x ∷ bs) (due-set xs n s)

pub length_seen : (staged : Staged) (es : List (TransactionId × Record)) → length (map has_due (entries_seen staged es)) ≡ length es
unfolding entries_seen
length_seen staged [] = refl
length_seen staged (e ∷ es) = ap suc (length_seen staged es)

pub length_flags : (desk : DeskState) (es : List (TransactionId × Record)) (flags : List Bool) → IsWhole desk es flags → length flags ≡ length es
length_flags desk es flags whole = ap length whole.flagged ∙ length_seen desk.staged es

below_length : {K X : Type 0} (es : List (K × X)) (i : ℕ) (x : X) → slice_get (values_of es) i ≡ Some x → i < length es
below_length [] i x at = absurd (cc)
below_length (e ∷ es) zero x at = omega arith
below_length (e ∷ es) (suc n) x at = let l = below_length es n x at in omega arith

-- if there is no record, no step is made
pub no_entry : (staged : Staged) (es : List (TransactionId × Record)) (i : ℕ) → None ≡ slice_get (values_of es) i → slice_get (entries_seen staged es) i ≡ None
unfolding entries_seen
no_entry staged [] i none = refl
no_entry staged (e ∷ es) zero none = absurd (cc)
no_entry staged (e ∷ es) (suc n) none = no_entry staged es n none

-- what is indicated stands after what was discarded, too
told-behind : (past before told now : List Indication) → now ≡ before ++ told → past ++ now ≡ (past ++ before) ++ told
told-behind past before told now is = ap (λ l. past ++ l) is ∙ sym (append_assoc past before told)

-- ---- a step of the record at an index
module _ (past : List Indication) (old : DeskState) (es : List (TransactionId × Record)) (flags : List Bool) (place : ℕ) where
  -- none is there
  pub state-nowhere : (step : DeskState → Seen → After) → None ≡ slice_get (values_of es) place
      → state_of past old es ≡ step_of (λ e. step old e.1) place (slice_get (entries_seen old.staged es) place) (state_of past old es)
  state-nowhere step none = ap (λ o. step_of (λ e. step old e.1) place o (state_of past old es)) (sym (no_entry old.staged es place none))

  pub steps-nowhere : (step : DeskState → Seen → After) (Asks : (r s : ReceiverState) → (old new : ℕ) → Type 0) → None ≡ slice_get (values_of es) place
      → Steps (step_of (λ e. step old e.1) place (slice_get (entries_seen old.staged es) place) (state_of past old es)) (Counts Done)
      (AsksOf Raises Asks (λ e. step old e.1) (slice_get (entries_seen old.staged es) place)) (roomy_of past old es) (roomy_of past old es)
  steps-nowhere step Asks none =
      let at : slice_get (entries_seen old.staged es) place ≡ None = no_entry old.staged es place none in
      record {
        state = state-nowhere step none;
        counts = omega arith;
        raises = subst (λ o. AsksOf Raises Asks (λ e. step old e.1) o old.inbox_failures old.inbox_failures) (sym at) refl;
        outbox = refl;
      }

  module _ (whole : IsWhole old es flags) (r : Record) (is : slice_get (values_of es) place ≡ Some r) where
    at : slice_get (keys_of es) place ≡ Some (id_of r)
    at = (ready_at old.staged old.sources old.effects.timers.roomy es place r is whole.ready).0.0

    pub here : slice_get (entries_seen old.staged es) place ≡ Some (id_of r, seen (old.staged (id_of r)) r)
    here = seen_at old.staged es place (id_of r) r at is

    pub within : place < length flags
    within =
        let l = below_length es place r is in
        let m = length_flags old es flags whole in
        omega (arith, l, m)

    pub may-step : 3 ≤ spare old → MayStep r old
    may-step room =
        let ready = ready_at old.staged old.sources old.effects.timers.roomy es place r is whole.ready in
        record { ready = ready.0.1; room = record { told = omega (arith, room); timers = ready.1 } }

    -- a record becomes another there, which stays ready
    module _ (new : DeskState) (fs : List (TransactionId × Record)) (r_now : Record) (becomes : fs ≡ set_value_at es place r_now) (stays : Stays r r_now old new) where
      entries-become : entries_seen new.staged fs ≡ set_value_at (entries_seen old.staged es) place (seen_as r r_now new)
      entries-become = ap (entries_seen new.staged) becomes ∙ seen-set old.staged new.staged old.sources (id_of r) stays.others es place r_now whole.distinct at

      -- the table is still kept as a table is
      pub whole-step : new.effects.timers.roomy ≡ old.effects.timers.roomy → (due : Bool) → due ≡ is_due (seen_as r r_now new) → (flags_now : List Bool) → flags_now ≡ slice_set flags place due →
          IsWhole new fs flags_now
      whole-step roomy due is_due_now flags_now set_so = record {
        distinct = subst (IsDistinct same_id) (sym (ap keys_of becomes ∙ keys_set es place r_now)) whole.distinct;
        ready = subst (λ s. AllReady new.staged new.sources s fs) (sym roomy)
            (subst (λ f. AllReady new.staged f old.effects.timers.roomy fs) (sym stays.sources)
            (subst (AllReady new.staged old.sources old.effects.timers.roomy) (sym becomes)
            (ready-set old.staged new.staged old.sources (id_of r) stays.others old.effects.timers.roomy es place r_now whole.distinct at
            (subst (λ f. IsReadyRecord new.staged f (id_of r) r_now) stays.sources stays.ready) whole.ready)));
        flagged = set_so ∙ (λ i. slice_set (whole.flagged i) place (is_due_now i)) ∙ sym (due-set (entries_seen old.staged es) place (seen_as r r_now new)) ∙ ap (map has_due) (sym entries-become);
        few = subst (λ n. n ≤ 4096) (sym (ap length becomes ∙ length_set es place r_now)) whole.few;
      }

      -- it is the table before, stepped there
      pub state-step : (step : DeskState → Seen → After) → Made step r r_now old new →
          state_of past new fs ≡ step_of (λ e. step old e.1) place (slice_get (entries_seen old.staged es) place) (state_of past old es)
      state-step step does =
          let entries : entries_seen new.staged fs ≡ set_value_at (entries_seen old.staged es) place (step old (seen_as r r old)).seen =
          entries-become ∙ ap (set_value_at (entries_seen old.staged es) place) does.state in
          (λ i. record {
            records = entries i;
            now = (does.timers i).time;
            armed = (does.timers i).armed;
            told = told-behind past old.effects.told.items (step old (seen_as r r old)).told new.effects.told.items does.tells i;
            gone = length past;
            files = does.files i;
            sources = stays.sources i;
            stands = stays.stands i;
            policy = stays.policy i;
          })
          ∙ ap (λ o. step_of (λ e. step old e.1) place o (state_of past old es)) (sym here)

      pub steps-there : (stored : Stored) (step : DeskState → Seen → After) (Asks : (r s : ReceiverState) → (old new : ℕ) → Type 0) → Made step r r_now old new → Asked stored Asks r r_now old new
          → Steps (step_of (λ e. step old e.1) place (slice_get (entries_seen old.staged es) place) (state_of past old es)) (Counts stored)
          (AsksOf Raises Asks (λ e. step old e.1) (slice_get (entries_seen old.staged es) place)) (roomy_of past old es) (roomy_of past new fs)
      steps-there stored step Asks does asked = record {
        state = state-step step does;
        counts = asked.counts;
        raises = subst (λ o. AsksOf Raises Asks (λ e. step old e.1) o old.inbox_failures new.inbox_failures) (sym here)
            (subst (λ s. AsksAs Raises Asks (seen_as r r old) s old.inbox_failures new.inbox_failures) does.state asked.raises);
        outbox = asked.outbox;
      }

      -- if a PDU found no memory, only its record may have changed
      pub lacks-there : (v : Content) → Keeps v r r_now old new → LacksMemory place v (roomy_of past old es) (roomy_of past new fs)
      lacks-there v keeps = record {
        spoiled = record {
          seen = seen_as r r_now new;
          spoils = λ e there. (let same : (id_of r, seen_as r r old) ≡ e = some_is (sym here ∙ there) in subst (λ (x : Entry). Spoils v x.1 (seen_as r r_now new)) same keeps.state);
          table = λ i. record {
            records = entries-become i;
            now = (keeps.timers i).time;
            armed = (keeps.timers i).armed;
            told = past ++ keeps.tells i;
            gone = length past;
            files = keeps.files i;
            sources = stays.sources i;
            stands = stays.stands i;
            policy = stays.policy i;
          };
        };
        inbox = keeps.inbox;
        outbox = keeps.outbox;
      }
        where
          some_is : {X : Type 0} {a b : X} → Some a ≡ Some b → a ≡ b
          some_is e = cc

      -- the same by what a call answered
      module _ {E : Type 0} (answer : Result Stored E) (v : Content) (step : Stored → DeskState → Seen → After) (Asks : Stored → (r s : ReceiverState) → (old new : ℕ) → Type 0)
          (does : IfOk answer (λ s. Made (step s) r r_now old new)) (asked : IfOk answer (λ s. Asked s (Asks s) r r_now old new)) (keeps : OnErr answer (Keeps v r r_now old new)) where
        pub answered : IfOk answer (λ s. Steps (step_of (λ e. step s old e.1) place (slice_get (entries_seen old.staged es) place) (state_of past old es)) (Counts s)
            (AsksOf Raises (Asks s) (λ e. step s old e.1) (slice_get (entries_seen old.staged es) place)) (roomy_of past old es) (roomy_of past new fs))
        answered = by answer does asked
          where
            by : (a : Result Stored E) → IfOk a (λ s. Made (step s) r r_now old new) → IfOk a (λ s. Asked s (Asks s) r r_now old new) →
                IfOk a (λ s. Steps (step_of (λ e. step s old e.1) place (slice_get (entries_seen old.staged es) place) (state_of past old es)) (Counts s)
                (AsksOf Raises (Asks s) (λ e. step s old e.1) (slice_get (entries_seen old.staged es) place)) (roomy_of past old es) (roomy_of past new fs))
            by (Ok s) h k = steps-there s (step s) (Asks s) h k
            by (Err e) h k = tt

        pub failed : OnErr answer (LacksMemory place v (roomy_of past old es) (roomy_of past new fs))
        failed = by answer keeps
          where
            by : (a : Result Stored E) → OnErr a (Keeps v r r_now old new) → OnErr a (LacksMemory place v (roomy_of past old es) (roomy_of past new fs))
            by (Ok s) h = tt
            by (Err e) h = lacks-there v h

        pub same-roomy : new.effects.timers.roomy ≡ old.effects.timers.roomy
        same-roomy = by answer does keeps
          where
            by : (a : Result Stored E) → IfOk a (λ s. Made (step s) r r_now old new) → OnErr a (Keeps v r r_now old new) → new.effects.timers.roomy ≡ old.effects.timers.roomy
            by (Ok s) h k = ap (λ (c : TimersState). c.roomy) h.timers
            by (Err e) h k = ap (λ (c : TimersState). c.roomy) k.timers

-- ---- a record more
ready-roomier : (staged : Staged) (sources : FileMap) (roomy wider : set.FinSet id_cmp) → ((k : TransactionId) → set.contains roomy k ≡ true → set.contains wider k ≡ true) →
    (es : List (TransactionId × Record)) → AllReady staged sources roomy es → AllReady staged sources wider es
unfolding AllReady
ready-roomier staged sources roomy wider more [] all = tt
ready-roomier staged sources roomy wider more (e ∷ es) all = (all.0, more e.0 all.1, ready-roomier staged sources roomy wider more es all.2)

ready-push : (staged : Staged) (sources : FileMap) (roomy : set.FinSet id_cmp) (es : List (TransactionId × Record)) (id : TransactionId) (r : Record) → AllReady staged sources roomy es →
    IsReadyRecord staged sources id r → set.contains roomy id ≡ true
    → AllReady staged sources roomy (es ++ (id, r) ∷ [])
unfolding AllReady
ready-push staged sources roomy [] id r all is_ready has_room = (is_ready, has_room, tt)
ready-push staged sources roomy (e ∷ es) id r all is_ready has_room = (all.0, all.1, ready-push staged sources roomy es id r all.2 is_ready has_room)

-- no key is this one
absent-apart : (es : List (TransactionId × Record)) (id : TransactionId) → lookup (same_id id) es ≡ None → AllByRecursion (λ k. same_id id k ≡ false) (keys_of es)
absent-apart [] id none = tt
absent-apart (e ∷ es) id none =
    elim (same_id id e.0) as (λ b. same_id id e.0 ≡ b → cond b (Some e.1) (lookup (same_id id) es) ≡ None → (same_id id e.0 ≡ false) × AllByRecursion (λ k. same_id id k ≡ false) (keys_of es)) [
      | true ↦ λ t n. absurd (cc)
      | false ↦ λ t n. (t, absent-apart es id n)
    ] refl none

module _ (past : List Indication) (old new : DeskState) (es fs : List (TransactionId × Record)) (flags : List Bool) (id : TransactionId) (whole : IsWhole old es flags) (absent : lookup (same_id id) es ≡ None) (same : fs ≡ es)
    (widens : Widens id old new) where
  seen-kept : entries_seen new.staged fs ≡ entries_seen old.staged es
  seen-kept = ap (entries_seen new.staged) same ∙ seen-others old.staged new.staged old.sources id widens.others es (absent-apart es id absent)

  ready-kept : AllReady new.staged new.sources new.effects.timers.roomy es
  ready-kept = subst (λ f. AllReady new.staged f new.effects.timers.roomy es) (sym widens.sources)
      (ready-others old.staged new.staged old.sources id widens.others new.effects.timers.roomy es (absent-apart es id absent)
      (ready-roomier old.staged old.sources old.effects.timers.roomy new.effects.timers.roomy widens.roomier es whole.ready))

  -- if the record found no memory
  pub whole-kept : IsWhole new fs flags
  whole-kept = subst (λ l. IsWhole new l flags) (sym same) (record {
    distinct = whole.distinct;
    ready = ready-kept;
    flagged = whole.flagged ∙ ap (map has_due) (sym (seen-others old.staged new.staged old.sources id widens.others es (absent-apart es id absent)));
    few = whole.few;
  })

  pub becomes-kept : OpensNone old new → Becomes (state_of past old es) (roomy_of past old es) (roomy_of past new fs)
  becomes-kept none = record {
    state = λ i. record {
      records = seen-kept i;
      now = (none.timers i).time;
      armed = (none.timers i).armed;
      told = past ++ none.tells i;
      gone = length past;
      files = none.files i;
      sources = widens.sources i;
      stands = widens.stands i;
      policy = widens.policy i;
    };
    inbox = none.inbox;
    outbox = widens.outbox;
  }

  -- if it was added
  module _ (r : Record) (gs : List (TransactionId × Record)) (added : gs ≡ fs ++ (id, r) ∷ []) (after : After) (opens : Opens id after r old new) where
    seen-added : entries_seen new.staged gs ≡ entries_seen old.staged es ++ (id, seen (new.staged id) r) ∷ []
    unfolding entries_seen
    seen-added = ap (entries_seen new.staged) added ∙ map-append (entry_seen new.staged) fs ((id, r) ∷ []) ∙ ap (λ l. l ++ (id, seen (new.staged id) r) ∷ []) seen-kept

    pub whole-added : length es < 4096 → (due : Bool) → due ≡ is_due (seen (new.staged id) r) → (flags_now : List Bool) → flags_now ≡ flags ++ due ∷ [] → IsDistinct same_id (keys_of gs) →
        IsWhole new gs flags_now
    whole-added few due is_due_now flags_now pushed apart = record {
      distinct = apart;
      ready = subst (AllReady new.staged new.sources new.effects.timers.roomy) (sym (added ∙ ap (λ l. l ++ (id, r) ∷ []) same))
          (ready-push new.staged new.sources new.effects.timers.roomy es id r ready-kept opens.ready opens.has_room);
      flagged = pushed ∙ (λ i. whole.flagged i ++ is_due_now i ∷ []) ∙ sym (map-append has_due (entries_seen old.staged es) ((id, seen (new.staged id) r) ∷ [])) ∙ ap (map has_due) (sym seen-added);
      few = (let l = ap length added ∙ length-append fs ((id, r) ∷ []) in let m = ap length same in omega (arith, l, m));
    }

    pub state-added : state_of past new gs ≡ with_record id after (state_of past old es)
    state-added =
        let entries : entries_seen new.staged gs ≡ entries_seen old.staged es ++ (id, after.seen) ∷ [] = seen-added ∙ ap (λ s. entries_seen old.staged es ++ (id, s) ∷ []) opens.does.state in
        λ i. record {
          records = entries i;
          now = (opens.does.timers i).time;
          armed = (opens.does.timers i).armed;
          told = told-behind past old.effects.told.items after.told new.effects.told.items opens.does.tells i;
          gone = length past;
          files = opens.does.files i;
          sources = widens.sources i;
          stands = widens.stands i;
          policy = widens.policy i;
        }

-- ---- room was made for what a step says
module _ (past : List Indication) (desk : DeskState) (told : Vec Indication Global) (same : told.items ≡ desk.effects.told.items) (es : List (TransactionId × Record)) where
  abbrev pub roomed : DeskState
  roomed = record desk { effects = record desk.effects { told = told } }

  pub whole-roomed : (flags : List Bool) → IsWhole desk es flags → IsWhole roomed es flags
  whole-roomed flags whole = record { distinct = whole.distinct; ready = whole.ready; flagged = whole.flagged; few = whole.few }

  pub becomes-roomed : (after : TableState → TableState) (v w : Roomy) → roomy_of past desk es ≡ v → Becomes (after (state_of past roomed es)) (roomy_of past roomed es) w → Becomes (after v.state) v w
  becomes-roomed after v w is becomes = subst (λ (v : Roomy). Becomes (after v.state) v w) is
      (record { state = becomes.state ∙ ap (λ l. after (record (state_of past desk es) { told = past ++ l })) same; inbox = becomes.inbox; outbox = becomes.outbox })

  pub steps-roomed : (after : TableState → TableState) (Counted : (before after : ℕ) → Type 0) (Asks : TableState → (before after : ℕ) → Type 0) (v w : Roomy) → roomy_of past desk es ≡ v →
      Steps (after (state_of past roomed es)) Counted (Asks (state_of past roomed es)) (roomy_of past roomed es) w → Steps (after v.state) Counted (Asks v.state) v w
  steps-roomed after Counted Asks v w is steps = subst (λ (v : Roomy). Steps (after v.state) Counted (Asks v.state) v w) is
      (record {
        state = steps.state ∙ ap (λ l. after (record (state_of past desk es) { told = past ++ l })) same;
        counts = steps.counts;
        raises = subst (λ l. Asks (record (state_of past desk es) { told = past ++ l }) desk.inbox_failures w.inbox_failures) same steps.raises;
        outbox = steps.outbox;
      })

-- by the entry itself
pub ready_by_entry : (staged : Staged) (sources : FileMap) (roomy : set.FinSet id_cmp) (es : List (TransactionId × Record)) (i : ℕ) (k : TransactionId) (r : Record) → Some (k, r) ≡ slice_get es i
    → AllReady staged sources roomy es → IsReadyRecord staged sources k r
unfolding AllReady
ready_by_entry staged sources roomy [] i k r is all = absurd (cc)
ready_by_entry staged sources roomy (e ∷ es) zero k r is all = let same : e ≡ (k, r) = cc in subst (λ (x : TransactionId × Record). IsReadyRecord staged sources x.0 x.1) same all.0
ready_by_entry staged sources roomy (e ∷ es) (suc n) k r is all = ready_by_entry staged sources roomy es n k r is all.2

pub seen_by_entry : (staged : Staged) (es : List (TransactionId × Record)) (i : ℕ) (k : TransactionId) (r : Record) → Some (k, r) ≡ slice_get es i → slice_get (entries_seen staged es) i
    ≡ Some (k, seen (staged k) r)
unfolding entries_seen
seen_by_entry staged [] i k r is = absurd (cc)
seen_by_entry staged (e ∷ es) zero k r is = let same : e ≡ (k, r) = cc in ap (λ (x : TransactionId × Record). Some (x.0, seen (staged x.0) x.1)) same
seen_by_entry staged (e ∷ es) (suc n) k r is = seen_by_entry staged es n k r is

pub seen_nowhere : (staged : Staged) (es : List (TransactionId × Record)) (i : ℕ) → None ≡ slice_get es i → slice_get (entries_seen staged es) i ≡ None
unfolding entries_seen
seen_nowhere staged [] i is = refl
seen_nowhere staged (e ∷ es) zero is = absurd (cc)
seen_nowhere staged (e ∷ es) (suc n) is = seen_nowhere staged es n is

-- ---- what a record that is ready has
pub ready-sender : (staged : Staged) (sources : FileMap) (id : TransactionId) (x : SenderState) → IsReadyRecord staged sources id (held.Sends x) → (x.addressing.id ≡ id)
    × HasOwnFile sources x
unfolding IsReadyRecord
ready-sender staged sources id x is_ready = is_ready

pub sender-ready : (staged : Staged) (sources : FileMap) (id : TransactionId) (x : SenderState) → (x.addressing.id ≡ id) → HasOwnFile sources x →
    IsReadyRecord staged sources id (held.Sends x)
unfolding IsReadyRecord
sender-ready staged sources id x same file = (same, file)

pub ready-receiver : (staged : Staged) (sources : FileMap) (id : TransactionId) (r : ReceiverState) → IsReadyRecord staged sources id (held.Receives r) → (r.addressing.id ≡ id) × IsReady staged r
unfolding IsReadyRecord
ready-receiver staged sources id r is_ready = is_ready

pub receiver-ready : (staged : Staged) (sources : FileMap) (id : TransactionId) (r : ReceiverState) → (r.addressing.id ≡ id) → IsReady staged r → IsReadyRecord staged sources id (held.Receives r)
unfolding IsReadyRecord
receiver-ready staged sources id r same is_ready = (same, is_ready)
