-- Exported: what every step of a table keeps.
use Rattle.std.proofs.Common.{◌≡◌, ◌≢◌, ℕ, zero, suc, ◌+◌, ◌<◌, ◌≤◌, Bool, true, false, not, cond, ◌||◌, List, [], ◌∷◌, ◌++◌, take, length, remove, slice_get, Option, Some, None, refl, sym, ap, subst, ◌∙◌, arith}
use Rattle.std.specs.FinMap.{empty}
use Rattle.std.specs.List.{IsDistinct, AllByRecursion, position_or_len}
use Rattle.std.proofs.lemmas.List.{append-nil}
use Rattle.std.specs.Map.{keys_of}
use Rattle.indexmap.specs.IndexMap.{set_value_at}
use Rattle.cfdp_header.specs.declared.value.TransactionId.{TransactionId}
use Rattle.cfdp_header.specs.Files.{FileMap}
use Rattle.cfdp_header.specs.Ids.{same_id}
use Rattle.cfdp_directives.specs.declared.pdu.addressing.Addressing.{Addressing}
use Rattle.cfdp_directives.specs.declared.pdu.codes.Acknowledged.TheVariants as acknowledged
use Rattle.cfdp_directives.specs.declared.user.indication.Indication.{Indication}
use Rattle.cfdp_directives.specs.declared.user.limits.Times.{Times}
use Rattle.cfdp_directives.specs.declared.user.policy.Policy.{Policy}
use Rattle.cfdp_directives.specs.Pdu.Content.{Content, FileData, Metadata, Eof, Finished, Ack, Nak, Prompt, KeepAlive}
use Rattle.cfdp_directives.proofs.Puts.{finished-append}
use Rattle.cfdp_store.specs.declared.stored.Stored.{Stored}
use Rattle.cfdp_store.specs.declared.stored.Stored.TheVariants.{Done, Refused}
use Rattle.cfdp_store.specs.Staged.{OctetMap}
use Rattle.cfdp_store.specs.Files.{octets_in}
use Rattle.cfdp_timers.specs.declared.kind.Kind.{Kind}
use Rattle.cfdp_timers.specs.Order.{Timer}
use Rattle.cfdp_sender.specs.declared.phase.SenderPhase.{SenderPhase}
use Rattle.cfdp_sender.specs.declared.phase.SenderPhase.TheVariants as sending
use Rattle.cfdp_sender.specs.declared.due.SenderDue.{SenderDue}
use Rattle.cfdp_sender.specs.declared.transfer.Transfer.{Transfer}
use Rattle.cfdp_sender.specs.State.{SenderState, transfer_of}
use Rattle.cfdp_sender.specs.Due.{sender_due}
use Rattle.cfdp_sender.specs.Steps.{SenderAfter}
use Rattle.cfdp_sender.specs.Inputs.{SenderInput, sender_step, finished_count}
use Rattle.cfdp_sender.specs.Inputs as inputs
use Rattle.cfdp_receiver.specs.declared.state.ReceiverPhase.TheVariants as receiving
use Rattle.cfdp_receiver.specs.declared.due.Due.{Due}
use Rattle.cfdp_receiver.specs.State.{ReceiverState, opened_receiver}
use Rattle.cfdp_receiver.specs.Due.{receiver_due}
use Rattle.cfdp_receiver.specs.Steps as receiver
use Rattle.cfdp_receiver.specs.Sound.{ReceiverInput, receiver_step, open_count}
use Rattle.cfdp_receiver.specs.Sound as machine
use Rattle.cfdp_entity.specs.declared.request.Request.{Request}
use Rattle.cfdp_entity.specs.declared.request.Request.TheVariants as call
use Rattle.cfdp_entity.specs.Seen.{Seen, Sends, Receives, addressing_of}
use Rattle.cfdp_entity.specs.Steps.{After, by_sender, by_receiver, no_step, hears, expires, calls, takes, sender_takes, receiver_takes}
use Rattle.cfdp_entity.specs.Steps as steps
use Rattle.cfdp_entity.specs.Opening.{puts, opens, opens_by, begins, closing}
use Rattle.cfdp_entity.specs.Table.{Entry, TableState, place_of, record_of, step_of, step_at, with_record, expired_in, expired, all_expired, at_time, Ticks, SpoiledAt}
use Rattle.cfdp_entity.specs.History.{TableStep, Hears, Spoils, Expires, Calls, Takes, Puts, Opens, Tells, Fires, table_step, table_run, MayHappen, MayRun, Leads, GoesOn, KeepsRecords, OpensOther, sender_open_count, open_in, open_of, may_finish, also, none_gone, FinishesOnce}
use Rattle.cfdp_entity.proofs.Entries.{keys_set}
use Rattle.cfdp_entity.proofs.Places.{position-none}
use Rattle.cfdp_entity.proofs.CallerLemmas.{same_id-true, same_id-symm, step-own, step-other, push-own, push-other}
use Rattle.cfdp_entity.proofs.Sparing.{spoils-receives}

-- ---- the laws of both machines
pub record Machines : Type 0 where
  pub receiver_same : (stored : Stored) (input : ReceiverInput) (m : OctetMap) (files : FileMap) (r : ReceiverState) → (receiver_step stored input m files r).receiver.addressing ≡ r.addressing
  pub receiver_stays : (stored : Stored) (input : ReceiverInput) (m : OctetMap) (files : FileMap) (r : ReceiverState) → r.phase ≡ receiving.Closed →
      (receiver_step stored input m files r).receiver.phase ≡ receiving.Closed
  pub receiver_once : (stored : Stored) (input : ReceiverInput) (m : OctetMap) (files : FileMap) (r : ReceiverState) (id : TransactionId) →
      finished_count id (receiver_step stored input m files r).told + open_count (receiver_step stored input m files r).receiver.phase ≤ open_count r.phase
  pub receiver_own : (stored : Stored) (input : ReceiverInput) (m : OctetMap) (files : FileMap) (r : ReceiverState) (id : TransactionId) → same_id r.addressing.id id ≡ false →
      finished_count id (receiver_step stored input m files r).told ≡ 0
  pub sender_keeps : (policy : Policy) (file : List ℕ) (input : SenderInput) (x : SenderState) → transfer_of (sender_step policy file input x).sender ≡ transfer_of x
  pub sender_once : (policy : Policy) (file : List ℕ) (input : SenderInput) (x : SenderState) → inputs.MayHappen input x → inputs.FinishesOnce x (sender_step policy file input x)

-- ---- one record
-- a step of a record goes on with it, and indicates at most once that its transaction is finished
pub record Behaves (s : Seen) (a : After) : Type 0 where
  pub goes_on : GoesOn s a.seen
  pub once : finished_count (addressing_of s).id a.told + open_in a.seen ≤ open_in s
  pub own : (id : TransactionId) → same_id (addressing_of s).id id ≡ false → finished_count id a.told ≡ 0

pub goes_on-itself : (s : Seen) → GoesOn s s
goes_on-itself (Sends x) = (refl, λ h. h)
goes_on-itself (Receives r m) = (refl, λ h. h)

pub goes_on-then : (s t u : Seen) → GoesOn s t → GoesOn t u → GoesOn s u
goes_on-then (Sends x) (Sends y) (Sends z) a b = (b.0 ∙ a.0, λ h. b.1 (a.1 h))
goes_on-then (Receives r m) (Receives s n) (Receives t o) a b = (b.0 ∙ a.0, λ h. b.1 (a.1 h))
goes_on-then (Sends x) (Sends y) (Receives t o) a b = absurd b
goes_on-then (Sends x) (Receives s n) u a b = absurd a
goes_on-then (Receives r m) (Sends y) u a b = absurd a
goes_on-then (Receives r m) (Receives s n) (Sends z) a b = absurd b

same-id : (s t : Seen) → GoesOn s t → (addressing_of t).id ≡ (addressing_of s).id
same-id (Sends x) (Sends y) g = ap (λ (t : Transfer). t.addressing.id) g.0
same-id (Receives r m) (Receives s n) g = ap (λ (a : Addressing). a.id) g.0
same-id (Sends x) (Receives s n) g = absurd g
same-id (Receives r m) (Sends y) g = absurd g

pub rests : (files : FileMap) (s : Seen) → Behaves s (no_step files s)
rests files s = record { goes_on = goes_on-itself s; once = omega arith; own = λ id other. refl }

most_one : (p : SenderPhase) → sender_open_count p ≤ 1
most_one sending.Sending = omega arith
most_one sending.Cancelling = omega arith
most_one sending.Closed = omega arith

still_open : (q : SenderPhase) (n : ℕ) → n ≤ 1 → (0 < n → q ≡ sending.Closed) → n + sender_open_count q ≤ 1
still_open q zero few closes = let l = most_one q in omega (arith, l)
still_open q (suc n) few closes = let none : sender_open_count q ≡ 0 = ap sender_open_count (closes (omega arith)) in omega (arith, none, few)

counted : (p q : SenderPhase) (n : ℕ) → n ≤ 1 → (0 < n → q ≡ sending.Closed) → (p ≡ sending.Closed → n ≡ 0) → (p ≡ sending.Closed → q ≡ sending.Closed) → n + sender_open_count q ≤ sender_open_count p
counted sending.Sending q n few closes none stays = still_open q n few closes
counted sending.Cancelling q n few closes none stays = still_open q n few closes
counted sending.Closed q n few closes none stays = let m : n ≡ 0 = none refl in let o : sender_open_count q ≡ 0 = ap sender_open_count (stays refl) in omega (arith, m, o)

module _ (laws : Machines) where
  by-sender : (times : Times) (files : FileMap) (policy : Policy) (file : List ℕ) (input : SenderInput) (x : SenderState) → inputs.MayHappen input x →
      Behaves (Sends x) (by_sender times files (sender_step policy file input x))
  by-sender times files policy file input x may =
      let a : SenderAfter = sender_step policy file input x in
      let f : inputs.FinishesOnce x a = laws.sender_once policy file input x may in
      record {
        goes_on = (laws.sender_keeps policy file input x, f.stays);
        once = counted x.phase a.sender.phase (finished_count x.addressing.id a.told) f.once f.closes f.none f.stays;
        own = f.own;
      }

  by-receiver : (times : Times) (stored : Stored) (input : ReceiverInput) (m : OctetMap) (files : FileMap) (r : ReceiverState) →
      Behaves (Receives r m) (by_receiver times (receiver_step stored input m files r))
  by-receiver times stored input m files r = record {
    goes_on = (laws.receiver_same stored input m files r, laws.receiver_stays stored input m files r);
    once = laws.receiver_once stored input m files r r.addressing.id;
    own = laws.receiver_own stored input m files r;
  }

  module _ (policy : Policy) (files : FileMap) where
    pub hears-so : (stored : Stored) (large : Bool) (v : Content) (s : Seen) → Behaves s (hears stored policy.times files large v s)
    hears-so stored large (Ack acknowledged.Eof condition status) (Sends x) = by-sender policy.times files policy [] (inputs.HearsAck condition) x tt
    hears-so stored large (Nak start end pairs) (Sends x) = by-sender policy.times files policy [] (inputs.HearsNak pairs) x tt
    hears-so stored large (Finished condition delivery status tlvs) (Sends x) =
        by-sender policy.times files policy [] (inputs.HearsFinished (record { condition = condition; delivery = delivery; status = status })) x tt
    hears-so stored large (KeepAlive progress) (Sends x) = by-sender policy.times files policy [] (inputs.HearsKeepAlive progress) x tt
    hears-so stored large (Ack acknowledged.Finished condition status) (Sends x) = rests files (Sends x)
    hears-so stored large (Metadata kind size source destination options) (Sends x) = rests files (Sends x)
    hears-so stored large (FileData offset bytes) (Sends x) = rests files (Sends x)
    hears-so stored large (Eof condition checksum size tlvs) (Sends x) = rests files (Sends x)
    hears-so stored large (Prompt keep_alive) (Sends x) = rests files (Sends x)
    hears-so stored large (Metadata kind size source destination options) (Receives r m) =
        by-receiver policy.times stored (machine.Hears large (Metadata kind size source destination options)) m files r
    hears-so stored large (FileData offset bytes) (Receives r m) = by-receiver policy.times stored (machine.Hears large (FileData offset bytes)) m files r
    hears-so stored large (Eof condition checksum size tlvs) (Receives r m) = by-receiver policy.times stored (machine.Hears large (Eof condition checksum size tlvs)) m files r
    hears-so stored large (Ack acknowledged.Finished condition status) (Receives r m) = by-receiver policy.times stored (machine.Hears large (Ack acknowledged.Finished condition status)) m files r
    hears-so stored large (Prompt keep_alive) (Receives r m) = by-receiver policy.times stored (machine.Hears large (Prompt keep_alive)) m files r
    hears-so stored large (Ack acknowledged.Eof condition status) (Receives r m) = rests files (Receives r m)
    hears-so stored large (Finished condition delivery status tlvs) (Receives r m) = rests files (Receives r m)
    hears-so stored large (Nak start end pairs) (Receives r m) = rests files (Receives r m)
    hears-so stored large (KeepAlive progress) (Receives r m) = rests files (Receives r m)

    pub expires-so : (k : Kind) (s : Seen) → Behaves s (expires policy files k s)
    expires-so k (Sends x) = by-sender policy.times files policy [] (inputs.Expires k) x tt
    expires-so k (Receives r m) = by-receiver policy.times Done (machine.Expires k policy) m files r

    pub calls-so : (c : Request) (s : Seen) → Behaves s (calls policy.times files c s)
    calls-so call.Cancel (Sends x) = by-sender policy.times files policy [] inputs.Cancels x tt
    calls-so call.Suspend (Sends x) = by-sender policy.times files policy [] inputs.Suspends x tt
    calls-so call.Resume (Sends x) = by-sender policy.times files policy [] inputs.Resumes x tt
    calls-so (call.Prompt keep_alive) (Sends x) = by-sender policy.times files policy [] (inputs.Prompts keep_alive) x tt
    calls-so call.Cancel (Receives r m) = by-receiver policy.times Done machine.Cancels m files r
    calls-so call.Suspend (Receives r m) = by-receiver policy.times Done machine.Suspends m files r
    calls-so call.Resume (Receives r m) = by-receiver policy.times Done machine.Resumes m files r
    calls-so (call.Prompt keep_alive) (Receives r m) = rests files (Receives r m)

    sender-takes : (stored : Stored) (file : List ℕ) (x : SenderState) (due : Option SenderDue) → sender_due x ≡ due → Behaves (Sends x) (sender_takes stored policy.times files file x due)
    sender-takes stored file x (Some d) is = by-sender policy.times files policy file (inputs.Sends stored d) x is
    sender-takes stored file x None is = rests files (Sends x)

    receiver-takes : (r : ReceiverState) (m : OctetMap) (due : Option Due) → Behaves (Receives r m) (receiver_takes policy.times files r m due)
    receiver-takes r m (Some d) = by-receiver policy.times Done (machine.Takes d) m files r
    receiver-takes r m None = rests files (Receives r m)

    pub takes-so : (stored : Stored) (sources : FileMap) (s : Seen) → Behaves s (takes stored policy.times sources files s)
    takes-so stored sources (Sends x) = sender-takes stored (octets_in sources x.source) x (sender_due x) refl
    takes-so stored sources (Receives r m) = receiver-takes r m (receiver_due r)

    -- if there was no memory
    same-so : (s t : Seen) → t ≡ s → Behaves s (no_step files t)
    same-so s t is = subst (λ u. Behaves s (no_step files u)) (sym is) (rests files s)

    pub spoils-so : (v : Content) (s t : Seen) → steps.Spoils v s t → Behaves s (no_step files t)
    spoils-so v (Receives r m) t h = subst (λ u. Behaves (Receives r m) (no_step files u)) (sym (spoils-receives v r m t h).1.0)
        (record { goes_on = (refl, λ c. c); once = omega arith; own = λ id other. refl })
    spoils-so (Nak start end pairs) (Sends x) t h =
        subst (λ u. Behaves (Sends x) (no_step files u)) (sym h.1)
        (let b = by-sender policy.times files policy [] (inputs.HearsNak (take h.0 pairs)) x tt in record { goes_on = b.goes_on; once = b.once; own = λ id other. refl })
    spoils-so (Ack of condition status) (Sends x) t h = same-so (Sends x) t h
    spoils-so (Finished condition delivery status tlvs) (Sends x) t h = same-so (Sends x) t h
    spoils-so (KeepAlive progress) (Sends x) t h = same-so (Sends x) t h
    spoils-so (Metadata kind size source destination options) (Sends x) t h = same-so (Sends x) t h
    spoils-so (FileData offset bytes) (Sends x) t h = same-so (Sends x) t h
    spoils-so (Eof condition checksum size tlvs) (Sends x) t h = same-so (Sends x) t h
    spoils-so (Prompt keep_alive) (Sends x) t h = same-so (Sends x) t h

-- ---- the record at an index
pub keeps-set : (xs : List Entry) (place : ℕ) (e : Entry) (s : Seen) → slice_get xs place ≡ Some e → GoesOn e.1 s → KeepsRecords xs (set_value_at xs place s)
keeps-set [] place e s at on p d h = absurd cc
keeps-set (x ∷ xs) zero e s at on zero d h =
    let is : x ≡ e = cc in
    let here : x ≡ d = cc in
    (s, (ap (λ (y : Entry). Some (y.0, s)) here, subst (λ (y : Entry). GoesOn y.1 s) (sym is ∙ here) on))
keeps-set (x ∷ xs) zero e s at on (suc p) d h = (d.1, (h, goes_on-itself d.1))
keeps-set (x ∷ xs) (suc n) e s at on zero d h = (d.1, (h, goes_on-itself d.1))
keeps-set (x ∷ xs) (suc n) e s at on (suc p) d h = keeps-set xs n e s at on p d h

pub keeps-all : (xs : List Entry) → KeepsRecords xs xs
keeps-all xs = λ p d h. (d.1, (h, goes_on-itself d.1))

pub keeps-then : (xs ys zs : List Entry) → KeepsRecords xs ys → KeepsRecords ys zs → KeepsRecords xs zs
keeps-then xs ys zs a b = λ p d h.
    let one = a p d h in
    let two = b p (d.0, one.0) one.1.0 in
    (two.0, (two.1.0, goes_on-then d.1 one.0 two.0 one.1.1 two.1.1))

pub kept-behind : (xs ys : List Entry) (place : ℕ) (e : Entry) → slice_get xs place ≡ Some e → slice_get (xs ++ ys) place ≡ Some e
kept-behind [] ys place e at = absurd cc
kept-behind (x ∷ xs) ys zero e at = at
kept-behind (x ∷ xs) ys (suc n) e at = kept-behind xs ys n e at

pub keeps-push : (xs ys : List Entry) → KeepsRecords xs (xs ++ ys)
keeps-push xs ys = λ p d h. (d.1, (kept-behind xs ys p d h, goes_on-itself d.1))

-- every other index is as it was
pub other-place : (xs : List Entry) (place other : ℕ) (s : Seen) → other ≢ place → slice_get (set_value_at xs place s) other ≡ slice_get xs other
other-place [] place other s apart = refl
other-place (x ∷ xs) zero zero s apart = absurd (apart refl)
other-place (x ∷ xs) zero (suc k) s apart = refl
other-place (x ∷ xs) (suc n) zero s apart = refl
other-place (x ∷ xs) (suc n) (suc k) s apart = other-place xs n k s (λ h. apart (ap suc h))

pub key-at : (xs : List Entry) (place : ℕ) (e : Entry) → slice_get xs place ≡ Some e → slice_get (keys_of xs) place ≡ Some e.0
key-at [] place e at = absurd cc
key-at (x ∷ xs) zero e at = let is : x ≡ e = cc in ap (λ (y : Entry). Some y.0) is
key-at (x ∷ xs) (suc n) e at = key-at xs n e at

pub set-itself : (xs : List Entry) (place : ℕ) (e : Entry) → slice_get xs place ≡ Some e → set_value_at xs place e.1 ≡ xs
set-itself [] place e at = absurd cc
set-itself (x ∷ xs) zero e at = let is : x ≡ e = cc in ap (λ (y : Entry). (x.0, y.1) ∷ xs) (sym is)
set-itself (x ∷ xs) (suc n) e at = ap (λ l. x ∷ l) (set-itself xs n e at)

abbrev Own : List Entry → Type 0
Own xs = (place : ℕ) (e : Entry) → slice_get xs place ≡ Some e → (addressing_of e.1).id ≡ e.0

own-set : (xs : List Entry) (place : ℕ) (e : Entry) (s : Seen) → slice_get xs place ≡ Some e → (addressing_of s).id ≡ e.0 → Own xs → Own (set_value_at xs place s)
own-set [] place e s at is own p d h = absurd cc
own-set (x ∷ xs) zero e s at is own zero d h =
    let here : x ≡ e = cc in
    let there : (x.0, s) ≡ d = cc in
    subst (λ (y : Entry). (addressing_of y.1).id ≡ y.0) there (is ∙ ap (λ (y : Entry). y.0) (sym here))
own-set (x ∷ xs) zero e s at is own (suc p) d h = own (suc p) d h
own-set (x ∷ xs) (suc n) e s at is own zero d h = own zero d h
own-set (x ∷ xs) (suc n) e s at is own (suc p) d h = own-set xs n e s at is (λ q f g. own (suc q) f g) p d h

own-push : (xs : List Entry) (id : TransactionId) (s : Seen) → (addressing_of s).id ≡ id → Own xs → Own (xs ++ (id, s) ∷ [])
own-push [] id s is own zero d h = let there : (id, s) ≡ d = cc in subst (λ (y : Entry). (addressing_of y.1).id ≡ y.0) there is
own-push [] id s is own (suc p) d h = absurd cc
own-push (x ∷ xs) id s is own zero d h = own zero d h
own-push (x ∷ xs) id s is own (suc p) d h = own-push xs id s is (λ q f g. own (suc q) f g) p d h

-- ---- a record more
absent : (xs : List Entry) (id : TransactionId) → position_or_len (λ (e : Entry). same_id id e.0) xs ≡ length xs → (record_of id xs ≡ None) × AllByRecursion (λ k. same_id id k ≡ false) (keys_of xs)
absent [] id none = (refl, tt)
absent (x ∷ xs) id none =
    elim (same_id id x.0) as (λ b. same_id id x.0 ≡ b → cond (not b) (1 + position_or_len (λ (e : Entry). same_id id e.0) xs) 0 ≡ suc (length xs) → (cond b (Some x.1) (record_of id xs) ≡ None)
    × ((same_id id x.0 ≡ false) × AllByRecursion (λ k. same_id id k ≡ false) (keys_of xs))) [
      | true ↦ λ t h. absurd (omega (arith, h))
      | false ↦ λ t h. (let n : position_or_len (λ (e : Entry). same_id id e.0) xs ≡ length xs = omega (arith, h) in let rest = absent xs id n in (rest.0, (t, rest.1)))
    ] refl none

pub no-record : (xs : List Entry) (id : TransactionId) → place_of id xs ≡ None → (record_of id xs ≡ None) × AllByRecursion (λ k. same_id id k ≡ false) (keys_of xs)
no-record xs id none = absent xs id (position-none (λ (e : Entry). same_id id e.0) xs none)

all-push : (id own : TransactionId) (s : Seen) (xs : List Entry) → AllByRecursion (λ k. same_id own k ≡ false) (keys_of xs) → same_id own id ≡ false →
    AllByRecursion (λ k. same_id own k ≡ false) (keys_of (xs ++ (id, s) ∷ []))
all-push id own s [] all last = (last, tt)
all-push id own s (x ∷ xs) all last = (all.0, all-push id own s xs all.1 last)

distinct-push : (xs : List Entry) (id : TransactionId) (s : Seen) → IsDistinct same_id (keys_of xs) → AllByRecursion (λ k. same_id id k ≡ false) (keys_of xs) →
    IsDistinct same_id (keys_of (xs ++ (id, s) ∷ []))
unfolding IsDistinct
distinct-push [] id s apart none = (tt, tt)
distinct-push (x ∷ xs) id s apart none = (all-push id x.0 s xs apart.0 (same_id-symm id x.0 none.0), distinct-push xs id s apart.1 none.1)

-- ---- the invariant over one step
-- no more may be indicated of a transaction than its record allows
may-same : (gone : TransactionId → Bool) (id : TransactionId) (xs ys : List Entry) → open_of (record_of id ys) ≡ open_of (record_of id xs) → may_finish gone id ys ≡ may_finish gone id xs
may-same gone id xs ys same = ap (λ n. cond (gone id) 0 n) same

may-known : (gone : TransactionId → Bool) (id : TransactionId) (xs : List Entry) → gone id ≡ false → may_finish gone id xs ≡ open_of (record_of id xs)
may-known gone id xs unknown = ap (λ b. cond b 0 (open_of (record_of id xs))) unknown

-- a transaction that has a record wasn't discarded
known-at : (gone : TransactionId → Bool) (xs : List Entry) (id : TransactionId) (s : Seen) → ((q : TransactionId) → gone q ≡ true → record_of q xs ≡ None) → record_of id xs ≡ Some s → gone id ≡ false
known-at gone xs id s apart there = by (gone id) refl
  where
    by : (b : Bool) → gone id ≡ b → gone id ≡ false
    by true is = let none = apart id is in absurd (cc (sym there ∙ none))
    by false is = is

module _ (gone : TransactionId → Bool) (xs : List Entry) (told : List Indication) (place : ℕ) (e : Entry) (at : slice_get xs place ≡ Some e) (a : After) (b : Behaves e.1 a) (was : FinishesOnce gone xs told) where
  set-once : FinishesOnce gone (set_value_at xs place a.seen) (told ++ a.told)
  set-once = record {
    distinct = subst (IsDistinct same_id) (sym (keys_set xs place a.seen)) was.distinct;
    own = own-set xs place e a.seen at (same-id e.1 a.seen b.goes_on ∙ was.own place e at) was.own;
    apart = λ id is. elim (same_id id e.0) as (λ t. same_id id e.0 ≡ t → record_of id (set_value_at xs place a.seen) ≡ None) [
      | true ↦ λ t. absurd (cc (sym is ∙ ap gone (same_id-true id e.0 t) ∙ known))
      | false ↦ λ t. step-other xs place e.0 id a.seen key t ∙ was.apart id is
    ] refl;
    once = λ id. elim (same_id id e.0) as (λ t. same_id id e.0 ≡ t → finished_count id (told ++ a.told) + may_finish gone id (set_value_at xs place a.seen) ≤ 1) [
      | true ↦ λ t. mine id (same_id-true id e.0 t)
      | false ↦ λ t. other id t
    ] refl;
  }
    where
      key : slice_get (keys_of xs) place ≡ Some e.0
      key = key-at xs place e at

      own_id : (addressing_of e.1).id ≡ e.0
      own_id = was.own place e at

      old : record_of e.0 xs ≡ Some e.1
      old = ap (record_of e.0) (sym (set-itself xs place e at)) ∙ step-own xs place e e.1 was.distinct key

      known : gone e.0 ≡ false
      known = known-at gone xs e.0 e.1 was.apart old

      mine-here : finished_count e.0 (told ++ a.told) + may_finish gone e.0 (set_value_at xs place a.seen) ≤ 1
      mine-here =
          let split : finished_count e.0 (told ++ a.told) ≡ finished_count e.0 told + finished_count e.0 a.told = finished-append e.0 told a.told in
          let now : may_finish gone e.0 (set_value_at xs place a.seen) ≡ open_in a.seen = may-known gone e.0 (set_value_at xs place a.seen) known ∙ ap open_of (step-own xs place e a.seen was.distinct key) in
          let before : may_finish gone e.0 xs ≡ open_in e.1 = may-known gone e.0 xs known ∙ ap open_of old in
          let step : finished_count e.0 a.told + open_in a.seen ≤ open_in e.1 = subst (λ id. finished_count id a.told + open_in a.seen ≤ open_in e.1) own_id b.once in
          let all = was.once e.0 in
          omega (arith, split, now, before, step, all)

      mine : (id : TransactionId) → id ≡ e.0 → finished_count id (told ++ a.told) + may_finish gone id (set_value_at xs place a.seen) ≤ 1
      mine id is = subst (λ q. finished_count q (told ++ a.told) + may_finish gone q (set_value_at xs place a.seen) ≤ 1) (sym is) mine-here

      other : (id : TransactionId) → same_id id e.0 ≡ false → finished_count id (told ++ a.told) + may_finish gone id (set_value_at xs place a.seen) ≤ 1
      other id apart =
          let split : finished_count id (told ++ a.told) ≡ finished_count id told + finished_count id a.told = finished-append id told a.told in
          let none : finished_count id a.told ≡ 0 = b.own id (ap (λ (k : TransactionId). same_id k id) own_id ∙ same_id-symm id e.0 apart) in
          let now : may_finish gone id (set_value_at xs place a.seen) ≡ may_finish gone id xs = may-same gone id xs (set_value_at xs place a.seen) (ap open_of (step-other xs place e.0 id a.seen key apart)) in
          let all = was.once id in
          omega (arith, split, none, now, all)

module _ (gone : TransactionId → Bool) (xs : List Entry) (told : List Indication) (id : TransactionId) (a : After) (none : place_of id xs ≡ None) (unknown : gone id ≡ false) (is : (addressing_of a.seen).id ≡ id)
    (once_only : finished_count id a.told + open_in a.seen ≤ 1)
    (own_only : (other : TransactionId) → same_id id other ≡ false → finished_count other a.told ≡ 0) (was : FinishesOnce gone xs told) where
  push-once : FinishesOnce gone (xs ++ (id, a.seen) ∷ []) (told ++ a.told)
  push-once = record {
    distinct = distinct-push xs id a.seen was.distinct (no-record xs id none).1;
    own = own-push xs id a.seen is was.own;
    apart = λ q there. elim (same_id q id) as (λ t. same_id q id ≡ t → record_of q (xs ++ (id, a.seen) ∷ []) ≡ None) [
      | true ↦ λ t. absurd (cc (sym there ∙ ap gone (same_id-true q id t) ∙ unknown))
      | false ↦ λ t. push-other xs id q a.seen t ∙ was.apart q there
    ] refl;
    once = λ q. elim (same_id q id) as (λ t. same_id q id ≡ t → finished_count q (told ++ a.told) + may_finish gone q (xs ++ (id, a.seen) ∷ []) ≤ 1) [
      | true ↦ λ t. mine q (same_id-true q id t)
      | false ↦ λ t. other q t
    ] refl;
  }
    where
      mine-here : finished_count id (told ++ a.told) + may_finish gone id (xs ++ (id, a.seen) ∷ []) ≤ 1
      mine-here =
          let split : finished_count id (told ++ a.told) ≡ finished_count id told + finished_count id a.told = finished-append id told a.told in
          let now : may_finish gone id (xs ++ (id, a.seen) ∷ []) ≡ open_in a.seen = may-known gone id (xs ++ (id, a.seen) ∷ []) unknown ∙ ap open_of (push-own xs id a.seen (no-record xs id none).0) in
          let before : may_finish gone id xs ≡ 1 = may-known gone id xs unknown ∙ ap open_of (no-record xs id none).0 in
          let all = was.once id in
          omega (arith, split, now, before, once_only, all)

      mine : (q : TransactionId) → q ≡ id → finished_count q (told ++ a.told) + may_finish gone q (xs ++ (id, a.seen) ∷ []) ≤ 1
      mine q same = subst (λ k. finished_count k (told ++ a.told) + may_finish gone k (xs ++ (id, a.seen) ∷ []) ≤ 1) (sym same) mine-here

      other : (q : TransactionId) → same_id q id ≡ false → finished_count q (told ++ a.told) + may_finish gone q (xs ++ (id, a.seen) ∷ []) ≤ 1
      other q apart =
          let split : finished_count q (told ++ a.told) ≡ finished_count q told + finished_count q a.told = finished-append q told a.told in
          let nothing : finished_count q a.told ≡ 0 = own_only q (same_id-symm q id apart) in
          let now : may_finish gone q (xs ++ (id, a.seen) ∷ []) ≡ may_finish gone q xs = may-same gone q xs (xs ++ (id, a.seen) ∷ []) (ap open_of (push-other xs id q a.seen apart)) in
          let all = was.once q in
          omega (arith, split, nothing, now, all)

-- ---- a record that is discarded
all-left : (P : TransactionId → Type 0) (xs : List Entry) (place : ℕ) → AllByRecursion P (keys_of xs) → AllByRecursion P (keys_of (remove xs place))
all-left P [] zero all = all
all-left P [] (suc n) all = all
all-left P (x ∷ xs) zero all = all.1
all-left P (x ∷ xs) (suc n) all = (all.0, all-left P xs n all.1)

distinct-left : (xs : List Entry) (place : ℕ) → IsDistinct same_id (keys_of xs) → IsDistinct same_id (keys_of (remove xs place))
unfolding IsDistinct
distinct-left [] zero d = d
distinct-left [] (suc n) d = d
distinct-left (x ∷ xs) zero d = d.1
distinct-left (x ∷ xs) (suc n) d = (all-left (λ y. same_id x.0 y ≡ false) xs n d.0, distinct-left xs n d.1)

-- each record that is left was there
pub was-there : (xs : List Entry) (place p : ℕ) (d : Entry) → slice_get (remove xs place) p ≡ Some d → (q : ℕ) × (slice_get xs q ≡ Some d)
was-there [] zero p d at = absurd cc
was-there [] (suc n) p d at = absurd cc
was-there (x ∷ xs) zero p d at = (suc p, at)
was-there (x ∷ xs) (suc n) zero d at = (zero, at)
was-there (x ∷ xs) (suc n) (suc p) d at = let rest = was-there xs n p d at in (suc rest.0, rest.1)

key-among : (P : TransactionId → Type 0) (xs : List Entry) (place : ℕ) (e : Entry) → AllByRecursion P (keys_of xs) → slice_get xs place ≡ Some e → P e.0
key-among P [] place e all at = absurd cc
key-among P (x ∷ xs) zero e all at = let is : x ≡ e = cc in subst (λ (y : Entry). P y.0) is all.0
key-among P (x ∷ xs) (suc n) e all at = key-among P xs n e all.1 at

none-among : (id : TransactionId) (xs : List Entry) → AllByRecursion (λ y. same_id id y ≡ false) (keys_of xs) → record_of id xs ≡ None
none-among id [] all = refl
none-among id (x ∷ xs) all = ap (λ b. cond b (Some x.1) (record_of id xs)) all.0 ∙ none-among id xs all.1

pub left-own : (xs : List Entry) (place : ℕ) (e : Entry) → IsDistinct same_id (keys_of xs) → slice_get xs place ≡ Some e → record_of e.0 (remove xs place) ≡ None
unfolding IsDistinct
left-own [] place e d at = absurd cc
left-own (x ∷ xs) zero e d at =
    let is : x ≡ e = cc in
    none-among e.0 xs (subst (λ (y : Entry). AllByRecursion (λ z. same_id y.0 z ≡ false) (keys_of xs)) is d.0)
left-own (x ∷ xs) (suc n) e d at =
    let other : same_id e.0 x.0 ≡ false = same_id-symm x.0 e.0 (key-among (λ y. same_id x.0 y ≡ false) xs n e d.0 at) in
    ap (λ b. cond b (Some x.1) (record_of e.0 (remove xs n))) other ∙ left-own xs n e d.1 at

pub left-other : (xs : List Entry) (place : ℕ) (e : Entry) (q : TransactionId) → slice_get xs place ≡ Some e → same_id q e.0 ≡ false → record_of q (remove xs place) ≡ record_of q xs
left-other [] place e q at apart = absurd cc
left-other (x ∷ xs) zero e q at apart =
    let is : x ≡ e = cc in
    sym (ap (λ b. cond b (Some x.1) (record_of q xs)) (ap (λ (y : Entry). same_id q y.0) is ∙ apart))
left-other (x ∷ xs) (suc n) e q at apart = ap (cond (same_id q x.0) (Some x.1)) (left-other xs n e q at apart)

module _ (gone : TransactionId → Bool) (xs : List Entry) (told : List Indication) (place : ℕ) (e : Entry) (at : slice_get xs place ≡ Some e) (over : open_in e.1 ≡ 0) (was : FinishesOnce gone xs told) where
  left-apart : (q : TransactionId) → also e.0 gone q ≡ true → record_of q (remove xs place) ≡ None
  left-apart q there = elim (same_id q e.0) as (λ t. same_id q e.0 ≡ t → record_of q (remove xs place) ≡ None) [
    | true ↦ λ t. subst (λ k. record_of k (remove xs place) ≡ None) (sym (same_id-true q e.0 t)) (left-own xs place e was.distinct at)
    | false ↦ λ t. left-other xs place e q at t ∙ was.apart q (sym (ap (λ b. b || gone q) t) ∙ there)
  ] refl

  left-once : (q : TransactionId) → finished_count q told + may_finish (also e.0 gone) q (remove xs place) ≤ 1
  left-once q = elim (same_id q e.0) as (λ t. same_id q e.0 ≡ t → finished_count q told + may_finish (also e.0 gone) q (remove xs place) ≤ 1) [
    | true ↦ λ t. (
        let now : may_finish (also e.0 gone) q (remove xs place) ≡ 0 = ap (λ b. cond (b || gone q) 0 (open_of (record_of q (remove xs place)))) t in
        let all = was.once q in
        omega (arith, now, all))
    | false ↦ λ t. (
        let now : may_finish (also e.0 gone) q (remove xs place) ≡ may_finish gone q xs = λ i. cond (t i || gone q) 0 (open_of (left-other xs place e q at t i)) in
        let all = was.once q in
        omega (arith, now, all))
  ] refl

  pub let-go : FinishesOnce (also e.0 gone) (remove xs place) told
  let-go = record {
    distinct = distinct-left xs place was.distinct;
    own = λ p d h. (let before = was-there xs place p d h in was.own before.0 d before.1);
    apart = left-apart;
    once = left-once;
  }

-- ---- steps
-- what a step comes to, with what it keeps
pub record Kept (gone : TransactionId → Bool) (old new : TableState) : Type 0 where
  pub records : KeepsRecords old.records new.records
  pub once : FinishesOnce gone old.records old.told → FinishesOnce gone new.records new.told

pub kept-then : (gone : TransactionId → Bool) (s t u : TableState) → Kept gone s t → Kept gone t u → Kept gone s u
kept-then gone s t u a b = record { records = keeps-then s.records t.records u.records a.records b.records; once = λ w. b.once (a.once w) }

pub kept-itself : (gone : TransactionId → Bool) (s : TableState) → Kept gone s s
kept-itself gone s = record { records = keeps-all s.records; once = λ w. w }

module _ (gone : TransactionId → Bool) (f : Entry → After) (behaves : (e : Entry) → Behaves e.1 (f e)) (place : ℕ) (st : TableState) where
  kept-of : (o : Option Entry) → slice_get st.records place ≡ o → Kept gone st (step_of f place o st)
  kept-of None at = kept-itself gone st
  kept-of (Some e) at = record {
    records = keeps-set st.records place e (f e).seen at (behaves e).goes_on;
    once = set-once gone st.records st.told place e at (f e) (behaves e);
  }

  kept-at : Kept gone st (step_at f place st)
  kept-at = kept-of (slice_get st.records place) refl

-- an index without a record takes none
pub set-nowhere : (xs : List Entry) (place : ℕ) (s : Seen) → slice_get xs place ≡ None → set_value_at xs place s ≡ xs
set-nowhere [] place s none = refl
set-nowhere (x ∷ xs) zero s none = absurd cc
set-nowhere (x ∷ xs) (suc n) s none = ap (λ l. x ∷ l) (set-nowhere xs n s none)

-- how a record is opened
pub record OpensOnce (a : Addressing) (after : After) : Type 0 where
  pub is : (addressing_of after.seen).id ≡ a.id
  pub once : finished_count a.id after.told + open_in after.seen ≤ 1
  pub own : (other : TransactionId) → same_id a.id other ≡ false → finished_count other after.told ≡ 0

pub record Openings : Type 0 where
  pub once : (stored : Stored) (large : Bool) (files : FileMap) (addressing : Addressing) (id : TransactionId) → finished_count id (receiver.opens stored large files addressing).told
      + open_count (receiver.opens stored large files addressing).receiver.phase ≤ 1
  pub own : (stored : Stored) (large : Bool) (files : FileMap) (addressing : Addressing) (id : TransactionId) → same_id addressing.id id ≡ false →
      finished_count id (receiver.opens stored large files addressing).told ≡ 0

pub puts-once : (files : FileMap) (t : Transfer) → OpensOnce t.addressing (puts files t)
puts-once files t = record { is = refl; once = omega arith; own = λ other apart. refl }

module _ (laws : Machines) (openings : Openings) (policy : Policy) (files : FileMap) (a : Addressing) where
  begins-once : (begun stored : Stored) (large : Bool) (v : Content) → OpensOnce a (begins begun stored policy.times files large v a)
  begins-once Done stored large v =
      let b = hears-so laws policy files stored large v (Receives (opened_receiver a) empty) in
      record { is = same-id (Receives (opened_receiver a) empty) (begins Done stored policy.times files large v a).seen b.goes_on; once = b.once; own = b.own }
  begins-once Refused stored large v = record { is = refl; once = openings.once Refused large files a a.id; own = openings.own Refused large files a }

  opens-once : (o : Option ℕ) (begun stored : Stored) (large : Bool) (v : Content) → OpensOnce a (opens_by o begun stored policy.times files large v a)
  opens-once (Some condition) begun stored large v = record { is = refl; once = omega arith; own = λ other apart. refl }
  opens-once None begun stored large v = begins-once begun stored large v

  pub opens-so : (begun stored : Stored) (large : Bool) (v : Content) → OpensOnce a (opens begun stored policy.times files large v a)
  opens-so begun stored large v = opens-once (closing v) begun stored large v

kept-push : (gone : TransactionId → Bool) (a : Addressing) (after : After) (st : TableState) → place_of a.id st.records ≡ None → gone a.id ≡ false → OpensOnce a after → Kept gone st (with_record a.id after st)
kept-push gone a after st none unknown o = record {
  records = keeps-push st.records ((a.id, after.seen) ∷ []);
  once = push-once gone st.records st.told a.id after none unknown o.is o.once o.own;
}

module _ (laws : Machines) (openings : Openings) (gone : TransactionId → Bool) where
  kept-expired : (t : Timer) (st : TableState) → Kept gone st (expired t st)
  kept-expired t st = by (place_of t.0 st.records)
    where
      by : (o : Option ℕ) → Kept gone st (expired_in o t.1 st)
      by None = kept-itself gone st
      by (Some place) = kept-at gone (λ e. expires st.policy st.files t.1 e.1) (λ e. expires-so laws st.policy st.files t.1 e.1) place st

  kept-fired : (timers : List Timer) (st : TableState) → Kept gone st (all_expired timers st)
  unfolding all_expired
  kept-fired [] st = kept-itself gone st
  kept-fired (t ∷ timers) st = kept-then gone st (expired t st) (all_expired timers (expired t st)) (kept-expired t st) (kept-fired timers (expired t st))

  kept-spoiled : (place : ℕ) (v : Content) (noted : Seen) (st : TableState) → ((e : Entry) → slice_get st.records place ≡ Some e → steps.Spoils v e.1 noted) →
      Kept gone st (record st { records = set_value_at st.records place noted })
  kept-spoiled place v noted st may = by (slice_get st.records place) refl
    where
      by : (o : Option Entry) → slice_get st.records place ≡ o → Kept gone st (record st { records = set_value_at st.records place noted })
      by None none = let same : set_value_at st.records place noted ≡ st.records = set-nowhere st.records place noted none in
          subst (λ (l : List Entry). Kept gone st (record st { records = l })) (sym same) (kept-itself gone st)
      by (Some e) at =
          let b : Behaves e.1 (no_step st.files noted) = spoils-so laws st.policy st.files v e.1 noted (may e at) in
          record {
            records = keeps-set st.records place e noted at b.goes_on;
            once = λ w. subst (λ (l : List Indication). FinishesOnce gone (set_value_at st.records place noted) l) (append-nil st.told)
                (set-once gone st.records st.told place e at (no_step st.files noted) b w);
          }

  pub kept-step : (s : TableStep) (st : TableState) → MayHappen s st → OpensOther gone s → Kept gone st (table_step s st)
  kept-step (Hears stored place large v) st may other = kept-at gone (λ e. hears stored st.policy.times st.files large v e.1) (λ e. hears-so laws st.policy st.files stored large v e.1) place st
  kept-step (Spoils place v noted) st may other = kept-spoiled place v noted st may
  kept-step (Expires place k) st may other = kept-at gone (λ e. expires st.policy st.files k e.1) (λ e. expires-so laws st.policy st.files k e.1) place st
  kept-step (Calls place c) st may other = kept-at gone (λ e. calls st.policy.times st.files c e.1) (λ e. calls-so laws st.policy st.files c e.1) place st
  kept-step (Takes stored place) st may other = kept-at gone (λ e. takes stored st.policy.times st.sources st.files e.1) (λ e. takes-so laws st.policy st.files stored st.sources e.1) place st
  kept-step (Puts t) st may other = kept-push gone t.addressing (puts st.files t) st may other (puts-once st.files t)
  kept-step (Opens begun stored a large v) st may other = kept-push gone a (opens begun stored st.policy.times st.files large v a) st may other (opens-so laws openings st.policy st.files a begun stored large v)
  kept-step (Tells now) st may other = record { records = keeps-all st.records; once = λ w. w }
  kept-step (Fires timers) st may other = kept-fired timers st

-- nothing opens what was discarded, if nothing was
pub opens-any : (s : TableStep) → OpensOther none_gone s
opens-any (Hears stored place large v) = tt
opens-any (Spoils place v noted) = tt
opens-any (Expires place k) = tt
opens-any (Calls place c) = tt
opens-any (Takes stored place) = tt
opens-any (Puts t) = refl
opens-any (Opens begun stored a large v) = refl
opens-any (Tells now) = tt
opens-any (Fires timers) = tt

module _ (laws : Machines) (openings : Openings) where
  pub kept-run : (rest : List TableStep) (st : TableState) → MayRun rest st → Kept none_gone st (table_run rest st)
  unfolding table_run MayRun
  kept-run [] st may = kept-itself none_gone st
  kept-run (s ∷ rest) st may = kept-then none_gone st (table_step s st) (table_run rest (table_step s st)) (kept-step laws openings none_gone s st may.0 (opens-any s)) (kept-run rest (table_step s st) may.1)

-- ---- steps that follow one another
run-append : (xs ys : List TableStep) (st : TableState) → table_run (xs ++ ys) st ≡ table_run ys (table_run xs st)
unfolding table_run
run-append [] ys st = refl
run-append (s ∷ xs) ys st = run-append xs ys (table_step s st)

may-append : (xs ys : List TableStep) (st : TableState) → MayRun xs st → MayRun ys (table_run xs st) → MayRun (xs ++ ys) st
unfolding table_run MayRun
may-append [] ys st a b = b
may-append (s ∷ xs) ys st a b = (a.0, may-append xs ys (table_step s st) a.1 b)

pub leads-none : (st : TableState) → Leads st st
unfolding table_run MayRun
leads-none st = record { steps = []; may = tt; ends = refl }

pub leads-one : (s : TableStep) (st : TableState) → MayHappen s st → Leads st (table_step s st)
unfolding table_run MayRun
leads-one s st may = record { steps = s ∷ []; may = (may, tt); ends = refl }

pub leads-more : (first second third : TableState) → Leads first second → Leads second third → Leads first third
leads-more first second third a b = record {
  steps = a.steps ++ b.steps;
  may = may-append a.steps b.steps first a.may (subst (MayRun b.steps) a.ends b.may);
  ends = b.ends ∙ ap (table_run b.steps) a.ends ∙ sym (run-append a.steps b.steps first);
}

pub leads-spoiled : (place : ℕ) (v : Content) (old new : TableState) → SpoiledAt place v old new → Leads old new
leads-spoiled place v old new h = subst (Leads old) (sym h.table) (leads-one (Spoils place v h.seen) old h.spoils)

pub leads-ticked : (now : ℕ) (old new : TableState) → Ticks now old new → Leads old new
leads-ticked now old new h =
    subst (Leads old) (sym h.ticked) (leads-more old (at_time now old) (all_expired h.fired (at_time now old)) (leads-one (Tells now) old tt) (leads-one (Fires h.fired) (at_time now old) tt))

pub kept-leads : Machines → Openings → (old new : TableState) → Leads old new → Kept none_gone old new
kept-leads laws openings old new l = subst (Kept none_gone old) (sym l.ends) (kept-run laws openings l.steps old l.may)

pub first-once : (records : List Entry) (told : List Indication) → records ≡ [] → told ≡ [] → FinishesOnce none_gone records told
unfolding IsDistinct
first-once records told none nothing = subst (λ (l : List Entry). FinishesOnce none_gone l told) (sym none)
    (subst (λ (l : List Indication). FinishesOnce none_gone [] l) (sym nothing) (record { distinct = tt; own = λ p e h. absurd cc; apart = λ id h. refl; once = λ id. omega arith }))

pub once-only : (id : TransactionId) (st : TableState) → FinishesOnce none_gone st.records st.told → finished_count id st.told ≤ 1
once-only id st w = let all = w.once id in omega (arith, all)

-- ---- other records
pub stepped-other : (f : Entry → After) (place other : ℕ) (st : TableState) → other ≢ place → slice_get (step_at f place st).records other ≡ slice_get st.records other
stepped-other f place other st apart = by (slice_get st.records place)
  where
    by : (o : Option Entry) → slice_get (step_of f place o st).records other ≡ slice_get st.records other
    by None = refl
    by (Some e) = other-place st.records place other (f e).seen apart

pub stepped-by_id : (f : Entry → After) (place : ℕ) (st : TableState) (e : Entry) (id : TransactionId) → slice_get st.records place ≡ Some e → same_id id e.0 ≡ false →
    record_of id (step_at f place st).records ≡ record_of id st.records
stepped-by_id f place st e id at other =
    ap (λ o. record_of id (step_of f place o st).records) at ∙ step-other st.records place e.0 id (f e).seen (key-at st.records place e at) other
