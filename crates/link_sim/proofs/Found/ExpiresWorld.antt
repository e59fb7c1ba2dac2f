-- A station is given the time: what becomes of the transaction of a put, of that station or of the
-- other one.
use Rattle.std.proofs.Common.{◌≡◌, ◌⊎◌, inl, inr, ℕ, zero, suc, ◌<◌, ◌≤◌, ◌||◌, Bool, true, false, cond, List, [], ◌∷◌, ◌++◌, length, get_or, slice_get, max, Option, Some, None, is_some, IsSome, refl, sym, ap, subst, ◌∙◌, arith, if◌then◌else◌}
use Rattle.std.specs.Prelude.{nat_le, Contains}
use Rattle.std.specs.FinMap as map
use Rattle.std.specs.List.{IsDistinct, list_any}
use Rattle.std.specs.Map.{keys_of}
use Rattle.std.specs.Option.{option_map_or}
use Rattle.std.specs.Ordering.{eq_by_cmp}
use Rattle.std.specs.Cmp.{Equal-is}
use Rattle.std.proofs.lemmas.Bool.{false≢true, le-leb, or_left, or_right, or_cases}
use Rattle.std.proofs.lemmas.List.Folds.{list_any-append}
use Rattle.cfdp_header.specs.declared.value.TransactionId.{TransactionId}
use Rattle.cfdp_header.specs.Ids.{same_id}
use Rattle.cfdp_directives.specs.declared.user.indication.Indication.{Indication}
use Rattle.cfdp_directives.specs.declared.user.policy.Policy.{Policy}
use Rattle.cfdp_directives.specs.User.Put.{Put}
use Rattle.cfdp_store.specs.Staged.{OctetMap}
use Rattle.cfdp_timers.specs.declared.kind.Kind.{Kind}
use Rattle.cfdp_timers.specs.Due.{is_due}
use Rattle.cfdp_timers.specs.Order.{Timer, timer_cmp}
use Rattle.cfdp_timers.proofs.CallerLemmas.{deadline-fired, same_timer}
use Rattle.cfdp_sender.specs.Steps.{sender_expires}
use Rattle.cfdp_receiver.specs.State.{ReceiverState}
use Rattle.cfdp_receiver.specs.Steps as receiver
use Rattle.cfdp_entity.specs.Seen.{Seen, Sends, Receives, octets_seen}
use Rattle.cfdp_entity.specs.Steps.{After, expires}
use Rattle.cfdp_entity.specs.Table.{Entry, TableState, place_of, record_of, stepped, step_of, expired, expired_in, all_expired, Ticks}
use Rattle.cfdp_entity.specs.Timed.{AreTimed, waits_for}
use Rattle.cfdp_entity.proofs.CallerLemmas.{same_id-true, step-own, step-other}
use Rattle.cfdp_entity.proofs.Entries.{same_id-itself}
use Rattle.cfdp_entity.proofs.Histories.{key-at, no-record}
use Rattle.cfdp_entity.proofs.Timing.{at-own, key-there, no-place, distinct-fired}
use Rattle.link_sim.specs.Exchange.{tells_complete}
use Rattle.link_sim.specs.Runs.{Exchange, told_then, expire_sender, ReceiverExpires}
use Rattle.link_sim.specs.Stages.{AreWaitedByReceiver}
use Rattle.link_sim.specs.Waiting.{one_tells}

some-same : {X : Type 0} (x y : X) → Some x ≡ Some y → x ≡ y
some-same x y e = cc

-- ---- the kinds of those timers that are of a transaction, in their order
pub kinds_of : TransactionId → List Timer → List Kind
kinds_of id [] = []
kinds_of id (t ∷ ts) = if same_id id t.0 then t.1 ∷ kinds_of id ts else kinds_of id ts

pub kinds-own : (id : TransactionId) (t : Timer) (ts : List Timer) → same_id id t.0 ≡ true → kinds_of id (t ∷ ts) ≡ t.1 ∷ kinds_of id ts
unfolding kinds_of
kinds-own id t ts is = ap (λ b. cond b (t.1 ∷ kinds_of id ts) (kinds_of id ts)) is

pub kinds-other : (id : TransactionId) (t : Timer) (ts : List Timer) → same_id id t.0 ≡ false → kinds_of id (t ∷ ts) ≡ kinds_of id ts
unfolding kinds_of
kinds-other id t ts differs = ap (λ b. cond b (t.1 ∷ kinds_of id ts) (kinds_of id ts)) differs

first-in : {X : Type 0} (x : X) (xs : List X) → Contains (x ∷ xs) x
first-in x xs = (0, omega arith, refl)

later-in : {X : Type 0} (x y : X) (xs : List X) → Contains xs x → Contains (y ∷ xs) x
later-in x y xs c = (suc c.0, (let n = c.0 in let low : n < length xs = c.1 in omega (arith, low)), c.2)

-- such a timer is of the transaction
first-fired : (id : TransactionId) (t : Timer) (ts : List Timer) (k : Kind) → id ≡ t.0 → (Contains (kinds_of id ts) k → Contains ts (id, k)) → Contains (t.1 ∷ kinds_of id ts) k →
    Contains (t ∷ ts) (id, k)
first-fired id t ts k same rest (zero, low, is) = subst (λ (u : Timer). Contains (t ∷ ts) u) (λ i. (sym same i, is i)) (first-in t ts)
first-fired id t ts k same rest (suc n, low, is) = later-in (id, k) t ts (rest (n, omega (arith, low), is))

pub kind-fired : (id : TransactionId) (ts : List Timer) (k : Kind) → Contains (kinds_of id ts) k → Contains ts (id, k)
unfolding kinds_of
kind-fired id [] k (n, low, is) = absurd (omega (arith, low))
kind-fired id (t ∷ ts) k c = elim (same_id id t.0) as (λ b. same_id id t.0 ≡ b → Contains (t ∷ ts) (id, k)) [
  | true ↦ λ is. first-fired id t ts k (same_id-true id t.0 is) (λ d. kind-fired id ts k d) (subst (λ l. Contains l k) (kinds-own id t ts is) c)
  | false ↦ λ differs. later-in (id, k) t ts (kind-fired id ts k (subst (λ l. Contains l k) (kinds-other id t ts differs) c))
] refl

pub fired-kind : (id : TransactionId) (ts : List Timer) (k : Kind) → list_any (eq_by_cmp timer_cmp (id, k)) ts ≡ true → Contains (kinds_of id ts) k
fired-kind id [] k h = absurd (false≢true h)
fired-kind id (t ∷ ts) k h = elim (or_cases (eq_by_cmp timer_cmp (id, k) t) (list_any (eq_by_cmp timer_cmp (id, k)) ts) h) [
  | inl tie ↦ (let is : (id, k) ≡ t = same_timer (id, k) t ((Equal-is (timer_cmp (id, k) t)).0 tie) in
      subst (λ l. Contains l k) (sym (kinds-own id t ts (same_id-itself id t.0 (ap (λ (u : Timer). u.0) is))))
      (subst (λ j. Contains (j ∷ kinds_of id ts) k) (ap (λ (u : Timer). u.1) is) (first-in k (kinds_of id ts))))
  | inr rest ↦ elim (same_id id t.0) as (λ b. same_id id t.0 ≡ b → Contains (kinds_of id (t ∷ ts)) k) [
    | true ↦ λ is. subst (λ l. Contains l k) (sym (kinds-own id t ts is)) (later-in k t.1 (kinds_of id ts) (fired-kind id ts k rest))
    | false ↦ λ differs. subst (λ l. Contains l k) (sym (kinds-other id t ts differs)) (fired-kind id ts k rest)
  ] refl
]

-- ---- one timer, seen by a transaction
-- what an expiry did to the table: another record's stays, and more was indicated
pub record ExpiresOther (id : TransactionId) (st new : TableState) : Type 0 where
  pub same : record_of id new.records ≡ record_of id st.records
  pub more : List Indication
  pub told : new.told ≡ st.told ++ more
  pub policy : new.policy ≡ st.policy

pub record ExpiresOwn (id : TransactionId) (a : After) (st new : TableState) : Type 0 where
  pub is : record_of id new.records ≡ Some a.seen
  pub told : new.told ≡ st.told ++ a.told
  pub policy : new.policy ≡ st.policy

module _ (id : TransactionId) (t : Timer) (st : TableState) (apart : IsDistinct same_id (keys_of st.records)) where
  -- a timer of another transaction
  pub other-fired : same_id id t.0 ≡ false → ExpiresOther id st (expired t st)
  other-fired differs = by (place_of t.0 st.records) refl
    where
      none : ExpiresOther id st st
      none = record { same = refl; more = []; told = sym (Rattle.std.proofs.Common.append-nil st.told); policy = refl }

      at : (place : ℕ) (o : Option Entry) → place_of t.0 st.records ≡ Some place → slice_get st.records place ≡ o → ExpiresOther id st (step_of (λ e. expires st.policy st.files t.1 e.1) place o st)
      at place None is nowhere = none
      at place (Some e) is there =
          let key : t.0 ≡ e.0 = key-there t.0 st.records place e is there in
          record {
            same = step-other st.records place e.0 id _ (key-at st.records place e there) (ap (same_id id) (sym key) ∙ differs);
            more = (expires st.policy st.files t.1 e.1).told;
            told = refl;
            policy = refl;
          }

      by : (o : Option ℕ) → place_of t.0 st.records ≡ o → ExpiresOther id st (expired_in o t.1 st)
      by None is = none
      by (Some place) is = at place (slice_get st.records place) is refl

  -- one of its own
  own-fired : (s : Seen) → id ≡ t.0 → record_of id st.records ≡ Some s → ExpiresOwn id (expires st.policy st.files t.1 s) st (expired t st)
  own-fired s same was = by (place_of t.0 st.records) refl
    where
      at : (place : ℕ) (o : Option Entry) → place_of t.0 st.records ≡ Some place → slice_get st.records place ≡ o →
          ExpiresOwn id (expires st.policy st.files t.1 s) st (step_of (λ e. expires st.policy st.files t.1 e.1) place o st)
      at place None is nowhere = absurd (no-place t.0 st.records place is nowhere)
      at place (Some e) is there =
          let key : id ≡ e.0 = same ∙ key-there t.0 st.records place e is there in
          let seen : e.1 ≡ s = some-same e.1 s (sym (at-own st.records place e apart there) ∙ ap (λ i. record_of i st.records) (sym key) ∙ was) in
          let a : After = expires st.policy st.files t.1 e.1 in
          record {
            is = ap (λ i. record_of i (stepped place e.0 a st).records) key ∙ step-own st.records place e a.seen apart (key-at st.records place e there)
                ∙ ap (λ r. Some (expires st.policy st.files t.1 r).seen) seen;
            told = ap (λ r. st.told ++ (expires st.policy st.files t.1 r).told) seen;
            policy = refl;
          }

      by : (o : Option ℕ) → place_of t.0 st.records ≡ o → ExpiresOwn id (expires st.policy st.files t.1 s) st (expired_in o t.1 st)
      by None none = absurd (let e : None ≡ Some s = sym (ap (λ i. record_of i st.records) same ∙ (no-record st.records t.0 none).0) ∙ was in cc)
      by (Some place) is = at place (slice_get st.records place) is refl

  none-fired : same_id id t.0 ≡ true → record_of id st.records ≡ None → ExpiresOther id st (expired t st)
  none-fired is none = by (place_of t.0 st.records) refl
    where
      same : id ≡ t.0
      same = same_id-true id t.0 is

      at : (place : ℕ) (o : Option Entry) → place_of t.0 st.records ≡ Some place → slice_get st.records place ≡ o → ExpiresOther id st (step_of (λ e. expires st.policy st.files t.1 e.1) place o st)
      at place None at_place nowhere = absurd (no-place t.0 st.records place at_place nowhere)
      at place (Some e) at_place there =
          let key : id ≡ e.0 = same ∙ key-there t.0 st.records place e at_place there in
          absurd (let e1 : None ≡ Some e.1 = sym none ∙ ap (λ i. record_of i st.records) key ∙ at-own st.records place e apart there in cc)

      by : (o : Option ℕ) → place_of t.0 st.records ≡ o → ExpiresOther id st (expired_in o t.1 st)
      by None is = record { same = refl; more = []; told = sym (Rattle.std.proofs.Common.append-nil st.told); policy = refl }
      by (Some place) is = at place (slice_get st.records place) is refl

-- ---- all of them
-- that more was indicated shows in what was indicated
pub told-grows : (tells : Indication → Bool) (old more new : List Indication) → new ≡ old ++ more → one_tells tells old ≡ true → one_tells tells new ≡ true
told-grows tells old more new is h = ap (one_tells tells) is ∙ list_any-append tells old more ∙ or_left (one_tells tells old) (one_tells tells more) h

told-then-grows : (put : Put) (before : Bool) (old more new : List Indication) → new ≡ old ++ more → (before ≡ true → one_tells (tells_complete put.id) old ≡ true) → told_then put before more ≡ true →
    one_tells (tells_complete put.id) new ≡ true
told-then-grows put before old more new is h now = ap (one_tells (tells_complete put.id)) is ∙ list_any-append (tells_complete put.id) old more
    ∙ elim (or_cases before (one_tells (tells_complete put.id) more) now) [
      | inl b ↦ or_left (one_tells (tells_complete put.id) old) (one_tells (tells_complete put.id) more) (h b)
      | inr m ↦ or_right (one_tells (tells_complete put.id) old) (one_tells (tells_complete put.id) more) m
    ]

module _ (put : Put) where
  -- a sender and a table that has it
  pub record SendsIn (e : Exchange) (st : TableState) : Type 0 where
    pub is : record_of put.id st.records ≡ Some (Sends e.sender)
    pub told : e.told ≡ true → one_tells (tells_complete put.id) st.told ≡ true

  abbrev SenderFired : Policy → List Timer → Exchange → TableState → Type 0
  SenderFired policy ts e st = SendsIn (expire_sender policy put (kinds_of put.id ts) e) (all_expired ts st)
      × (one_tells (tells_complete put.id) st.told ≡ true → one_tells (tells_complete put.id) (all_expired ts st).told ≡ true)

  -- one timer, and then the rest
  module _ (policy : Policy) (t : Timer) (ts : List Timer) (st : TableState) (e : Exchange) (p : st.policy ≡ policy) (apart : IsDistinct same_id (keys_of st.records)) (h : SendsIn e st)
      (rest : (e1 : Exchange) → (expired t st).policy ≡ policy → SendsIn e1 (expired t st) → SenderFired policy ts e1 (expired t st)) where
    own-sender : same_id put.id t.0 ≡ true → SenderFired policy (t ∷ ts) e st
    unfolding all_expired expire_sender
    own-sender is =
        let o : ExpiresOwn put.id (expires st.policy st.files t.1 (Sends e.sender)) st (expired t st) = own-fired put.id t st apart (Sends e.sender) (same_id-true put.id t.0 is) h.is in
        let e1 : Exchange = record e { sender = (sender_expires t.1 policy e.sender).sender; told = told_then put e.told (sender_expires t.1 policy e.sender).told } in
        let h1 : SendsIn e1 (expired t st) = record {
          is = o.is ∙ ap (λ (q : Policy). Some (Sends (sender_expires t.1 q e.sender).sender)) p;
          told = told-then-grows put e.told st.told _ (expired t st).told (o.told ∙ ap (λ (q : Policy). st.told ++ (sender_expires t.1 q e.sender).told) p) h.told;
        } in
        let r : SenderFired policy ts e1 (expired t st) = rest e1 (o.policy ∙ p) h1 in (
          subst (λ ks. SendsIn (expire_sender policy put ks e) (all_expired ts (expired t st))) (sym (kinds-own put.id t ts is)) r.0,
          λ was. r.1 (told-grows (tells_complete put.id) st.told _ (expired t st).told o.told was),
        )

    other-sender : same_id put.id t.0 ≡ false → SenderFired policy (t ∷ ts) e st
    unfolding all_expired expire_sender
    other-sender differs =
        let o : ExpiresOther put.id st (expired t st) = other-fired put.id t st apart differs in
        let h1 : SendsIn e (expired t st) = record { is = o.same ∙ h.is; told = λ b. told-grows (tells_complete put.id) st.told o.more (expired t st).told o.told (h.told b) } in
        let r : SenderFired policy ts e (expired t st) = rest e (o.policy ∙ p) h1 in (
          subst (λ ks. SendsIn (expire_sender policy put ks e) (all_expired ts (expired t st))) (sym (kinds-other put.id t ts differs)) r.0,
          λ was. r.1 (told-grows (tells_complete put.id) st.told o.more (expired t st).told o.told was),
        )

  pub fired-sender : (policy : Policy) (ts : List Timer) (st : TableState) (e : Exchange) → st.policy ≡ policy → IsDistinct same_id (keys_of st.records) → SendsIn e st → SenderFired policy ts e st
  unfolding all_expired expire_sender kinds_of
  fired-sender policy [] st e p apart h = (h, λ t. t)
  fired-sender policy (t ∷ ts) st e p apart h = elim (same_id put.id t.0) as (λ b. same_id put.id t.0 ≡ b → SenderFired policy (t ∷ ts) e st) [
    | true ↦ λ is. own-sender policy t ts st e p apart h (λ e1 p1 h1. fired-sender policy ts (expired t st) e1 p1 (distinct-fired t ts st apart) h1) is
    | false ↦ λ differs. other-sender policy t ts st e p apart h (λ e1 p1 h1. fired-sender policy ts (expired t st) e1 p1 (distinct-fired t ts st apart) h1) differs
  ] refl

  -- a receiver and a table that has it
  pub record ReceivesIn (e : Exchange) (st : TableState) : Type 0 where
    pub receiver : ReceiverState
    pub is_receiver : e.receiver ≡ Some receiver
    pub octets : OctetMap
    pub is : record_of put.id st.records ≡ Some (Receives receiver octets)
    pub told : e.told_there ≡ true → one_tells (tells_complete put.id) st.told ≡ true

  -- what it comes to
  pub record Received (policy : Policy) (kinds : List Kind) (e : Exchange) (st new : TableState) : Type 0 where
    pub end : Exchange
    pub expires : ReceiverExpires policy put kinds e end
    pub is_in : ReceivesIn end new
    pub same_sender : end.sender ≡ e.sender
    pub same_forth : end.forth ≡ e.forth
    pub same_back : end.back ≡ e.back
    pub same_told : end.told ≡ e.told
    pub grows : one_tells (tells_complete put.id) st.told ≡ true → one_tells (tells_complete put.id) new.told ≡ true

  module _ (policy : Policy) (t : Timer) (ts : List Timer) (st : TableState) (e : Exchange) (p : st.policy ≡ policy) (apart : IsDistinct same_id (keys_of st.records)) (h : ReceivesIn e st)
      (rest : (e1 : Exchange) → (expired t st).policy ≡ policy → ReceivesIn e1 (expired t st) → Received policy (kinds_of put.id ts) e1 (expired t st) (all_expired ts (expired t st))) where
    own-receiver : same_id put.id t.0 ≡ true → Received policy (kinds_of put.id (t ∷ ts)) e st (all_expired ts (expired t st))
    unfolding ReceiverExpires
    own-receiver is =
        let was_seen : Seen = Receives h.receiver h.octets in
        let o : ExpiresOwn put.id (expires st.policy st.files t.1 was_seen) st (expired t st) = own-fired put.id t st apart was_seen (same_id-true put.id t.0 is) h.is in
        let a : receiver.ReceiverAfter = receiver.expires t.1 policy h.octets st.files h.receiver in
        let e1 : Exchange = record e { receiver = Some a.receiver; told_there = told_then put e.told_there a.told } in
        let h1 : ReceivesIn e1 (expired t st) = record {
          receiver = a.receiver;
          is_receiver = refl;
          octets = octets_seen a.receiver a.octets;
          is = o.is ∙ ap (λ (q : Policy). Some (expires q st.files t.1 was_seen).seen) p;
          told = told-then-grows put e.told_there st.told _ (expired t st).told (o.told ∙ ap (λ (q : Policy). st.told ++ (expires q st.files t.1 was_seen).told) p) h.told;
        } in
        let r = rest e1 (o.policy ∙ p) h1 in
        record {
          end = r.end;
          expires = subst (λ ks. ReceiverExpires policy put ks e r.end) (sym (kinds-own put.id t ts is)) (h.receiver, (h.is_receiver, (h.octets, (st.files, r.expires))));
          is_in = r.is_in;
          same_sender = r.same_sender;
          same_forth = r.same_forth;
          same_back = r.same_back;
          same_told = r.same_told;
          grows = λ was. r.grows (told-grows (tells_complete put.id) st.told _ (expired t st).told o.told was);
        }

    other-receiver : same_id put.id t.0 ≡ false → Received policy (kinds_of put.id (t ∷ ts)) e st (all_expired ts (expired t st))
    other-receiver differs =
        let o : ExpiresOther put.id st (expired t st) = other-fired put.id t st apart differs in
        let h1 : ReceivesIn e (expired t st) = record {
          receiver = h.receiver;
          is_receiver = h.is_receiver;
          octets = h.octets;
          is = o.same ∙ h.is;
          told = λ b. told-grows (tells_complete put.id) st.told o.more (expired t st).told o.told (h.told b);
        } in
        let r = rest e (o.policy ∙ p) h1 in
        record {
          end = r.end;
          expires = subst (λ ks. ReceiverExpires policy put ks e r.end) (sym (kinds-other put.id t ts differs)) r.expires;
          is_in = r.is_in;
          same_sender = r.same_sender;
          same_forth = r.same_forth;
          same_back = r.same_back;
          same_told = r.same_told;
          grows = λ was. r.grows (told-grows (tells_complete put.id) st.told o.more (expired t st).told o.told was);
        }

  pub fired-receiver : (policy : Policy) (ts : List Timer) (st : TableState) (e : Exchange) → st.policy ≡ policy → IsDistinct same_id (keys_of st.records) → ReceivesIn e st →
      Received policy (kinds_of put.id ts) e st (all_expired ts st)
  unfolding all_expired ReceiverExpires kinds_of
  fired-receiver policy [] st e p apart h = record { end = e; expires = refl; is_in = h; same_sender = refl; same_forth = refl; same_back = refl; same_told = refl; grows = λ t. t }
  fired-receiver policy (t ∷ ts) st e p apart h = elim (same_id put.id t.0) as (λ b. same_id put.id t.0 ≡ b → Received policy (kinds_of put.id (t ∷ ts)) e st (all_expired ts (expired t st))) [
    | true ↦ λ is. own-receiver policy t ts st e p apart h (λ e1 p1 h1. fired-receiver policy ts (expired t st) e1 p1 (distinct-fired t ts st apart) h1) is
    | false ↦ λ differs. other-receiver policy t ts st e p apart h (λ e1 p1 h1. fired-receiver policy ts (expired t st) e1 p1 (distinct-fired t ts st apart) h1) differs
  ] refl

  -- no record of it, and none is opened
  pub record StaysNone (st new : TableState) : Type 0 where
    pub none : record_of put.id new.records ≡ None
    pub grows : one_tells (tells_complete put.id) st.told ≡ true → one_tells (tells_complete put.id) new.told ≡ true

  pub fired-none : (ts : List Timer) (st : TableState) → IsDistinct same_id (keys_of st.records) → record_of put.id st.records ≡ None → StaysNone st (all_expired ts st)
  unfolding all_expired
  fired-none [] st apart none = record { none = none; grows = λ t. t }
  fired-none (t ∷ ts) st apart none =
      let o : ExpiresOther put.id st (expired t st) = elim (same_id put.id t.0) as (λ b. same_id put.id t.0 ≡ b → ExpiresOther put.id st (expired t st)) [
        | true ↦ λ is. none-fired put.id t st apart is none
        | false ↦ λ differs. other-fired put.id t st apart differs
      ] refl in
      let r = fired-none ts (expired t st) (distinct-fired t ts st apart) (o.same ∙ none) in
      record { none = r.none; grows = λ was. r.grows (told-grows (tells_complete put.id) st.told o.more (expired t st).told o.told was) }

-- ---- which timers fired
module _ (now : ℕ) (old new : TableState) (tick : Ticks now old new) (timed : AreTimed old) (id : TransactionId) where
  pub fired-waited : (k : Kind) → Contains (kinds_of id tick.fired) k → waits_for k (record_of id old.records) ≡ true
  fired-waited k c =
      let d = deadline-fired old.armed (max old.now now) tick.fired tick.are (id, k) (kind-fired id tick.fired k c) in
      timed.waited id k (ap is_some d.1)

  pub fired-all : (k : Kind) (deadline : ℕ) → map.get old.armed (id, k) ≡ Some deadline → deadline ≤ now → Contains (kinds_of id tick.fired) k
  fired-all k deadline is low =
      let early : deadline ≤ max old.now now = omega (arith, low) in
      let due : is_due old.armed (max old.now now) (id, k) ≡ true = ap (λ o. option_map_or (λ d. nat_le d (max old.now now)) o false) is ∙ le-leb deadline (max old.now now) early in
      fired-kind id tick.fired k (tick.are.all (id, k) ∙ due)

-- an expiry of a sender leaves the rest
pub expired-rest : (policy : Policy) (put : Put) (ks : List Kind) (e : Exchange) → ((expire_sender policy put ks e).receiver ≡ e.receiver)
    × (((expire_sender policy put ks e).forth ≡ e.forth) × (((expire_sender policy put ks e).back ≡ e.back) × ((expire_sender policy put ks e).told_there ≡ e.told_there)))
unfolding expire_sender
expired-rest policy put [] e = (refl, (refl, (refl, refl)))
expired-rest policy put (k ∷ ks) e = expired-rest policy put ks (record e { sender = (sender_expires k policy e.sender).sender; told = told_then put e.told (sender_expires k policy e.sender).told })

-- if none expire
pub none-expires : (policy : Policy) (put : Put) (e : Exchange) → ReceiverExpires policy put [] e e
unfolding ReceiverExpires
none-expires policy put e = refl

pub none-waited : (o : Option ReceiverState) → AreWaitedByReceiver o []
none-waited None = λ k c. (let n = c.0 in let low : n < 0 = c.1 in absurd (omega (arith, low)))
none-waited (Some r) = λ k c. (let n = c.0 in let low : n < 0 = c.1 in absurd (omega (arith, low)))
