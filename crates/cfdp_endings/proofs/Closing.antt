-- If each fault ends its transaction, all records are closed in the end, and may be discarded.
use Rattle.std.proofs.Common.{◌≡◌, ℕ, zero, suc, ◌≤◌, not, cond, Bool, true, false, List, [], ◌∷◌, slice_get, Option, Some, None, refl, sym, ap, subst, ◌∙◌, arith}
use Rattle.std.proofs.lemmas.Bool.{false≢true, cond_both}
use Rattle.indexmap.specs.IndexMap.{set_value_at}
use Rattle.cfdp_header.specs.Files.{FileMap}
use Rattle.cfdp_directives.specs.declared.user.limits.Limits.{Limits}
use Rattle.cfdp_directives.specs.declared.user.limits.Times.{Times}
use Rattle.cfdp_directives.specs.declared.user.policy.Policy.{Policy}
use Rattle.cfdp_store.specs.declared.stored.Stored.{Stored}
use Rattle.cfdp_store.specs.Files.{octets_in}
use Rattle.cfdp_timers.specs.declared.kind.Kind.{Kind}
use Rattle.cfdp_timers.specs.Order.{Timer}
use Rattle.cfdp_sender.specs.declared.due.SenderDue.{SenderDue}
use Rattle.cfdp_sender.specs.Due.{sender_due, phase_told}
use Rattle.cfdp_sender.specs.Steps as sender
use Rattle.cfdp_receiver.specs.declared.due.Due.{Due}
use Rattle.cfdp_receiver.specs.Due.{receiver_due}
use Rattle.cfdp_receiver.specs.State.{public_phase}
use Rattle.cfdp_receiver.specs.Steps as receiver
use Rattle.cfdp_entity.specs.Entity.{EntityState}
use Rattle.cfdp_entity.specs.Forgetting.{is_closed, refusal, over_in, unless_refused}
use Rattle.cfdp_entity.specs.declared.error.ForgetError.TheVariants.{StillOpen, AnswerDue}
use Rattle.cfdp_entity.specs.History.{Expires}
use Rattle.cfdp_entity.specs.Polling.{Turn, Stray, Place, Rests, served, turn}
use Rattle.cfdp_entity.specs.Seen.{Seen, Sends, Receives, is_due, phase_of}
use Rattle.cfdp_entity.specs.Steps.{After, expires, takes, sender_takes, receiver_takes}
use Rattle.cfdp_entity.specs.Table.{Entry, TableState, place_of, step_of, step_at, expired, expired_in, all_expired, at_time}
use Rattle.cfdp_entity.proofs.Timing.{policy-step}
use Rattle.cfdp_endings.specs.Entity.{seen_left, records_left, IsTimely, GivesUp, Ends, is_awake, AllAwake, AllOver, AreServed, IsRound, AreRounds}
use Rattle.cfdp_endings.proofs.SenderAlone as alone
use Rattle.cfdp_endings.proofs.ReceiverAlone as receives
use Rattle.cfdp_endings.proofs.Tables.{MachineLaws}
use Rattle.cfdp_endings.proofs.Rounds.{round-less, rounds-less, resting-idle}

abbrev Awake : Seen → Type 0
Awake s = is_awake s ≡ true

not-true : (b : Bool) → not b ≡ true → b ≡ false
not-true true h = absurd (false≢true h)
not-true false h = refl

not-false : (b : Bool) → b ≡ false → not b ≡ true
not-false b h = ap not h

-- ---- one record
took-awake : (stored : Stored) (times : Times) (sources files : FileMap) (s : Seen) → Awake s → Awake (takes stored times sources files s).seen
took-awake stored times sources files (Sends x) h = by (sender_due x)
  where
    by : (o : Option SenderDue) → Awake (sender_takes stored times files (octets_in sources x.source) x o).seen
    by (Some d) = not-false _ (alone.sent-awake stored (octets_in sources x.source) x d (not-true x.suspended h))
    by None = h
took-awake stored times sources files (Receives r m) h = by (receiver_due r)
  where
    by : (o : Option Due) → Awake (receiver_takes times files r m o).seen
    by (Some d) = not-false _ (receives.taken-awake m files d r (not-true r.suspended h))
    by None = h

fired-awake : (policy : Policy) (files : FileMap) (k : Kind) (s : Seen) → Ends policy → Awake s → Awake (expires policy files k s).seen
fired-awake policy files k (Sends x) e h =
    cond_both (sender.sender_waits k x) (sender.expires k policy x) (sender.quiet x) (λ (a : sender.SenderAfter). not a.sender.suspended ≡ true)
    (λ _. not-false _ (alone.expires-awake k policy x e.sends (not-true x.suspended h))) (λ _. h)
fired-awake policy files k (Receives r m) e h =
    cond_both (receiver.waits k r) _ (receiver.leaving m files r) (λ (a : receiver.ReceiverAfter). not a.receiver.suspended ≡ true)
    (λ _. not-false _ (receives.expires-awake m files k policy r e.receives (not-true r.suspended h))) (λ _. h)

-- ---- all records
awake-at : (xs : List Entry) (place : ℕ) (e : Entry) → AllAwake xs → slice_get xs place ≡ Some e → Awake e.1
awake-at [] place e all at = absurd cc
awake-at (x ∷ xs) zero e all at = let is : x ≡ e = cc in subst (λ (y : Entry). Awake y.1) is all.0
awake-at (x ∷ xs) (suc n) e all at = awake-at xs n e all.1 at

awake-set : (xs : List Entry) (place : ℕ) (s : Seen) → AllAwake xs → Awake s → AllAwake (set_value_at xs place s)
awake-set [] place s all h = all
awake-set (x ∷ xs) zero s all h = (h, all.1)
awake-set (x ∷ xs) (suc n) s all h = (all.0, awake-set xs n s all.1 h)

step-awake : (f : Entry → After) (place : ℕ) (st : TableState) → ((e : Entry) → Awake e.1 → Awake (f e).seen) → AllAwake st.records → AllAwake (step_at f place st).records
step-awake f place st kept all = by (slice_get st.records place) refl
  where
    by : (o : Option Entry) → slice_get st.records place ≡ o → AllAwake (step_of f place o st).records
    by None at = all
    by (Some e) at = awake-set st.records place (f e).seen all (kept e (awake-at st.records place e all at))

module _ (policy : Policy) (ends : Ends policy) where
  expired-awake : (t : Timer) (st : TableState) → st.policy ≡ policy → AllAwake st.records → AllAwake (expired t st).records × ((expired t st).policy ≡ policy)
  expired-awake t st is all = by (place_of t.0 st.records)
    where
      kept : (p : Policy) → p ≡ policy → (e : Entry) → Awake e.1 → Awake (expires p st.files t.1 e.1).seen
      kept p same e h = subst (λ q. Awake (expires q st.files t.1 e.1).seen) (sym same) (fired-awake policy st.files t.1 e.1 ends h)

      by : (o : Option ℕ) → AllAwake (expired_in o t.1 st).records × ((expired_in o t.1 st).policy ≡ policy)
      by None = (all, is)
      by (Some place) = (step-awake (λ e. expires st.policy st.files t.1 e.1) place st (kept st.policy is) all, policy-step (Expires place t.1) st ∙ is)

  fired-all-awake : (ts : List Timer) (st : TableState) → st.policy ≡ policy → AllAwake st.records → AllAwake (all_expired ts st).records × ((all_expired ts st).policy ≡ policy)
  unfolding all_expired
  fired-all-awake [] st is all = (all, is)
  fired-all-awake (t ∷ ts) st is all = (let one = expired-awake t st is all in fired-all-awake ts (expired t st) one.1 one.0)

served-awake : (stored : Stored) (t : Turn) (e : EntityState) → AllAwake e.table.records → AllAwake (served stored t e).table.records
served-awake stored (Stray s strays) e all = all
served-awake stored (Place place) e all = step-awake (λ d. takes stored e.table.policy.times e.table.sources e.table.files d.1) place e.table (λ d. took-awake stored e.table.policy.times e.table.sources e.table.files d.1) all
served-awake stored Rests e all = all

polled-awake : (answers : List Stored) (old new : EntityState) → AreServed answers old new → AllAwake old.table.records → AllAwake new.table.records
polled-awake [] old new same all = subst (λ (e : EntityState). AllAwake e.table.records) (sym same) all
polled-awake (s ∷ more) old new run all = polled-awake more (served s (turn old) old) new run (served-awake s (turn old) old all)

round-awake : (old new : EntityState) → Ends old.table.policy → IsRound old new → AllAwake old.table.records → AllAwake new.table.records
round-awake old new ends r all =
    polled-awake r.answers r.told new r.polls
    (subst (λ (st : TableState). AllAwake st.records) (sym r.ticks.ticked) (fired-all-awake old.table.policy ends r.ticks.fired (at_time r.now old.table) refl all).0)

gives-up : (policy : Policy) → Ends policy → GivesUp policy
gives-up policy e = record {
  sends = record { ack = alone.not-ignored policy.handlers.ack e.sends.ack; inactivity = alone.not-ignored policy.handlers.inactivity e.sends.inactivity };
  receives = record { nak = alone.not-ignored policy.handlers.nak e.receives.nak; inactivity = alone.not-ignored policy.handlers.inactivity e.receives.inactivity };
}

rounds-awake : MachineLaws → (policy : Policy) (n : ℕ) (old new : EntityState) → old.table.policy ≡ policy → Ends policy → IsTimely old.table → AreRounds n old new → AllAwake old.table.records → AllAwake new.table.records
rounds-awake laws policy zero old new is ends t same all = subst (λ (e : EntityState). AllAwake e.table.records) (sym same) all
rounds-awake laws policy (suc n) old new is ends t run all =
    let here : Ends old.table.policy = subst Ends (sym is) ends in
    let one = round-less old run.0 (gives-up old.table.policy here) t run.1 in
    rounds-awake laws policy n run.0 new (one.1 ∙ is) ends (Rattle.cfdp_endings.proofs.Rounds.round-timely laws old run.0 run.1 t) run.2 (round-awake old run.0 here run.1 all)

-- ---- what is closed may be discarded
seen-closed : (limits : Limits) (s : Seen) → seen_left limits s ≡ 0 → Awake s → is_closed (phase_of s) ≡ true
seen-closed limits (Sends x) h awake = ap (λ p. is_closed (phase_told p)) (alone.left-closed limits x h (not-true x.suspended awake))
seen-closed limits (Receives r m) h awake = ap (λ p. is_closed (public_phase p)) (receives.left-closed limits r h (not-true r.suspended awake))

left-at : (limits : Limits) (xs : List Entry) (place : ℕ) (e : Entry) → records_left limits xs ≡ 0 → slice_get xs place ≡ Some e → seen_left limits e.1 ≡ 0
left-at limits [] place e h at = absurd cc
left-at limits (x ∷ xs) zero e h at =
    let is : x ≡ e = cc in
    let none : seen_left limits x.1 ≡ 0 = omega (arith, h) in
    ap (λ (y : Entry). seen_left limits y.1) (sym is) ∙ none
left-at limits (x ∷ xs) (suc n) e h at = left-at limits xs n e (omega (arith, h)) at

may-go : (s : Seen) → is_closed (phase_of s) ≡ true → is_due s ≡ false → refusal s ≡ None
may-go s closed idle =
    ap (λ b. cond (not b) (Some StillOpen) (cond (is_due s) (Some AnswerDue) None)) closed
    ∙ ap (λ b. cond b (Some AnswerDue) None) idle

pub rounds-close : MachineLaws → (n : ℕ) (old new : EntityState) → Ends old.table.policy → IsTimely old.table → AllAwake old.table.records → AreRounds n old new →
    records_left old.table.policy.limits old.table.records ≤ n → turn new ≡ Rests → AllOver new.table.records
rounds-close laws n old new ends t awake run many rests = λ place e at.
    (let low = rounds-less laws n old new (gives-up old.table.policy ends) t run in
    let none : records_left old.table.policy.limits new.table.records ≡ 0 = omega (arith, low, many) in
    let all : AllAwake new.table.records = rounds-awake laws old.table.policy n old new refl ends t run awake in
    let closed : is_closed (phase_of e.1) ≡ true = seen-closed old.table.policy.limits e.1 (left-at old.table.policy.limits new.table.records place e none at) (awake-at new.table.records place e all at) in
    ap over_in at ∙ ap (λ r. unless_refused r e.0) (may-go e.1 closed (resting-idle new place e rests at)))
