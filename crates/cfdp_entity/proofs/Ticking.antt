-- Timers that fire, one after another.
use Rattle.std.proofs.Common.{◌≡◌, ℕ, suc, ◌+◌, ◌<◌, List, [], length, get_or, drop, drop-cons, add-one, Result, Ok, Err, OnOk, IfOk, refl, sym, ap, subst, ◌∙◌, max}
use Rattle.cfdp_header.specs.declared.value.TransactionId.{TransactionId}
use Rattle.cfdp_directives.specs.declared.user.indication.Indication.{Indication}
use Rattle.cfdp_timers.specs.Order.{Timer}
use Rattle.cfdp_timers.specs.Armed.{Armed, TimersState}
use Rattle.cfdp_timers.specs.Due.{due_count, still_armed}
use Rattle.cfdp_entity.specs.declared.record.Record.{Record}
use Rattle.cfdp_store.specs.Chains.{Raises}
use Rattle.cfdp_entity.specs.Storing.{AsksByTimer, AsksToFire}
use Rattle.cfdp_entity.specs.Table.{TableState, at_time, expired, all_expired}
use Rattle.cfdp_entity.specs.Desk.{DeskState}
use Rattle.cfdp_entity.specs.Roomy.{Roomy, Becomes}
use Rattle.cfdp_entity.specs.Whole.{state_of, roomy_of}

pub becomes-fired : {X E : Type 0} (r : Result X E) (past : List Indication) (desk : DeskState) (timers : TimersState) (es : List (TransactionId × Record)) (now : ℕ)
    → OnOk r (timers.time ≡ max desk.effects.timers.time now) → OnOk r (timers.armed ≡ still_armed timers.time desk.effects.timers.armed) → (old : Roomy) → roomy_of past desk es ≡ old
    → OnOk r (Becomes (at_time now old.state) old (roomy_of past (record desk { effects = record desk.effects { timers = timers } }) es))
becomes-fired (Ok x) past desk timers es now time left old is =
    let armed : timers.armed ≡ still_armed (max desk.effects.timers.time now) desk.effects.timers.armed = left ∙ ap (λ t. still_armed t desk.effects.timers.armed) time in
    subst (λ (v : Roomy). Becomes (at_time now v.state) v (roomy_of past (record desk { effects = record desk.effects { timers = timers } }) es)) is
    (record { state = λ i. record (state_of past desk es) { now = time i; armed = armed i }; inbox = refl; outbox = refl })
becomes-fired (Err e) past desk timers es now time left old is = tt

pub count-fired : {X E : Type 0} (r : Result X E) (f : X → List Timer) (armed armed_now : Armed) (now time at : ℕ) → OnOk r (at ≡ max time now) → IfOk r (λ x. length (f x) ≡ due_count armed at)
    → armed ≡ armed_now → (time_now : ℕ) → time ≡ time_now → IfOk r (λ x. length (f x) ≡ due_count armed_now (max time_now now))
count-fired (Ok x) f armed armed_now now time at is count same time_now same_time = count ∙ (λ i. due_count (same i) ((is ∙ ap (λ t. max t now) same_time) i))
count-fired (Err e) f armed armed_now now time at is count same time_now same_time = tt

pub one_more : (fired : List Timer) (i : ℕ) (d : Timer) (mid now : TableState) → i < length fired → now ≡ expired (get_or fired i d) mid → all_expired (drop (i + 1) fired) now
    ≡ all_expired (drop i fired) mid
unfolding all_expired
one_more fired i d mid now low is = rw (add-one, drop-cons fired i d low) (ap (all_expired (drop (suc i) fired)) is)

pub none_left : (fired : List Timer) (i : ℕ) (mid : TableState) → drop i fired ≡ [] → all_expired (drop i fired) mid ≡ mid
unfolding all_expired
none_left fired i mid none = ap (λ l. all_expired l mid) none

-- and what the steps ask of the inbox
pub asks-one : (fired : List Timer) (i : ℕ) (d : Timer) (mid now : TableState) (n m end : ℕ) → i < length fired → now ≡ expired (get_or fired i d) mid → AsksByTimer Raises (get_or fired i d) mid n m
    → AsksToFire Raises (drop (i + 1) fired) now m end → AsksToFire Raises (drop i fired) mid n end
unfolding AsksToFire
asks-one fired i d mid now n m end low is asks more =
    subst (λ l. AsksToFire Raises l mid n end) (sym (drop-cons fired i d low))
    (m, asks, subst (λ s. AsksToFire Raises (drop (suc i) fired) s m end) is (subst (λ k. AsksToFire Raises (drop k fired) now m end) (add-one i) more))

pub asks-none-left : (fired : List Timer) (i : ℕ) (mid : TableState) (n : ℕ) → drop i fired ≡ [] → AsksToFire Raises (drop i fired) mid n n
unfolding AsksToFire
asks-none-left fired i mid n none = subst (λ l. AsksToFire Raises l mid n n) (sym none) refl
