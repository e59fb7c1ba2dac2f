-- In each round of an entity alone, fewer expiries are left.
use Rattle.std.proofs.Common.{◌≡◌, ℕ, zero, suc, ◌+◌, ◌*◌, ◌<◌, ◌≤◌, ◌⊎◌, inl, inr, ◌||◌, max, length, get_or, Bool, true, false, List, [], ◌∷◌, slice_get, Option, Some, None, is_some, refl, sym, ap, subst, ◌∙◌, arith, if◌then◌else◌}
use Rattle.std.specs.FinMap as map
use Rattle.std.specs.List.{IsDistinct, list_any}
use Rattle.std.specs.Map.{keys_of}
use Rattle.std.specs.Option.{option_map_or}
use Rattle.std.specs.Ordering.{eq_by_cmp}
use Rattle.std.specs.Prelude.{nat_le}
use Rattle.std.proofs.lemmas.Bool.{false≢true, true≢false, cond_both}
use Rattle.indexmap.specs.IndexMap.{set_value_at}
use Rattle.cfdp_header.specs.Files.{FileMap}
use Rattle.cfdp_header.specs.Ids.{same_id}
use Rattle.cfdp_directives.specs.declared.user.limits.Limits.{Limits}
use Rattle.cfdp_directives.specs.declared.user.limits.Times.{Times}
use Rattle.cfdp_directives.specs.declared.user.policy.Policy.{Policy}
use Rattle.cfdp_store.specs.declared.stored.Stored.{Stored}
use Rattle.cfdp_store.specs.Files.{octets_in}
use Rattle.cfdp_timers.specs.declared.kind.Kind.{Kind}
use Rattle.cfdp_timers.specs.Due.{AreDue, is_due}
use Rattle.cfdp_timers.specs.Order.{Timer, timer_cmp}
use Rattle.cfdp_timers.proofs.CallerLemmas.{timer_laws}
use Rattle.cfdp_sender.specs.declared.due.SenderDue.{SenderDue}
use Rattle.cfdp_sender.specs.declared.phase.SenderPhase.{SenderPhase}
use Rattle.cfdp_sender.specs.declared.phase.SenderPhase.TheVariants as sending
use Rattle.cfdp_sender.specs.Due.{sender_due}
use Rattle.cfdp_sender.specs.State.{SenderState}
use Rattle.cfdp_sender.specs.Steps as sender
use Rattle.cfdp_receiver.specs.declared.due.Due.{Due}
use Rattle.cfdp_receiver.specs.declared.state.ReceiverPhase.{ReceiverPhase}
use Rattle.cfdp_receiver.specs.declared.state.ReceiverPhase.TheVariants as receiving
use Rattle.cfdp_receiver.specs.Due.{receiver_due}
use Rattle.cfdp_receiver.specs.State.{ReceiverState}
use Rattle.cfdp_receiver.specs.Steps as receiver
use Rattle.cfdp_entity.specs.Entity.{EntityState}
use Rattle.cfdp_entity.specs.History.{Takes, Expires}
use Rattle.cfdp_entity.specs.Polling.{Turn, Stray, Place, Rests, turn_by, record_turn, served, turn}
use Rattle.cfdp_entity.specs.Seen.{Seen, Sends, Receives, is_due as is_due_of}
use Rattle.cfdp_entity.specs.Strays.{StrayAck}
use Rattle.cfdp_entity.specs.Steps.{After, expires, takes, sender_takes, receiver_takes}
use Rattle.cfdp_entity.specs.Table.{Entry, TableState, Ticks, has_due, next_due, place_of, record_of, step_of, step_at, expired, expired_in, all_expired, at_time}
use Rattle.cfdp_entity.specs.Timed.{waits_seen, waits_for, is_armed}
use Rattle.cfdp_entity.proofs.CallerLemmas.{nothing-due}
use Rattle.cfdp_entity.proofs.Histories.{no-record}
use Rattle.cfdp_entity.proofs.Timing.{key-there, no-place, at-own, policy-step}
use Rattle.cfdp_endings.specs.Sender.{sender_open, sender_left}
use Rattle.cfdp_endings.specs.Receiver.{receiver_open, receiver_left}
use Rattle.cfdp_endings.specs.Entity.{seen_open, seen_left, IsOwing, records_left, open_count, most_left, NoneOpen, IsTimely, IsLively, EntryGoesOn, GivesUp, AreServed, IsRound, AreRounds}
use Rattle.cfdp_endings.proofs.SenderAlone as alone
use Rattle.cfdp_endings.proofs.ReceiverAlone as receives
use Rattle.cfdp_endings.proofs.Tables.{MachineLaws, owe-at, ticked-timely}
use Rattle.cfdp_endings.proofs.Entities.{served-timely, served-lively, ticked-lively}

-- ---- one record
took-lowers : (limits : Limits) (stored : Stored) (times : Times) (sources files : FileMap) (s : Seen) → seen_left limits (takes stored times sources files s).seen ≤ seen_left limits s
took-lowers limits stored times sources files (Sends x) = by (sender_due x) refl
  where
    by : (o : Option SenderDue) → sender_due x ≡ o → seen_left limits (sender_takes stored times files (octets_in sources x.source) x o).seen ≤ sender_left limits x
    by (Some d) is = (let low = alone.taken-lowers limits stored (octets_in sources x.source) x d is in omega (arith, low))
    by None is = omega arith
took-lowers limits stored times sources files (Receives r m) = by (receiver_due r)
  where
    by : (o : Option Due) → seen_left limits (receiver_takes times files r m o).seen ≤ receiver_left limits r
    by (Some d) = (let low = receives.taken-lowers limits d m files r in omega (arith, low))
    by None = omega arith

fired-less : (policy : Policy) (files : FileMap) (k : Kind) (s : Seen) → GivesUp policy → waits_seen k s ≡ true → 1 + seen_left policy.limits (expires policy files k s).seen ≤ seen_left policy.limits s
fired-less policy files k (Sends x) g w = alone.expired-lowers policy k x g.sends w
fired-less policy files k (Receives r m) g w = receives.expired-lowers m files policy k r g.receives w

-- an expiry that isn't waited for leaves as many
fired-idle : (policy : Policy) (files : FileMap) (k : Kind) (s : Seen) → waits_seen k s ≡ false → seen_left policy.limits (expires policy files k s).seen ≤ seen_left policy.limits s
fired-idle policy files k (Sends x) w = subst (λ b. sender_left policy.limits (if b then sender.expires k policy x else sender.quiet x).sender ≤ sender_left policy.limits x) (sym w) (omega arith)
fired-idle policy files k (Receives r m) w = cond_both (receiver.waits k r) _ (receiver.leaving m files r) (λ (a : receiver.ReceiverAfter). receiver_left policy.limits a.receiver ≤ receiver_left policy.limits r)
    (λ is. absurd (true≢false (sym is ∙ w))) (λ _. omega arith)

fired-most : (policy : Policy) (files : FileMap) (k : Kind) (s : Seen) → GivesUp policy → seen_left policy.limits (expires policy files k s).seen ≤ seen_left policy.limits s
fired-most policy files k s g = by (waits_seen k s) refl
  where
    by : (b : Bool) → waits_seen k s ≡ b → seen_left policy.limits (expires policy files k s).seen ≤ seen_left policy.limits s
    by true w = (let less = fired-less policy files k s g w in omega (arith, less))
    by false w = fired-idle policy files k s w

-- ---- all records
set-left : (limits : Limits) (xs : List Entry) (place : ℕ) (e : Entry) (s : Seen) → slice_get xs place ≡ Some e →
    records_left limits (set_value_at xs place s) + seen_left limits e.1 ≡ records_left limits xs + seen_left limits s
set-left limits [] place e s at = absurd cc
set-left limits (x ∷ xs) zero e s at =
    let is : x ≡ e = cc in
    let same : seen_left limits x.1 ≡ seen_left limits e.1 = ap (λ (y : Entry). seen_left limits y.1) is in
    omega (arith, same)
set-left limits (x ∷ xs) (suc n) e s at = let rest = set-left limits xs n e s at in omega (arith, rest)

module _ (limits : Limits) (f : Entry → After) (place : ℕ) (st : TableState) where
  step-most : ((e : Entry) → seen_left limits (f e).seen ≤ seen_left limits e.1) → records_left limits (step_at f place st).records ≤ records_left limits st.records
  step-most low = by (slice_get st.records place) refl
    where
      by : (o : Option Entry) → slice_get st.records place ≡ o → records_left limits (step_of f place o st).records ≤ records_left limits st.records
      by None at = omega arith
      by (Some e) at = (let all = set-left limits st.records place e (f e).seen at in let one = low e in omega (arith, all, one))

-- ---- timers that fire
expired-policy : (t : Timer) (st : TableState) → (expired t st).policy ≡ st.policy
expired-policy t st = by (place_of t.0 st.records)
  where
    by : (o : Option ℕ) → (expired_in o t.1 st).policy ≡ st.policy
    by None = refl
    by (Some place) = policy-step (Expires place t.1) st

module _ (policy : Policy) (g : GivesUp policy) where
  expired-most : (t : Timer) (st : TableState) → st.policy ≡ policy → records_left policy.limits (expired t st).records ≤ records_left policy.limits st.records
  expired-most t st is = by (place_of t.0 st.records)
    where
      low : (p : Policy) → p ≡ policy → (e : Entry) → seen_left policy.limits (expires p st.files t.1 e.1).seen ≤ seen_left policy.limits e.1
      low p same e = subst (λ q. seen_left policy.limits (expires q st.files t.1 e.1).seen ≤ seen_left policy.limits e.1) (sym same) (fired-most policy st.files t.1 e.1 g)

      by : (o : Option ℕ) → records_left policy.limits (expired_in o t.1 st).records ≤ records_left policy.limits st.records
      by None = omega arith
      by (Some place) = step-most policy.limits (λ e. expires st.policy st.files t.1 e.1) place st (low st.policy is)

  fired-all : (ts : List Timer) (st : TableState) → st.policy ≡ policy → (records_left policy.limits (all_expired ts st).records ≤ records_left policy.limits st.records) × ((all_expired ts st).policy ≡ policy)
  unfolding all_expired
  fired-all [] st is = (omega arith, is)
  fired-all (t ∷ ts) st is =
      let rest = fired-all ts (expired t st) (expired-policy t st ∙ is) in
      let first = expired-most t st is in
      let low = rest.0 in
      (omega (arith, first, low), rest.1)

  -- one that is waited for leaves fewer
  expired-less : (t : Timer) (st : TableState) → st.policy ≡ policy → IsDistinct same_id (keys_of st.records) → waits_for t.1 (record_of t.0 st.records) ≡ true →
      1 + records_left policy.limits (expired t st).records ≤ records_left policy.limits st.records
  expired-less t st is apart w = by (place_of t.0 st.records) refl
    where
      less : (p : Policy) → p ≡ policy → (e : Entry) → waits_seen t.1 e.1 ≡ true → 1 + seen_left policy.limits (expires p st.files t.1 e.1).seen ≤ seen_left policy.limits e.1
      less p same e waits = subst (λ q. 1 + seen_left policy.limits (expires q st.files t.1 e.1).seen ≤ seen_left policy.limits e.1) (sym same) (fired-less policy st.files t.1 e.1 g waits)

      by : (o : Option ℕ) → place_of t.0 st.records ≡ o → 1 + records_left policy.limits (expired_in o t.1 st).records ≤ records_left policy.limits st.records
      by None none = absurd (false≢true (sym (ap (waits_for t.1) (no-record st.records t.0 none).0) ∙ w))
      by (Some place) there = at (slice_get st.records place) refl
        where
          at : (o : Option Entry) → slice_get st.records place ≡ o → 1 + records_left policy.limits (step_of (λ e. expires st.policy st.files t.1 e.1) place o st).records ≤ records_left policy.limits st.records
          at None nowhere = absurd (no-place t.0 st.records place there nowhere)
          at (Some e) found =
              let key : t.0 ≡ e.0 = key-there t.0 st.records place e there found in
              let own : record_of t.0 st.records ≡ Some e.1 = ap (λ i. record_of i st.records) key ∙ at-own st.records place e apart found in
              let all = set-left policy.limits st.records place e (expires st.policy st.files t.1 e.1).seen found in
              let one = less st.policy is e (sym (ap (waits_for t.1) own) ∙ w) in
              omega (arith, all, one)

  armed-some : (o : Option ℕ) (at : ℕ) → option_map_or (λ d. nat_le d at) o false ≡ true → is_some o ≡ true
  armed-some (Some d) at h = refl
  armed-some None at h = absurd (false≢true h)

  -- the first that fires is waited for
  pub ticked-less : (now : ℕ) (old new : TableState) (t : Timer) → old.policy ≡ policy → IsTimely old → Ticks now old new → is_due old.armed (max old.now now) t ≡ true →
      (1 + records_left policy.limits new.records ≤ records_left policy.limits old.records) × (new.policy ≡ policy)
  unfolding all_expired
  ticked-less now old new t is timely tick due = by tick.fired tick.are tick.ticked
    where
      by : (fired : List Timer) → AreDue old.armed (max old.now now) fired → new ≡ all_expired fired (at_time now old) →
          (1 + records_left policy.limits new.records ≤ records_left policy.limits old.records) × (new.policy ≡ policy)
      by [] are ticked = absurd (false≢true (are.all t ∙ due))
      by (h ∷ hs) are ticked =
          let own : eq_by_cmp timer_cmp h h ≡ true = timer_laws.refl h in
          let first : (eq_by_cmp timer_cmp h h || list_any (eq_by_cmp timer_cmp h) hs) ≡ true = ap (λ b. b || list_any (eq_by_cmp timer_cmp h) hs) own in
          let fires : is_due old.armed (max old.now now) h ≡ true = sym (are.all h) ∙ first in
          let armed : is_armed h.0 h.1 old ≡ true = armed-some (map.get old.armed h) (max old.now now) fires in
          let waits = timely.timed.waited h.0 h.1 armed in
          let less = expired-less h (at_time now old) is timely.distinct waits in
          let rest = fired-all hs (expired h (at_time now old)) (expired-policy h (at_time now old) ∙ is) in
          let low = rest.0 in
          let same : records_left policy.limits new.records ≡ records_left policy.limits (all_expired hs (expired h (at_time now old))).records = ap (λ (st : TableState). records_left policy.limits st.records) ticked in
          (omega (arith, less, low, same), ap (λ (st : TableState). st.policy) ticked ∙ rest.1)

  -- ---- polls
  served-most : (stored : Stored) (t : Turn) (e : EntityState) → e.table.policy ≡ policy → (records_left policy.limits (served stored t e).table.records ≤ records_left policy.limits e.table.records) × ((served stored t e).table.policy ≡ policy)
  served-most stored (Stray s strays) e is = (omega arith, is)
  served-most stored (Place place) e is = (
    step-most policy.limits (λ d. takes stored e.table.policy.times e.table.sources e.table.files d.1) place e.table (λ d. took-lowers policy.limits stored e.table.policy.times e.table.sources e.table.files d.1),
    policy-step (Takes stored place) e.table ∙ is,
  )
  served-most stored Rests e is = (omega arith, is)

  polled-most : (answers : List Stored) (old new : EntityState) → AreServed answers old new → old.table.policy ≡ policy → (records_left policy.limits new.table.records ≤ records_left policy.limits old.table.records) × (new.table.policy ≡ policy)
  polled-most [] old new same is =
      (subst (λ (e : EntityState). records_left policy.limits e.table.records ≤ records_left policy.limits old.table.records) (sym same) (omega arith), ap (λ (e : EntityState). e.table.policy) same ∙ is)
  polled-most (s ∷ more) old new run is =
      let one = served-most s (turn old) old is in
      let rest = polled-most more (served s (turn old) old) new run one.1 in
      let first = one.0 in
      let low = rest.0 in
      (omega (arith, first, low), rest.1)

polled-timely : MachineLaws → (answers : List Stored) (old new : EntityState) → AreServed answers old new → IsTimely old.table → IsTimely new.table
polled-timely laws [] old new same t = subst (λ (e : EntityState). IsTimely e.table) (sym same) t
polled-timely laws (s ∷ more) old new run t = polled-timely laws more (served s (turn old) old) new run (served-timely laws s (turn old) old t)

-- ---- rounds
pub round-timely : MachineLaws → (old new : EntityState) → IsRound old new → IsTimely old.table → IsTimely new.table
round-timely laws old new r t = polled-timely laws r.answers r.told new r.polls (ticked-timely laws r.now old.table r.told.table r.ticks t)

polled-lively : MachineLaws → (answers : List Stored) (old new : EntityState) → AreServed answers old new → IsLively old → IsLively new
polled-lively laws [] old new same k = subst IsLively (sym same) k
polled-lively laws (s ∷ more) old new run k = polled-lively laws more (served s (turn old) old) new run (served-lively laws s (turn old) old k)

pub round-lively : MachineLaws → (old new : EntityState) → IsRound old new → IsLively old → IsLively new
round-lively laws old new r k = polled-lively laws r.answers r.told new r.polls (ticked-lively laws r.now old r.told r.ticks r.only k)

pub round-less : (old new : EntityState) → GivesUp old.table.policy → IsTimely old.table → IsRound old new →
    (1 + records_left old.table.policy.limits new.table.records ≤ records_left old.table.policy.limits old.table.records) × (new.table.policy ≡ old.table.policy)
round-less old new g t r =
    let tick = ticked-less old.table.policy g r.now old.table r.told.table r.timer refl t r.ticks r.due in
    let polls = polled-most old.table.policy g r.answers r.told new r.polls tick.1 in
    let first = tick.0 in
    let low = polls.0 in
    (omega (arith, first, low), polls.1)

rounds-by : MachineLaws → (policy : Policy) (n : ℕ) (old new : EntityState) → old.table.policy ≡ policy → GivesUp policy → IsTimely old.table → AreRounds n old new →
    n + records_left policy.limits new.table.records ≤ records_left policy.limits old.table.records
rounds-by laws policy zero old new is g t same = subst (λ (e : EntityState). 0 + records_left policy.limits e.table.records ≤ records_left policy.limits old.table.records) (sym same) (omega arith)
rounds-by laws policy (suc n) old new is g t run =
    let one = round-less old run.0 (subst GivesUp (sym is) g) t run.1 in
    let first : 1 + records_left policy.limits run.0.table.records ≤ records_left policy.limits old.table.records =
    subst (λ (p : Policy). 1 + records_left p.limits run.0.table.records ≤ records_left p.limits old.table.records) is one.0 in
    let rest = rounds-by laws policy n run.0 new (one.1 ∙ is) g (round-timely laws old run.0 run.1 t) run.2 in
    omega (arith, first, rest)

pub rounds-less : MachineLaws → (n : ℕ) (old new : EntityState) → GivesUp old.table.policy → IsTimely old.table → AreRounds n old new →
    n + records_left old.table.policy.limits new.table.records ≤ records_left old.table.policy.limits old.table.records
rounds-less laws n old new g t run = rounds-by laws old.table.policy n old new refl g t run

-- ---- if none is left
seen-over : (limits : Limits) (s : Seen) → seen_left limits s ≡ 0 → seen_open s ≡ false
seen-over limits (Sends x) h = alone.left-over limits x h
seen-over limits (Receives r m) h = receives.left-over limits r h

none-open : (limits : Limits) (xs : List Entry) → records_left limits xs ≡ 0 → NoneOpen xs
none-open limits [] h place e at = absurd cc
none-open limits (x ∷ xs) h zero e at =
    let is : x ≡ e = cc in
    let none : seen_left limits x.1 ≡ 0 = omega (arith, h) in
    ap (λ (y : Entry). seen_open y.1) (sym is) ∙ seen-over limits x.1 none
none-open limits (x ∷ xs) h (suc n) e at = none-open limits xs (omega (arith, h)) n e at

pub rounds-end : MachineLaws → (n : ℕ) (old new : EntityState) → GivesUp old.table.policy → IsTimely old.table → AreRounds n old new →
    records_left old.table.policy.limits old.table.records ≤ n → NoneOpen new.table.records
rounds-end laws n old new g t run many =
    let low = rounds-less laws n old new g t run in
    none-open old.table.policy.limits new.table.records (omega (arith, low, many))

-- ---- the most
sender-none : (limits : Limits) (s : Bool) (p : SenderPhase) (x : SenderState) → sender_open (record x { suspended = s; phase = p }) ≡ false → sender_left limits (record x { suspended = s; phase = p }) ≡ 0
sender-none limits true p x h = refl
sender-none limits false sending.Closed x h = refl
sender-none limits false sending.Sending x h = absurd (true≢false h)
sender-none limits false sending.Cancelling x h = absurd (true≢false h)

receiver-none : (limits : Limits) (s : Bool) (p : ReceiverPhase) (r : ReceiverState) → receiver_open (record r { suspended = s; phase = p }) ≡ false → receiver_left limits (record r { suspended = s; phase = p }) ≡ 0
receiver-none limits true p r h = refl
receiver-none limits false receiving.Closed r h = refl
receiver-none limits false receiving.Receiving r h = absurd (true≢false h)
receiver-none limits false receiving.Finishing r h = absurd (true≢false h)

seen-none : (limits : Limits) (s : Seen) → seen_open s ≡ false → seen_left limits s ≡ 0
seen-none limits (Sends x) h = sender-none limits x.suspended x.phase x h
seen-none limits (Receives r m) h = receiver-none limits r.suspended r.phase r h

seen-most : (limits : Limits) (s : Seen) → seen_left limits s ≤ most_left limits
seen-most limits (Sends x) = let low = alone.most limits x in omega (arith, low)
seen-most limits (Receives r m) = let low = receives.most limits r in omega (arith, low)

one-most : (limits : Limits) (s : Seen) (n : ℕ) (b : Bool) → seen_open s ≡ b → seen_left limits s + n * most_left limits ≤ ((if b then 1 else 0) + n) * most_left limits
one-most limits s n true is = (let low = seen-most limits s in let m : ℕ = most_left limits in more m low)
  where
    more : (m : ℕ) → seen_left limits s ≤ m → seen_left limits s + n * m ≤ (1 + n) * m
    more m low = omega (arith, low)
one-most limits s n false is = let none = seen-none limits s is in less (most_left limits) none
  where
    less : (m : ℕ) → seen_left limits s ≡ 0 → seen_left limits s + n * m ≤ (0 + n) * m
    less m none = omega (arith, none)

pub most-all : (limits : Limits) (xs : List Entry) → records_left limits xs ≤ open_count xs * most_left limits
most-all limits [] = omega arith
most-all limits (x ∷ xs) =
    let rest = most-all limits xs in
    let one = one-most limits x.1 (open_count xs) (seen_open x.1) refl in
    join (seen_left limits x.1) (records_left limits xs) (open_count xs * most_left limits) (((if seen_open x.1 then 1 else 0) + open_count xs) * most_left limits) rest one
  where
    join : (a b c d : ℕ) → b ≤ c → a + c ≤ d → a + b ≤ d
    join a b c d low high = omega (arith, low, high)

-- ---- never in silence
seen-goes : (s : Seen) → IsOwing s → seen_open s ≡ true → (is_due_of s ≡ true) ⊎ ((k : Kind) × (waits_seen k s ≡ true))
seen-goes (Sends x) owing is_open = alone.goes-on x owing.0 is_open
seen-goes (Receives r m) owing is_open = receives.goes-on r owing is_open

pub entry-goes : (st : TableState) (place : ℕ) (e : Entry) → IsTimely st → slice_get st.records place ≡ Some e → seen_open e.1 ≡ true → EntryGoesOn st e
entry-goes st place e t at is_open = elim (seen-goes e.1 (owe-at st.records place e t.owing at) is_open) [
  | inl due ↦ inl due
  | inr waits ↦ inr (waits.0, t.timed.armed e.0 waits.0 (ap (waits_for waits.0) (at-own st.records place e t.distinct at) ∙ waits.1))
]

-- if it rests, nothing is due
rests-none : (next : Option ℕ) → record_turn next ≡ Rests → next ≡ None
rests-none None h = refl
rests-none (Some place) h = absurd cc

at-get : (xs : List Entry) (place : ℕ) (e : Entry) → slice_get xs place ≡ Some e → (place < length xs) × (get_or xs place e ≡ e)
at-get [] place e at = absurd cc
at-get (x ∷ xs) zero e at = (let is : x ≡ e = cc in (omega arith, is))
at-get (x ∷ xs) (suc n) e at = (let rest = at-get xs n e at in let low = rest.0 in (omega (arith, low), rest.1))

none-next : (e : EntityState) (strays : List StrayAck) → turn_by strays (next_due e.cursor e.table.records) ≡ Rests → next_due e.cursor e.table.records ≡ None
none-next e [] h = rests-none (next_due e.cursor e.table.records) h
none-next e (s ∷ ss) h = absurd cc

pub resting-idle : (e : EntityState) (place : ℕ) (d : Entry) → turn e ≡ Rests → slice_get e.table.records place ≡ Some d → has_due d ≡ false
resting-idle e place d rests at = let there = at-get e.table.records place d at in ap has_due (sym there.1) ∙ nothing-due e.cursor e.table.records (none-next e e.strays rests) place d there.0

pub resting-armed : (e : EntityState) (place : ℕ) (d : Entry) → IsTimely e.table → turn e ≡ Rests → slice_get e.table.records place ≡ Some d → seen_open d.1 ≡ true →
    (k : Kind) × (is_armed d.0 k e.table ≡ true)
resting-armed e place d t rests at is_open = elim (entry-goes e.table place d t at is_open) [
  | inl due ↦ absurd (true≢false (sym due ∙ resting-idle e place d rests at))
  | inr armed ↦ armed
]
