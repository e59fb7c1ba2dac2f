-- What the entries of a map from transactions to deadlines hold.
use Rattle.std.proofs.Common.{◌≡◌, ℕ, List, [], ◌∷◌, ◌++◌, refl, sym, ap, ◌∙◌, true, false, cond, Option, Some, None, is_some, append_assoc}
use Rattle.std.specs.declared.cmp.Ordering.{Ordering}
use Rattle.std.specs.declared.cmp.Ordering.TheVariants.{Less, Equal, Greater}
use Rattle.std.specs.List.{IsDistinct}
use Rattle.std.specs.Map.{keys_of, lookup}
use Rattle.std.specs.Option.{option_or, option_and_then}
use Rattle.std.specs.Ordering.{eq_by_cmp, is_eq, ordering_then, nat_cmp}
use Rattle.std.specs.FinMap as map
use Rattle.std.specs.FinSet as set
use Rattle.std.specs.FinMap.{find, get-from_entries}
use Rattle.std.proofs.lemmas.Map.{lookup-none}
use Rattle.std.proofs.lemmas.Map.Entries.{none_past_head}
use Rattle.std.proofs.lemmas.Map.Keys.{IsDistinct-tail}
use Rattle.std.proofs.lemmas.Map.Made.{is_some-lookup}
use Rattle.cfdp_header.specs.declared.value.TransactionId.{TransactionId}
use Rattle.cfdp_header.specs.contracts.value.TransactionIdPartialEq.TheImpl.{eq-value}
use Rattle.cfdp_timers.specs.declared.kind.Kind.{Kind}
use Rattle.cfdp_timers.specs.declared.kind.Kind.TheVariants.{EofAck, Nak, FinishedAck, Inactivity}
use Rattle.cfdp_timers.specs.declared.deadlines.Deadlines.{Deadlines}
use Rattle.cfdp_timers.specs.Order.{Timer, kind_place, timer_cmp}
use Rattle.cfdp_header.specs.Ids.{id_cmp}
use Rattle.cfdp_timers.specs.Entries.{deadline_at, alarm_if, alarms_of, alarms, roomy_of, armed_of}
use Rattle.cfdp_header.proofs.Ids.{id_total, id_laws, id_eq}
use Rattle.cfdp_timers.proofs.Orders.{timer_total}

-- the first entry with a key that ties, as a look-up
pub find-lookup : {K X : Type 0} (R : K → K → Ordering) (q : K) (es : List (K × X)) → find R q es ≡ lookup (eq_by_cmp R q) es
find-lookup R q [] = refl
find-lookup R q (e ∷ es) = ap (cond (eq_by_cmp R q e.0) (Some e.1)) (find-lookup R q es)

-- a look-up by `==` is one by the order
pub by_id : {X : Type 0} (es : List (TransactionId × X)) (i : TransactionId) → lookup ((eq-value).it i) es ≡ lookup (eq_by_cmp id_cmp i) es
by_id [] i = refl
by_id (e ∷ es) i = λ j. cond (id_eq i e.0 j) (Some e.1) (by_id es i j)

pub roomy_of-nil : roomy_of [] ≡ set.empty
unfolding roomy_of
roomy_of-nil = refl

pub armed_of-nil : armed_of [] ≡ map.empty
unfolding armed_of alarms
armed_of-nil = refl

pub contains-roomy_of : (es : List (TransactionId × Deadlines)) (id : TransactionId) → set.contains (roomy_of es) id ≡ is_some (lookup (eq_by_cmp id_cmp id) es)
unfolding roomy_of
contains-roomy_of es id = set.contains-from_list id_total (keys_of es) id ∙ sym (is_some-lookup (eq_by_cmp id_cmp id) es)

-- ---- one transaction's timers
unfoldable pub step : Ordering → Kind → ℕ → Option ℕ → Option ℕ → Option ℕ
step r k j o f = cond (is_eq (ordering_then r (nat_cmp (kind_place k) j))) (option_or o f) f

-- what is found if a timer may stand before it
pub found_one : (i : TransactionId) (k : Kind) (id : TransactionId) (kind : Kind) (o : Option ℕ) (rest : List (Timer × ℕ))
    → lookup (eq_by_cmp timer_cmp (i, k)) (alarm_if id kind o ++ rest) ≡ step (id_cmp i id) k (kind_place kind) o (lookup (eq_by_cmp timer_cmp (i, k)) rest)
unfolding step
found_one i k id kind None rest =
    elim (is_eq (ordering_then (id_cmp i id) (nat_cmp (kind_place k) (kind_place kind))))
    as (λ b. lookup (eq_by_cmp timer_cmp (i, k)) rest ≡ cond b (option_or None (lookup (eq_by_cmp timer_cmp (i, k)) rest)) (lookup (eq_by_cmp timer_cmp (i, k)) rest)) [
      | true ↦ refl
      | false ↦ refl
    ]
found_one i k id kind (Some at) rest = refl

steps : (r : Ordering) (k : Kind) (d : Deadlines) (f : Option ℕ)
    → step r k 0 d.eof_ack (step r k 1 d.nak (step r k 2 d.finished_ack (step r k 3 d.inactivity f))) ≡ cond (is_eq r) (option_or (deadline_at d k) f) f
unfolding step
steps Less k d f = refl
steps Greater k d f = refl
steps Equal EofAck d f = refl
steps Equal Nak d f = refl
steps Equal FinishedAck d f = refl
steps Equal Inactivity d f = refl

pub found_of : (i : TransactionId) (k : Kind) (id : TransactionId) (d : Deadlines) (rest : List (Timer × ℕ))
    → lookup (eq_by_cmp timer_cmp (i, k)) (alarms_of id d ++ rest)
    ≡ cond (eq_by_cmp id_cmp i id) (option_or (deadline_at d k) (lookup (eq_by_cmp timer_cmp (i, k)) rest)) (lookup (eq_by_cmp timer_cmp (i, k)) rest)
unfolding alarms_of
found_of i k id d rest =
    let look : List (Timer × ℕ) → Option ℕ = λ l. lookup (eq_by_cmp timer_cmp (i, k)) l in
    let e0 = alarm_if id EofAck d.eof_ack in
    let e1 = alarm_if id Nak d.nak in
    let e2 = alarm_if id FinishedAck d.finished_ack in
    let e3 = alarm_if id Inactivity d.inactivity in
    ap look (append_assoc e0 (e1 ++ (e2 ++ e3)) rest ∙ ap (λ l. e0 ++ l) (append_assoc e1 (e2 ++ e3) rest ∙ ap (λ l. e1 ++ l) (append_assoc e2 e3 rest)))
    ∙ found_one i k id EofAck d.eof_ack (e1 ++ (e2 ++ (e3 ++ rest)))
    ∙ ap (step (id_cmp i id) k 0 d.eof_ack) (found_one i k id Nak d.nak (e2 ++ (e3 ++ rest))
    ∙ ap (step (id_cmp i id) k 1 d.nak) (found_one i k id FinishedAck d.finished_ack (e3 ++ rest)
    ∙ ap (step (id_cmp i id) k 2 d.finished_ack) (found_one i k id Inactivity d.inactivity rest)))
    ∙ steps (id_cmp i id) k d (look rest)

-- ---- all timers
or_none : (o : Option ℕ) → option_or o None ≡ o
or_none None = refl
or_none (Some x) = refl

pub found_in : (es : List (TransactionId × Deadlines)) (i : TransactionId) (k : Kind) → IsDistinct (eq_by_cmp id_cmp) (keys_of es)
    → lookup (eq_by_cmp timer_cmp (i, k)) (alarms es) ≡ option_and_then (λ d. deadline_at d k) (lookup (eq_by_cmp id_cmp i) es)
unfolding alarms
found_in [] i k apart = refl
found_in (e ∷ es) i k apart =
    let rest = found_in es i k (IsDistinct-tail (eq_by_cmp id_cmp) e.0 (keys_of es) apart) in
    found_of i k e.0 e.1 (alarms es)
    ∙ elim (eq_by_cmp id_cmp i e.0) as (λ b. eq_by_cmp id_cmp i e.0 ≡ b
    → cond b (option_or (deadline_at e.1 k) (lookup (eq_by_cmp timer_cmp (i, k)) (alarms es))) (lookup (eq_by_cmp timer_cmp (i, k)) (alarms es))
    ≡ option_and_then (λ d. deadline_at d k) (cond b (Some e.1) (lookup (eq_by_cmp id_cmp i) es))) [
      | true ↦ λ tie. ap (option_or (deadline_at e.1 k)) (rest ∙ ap (option_and_then (λ d. deadline_at d k)) (lookup-none (eq_by_cmp id_cmp i) es (none_past_head id_laws i e es apart tie)))
          ∙ or_none (deadline_at e.1 k)
      | false ↦ λ tie. rest
    ] refl

pub get-armed_of : (es : List (TransactionId × Deadlines)) (i : TransactionId) (k : Kind) → IsDistinct (eq_by_cmp id_cmp) (keys_of es)
    → map.get (armed_of es) (i, k) ≡ option_and_then (λ d. deadline_at d k) (lookup (eq_by_cmp id_cmp i) es)
unfolding armed_of
get-armed_of es i k apart = get-from_entries timer_total (alarms es) (i, k) ∙ find-lookup timer_cmp (i, k) (alarms es) ∙ found_in es i k apart

pub deadline-entries : (es : List (TransactionId × Deadlines)) (i : TransactionId) (k : Kind) → IsDistinct (eq_by_cmp id_cmp) (keys_of es)
    → option_and_then (λ d. deadline_at d k) (lookup ((eq-value).it i) es) ≡ map.get (armed_of es) (i, k)
deadline-entries es i k apart = ap (option_and_then (λ d. deadline_at d k)) (by_id es i) ∙ sym (get-armed_of es i k apart)

pub has-room : (es : List (TransactionId × Deadlines)) (i : TransactionId) → is_some (lookup ((eq-value).it i) es) ≡ set.contains (roomy_of es) i
has-room es i = ap is_some (by_id es i) ∙ sym (contains-roomy_of es i)
