-- What an entry that is added or written does to the armed timers.
use Rattle.std.proofs.Common.{◌≡◌, ℕ, List, [], ◌∷◌, ◌++◌, refl, sym, ap, subst, ◌∙◌, true, false, cond, ◌||◌, true≢false, is_some, IsSome, Option, Some, None, append_assoc}
use Rattle.std.specs.declared.cmp.Ordering.{Ordering}
use Rattle.std.specs.declared.cmp.Ordering.TheVariants.{Less, Equal, Greater}
use Rattle.std.specs.Cmp.{Equal-is}
use Rattle.std.specs.List.{IsDistinct}
use Rattle.std.specs.Map.{keys_of, lookup}
use Rattle.std.specs.Option.{option_and_then}
use Rattle.std.specs.Ordering.{eq_by_cmp, is_eq, ordering_then, nat_cmp}
use Rattle.std.specs.FinMap as map
use Rattle.std.specs.FinSet as set
use Rattle.std.proofs.lemmas.List.{append-nil}
use Rattle.cfdp_header.specs.declared.value.TransactionId.{TransactionId}
use Rattle.cfdp_header.specs.contracts.value.TransactionIdPartialEq.TheImpl.{eq-value}
use Rattle.cfdp_timers.specs.declared.kind.Kind.{Kind}
use Rattle.cfdp_timers.specs.declared.kind.Kind.TheVariants.{EofAck, Nak, FinishedAck, Inactivity}
use Rattle.cfdp_timers.specs.declared.deadlines.Deadlines.{Deadlines}
use Rattle.cfdp_timers.specs.Armed.{Armed, with_timer}
use Rattle.cfdp_timers.specs.Order.{Timer, kind_place, timer_cmp}
use Rattle.cfdp_header.specs.Ids.{id_cmp}
use Rattle.cfdp_timers.specs.Entries.{deadline_at, with_deadline, alarms_of, alarms, roomy_of, armed_of, state_of}
use Rattle.cfdp_header.proofs.Ids.{id_total, id_laws, id_cmp-IsAntisymmetric, id_eq}
use Rattle.cfdp_timers.proofs.Orders.{timer_total, same_timer}
use Rattle.cfdp_timers.proofs.Kept.{get-armed_of, by_id, has-room}

-- keys that differ by `==` differ by the order
pub distinct_ids : (ks : List TransactionId) → IsDistinct (eq-value).it ks → IsDistinct (eq_by_cmp id_cmp) ks
distinct_ids ks h = subst (λ e. IsDistinct e ks) (λ i x y. id_eq x y i) h

-- ---- a transaction is added
pub alarms-append : (es fs : List (TransactionId × Deadlines)) → alarms (es ++ fs) ≡ alarms es ++ alarms fs
unfolding alarms
alarms-append [] fs = refl
alarms-append (e ∷ es) fs = ap (λ l. alarms_of e.0 e.1 ++ l) (alarms-append es fs) ∙ sym (append_assoc (alarms_of e.0 e.1) (alarms es) (alarms fs))

keys-push : {X : Type 0} (es : List (TransactionId × X)) (i : TransactionId) (x : X) → keys_of (es ++ (i, x) ∷ []) ≡ keys_of es ++ i ∷ []
keys-push [] i x = refl
keys-push (e ∷ es) i x = ap (λ l. e.0 ∷ l) (keys-push es i x)

pub armed_of-push : (es : List (TransactionId × Deadlines)) (i : TransactionId) (d : Deadlines) → d ≡ record { eof_ack = None; nak = None; finished_ack = None; inactivity = None }
    → armed_of (es ++ (i, d) ∷ []) ≡ armed_of es
unfolding armed_of alarms alarms_of
armed_of-push es i d none = ap (λ w. armed_of (es ++ (i, w) ∷ [])) none ∙ ap (λ l. map.from_entries l) (alarms-append es _ ∙ append-nil (alarms es))

pub roomy_of-push : (es : List (TransactionId × Deadlines)) (i : TransactionId) (d : Deadlines) → roomy_of (es ++ (i, d) ∷ []) ≡ set.insert (roomy_of es) i
unfolding roomy_of
roomy_of-push es i d = ap (λ l. set.from_list l) (keys-push es i d) ∙ set.from_list_push id_total id_cmp-IsAntisymmetric (keys_of es) i

-- if a transaction has room, adding it again changes nothing
pub insert-present : (s : set.FinSet id_cmp) (i : TransactionId) → set.contains s i ≡ true → set.insert s i ≡ s
insert-present s i there = set.same_set id_total id_cmp-IsAntisymmetric _ _ (λ q. set.contains-insert id_total s i q
    ∙ elim (eq_by_cmp id_cmp q i) as (λ b. eq_by_cmp id_cmp q i ≡ b → (b || set.contains s q) ≡ set.contains s q) [
      | true ↦ λ tie. sym (ap (set.contains s) (id_cmp-IsAntisymmetric q i ((Equal-is (id_cmp q i)).0 tie)) ∙ there)
      | false ↦ λ tie. refl
    ] refl)

-- ---- an entry is written
pub written : (d : Deadlines) (kind : Kind) (o : Option ℕ) (k : Kind) → deadline_at (with_deadline d kind o) k ≡ cond (is_eq (nat_cmp (kind_place k) (kind_place kind))) o (deadline_at d k)
written d EofAck o EofAck = refl
written d EofAck o Nak = refl
written d EofAck o FinishedAck = refl
written d EofAck o Inactivity = refl
written d Nak o EofAck = refl
written d Nak o Nak = refl
written d Nak o FinishedAck = refl
written d Nak o Inactivity = refl
written d FinishedAck o EofAck = refl
written d FinishedAck o Nak = refl
written d FinishedAck o FinishedAck = refl
written d FinishedAck o Inactivity = refl
written d Inactivity o EofAck = refl
written d Inactivity o Nak = refl
written d Inactivity o FinishedAck = refl
written d Inactivity o Inactivity = refl

split_tie : (r s : Ordering) (o x y : Option ℕ) → (r ≡ Equal → cond (is_eq s) o x ≡ y) → cond (is_eq r) y x ≡ cond (is_eq (ordering_then r s)) o x
split_tie Less s o x y h = refl
split_tie Equal s o x y h = sym (h refl)
split_tie Greater s o x y h = refl

pub get-with_timer : (armed : Armed) (t : Timer) (o : Option ℕ) (u : Timer) → map.get (with_timer armed t o) u ≡ cond (eq_by_cmp timer_cmp u t) o (map.get armed u)
get-with_timer armed t None u = map.get-remove timer_total armed t u
get-with_timer armed t (Some at) u = map.get-insert timer_total armed t at u

-- what two lists of entries answer, of which the second has d with one deadline changed at a
-- transaction
module _ (es fs : List (TransactionId × Deadlines)) (id : TransactionId) (kind : Kind) (d w : Deadlines) (o : Option ℕ)
    (apart : IsDistinct (eq_by_cmp id_cmp) (keys_of es)) (apart' : IsDistinct (eq_by_cmp id_cmp) (keys_of fs)) (had : lookup (eq_by_cmp id_cmp id) es ≡ Some d)
    (is : w ≡ with_deadline d kind o) (now : (q : TransactionId) → lookup (eq_by_cmp id_cmp q) fs ≡ cond (eq_by_cmp id_cmp id q) (Some w) (lookup (eq_by_cmp id_cmp q) es)) where
  get-written : (t : Timer) → map.get (armed_of fs) t ≡ cond (eq_by_cmp timer_cmp t (id, kind)) o (map.get (armed_of es) t)
  get-written t =
      let at : Option Deadlines → Option ℕ = option_and_then (λ w. deadline_at w t.1) in
      let old : map.get (armed_of es) t ≡ at (lookup (eq_by_cmp id_cmp t.0) es) = get-armed_of es t.0 t.1 apart in
      let found : at (Some d) ≡ at (lookup (eq_by_cmp id_cmp id) es) = ap at (sym had) in
      get-armed_of fs t.0 t.1 apart' ∙ ap at (now t.0) ∙ ap (λ b. at (cond b (Some w) (lookup (eq_by_cmp id_cmp t.0) es))) (id_laws.symm id t.0)
      ∙ elim (eq_by_cmp id_cmp t.0 id) as (λ b. at (cond b (Some w) (lookup (eq_by_cmp id_cmp t.0) es)) ≡ cond b (deadline_at w t.1) (at (lookup (eq_by_cmp id_cmp t.0) es))) [
        | true ↦ refl
        | false ↦ refl
      ]
      ∙ split_tie (id_cmp t.0 id) (nat_cmp (kind_place t.1) (kind_place kind)) o (at (lookup (eq_by_cmp id_cmp t.0) es)) (deadline_at w t.1)
      (λ tie. ap (cond (is_eq (nat_cmp (kind_place t.1) (kind_place kind))) o) (ap (λ i. at (lookup (eq_by_cmp id_cmp i) es)) (id_cmp-IsAntisymmetric t.0 id tie) ∙ sym found)
      ∙ sym (ap (λ v. deadline_at v t.1) is ∙ written d kind o t.1))
      ∙ ap (cond (eq_by_cmp timer_cmp t (id, kind)) o) (sym old)

  pub armed_of-written : armed_of fs ≡ with_timer (armed_of es) (id, kind) o
  armed_of-written = map.same_map timer_total same_timer _ _ (λ t. get-written t ∙ sym (get-with_timer (armed_of es) (id, kind) o t))

-- clearing a timer of a transaction that has no room changes nothing
pub remove-absent : (es : List (TransactionId × Deadlines)) (id : TransactionId) (kind : Kind) → IsDistinct (eq_by_cmp id_cmp) (keys_of es)
    → lookup ((eq-value).it id) es ≡ None → map.remove (armed_of es) (id, kind) ≡ armed_of es
remove-absent es id kind apart none = map.same_map timer_total same_timer _ _ (λ t. map.get-remove timer_total (armed_of es) (id, kind) t
    ∙ elim (eq_by_cmp timer_cmp t (id, kind)) as (λ b. eq_by_cmp timer_cmp t (id, kind) ≡ b → cond b None (map.get (armed_of es) t) ≡ map.get (armed_of es) t) [
      | true ↦ λ tie. sym (ap (map.get (armed_of es)) (same_timer t (id, kind) ((Equal-is (timer_cmp t (id, kind))).0 tie)) ∙ get-armed_of es id kind apart
          ∙ ap (option_and_then (λ d. deadline_at d kind)) (sym (by_id es id) ∙ none))
      | false ↦ λ tie. refl
    ] refl)

-- nor can one be armed that has none
pub with_timer-absent : (es : List (TransactionId × Deadlines)) (id : TransactionId) (kind : Kind) (o : Option ℕ) → IsDistinct (eq_by_cmp id_cmp) (keys_of es)
    → lookup ((eq-value).it id) es ≡ None → (IsSome o → set.contains (roomy_of es) id ≡ true) → with_timer (armed_of es) (id, kind) o ≡ armed_of es
with_timer-absent es id kind None apart none room = remove-absent es id kind apart none
with_timer-absent es id kind (Some at) apart none room = absurd (true≢false (sym (room refl) ∙ sym (has-room es id) ∙ ap is_some none))

-- the state, if the transactions are the same
pub state_of-written : (time : ℕ) (es fs : List (TransactionId × Deadlines)) (armed : Armed) → keys_of fs ≡ keys_of es → armed_of fs ≡ armed
    → state_of time fs ≡ record { time = time; roomy = roomy_of es; armed = armed }
unfolding roomy_of
state_of-written time es fs armed same is =
    let roomy : roomy_of fs ≡ roomy_of es = ap (λ l. set.from_list l) same in
    λ i. record { time = time; roomy = roomy i; armed = is i }

-- the entry of a new transaction
pub state_of-pushed : (time : ℕ) (es fs : List (TransactionId × Deadlines)) (id : TransactionId) (d : Deadlines)
    → d ≡ record { eof_ack = None; nak = None; finished_ack = None; inactivity = None } → fs ≡ es ++ (id, d) ∷ []
    → state_of time fs ≡ record { time = time; roomy = set.insert (roomy_of es) id; armed = armed_of es }
state_of-pushed time es fs id d none is =
    let roomy : roomy_of fs ≡ set.insert (roomy_of es) id = ap roomy_of is ∙ roomy_of-push es id d in
    let armed : armed_of fs ≡ armed_of es = ap armed_of is ∙ armed_of-push es id d none in
    λ i. record { time = time; roomy = roomy i; armed = armed i }
