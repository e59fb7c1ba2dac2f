-- How many puts were completed, in a world in which all of them are.
use Rattle.std.proofs.Common.{◌≡◌, ◌≢◌, ◌⊎◌, ◌≤◌, ◌+◌, ◌==◌, ◌&&◌, ℕ, zero, suc, Bool, true, false, List, [], ◌∷◌, length, Option, Some, None, Contains, count_by, refl, sym, ap, subst, ◌∙◌, inl, inr, arith, if◌then◌else◌, eq-eqb, length-append}
use Rattle.std.proofs.lemmas.Bool.{cases_Bool, cond_both, eqb-true}
use Rattle.std.proofs.lemmas.List.Sums.{sum_by-cons}
use Rattle.std.specs.FinMap.{empty}
use Rattle.cfdp_header.specs.declared.value.TransactionId.{TransactionId}
use Rattle.cfdp_header.specs.Ids.{same_id}
use Rattle.cfdp_header.proofs.Ids.{same_id-is, same_id-itself}
use Rattle.cfdp_directives.specs.declared.pdu.codes.Delivery.{Delivery}
use Rattle.cfdp_directives.specs.declared.pdu.codes.Delivery.TheVariants.{Complete, Incomplete}
use Rattle.cfdp_directives.specs.declared.pdu.codes.FileStatus.{FileStatus}
use Rattle.cfdp_directives.specs.declared.pdu.codes.FileStatus.TheVariants.{Discarded, Rejected, Retained, Unreported}
use Rattle.cfdp_directives.specs.declared.user.indication.Indication.{Indication}
use Rattle.cfdp_directives.specs.declared.user.indication.Indication.TheVariants.{Transaction, EofSent, MetadataRecv, EofRecv, Finished, Suspended, Resumed, Fault, Abandoned, Progress}
use Rattle.cfdp_directives.specs.Pdu.Codes.{no_error}
use Rattle.cfdp_directives.specs.User.Completions.{FinishedOnce, IsToldComplete, is_finished}
use Rattle.cfdp_directives.proofs.Puts.{count_by-append}
use Rattle.cfdp_directives.specs.User.Put.{Put}
use Rattle.link_sim.specs.Clean.{AllComplete, IsCompleteAt}
use Rattle.link_sim.specs.Observed.{seen}
use Rattle.link_sim.specs.Recovering.{IsRecovered, Recovers}
use Rattle.link_sim.specs.Running.{AreApart, KeepsPromises}
use Rattle.link_sim.specs.Settling.{GoesWell, IsSettled}
use Rattle.station_pair.specs.Stations.{other}
use Rattle.link_sim.specs.Spreading.{Many, Times}
use Rattle.link_sim.specs.Theorem.{WorldSeen, accepted_as, at, put_by, side_of}
use Rattle.link_sim.specs.World.State.{WorldState, entity_at}
use Rattle.link_sim.specs.World.Steps.{FindsNoMemory, Steps, WantsMemory, side_in}
use Rattle.link_sim.specs.declared.event.AcceptedPut.{AcceptedPut}
use Rattle.link_sim.specs.declared.event.Applied.{Applied}
use Rattle.link_sim.specs.declared.event.Applied.TheVariants as did
use Rattle.link_sim.specs.declared.event.Event.{Event}
use Rattle.link_sim.specs.declared.event.Event.TheVariants as event
use Rattle.station_pair.specs.declared.recover_error.RecoverError.{RecoverError}
use Rattle.station_pair.specs.declared.recover_error.RecoverError.TheVariants.{Settle, StillArmed}
use Rattle.station_pair.specs.declared.side.Side.{Side}
use Rattle.station_pair.specs.declared.side.Side.TheVariants.{One, Two}
use Rattle.link_sim.proofs.Events.Leading.{GoesBy, IsNoPut, no-put-same, no-put-settles, row-burst-lacks, row-bursts, row-cause, row-ended, row-puts, row-recovers, row-spread-lacks, row-spreads, row-well}
use Rattle.cfdp_report.specs.Report.Lines.{is_own_completion}
use Rattle.cfdp_script.specs.Script.Report.{puts_asked, puts_completed}
use Rattle.cfdp_script.specs.Script.Run.{AreAccepted, ForMemory, HappensDamaged, HappensOften, HappensOnce, HappensToFirst, HappensToFirsts, IsAccepted, IsDone, Performs, Runs, SettlingEnds, puts_by, puts_in, told}
use Rattle.cfdp_report.specs.declared.report.answer.Answer.{Answer}
use Rattle.cfdp_report.specs.declared.report.answer.Answer.TheVariants.{Nothing, Refused, Ended}
use Rattle.cfdp_report.specs.declared.report.answer.Answered.{Answered}
use Rattle.cfdp_script.specs.declared.script.command.Command.{Command}
use Rattle.cfdp_script.specs.declared.script.command.Command.TheVariants.{Once, Repeat, First, Damage as DamageOne, Spread, Burst, Settle as SettleAll, Recover, Disorder}
use Rattle.cfdp_script.specs.Script.Lines.{befalls}
use Rattle.aos_frame.specs.declared.config.Lane.{Lane}
use Rattle.cfdp_script.specs.declared.script.command.Damage.{Damage}
use Rattle.cfdp_script.specs.declared.script.command.Fate.{Fate}
use Rattle.cfdp_script.specs.declared.script.command.Fate.TheVariants.{Arrives, IsLost}
use Rattle.cfdp_script.specs.declared.script.Step.{Step}
use Rattle.cfdp_script.proofs.Leads.{for_memory}

-- ---- lists
contains-split : {X : Type 0} (x : X) (xs : List X) (y : X) → Contains (x ∷ xs) y → (x ≡ y) ⊎ Contains xs y
contains-split x xs y (zero, low, e) = inl e
contains-split x xs y (suc k, low, e) = inr (k, omega (arith, low), e)

contains-here : {X : Type 0} (x y : X) (xs : List X) → x ≡ y → Contains (x ∷ xs) y
contains-here x y xs e = (zero, omega arith, e)

contains-behind : {X : Type 0} (x : X) (xs : List X) (y : X) → Contains xs y → Contains (x ∷ xs) y
contains-behind x xs y c = (suc c.0, omega (arith, c.1), c.2)

contains-none : {X : Type 0} (y : X) → Contains [] y → ⊥
contains-none y (k, low, e) = omega (arith, low)

count-yes : {X : Type 0} (p : X → Bool) (x : X) (xs : List X) → p x ≡ true → count_by p (x ∷ xs) ≡ suc (count_by p xs)
count-yes p x xs e = (let one : count_by p (x ∷ []) ≡ 1 = rw e refl in let all = count_by-append p (x ∷ []) xs in omega (arith, one, all))

count-no : {X : Type 0} (p : X → Bool) (x : X) (xs : List X) → p x ≡ false → count_by p (x ∷ xs) ≡ count_by p xs
count-no p x xs e = (let none : count_by p (x ∷ []) ≡ 0 = rw e refl in let all = count_by-append p (x ∷ []) xs in omega (arith, none, all))

count-has : {X : Type 0} (p : X → Bool) (xs : List X) (y : X) → Contains xs y → p y ≡ true → 1 ≤ count_by p xs
count-has p [] y c e = absurd (contains-none y c)
count-has p (x ∷ xs) y c e = elim (contains-split x xs y c) [
  | inl same ↦ (let yes = count-yes p x xs (ap p same ∙ e) in omega (arith, yes))
  | inr c2 ↦ (let all = count_by-append p (x ∷ []) xs in let more = count-has p xs y c2 e in omega (arith, all, more))
]

-- ---- ids
abbrev pub AreDistinct : List TransactionId → Type 0
AreDistinct [] = Unit {0}
AreDistinct (x ∷ xs) = ((y : TransactionId) → Contains xs y → y ≢ x) × AreDistinct xs

abbrev without : TransactionId → List TransactionId → List TransactionId
without id [] = []
without id (x ∷ xs) = if same_id id x then xs else x ∷ without id xs

false-true : (b : Bool) → b ≡ false → b ≡ true → ⊥
false-true b f t = absurd (let e : false ≡ true = sym f ∙ t in cc)

not-same : (id x : TransactionId) → same_id id x ≡ false → x ≢ id
not-same id x e is = false-true (same_id id x) e (ap (λ (i : TransactionId). same_id id i) is ∙ same_id-itself id)

without-length : (id : TransactionId) (xs : List TransactionId) → Contains xs id → length xs ≡ suc (length (without id xs))
without-length id [] c = absurd (contains-none id c)
without-length id (x ∷ xs) c = cond_both (same_id id x) xs (x ∷ without id xs) (λ ys. length (x ∷ xs) ≡ suc (length ys)) (λ _. refl)
    (λ e. elim (contains-split x xs id c) [
      | inl same ↦ absurd (not-same id x e same)
      | inr c2 ↦ ap suc (without-length id xs c2)
    ])

without-in : (id : TransactionId) (xs : List TransactionId) (y : TransactionId) → Contains (without id xs) y → Contains xs y
without-in id [] y = λ c. c
without-in id (x ∷ xs) y = cond_both (same_id id x) xs (x ∷ without id xs) (λ ys. Contains ys y → Contains (x ∷ xs) y) (λ _ c. contains-behind x xs y c)
    (λ _ c. elim (contains-split x (without id xs) y c) [
      | inl same ↦ contains-here x y xs same
      | inr c2 ↦ contains-behind x xs y (without-in id xs y c2)
    ])

without-apart : (id : TransactionId) (xs : List TransactionId) → AreDistinct xs → (y : TransactionId) → Contains (without id xs) y → y ≢ id
without-apart id [] is y = λ c. absurd (contains-none y c)
without-apart id (x ∷ xs) is y = cond_both (same_id id x) xs (x ∷ without id xs) (λ ys. Contains ys y → y ≢ id) (λ e c same. is.0 y c (same ∙ same_id-is id x e))
    (λ e c. elim (contains-split x (without id xs) y c) [
      | inl here ↦ (λ same. not-same id x e (here ∙ same))
      | inr c2 ↦ without-apart id xs is.1 y c2
    ])

without-distinct : (id : TransactionId) (xs : List TransactionId) → AreDistinct xs → AreDistinct (without id xs)
without-distinct id [] is = tt
without-distinct id (x ∷ xs) is = cond_both (same_id id x) xs (x ∷ without id xs) AreDistinct (λ _. is.1)
    (λ _. ((λ y c. is.0 y (without-in id xs y c)), without-distinct id xs is.1))

in-without : (id : TransactionId) (xs : List TransactionId) (y : TransactionId) → Contains xs y → y ≢ id → Contains (without id xs) y
in-without id [] y c other = c
in-without id (x ∷ xs) y c other = cond_both (same_id id x) xs (x ∷ without id xs) (λ ys. Contains ys y)
    (λ e. elim (contains-split x xs y c) [
      | inl same ↦ absurd (other (sym same ∙ sym (same_id-is id x e)))
      | inr c2 ↦ c2
    ])
    (λ _. elim (contains-split x xs y c) [
      | inl same ↦ contains-here x y (without id xs) same
      | inr c2 ↦ contains-behind x (without id xs) y (in-without id xs y c2 other)
    ])

-- ---- completions indicated to a sender
abbrev told_of : TransactionId → Indication
told_of id = Finished id no_error Complete Retained

-- An indication that counts reports a transaction of this entity.
record IsOwn (own : ℕ) (i : Indication) : Type 0 where
  id : TransactionId
  is : i ≡ told_of id
  source : id.source ≡ own

both-true : (a b : Bool) → (a && b) ≡ true → (a ≡ true) × (b ≡ true)
both-true true b e = (refl, e)
both-true false b e = absurd cc

own-finished : (own : ℕ) (id : TransactionId) (condition : ℕ) (delivery : Delivery) (status : FileStatus) → is_own_completion own (Finished id condition delivery status) ≡ true →
    IsOwn own (Finished id condition delivery status)
own-finished own id condition Complete Retained e =
    let p = both-true (condition == no_error) (id.source == own) e in
    record { id = id; is = ap (λ (c : ℕ). Finished id c Complete Retained) (eqb-true condition no_error p.0); source = eqb-true id.source own p.1 }
own-finished own id condition Complete Discarded e = absurd cc
own-finished own id condition Complete Rejected e = absurd cc
own-finished own id condition Complete Unreported e = absurd cc
own-finished own id condition Incomplete status e = absurd cc

own-is : (own : ℕ) (i : Indication) → is_own_completion own i ≡ true → IsOwn own i
own-is own (Finished id condition delivery status) e = own-finished own id condition delivery status e
own-is own (Transaction id) e = absurd cc
own-is own (EofSent id) e = absurd cc
own-is own (MetadataRecv id source destination size) e = absurd cc
own-is own (EofRecv id) e = absurd cc
own-is own (Suspended id condition) e = absurd cc
own-is own (Resumed id) e = absurd cc
own-is own (Fault id condition) e = absurd cc
own-is own (Abandoned id condition) e = absurd cc
own-is own (Progress id octets) e = absurd cc

is-own : (own : ℕ) (id : TransactionId) → id.source ≡ own → is_own_completion own (told_of id) ≡ true
is-own own id e = eq-eqb id.source own e

is-told : (id : TransactionId) → is_finished id (told_of id) ≡ true
is-told id = same_id-itself id

told-same : (a b : TransactionId) → told_of a ≡ told_of b → a ≡ b
told-same a b e = cc

once-behind : (i : Indication) (told : List Indication) → FinishedOnce (i ∷ told) → FinishedOnce told
once-behind i told once id = (let all = count_by-append (is_finished id) (i ∷ []) told in let most = once id in omega (arith, all, most))

-- what is shown of a list of indications
abbrev IsCounted : ℕ → List Indication → Type 0
IsCounted own told = (ids : List TransactionId) → FinishedOnce told → AreDistinct ids
    → ((id : TransactionId) → Contains ids id → IsToldComplete own told id) → ((id : TransactionId) → IsToldComplete own told id → Contains ids id)
    → count_by (is_own_completion own) told ≡ length ids

module _ (own : ℕ) (i : Indication) (told : List Indication) (ids : List TransactionId) (once : FinishedOnce (i ∷ told)) (distinct : AreDistinct ids)
    (tells : (id : TransactionId) → Contains ids id → IsToldComplete own (i ∷ told) id) (found : (id : TransactionId) → IsToldComplete own (i ∷ told) id → Contains ids id) where
  module _ (o : IsOwn own i) where
    tells-on : (id : TransactionId) → Contains (without o.id ids) id → IsToldComplete own told id
    tells-on id c =
        let t = tells id (without-in o.id ids id c) in
        elim (contains-split i told (told_of id) t.1) [
          | inl same ↦ absurd (without-apart o.id ids distinct id c (told-same id o.id (sym same ∙ o.is)))
          | inr behind ↦ (t.0, behind)
        ]

    twice-told : (id : TransactionId) → IsToldComplete own told id → id ≢ o.id
    twice-told id t same =
        let more : 1 ≤ count_by (is_finished id) told = count-has (is_finished id) told (told_of id) t.1 (is-told id) in
        let first : is_finished id i ≡ true = ap (is_finished id) (o.is ∙ ap told_of (sym same)) ∙ is-told id in
        let twice : count_by (is_finished id) (i ∷ told) ≡ suc (count_by (is_finished id) told) = count-yes (is_finished id) i told first in
        let most : count_by (is_finished id) (i ∷ told) ≤ 1 = once id in
        omega (arith, more, twice, most)

    found-on : (id : TransactionId) → IsToldComplete own told id → Contains (without o.id ids) id
    found-on id t = in-without o.id ids id (found id (t.0, contains-behind i told (told_of id) t.1)) (twice-told id t)

    counted-own : is_own_completion own i ≡ true → IsCounted own told → count_by (is_own_completion own) (i ∷ told) ≡ length ids
    counted-own e more =
        let here : Contains ids o.id = found o.id (o.source, contains-here i (told_of o.id) told o.is) in
        let rest : count_by (is_own_completion own) told ≡ length (without o.id ids) = more (without o.id ids) (once-behind i told once) (without-distinct o.id ids distinct) tells-on found-on in
        count-yes (is_own_completion own) i told e ∙ ap suc rest ∙ sym (without-length o.id ids here)

  counted-other : is_own_completion own i ≡ false → IsCounted own told → count_by (is_own_completion own) (i ∷ told) ≡ length ids
  counted-other e more =
      count-no (is_own_completion own) i told e ∙ more ids (once-behind i told once) distinct
      (λ id c. (let t = tells id c in elim (contains-split i told (told_of id) t.1) [
        | inl same ↦ absurd (false-true (is_own_completion own i) e (ap (is_own_completion own) same ∙ is-own own id t.0))
        | inr behind ↦ (t.0, behind)
      ]))
      (λ id t. found id (t.0, contains-behind i told (told_of id) t.1))

-- As many are indicated as there are transactions that are indicated.
pub counts : (own : ℕ) (told : List Indication) → IsCounted own told
counts own [] [] once distinct tells found = refl
counts own [] (x ∷ ids) once distinct tells found = absurd (contains-none (told_of x) (tells x (contains-here x x ids refl)).1)
counts own (i ∷ told) ids once distinct tells found = elim (cases_Bool (is_own_completion own i)) [
  | inl e ↦ counted-own own i told ids once distinct tells found (own-is own i e) e (counts own told)
  | inr e ↦ counted-other own i told ids once distinct tells found e (counts own told)
]

-- ---- puts
abbrev ids_of : ℕ → List AcceptedPut → List TransactionId
ids_of own [] = []
ids_of own (p ∷ puts) = if p.id.source == own then p.id ∷ ids_of own puts else ids_of own puts

-- an accepted put with this id, of this entity
abbrev IsIdIn : ℕ → List AcceptedPut → TransactionId → Type 0
IsIdIn own puts id = (p : AcceptedPut) × Contains puts p × (p.id ≡ id) × (id.source ≡ own)

id-behind : (own : ℕ) (p : AcceptedPut) (puts : List AcceptedPut) (id : TransactionId) → IsIdIn own puts id → IsIdIn own (p ∷ puts) id
id-behind own p puts id r = (r.0, contains-behind p puts r.0 r.1, r.2, r.3)

ids-in : (own : ℕ) (puts : List AcceptedPut) (id : TransactionId) → Contains (ids_of own puts) id → IsIdIn own puts id
ids-in own [] id = λ c. absurd (contains-none id c)
ids-in own (p ∷ puts) id = cond_both (p.id.source == own) (p.id ∷ ids_of own puts) (ids_of own puts) (λ xs. Contains xs id → IsIdIn own (p ∷ puts) id)
    (λ e c. elim (contains-split p.id (ids_of own puts) id c) [
      | inl same ↦ (p, contains-here p p puts refl, same, ap (λ (i : TransactionId). i.source) (sym same) ∙ eqb-true p.id.source own e)
      | inr c2 ↦ id-behind own p puts id (ids-in own puts id c2)
    ])
    (λ _ c. id-behind own p puts id (ids-in own puts id c))

in-ids : (own : ℕ) (puts : List AcceptedPut) (p : AcceptedPut) → Contains puts p → p.id.source ≡ own → Contains (ids_of own puts) p.id
in-ids own [] p c is = absurd (contains-none p c)
in-ids own (x ∷ puts) p c is = cond_both (x.id.source == own) (x.id ∷ ids_of own puts) (ids_of own puts) (λ xs. Contains xs p.id)
    (λ _. elim (contains-split x puts p c) [
      | inl same ↦ contains-here x.id p.id (ids_of own puts) (ap (λ (q : AcceptedPut). q.id) same)
      | inr c2 ↦ contains-behind x.id (ids_of own puts) p.id (in-ids own puts p c2 is)
    ])
    (λ e. elim (contains-split x puts p c) [
      | inl same ↦ absurd (false-true (x.id.source == own) e (eq-eqb x.id.source own (ap (λ (q : AcceptedPut). q.id.source) same ∙ is)))
      | inr c2 ↦ in-ids own puts p c2 is
    ])

ids-distinct : (own : ℕ) (puts : List AcceptedPut) → AreApart puts → AreDistinct (ids_of own puts)
ids-distinct own [] is = tt
ids-distinct own (p ∷ puts) is = cond_both (p.id.source == own) (p.id ∷ ids_of own puts) (ids_of own puts) AreDistinct
    (λ _. ((λ y c same. (let r = ids-in own puts y c in is.0 r.0 r.1 (r.2 ∙ same))), ids-distinct own puts is.1))
    (λ _. ids-distinct own puts is.1)

ids-first : (p : AcceptedPut) (puts : List AcceptedPut) → p.id.source ≡ 1 → length (ids_of 1 puts) + length (ids_of 2 puts) ≡ length puts → length (ids_of 1 (p ∷ puts)) + length (ids_of 2 (p ∷ puts))
    ≡ length (p ∷ puts)
ids-first p puts one rest =
    let a : length (ids_of 1 (p ∷ puts)) ≡ suc (length (ids_of 1 puts)) = rw one refl in
    let b : length (ids_of 2 (p ∷ puts)) ≡ length (ids_of 2 puts) = rw one refl in
    omega (arith, rest, a, b)

ids-second : (p : AcceptedPut) (puts : List AcceptedPut) → p.id.source ≡ 2 → length (ids_of 1 puts) + length (ids_of 2 puts) ≡ length puts → length (ids_of 1 (p ∷ puts)) + length (ids_of 2 (p ∷ puts))
    ≡ length (p ∷ puts)
ids-second p puts two rest =
    let a : length (ids_of 1 (p ∷ puts)) ≡ length (ids_of 1 puts) = rw two refl in
    let b : length (ids_of 2 (p ∷ puts)) ≡ suc (length (ids_of 2 puts)) = rw two refl in
    omega (arith, rest, a, b)

-- each is of one of two entities
ids-all : (puts : List AcceptedPut) → ((p : AcceptedPut) → Contains puts p → (p.id.source ≡ 1) ⊎ (p.id.source ≡ 2)) → length (ids_of 1 puts) + length (ids_of 2 puts) ≡ length puts
ids-all [] each = refl
ids-all (p ∷ puts) each =
    let rest : length (ids_of 1 puts) + length (ids_of 2 puts) ≡ length puts = ids-all puts (λ q c. each q (contains-behind p puts q c)) in
    elim (each p (contains-here p p puts refl)) [
      | inl one ↦ ids-first p puts one rest
      | inr two ↦ ids-second p puts two rest
    ]

none-some : (p : AcceptedPut) → None ≡ Some p → ⊥
none-some p e = absurd cc

-- the put of an id is an accepted one
accepted-in : (puts : List AcceptedPut) (id : TransactionId) (p : AcceptedPut) → accepted_as puts id ≡ Some p → Contains puts p × (p.id ≡ id)
accepted-in [] id p = λ e. absurd (none-some p e)
accepted-in (x ∷ puts) id p = cond_both (same_id x.id id) (Some x) (accepted_as puts id) (λ o. o ≡ Some p → Contains (x ∷ puts) p × (p.id ≡ id))
    (λ same e. (let is : x ≡ p = cc in (contains-here x p puts is, ap (λ (q : AcceptedPut). q.id) (sym is) ∙ same_id-is x.id id same)))
    (λ _ e. (let r = accepted-in puts id p e in (contains-behind x puts p r.0, r.1)))

put-in : (w : WorldSeen) (o : Option AcceptedPut) (put : Put) → put_by w o ≡ Some put → (p : AcceptedPut) × (o ≡ Some p)
put-in w None put e = absurd cc
put-in w (Some p) put e = (p, refl)

-- ---- a world
module _ (w : WorldState) (one : (entity_at One w).config.entity ≡ 1) (two : (entity_at Two w).config.entity ≡ 2) (kept : KeepsPromises (empty, empty) w) (all : AllComplete w) where
  abbrev own_of : Side → ℕ
  own_of One = 1
  own_of Two = 2

  own : (s : Side) → (entity_at s w).config.entity ≡ own_of s
  own One = one
  own Two = two

  side-one : (n : ℕ) → n ≡ 1 → side_of n (seen w) ≡ One
  side-one n e = rw (one, e) refl

  side-two : (n : ℕ) → n ≡ 2 → side_of n (seen w) ≡ Two
  side-two n e = rw (one, e) refl

  side-own : (s : Side) (n : ℕ) → n ≡ own_of s → side_of n (seen w) ≡ s
  side-own One n e = side-one n e
  side-own Two n e = side-two n e

  tells : (s : Side) (id : TransactionId) → Contains (ids_of (own_of s) w.puts) id → IsToldComplete (own_of s) (told s w) id
  tells s id c =
      let r = ids-in (own_of s) w.puts id c in
      let side : side_of r.0.id.source (seen w) ≡ s = side-own s r.0.id.source (ap (λ (i : TransactionId). i.source) r.2 ∙ r.3) in
      let complete : IsCompleteAt s r.0 w = subst (λ (t : Side). IsCompleteAt t r.0 w) side (all r.0 r.1) in
      (r.3, subst (λ (i : TransactionId). Contains (told s w) (told_of i)) r.2 complete.told.1)

  found-seen : (s : Side) (id : TransactionId) → IsToldComplete (at s (seen w)).entity (at s (seen w)).told id → (p : AcceptedPut) × Contains w.puts p × (p.id ≡ id)
  found-seen s id t =
      let back = (kept.holds s).told id t in
      let put = (kept.holds (other s)).caused id back.completed in
      let accepted = put-in (seen w) (accepted_as w.puts id) put.0 put.1.0 in
      let r = accepted-in w.puts id accepted.0 accepted.1 in
      (accepted.0, r.0, r.1)

  told-seen : (s : Side) (id : TransactionId) → IsToldComplete (own_of s) (told s w) id → IsToldComplete (at s (seen w)).entity (at s (seen w)).told id
  told-seen One id t = (t.0 ∙ sym one, t.1)
  told-seen Two id t = (t.0 ∙ sym two, t.1)

  found : (s : Side) (id : TransactionId) → IsToldComplete (own_of s) (told s w) id → Contains (ids_of (own_of s) w.puts) id
  found s id t =
      let r = found-seen s id (told-seen s id t) in
      subst (λ (i : TransactionId). Contains (ids_of (own_of s) w.puts) i) r.2 (in-ids (own_of s) w.puts r.0 r.1 (ap (λ (i : TransactionId). i.source) r.2 ∙ t.0))

  once : (s : Side) → FinishedOnce (told s w)
  once One = (kept.holds One).once
  once Two = (kept.holds Two).once

  counted : (s : Side) → count_by (is_own_completion (own_of s)) (told s w) ≡ length (ids_of (own_of s) w.puts)
  counted s = counts (own_of s) (told s w) (ids_of (own_of s) w.puts) (once s) (ids-distinct (own_of s) w.puts kept.apart) (tells s) (found s)

  sources : (p : AcceptedPut) → Contains w.puts p → (p.id.source ≡ 1) ⊎ (p.id.source ≡ 2)
  sources p c = by-side (side_of p.id.source (seen w)) (all p c)
    where
      by-side : (s : Side) → IsCompleteAt s p w → (p.id.source ≡ 1) ⊎ (p.id.source ≡ 2)
      by-side One h = inl (h.told.0 ∙ one)
      by-side Two h = inr (h.told.0 ∙ two)

  -- each put is counted once
  pub completed-all : puts_completed w ≡ length w.puts
  completed-all = (let a = counted One in let b = counted Two in let c = ids-all w.puts sources in omega (arith, a, b, c))

-- ---- the puts that commands asked for
no-tick : (s : Side) (now : ℕ) → IsNoPut (event.Tick s now)
no-tick s now = tt

event-puts : (e : Event) (d : Applied) (a b : WorldState) → IsNoPut e → Steps e d a b → length b.puts ≡ length a.puts + 0
event-puts e d a b is step = (let same = ap length (no-put-same e d a b is step) in omega (arith, same))

same-puts : (a b : WorldState) → b.puts ≡ a.puts → length b.puts ≡ length a.puts + 0
same-puts a b e = (let same = ap length e in omega (arith, same))

lacks-puts : (error : RecoverError) (e : Event) (a b : WorldState) → ForMemory error (WantsMemory e × FindsNoMemory (side_in e) a b) → length b.puts ≡ length a.puts + 0
lacks-puts error e a b ends = (let lacks = for_memory error (WantsMemory e × FindsNoMemory (side_in e) a b) ends in same-puts a b (ap (λ (w : WorldState). w.puts) lacks.1))

once-puts : (e : Event) (answer : Option Answer) (a b : WorldState) → IsNoPut e → HappensOnce e answer a b → length b.puts ≡ length a.puts + 0
once-puts e None a b is step = event-puts e did.Applied a b is step
once-puts e (Some (Nothing after)) a b is step = event-puts e did.Nothing a b is step.1
once-puts e (Some (Refused by)) a b is step = event-puts e (did.Refused by) a b is step
once-puts e (Some (Ended error)) a b is ends = lacks-puts error e a b ends

times-puts : (e : Event) (count : ℕ) (a b : WorldState) → IsNoPut e → Times (Steps e did.Applied) count a b → length b.puts ≡ length a.puts + 0
times-puts e zero a b is same = same-puts a b (ap (λ (w : WorldState). w.puts) same)
times-puts e (suc count) a b is h = (let first = times-puts e count a h.0 is h.1 in let last = event-puts e did.Applied h.0 b is h.2 in omega (arith, first, last))

often-puts : (e : Event) (count : ℕ) (answer : Option Answer) (a b : WorldState) → IsNoPut e → HappensOften e count answer a b → length b.puts ≡ length a.puts + 0
often-puts e count None a b is all = times-puts e count a b is all
often-puts e count (Some answer) a b is h = (let first = times-puts e h.0 a h.2 is h.3 in let last = once-puts e (Some h.4) h.2 b is h.6 in omega (arith, first, last))

fate-no-put : (fate : Fate) (s : Side) (lane : Lane) → IsNoPut (befalls fate s lane)
fate-no-put Arrives s lane = tt
fate-no-put IsLost s lane = tt

first-puts : (fate : Fate) (s : Side) (answer : Option Answer) (a b : WorldState) → HappensToFirst fate s answer a b → length b.puts ≡ length a.puts + 0
first-puts fate s answer a b h = once-puts (befalls fate s h.0) answer a b (fate-no-put fate s h.0) h.2

firsts-puts : (fate : Fate) (s : Side) (count : ℕ) (a b : WorldState) → Times (HappensToFirst fate s None) count a b → length b.puts ≡ length a.puts + 0
firsts-puts fate s zero a b same = same-puts a b (ap (λ (w : WorldState). w.puts) same)
firsts-puts fate s (suc count) a b h = (let first = firsts-puts fate s count a h.0 h.1 in let last = first-puts fate s None h.0 b h.2 in omega (arith, first, last))

often-first : (fate : Fate) (s : Side) (count : ℕ) (answer : Option Answer) (a b : WorldState) → HappensToFirsts fate s count answer a b → length b.puts ≡ length a.puts + 0
often-first fate s count None a b all = firsts-puts fate s count a b all
often-first fate s count (Some answer) a b h = (let first = firsts-puts fate s h.0 a h.2 h.3 in let last = first-puts fate s (Some h.4) h.2 b h.6 in omega (arith, first, last))

damaged-puts : (s : Side) (said : Option Lane) (damage : Damage) (answer : Option Answer) (a b : WorldState) → HappensDamaged s said damage answer a b → length b.puts ≡ length a.puts + 0
damaged-puts s said damage answer a b (inl h) = once-puts (event.Damage s h.0 h.1) answer a b tt h.4
damaged-puts s said damage answer a b (inr none) = same-puts a b (ap (λ (w : WorldState). w.puts) none.1)

done-puts : (answer : Option Answer) (a b : WorldState) (Done : Type 0) (Ends : RecoverError → Type 0) → IsDone answer Done Ends → (Done → Many (GoesBy IsNoPut) a b) →
    ((error : RecoverError) → Ends error → Many (GoesBy IsNoPut) a b) → length b.puts ≡ length a.puts + 0
done-puts None a b Done Ends h done ended = same-puts a b (row-puts a b (done h))
done-puts (Some (Nothing after)) a b Done Ends h done ended = absurd h
done-puts (Some (Refused by)) a b Done Ends h done ended = absurd h
done-puts (Some (Ended error)) a b Done Ends h done ended = same-puts a b (row-puts a b (ended error h))

settling-row : (a b : WorldState) (error : RecoverError) → SettlingEnds error a b → Many (GoesBy IsNoPut) a b
settling-row a b (Settle error) h = row-cause IsNoPut no-put-settles no-tick error _ a b h
settling-row a b StillArmed h = absurd h

-- A put that is accepted is one more; no other event is.
put-puts : (s : Side) (source destination : List ℕ) (answer : Option Answer) (a b : WorldState) → answer ≡ None → HappensOnce (event.Put s source destination) answer a b → length b.puts
    ≡ length a.puts + 1
put-puts s source destination None a b is h = ap length h.puts ∙ length-append a.puts _
put-puts s source destination (Some answer) a b is h = absurd cc

performs-puts : (command : Command) (answer : Option Answer) (a b : WorldState) → Performs command answer a b → IsAccepted command answer → length b.puts ≡ length a.puts + puts_by command
performs-puts (Once (event.Put s source destination)) answer a b h is = put-puts s source destination answer a b is h
performs-puts (Once (event.Cancel s id)) answer a b h is = once-puts (event.Cancel s id) answer a b tt h
performs-puts (Once (event.Suspend s id)) answer a b h is = once-puts (event.Suspend s id) answer a b tt h
performs-puts (Once (event.Resume s id)) answer a b h is = once-puts (event.Resume s id) answer a b tt h
performs-puts (Once (event.Prompt s id keep_alive)) answer a b h is = once-puts (event.Prompt s id keep_alive) answer a b tt h
performs-puts (Once (event.Poll s)) answer a b h is = once-puts (event.Poll s) answer a b tt h
performs-puts (Once (event.Flush s)) answer a b h is = once-puts (event.Flush s) answer a b tt h
performs-puts (Once (event.Tick s now)) answer a b h is = once-puts (event.Tick s now) answer a b tt h
performs-puts (Once (event.Deliver s l)) answer a b h is = once-puts (event.Deliver s l) answer a b tt h
performs-puts (Once (event.Strike s l)) answer a b h is = once-puts (event.Strike s l) answer a b tt h
performs-puts (Once (event.Damage s l octets)) answer a b h is = once-puts (event.Damage s l octets) answer a b tt h
performs-puts (Repeat (event.Put s source destination) count) answer a b h is = absurd is
performs-puts (Repeat (event.Cancel s id) count) answer a b h is = often-puts (event.Cancel s id) count answer a b tt h
performs-puts (Repeat (event.Suspend s id) count) answer a b h is = often-puts (event.Suspend s id) count answer a b tt h
performs-puts (Repeat (event.Resume s id) count) answer a b h is = often-puts (event.Resume s id) count answer a b tt h
performs-puts (Repeat (event.Prompt s id keep_alive) count) answer a b h is = often-puts (event.Prompt s id keep_alive) count answer a b tt h
performs-puts (Repeat (event.Poll s) count) answer a b h is = often-puts (event.Poll s) count answer a b tt h
performs-puts (Repeat (event.Flush s) count) answer a b h is = often-puts (event.Flush s) count answer a b tt h
performs-puts (Repeat (event.Tick s now) count) answer a b h is = often-puts (event.Tick s now) count answer a b tt h
performs-puts (Repeat (event.Deliver s l) count) answer a b h is = often-puts (event.Deliver s l) count answer a b tt h
performs-puts (Repeat (event.Strike s l) count) answer a b h is = often-puts (event.Strike s l) count answer a b tt h
performs-puts (Repeat (event.Damage s l octets) count) answer a b h is = often-puts (event.Damage s l octets) count answer a b tt h
performs-puts (First fate s count) answer a b h is = often-first fate s count answer a b h
performs-puts (DamageOne s said damage) answer a b h is = damaged-puts s said damage answer a b h
performs-puts (Spread s) answer a b h is =
    done-puts answer a b _ _ h (λ all. row-spreads IsNoPut no-put-settles no-tick s a b all) (λ error ends. row-spread-lacks IsNoPut no-put-settles no-tick s a b (for_memory error _ ends))
performs-puts (Burst s) answer a b h is =
    done-puts answer a b _ _ h (λ all. row-bursts IsNoPut no-put-settles no-tick s a b all) (λ error ends. row-burst-lacks IsNoPut no-put-settles no-tick s a b (for_memory error _ ends))
performs-puts SettleAll answer a b h is =
    done-puts answer a b (GoesWell a b × IsSettled b) _ h (λ all. row-well IsNoPut no-put-settles no-tick _ _ a b all.0) (λ error ends. settling-row a b error ends)
performs-puts Recover answer a b h is =
    done-puts answer a b (Recovers a b × IsRecovered b) _ h (λ all. row-recovers IsNoPut no-put-settles no-tick a b all.0) (λ error ends. row-ended IsNoPut no-put-settles no-tick error a b ends)
performs-puts (Disorder what) answer a b h is = same-puts a b (ap (λ (w : WorldState). w.puts) h.1)

runs-puts : (steps : List Step) (answered : List Answered) (a b : WorldState) → Runs steps answered a b → AreAccepted steps answered → length b.puts ≡ length a.puts + puts_asked steps
unfolding puts_in
runs-puts [] [] a b same is = same-puts a b (ap (λ (w : WorldState). w.puts) same)
runs-puts [] (done ∷ all) a b h is = absurd h
runs-puts (step ∷ steps) [] a b h is = absurd h
runs-puts (step ∷ steps) (done ∷ all) a b h is =
    let first = performs-puts step.command done.answer a h.1 h.2 is.0 in
    let rest = runs-puts steps all h.1 b h.3 is.1 in
    let sum : puts_asked (step ∷ steps) ≡ puts_by step.command + puts_asked steps = sum_by-cons puts_in step steps in
    omega (arith, first, rest, sum)

-- from a world without puts
pub puts-all : (steps : List Step) (answered : List Answered) (a b : WorldState) → Runs steps answered a b → AreAccepted steps answered → a.puts ≡ [] → length b.puts ≡ puts_asked steps
puts-all steps answered a b h is none = (let all = runs-puts steps answered a b h is in let first = ap length none in omega (arith, all, first))
