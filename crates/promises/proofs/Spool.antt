-- What left a spool as sent lies in the inbox of the other station, where stations resume.
use Rattle.std.proofs.Common.{◌≡◌, ◌⊎◌, Bool, true, false, ℕ, zero, suc, ◌+◌, ◌<◌, ◌≤◌, Option, Some, None, Ok, List, [], ◌∷◌, ◌++◌, length, map, take, refl, sym, ap, subst, ◌∙◌, inl, inr, arith, ⊎_elim, append_assoc, cond}
use Rattle.std.specs.Prelude.{Contains, count_by}
use Rattle.std.proofs.lemmas.Bool.{cases_Bool}
use Rattle.std.proofs.lemmas.List.Elements.{Contains-append_cases, Contains-append_left, Contains-append_right}
use Rattle.cfdp_header.specs.declared.value.TransactionId.{TransactionId}
use Rattle.cfdp_header.specs.Files.{FileMap}
use Rattle.cfdp_header.specs.Ids.{same_id}
use Rattle.cfdp_directives.specs.declared.user.indication.Indication.{Indication}
use Rattle.cfdp_directives.specs.User.Completions.{FinishedOnce, IsToldComplete, completions, is_finished}
use Rattle.cfdp_directives.specs.User.Put.{Put}
use Rattle.cfdp_directives.proofs.Puts.{count_by-append, finished-append}
use Rattle.cfdp_entity.specs.Table.{TableState}
use Rattle.cfdp_station.specs.Station.{StationState}
use Rattle.cfdp_station.specs.Transmitting.{Times}
use Rattle.any_order.specs.Calls.{AreJoined, One, Two, Setup, Side, other, setup_of}
use Rattle.any_order.specs.Promise.{found}
use Rattle.cfdp_port.specs.Calls.{WireCall}
use Rattle.cfdp_port.specs.Port.{table_of}
use Rattle.cfdp_service.specs.Calls.{UserCall, Asks, Answered, Hears, Chain, heard_by}
use Rattle.cfdp_service.specs.Clerk.{ClerkState, ClerkSteps, IsAccepted, WishesFile}
use Rattle.cfdp_service.specs.declared.clerk.OpenFile.{OpenFile}
use Rattle.cfdp_service.specs.declared.wish.PutNames.{PutNames}
use Rattle.cfdp_service.specs.declared.wish.Reply.TheVariants as replies
use Rattle.cfdp_service.specs.declared.wish.Wish.{Wish}
use Rattle.cfdp_service.specs.declared.wish.Wish.TheVariants as wishes
use Rattle.promises.specs.Promise as promise
use Rattle.promises.specs.Promise.{IsSent, Lies}
use Rattle.promises.specs.Serving.{Served, Stations, served_at}
use Rattle.promises.proofs.Calling.{ArePut, IsPut, accepts_put, asks_put, hears_all}
use Rattle.promises.proofs.Doing.{AllLaws}
use Rattle.promises.proofs.Hearing.{heard_both}
use Rattle.promises.proofs.Knowing.{delivered}
use Rattle.promises.proofs.Lying.{PutOf, PutsOf, all_puts, done_lies, sent_done}
use Rattle.promises.proofs.Promising.{held_at, own_so}
use Rattle.promises.proofs.Reaching.{lies_so, sent_so, shade, shaded_is}
use Rattle.promises.proofs.Sending.{Left, Tracks, WasSent, names_of, of_id, once_first, tracks_all}
use Rattle.promises.proofs.Telling.{told_of}
use Rattle.promises.specs.ResumedPromise.{AreDelivered, CameBack}
use Rattle.promises.specs.Resuming.{BothLives, GoesOrResumes, HaveServedOrResumed, ServiceLife, calls_in, life_of, stations_of}
use Rattle.promises.proofs.Back.{ResumedSound}
use Rattle.promises.proofs.Events.{AreAlive, Since, all_alive, shaded, went_alive}
use Rattle.promises.proofs.Lives.{IsBackPut}

-- ---- lists
abbrev first_or : {X : Type 0} → X → List X → X
first_or x [] = x
first_or x (y ∷ ys) = y

abbrev behind_first : {X : Type 0} → List X → List X
behind_first [] = []
behind_first (y ∷ ys) = ys

head_is : {X : Type 0} (x y : X) (xs ys : List X) → ◌≡◌ {A = List X} (x ∷ xs) (y ∷ ys) → x ≡ y
head_is {X} x y xs ys e = ap (λ (l : List X). first_or x l) e

rest_is : {X : Type 0} (x y : X) (xs ys : List X) → ◌≡◌ {A = List X} (x ∷ xs) (y ∷ ys) → xs ≡ ys
rest_is {X} x y xs ys e = ap (λ (l : List X). behind_first l) e

one_or_rest : {X : Type 0} (x y : X) (xs : List X) → Contains (x ∷ xs) y → (y ≡ x) ⊎ Contains xs y
one_or_rest x y xs (zero, low, e) = inl (sym e)
one_or_rest x y xs (suc k, low, e) = inr (k, omega (arith, low), e)

in_rest : {X : Type 0} (x y : X) (xs : List X) → Contains xs y → Contains (x ∷ xs) y
in_rest x y xs has = (suc has.0, (let k = has.0 in let low : k < length xs = has.1 in omega arith), has.2)

-- what is counted is there, and what is there is counted
abbrev mark : Bool → ℕ
mark b = cond b 1 0

count_first : {X : Type 0} (p : X → Bool) (x : X) (xs : List X) → count_by p (x ∷ xs) ≡ mark (p x) + count_by p xs
count_first p x xs = count_by-append p (x ∷ []) xs ∙ omega arith

counted : {X : Type 0} (p : X → Bool) (xs : List X) → 1 ≤ count_by p xs → (x : X) × (Contains xs x × (p x ≡ true))
counted p [] many = absurd (omega (arith, many))
counted p (x ∷ xs) many = elim (cases_Bool (p x)) [
  | inl is ↦ (x, ((0, omega arith, refl), is))
  | inr isnt ↦
      let all : count_by p (x ∷ xs) ≡ mark (p x) + count_by p xs = count_first p x xs in
      let none : mark (p x) ≡ 0 = ap mark isnt in
      let r = counted p xs (omega (arith, many, all, none)) in
      (r.0, (in_rest x r.0 xs r.1.0, r.1.1))
]

counts : {X : Type 0} (p : X → Bool) (xs : List X) (x : X) → Contains xs x → p x ≡ true → 1 ≤ count_by p xs
counts p [] x has is = absurd (let k = has.0 in let low : k < 0 = has.1 in omega arith)
counts p (y ∷ xs) x has is =
    let all : count_by p (y ∷ xs) ≡ mark (p y) + count_by p xs = count_first p y xs in
    elim (one_or_rest y x xs has) [
      | inl here ↦ let one : mark (p y) ≡ 1 = ap mark (ap p (sym here) ∙ is) in omega (arith, all, one)
      | inr there ↦ let more : 1 ≤ count_by p xs = counts p xs x there is in omega (arith, all, more)
    ]

-- what is of another list, and counted once, is counted no more often than there
few_of : {X : Type 0} (p : X → Bool) (all some : List X) → ((x : X) → Contains some x → Contains all x) → count_by p some ≤ 1 → count_by p some ≤ count_by p all
few_of p all some among once = by (count_by p some) refl
  where
    by : (n : ℕ) → count_by p some ≡ n → count_by p some ≤ count_by p all
    by zero is = omega (arith, is)
    by (suc n) is =
        let r = counted p some (omega (arith, is)) in
        let many : 1 ≤ count_by p all = counts p all r.0 (among r.0 r.1.0) r.1.1 in
        omega (arith, once, many)

-- ---- the calls by which files were put in a life before
-- A put of this file was wished under its own name.
abbrev its_names : OpenFile → PutNames
its_names file = record { source = file.name; destination = file.name }

-- These calls, after others by which puts of these files were wished and accepted.
abbrev put_first : List OpenFile → List UserCall → List UserCall
put_first [] calls = calls
put_first (file ∷ files) calls = put_first files (asks_put (its_names file) ∷ accepts_put file.id ∷ calls)

first_heard : (files : List OpenFile) (calls : List UserCall) → heard_by (put_first files calls) ≡ heard_by calls
first_heard [] calls = refl
first_heard (file ∷ files) calls = first_heard files (asks_put (its_names file) ∷ accepts_put file.id ∷ calls)

-- ---- each of these puts is found
abbrev is_asked : UserCall → Bool
is_asked (Asks wish) = true
is_asked _ = false

abbrev names_asked : PutNames → UserCall → PutNames
names_asked names (Asks (Some (wishes.Put other))) = other
names_asked names _ = names

abbrev id_answered : TransactionId → UserCall → TransactionId
id_answered id (Answered (replies.Put (Ok other))) = other
id_answered id _ = id

module _ (own : ℕ) (puts : List Put) where
  -- a call in front that is no wish
  put_behind : (call : UserCall) (calls : List UserCall) → is_asked call ≡ false → ArePut own puts calls → ArePut own puts (call ∷ calls)
  put_behind call calls none are [] behind names id e =
      absurd (let bad : is_asked call ≡ true = ap is_asked (head_is call (asks_put names) calls (accepts_put id ∷ behind) e) in cc)
  put_behind call calls none are (x ∷ before) behind names id e = are before behind names id (rest_is call x calls (before ++ asks_put names ∷ accepts_put id ∷ behind) e)

  heard_behind : (is : List Indication) (calls : List UserCall) → ArePut own puts calls → ArePut own puts (map Hears is ++ calls)
  heard_behind [] calls are = are
  heard_behind (i ∷ is) calls are = put_behind (Hears i) (map Hears is ++ calls) refl (heard_behind is calls are)

  -- and the same without calls in front
  put_after : (front calls : List UserCall) → ArePut own puts (front ++ calls) → ArePut own puts calls
  put_after front calls are before behind names id e =
      are (front ++ before) behind names id (ap (λ l. front ++ l) e ∙ sym (append_assoc front before (asks_put names ∷ accepts_put id ∷ behind)))

  -- a put in front
  pair_put : (wished : PutNames) (its : TransactionId) (calls : List UserCall) → IsPut own puts wished its → ArePut own puts calls → ArePut own puts (asks_put wished ∷ accepts_put its ∷ calls)
  pair_put wished its calls p are [] behind names id e =
      let same : wished ≡ names = ap (names_asked wished) (head_is (asks_put wished) (asks_put names) (accepts_put its ∷ calls) (accepts_put id ∷ behind) e) in
      let rest = rest_is (asks_put wished) (asks_put names) (accepts_put its ∷ calls) (accepts_put id ∷ behind) e in
      let same_one : its ≡ id = ap (id_answered its) (head_is (accepts_put its) (accepts_put id) calls behind rest) in
      subst (λ (i : TransactionId). IsPut own puts names i) same_one (subst (λ (n : PutNames). IsPut own puts n its) same p)
  pair_put wished its calls p are (x ∷ before) behind names id e =
      put_behind (accepts_put its) calls refl are before behind names id (rest_is (asks_put wished) x (accepts_put its ∷ calls) (before ++ asks_put names ∷ accepts_put id ∷ behind) e)

  first_put : (files : List OpenFile) (calls : List UserCall) → ((file : OpenFile) → Contains files file → IsPut own puts (its_names file) file.id) → ArePut own puts calls → ArePut own puts (put_first files calls)
  first_put [] calls each are = are
  first_put (file ∷ files) calls each are =
      first_put files (asks_put (its_names file) ∷ accepts_put file.id ∷ calls) (λ other has. each other (in_rest file other files has))
      (pair_put (its_names file) file.id calls (each file (0, omega arith, refl)) are)

-- ---- what was accepted by these calls was put before, or accepted by the others
-- The file of this name was open as this transaction.
pub record WasOpen (files : List OpenFile) (name : List ℕ) (id : TransactionId) : Type 0 where
  pub file : OpenFile
  pub among : Contains files file
  pub its_name : file.name.items ≡ name
  pub its_id : file.id ≡ id

abbrev wish_in : Option Wish → UserCall → Option Wish
wish_in wish (Asks other) = other
wish_in wish _ = wish

abbrev names_in : PutNames → Option Wish → PutNames
names_in names (Some (wishes.Put other)) = other
names_in names _ = names

-- the calls of a put of this file, before others
pair_accepted : (file : OpenFile) (calls : List UserCall) (name : List ℕ) (id : TransactionId) → IsAccepted (asks_put (its_names file) ∷ accepts_put file.id ∷ calls) name id →
    IsAccepted calls name id ⊎ ((file.name.items ≡ name) × (file.id ≡ id))
pair_accepted file calls name id a = by a.before a.is
  where
    by : (before : List UserCall) → asks_put (its_names file) ∷ accepts_put file.id ∷ calls ≡ before ++ Asks a.wish ∷ accepts_put id ∷ a.behind → IsAccepted calls name id ⊎ ((file.name.items ≡ name) × (file.id ≡ id))
    by [] e =
        let wished : Some (wishes.Put (its_names file)) ≡ a.wish = ap (wish_in a.wish) (head_is (asks_put (its_names file)) (Asks a.wish) (accepts_put file.id ∷ calls) (accepts_put id ∷ a.behind) e) in
        let named : its_names file ≡ a.wishes.names = ap (names_in (its_names file)) (wished ∙ a.wishes.is) in
        let rest = rest_is (asks_put (its_names file)) (Asks a.wish) (accepts_put file.id ∷ calls) (accepts_put id ∷ a.behind) e in
        inr (ap (λ (n : PutNames). n.source.items) named ∙ a.wishes.source, ap (id_answered file.id) (head_is (accepts_put file.id) (accepts_put id) calls a.behind rest))
    by (x ∷ []) e =
        let rest = rest_is (asks_put (its_names file)) x (accepts_put file.id ∷ calls) (Asks a.wish ∷ accepts_put id ∷ a.behind) e in
        absurd (let bad : false ≡ true = ap is_asked (head_is (accepts_put file.id) (Asks a.wish) calls (accepts_put id ∷ a.behind) rest) in cc)
    by (x ∷ y ∷ before) e =
        let rest = rest_is (asks_put (its_names file)) x (accepts_put file.id ∷ calls) (y ∷ (before ++ Asks a.wish ∷ accepts_put id ∷ a.behind)) e in
        inl (record { before = before; behind = a.behind; wish = a.wish; is = rest_is (accepts_put file.id) y calls (before ++ Asks a.wish ∷ accepts_put id ∷ a.behind) rest; wishes = a.wishes })

first_accepted : (files : List OpenFile) (calls : List UserCall) (name : List ℕ) (id : TransactionId) → IsAccepted (put_first files calls) name id → IsAccepted calls name id ⊎ WasOpen files name id
first_accepted [] calls name id a = inl a
first_accepted (file ∷ files) calls name id a = elim (first_accepted files (asks_put (its_names file) ∷ accepts_put file.id ∷ calls) name id a) [
  | inl here ↦ elim (pair_accepted file calls name id here) [
    | inl behind ↦ inl behind
    | inr its ↦ inr (record { file = file; among = (0, omega arith, refl); its_name = its.0; its_id = its.1 })
  ]
  | inr was ↦ inr (record { file = was.file; among = in_rest file was.file files was.among; its_name = was.its_name; its_id = was.its_id })
]

-- ---- a clerk that put these files itself
abbrev name_or : Option (List ℕ) → List ℕ
name_or (Some n) = n
name_or None = []

module _ {S : Type 0} (sent failed : S → List (List ℕ)) (own : ℕ) (spool : S) where
  -- the clerk, if these files are open
  abbrev clerk : List OpenFile → ClerkState S
  clerk files = record { own = own; asked = None; files = files; spool = spool }

  abbrev asking : OpenFile → List OpenFile → ClerkState S
  asking file files = record { own = own; asked = Some file.name.items; files = files; spool = spool }

  wishes_it : (file : OpenFile) (name : List ℕ) → Some file.name.items ≡ Some name → WishesFile name (Some (wishes.Put (its_names file)))
  wishes_it file name is =
      let same : file.name.items ≡ name = ap name_or is in
      record { names = its_names file; is = refl; source = same; destination = same }

  asks_it : (file : OpenFile) (files : List OpenFile) → ClerkSteps sent failed (clerk files) (asks_put (its_names file)) (asking file files)
  asks_it file files = record { does = (refl, λ other has. has, wishes_it file); fails = refl; own = refl }

  answers_it : (file : OpenFile) (files : List OpenFile) → ClerkSteps sent failed (asking file files) (accepts_put file.id) (clerk (file ∷ files))
  answers_it file files = record {
    does = (refl, refl, λ other has. ⊎_elim (λ (here : other ≡ file). inr (ap (λ (f : OpenFile). Some f.name.items) (sym here), ap (λ (f : OpenFile). replies.Put (Ok f.id)) (sym here))) (λ there. inl there) (one_or_rest file other files has));
    fails = inl refl;
    own = refl;
  }

  chain_first : (files : List OpenFile) (calls : List UserCall) (new : ClerkState S) → Chain (ClerkSteps sent failed) calls (clerk files) new → Chain (ClerkSteps sent failed) (put_first files calls) (clerk []) new
  unfolding Chain
  chain_first [] calls new chain = chain
  chain_first (file ∷ files) calls new chain =
      chain_first files (asks_put (its_names file) ∷ accepts_put file.id ∷ calls) new (asking file files, (asks_it file files, (clerk (file ∷ files), (answers_it file files, chain))))

-- ---- what is known of a life
module _ (c : Setup) (w : BothLives) (k : AreAlive c w) (s : Side) where
  abbrev own : ℕ
  own = (setup_of s c).entity.entity

  abbrev life : ServiceLife
  life = life_of s w

  abbrev shown : Served
  shown = shade life.served

  abbrev earlier : List Indication
  earlier = (k.known s).earlier

  at_side : (r : Side) → served_at r (shaded w) ≡ shade (life_of r w).served
  at_side One = refl
  at_side Two = refl

  own_shown : promise.own_of shown ≡ own
  own_shown = ap promise.own_of (sym (at_side s)) ∙ own_so c s (shaded w) k.held

  -- the puts of its user's calls are found
  calls_put : ArePut own w.puts (calls_in life)
  calls_put = heard_behind own w.puts life.again life.served.calls (put_after own w.puts (map Hears earlier) life.served.calls (k.known s).known.are)

  back_put : (file : OpenFile) → CameBack life.back file.name.items file.id → IsPut own w.puts (its_names file) file.id
  back_put file came =
      let b : IsBackPut own w.puts file.id came.x = (k.known s).begun.back came.place file.id came.x came.is in
      record { put = b.put; is_put = b.is_put; its_id = b.its_id; source = b.source ∙ came.source; destination = b.destination ∙ came.destination; of_own = b.of_own }

  -- what its user heard
  heard_here : heard_by (calls_in life) ≡ life.again ++ heard_by life.served.calls
  heard_here = heard_both (map Hears life.again) life.served.calls ∙ ap (λ l. l ++ heard_by life.served.calls) (hears_all life.again)

  heard_all : heard_by (map Hears earlier ++ life.served.calls) ≡ earlier ++ heard_by life.served.calls
  heard_all = heard_both (map Hears earlier) life.served.calls ∙ ap (λ l. l ++ heard_by life.served.calls) (hears_all earlier)

  among_all : (i : Indication) → Contains (heard_by (calls_in life)) i → Contains (heard_by (map Hears earlier ++ life.served.calls)) i
  among_all i has = subst (λ (l : List Indication). Contains l i) (sym heard_all)
      (elim (Contains-append_cases life.again (heard_by life.served.calls) i (subst (λ (l : List Indication). Contains l i) heard_here has)) [
        | inl again ↦ Contains-append_left earlier (heard_by life.served.calls) i ((k.known s).begun.again i again)
        | inr now ↦ Contains-append_right earlier (heard_by life.served.calls) i now
      ])

  was_told : (i : Indication) → Contains (heard_by (calls_in life)) i → Contains (promise.told_by shown) i
  was_told i has = (k.known s).known.told i (among_all i has)

  -- no transaction was heard finished twice in this life
  heard_once : (id : TransactionId) → count_by (is_finished id) (heard_by (calls_in life)) ≤ 1
  heard_once id =
      let t : TableState = table_of shown.kept.station in
      let from = held_at c (shaded w) s k.held in
      let once_there : FinishedOnce (table_of (served_at s (shaded w)).kept.station).told =
      subst (λ (x : StationState). FinishedOnce (table_of x).told) from.of_mine.station (λ i. let o = from.kept_mine.entity.once.once i in omega (arith, o)) in
      let once : FinishedOnce t.told = subst (λ (x : Served). FinishedOnce (table_of x.kept.station).told) (at_side s) once_there in
      let hears : List Indication = heard_by life.served.calls in
      let here : count_by (is_finished id) (heard_by (calls_in life)) ≡ count_by (is_finished id) life.again + count_by (is_finished id) hears =
      ap (count_by (is_finished id)) heard_here ∙ finished-append id life.again hears in
      let both : count_by (is_finished id) (take t.gone t.told) ≡ count_by (is_finished id) earlier + count_by (is_finished id) hears =
      ap (count_by (is_finished id)) (sym (k.known s).known.gone.heard ∙ heard_all) ∙ finished-append id earlier hears in
      let fewer : count_by (is_finished id) life.again ≤ count_by (is_finished id) earlier = few_of (is_finished id) earlier life.again (k.known s).begun.again ((k.known s).begun.once id) in
      let most : count_by (is_finished id) (take t.gone t.told) ≤ 1 = once_first t.gone t.told once id in
      omega (arith, here, both, fewer, most)

  completed_is : (r : Side) → promise.completed_by (served_at r (shaded w)) ≡ completions (setup_of r c).entity.entity (told_of (life_of r w).served.kept)
  completed_is r =
      ap (λ n. completions n (promise.told_by (served_at r (shaded w)))) (own_so c r (shaded w) k.held)
      ∙ ap (λ (x : Served). completions (setup_of r c).entity.entity (promise.told_by x)) (at_side r)

  -- A put that was wished and accepted in this life, or came back as it began, and was indicated complete.
  abbrev SentBy : Put → Type 0
  SentBy put = IsSent s put.source put (shaded w) × (IsAccepted (calls_in life) put.source put.id ⊎ CameBack life.back put.source put.id)

  opened : (files : List OpenFile) → ((file : OpenFile) → Contains files file → CameBack life.back file.name.items file.id) → (name : List ℕ) (id : TransactionId) →
      IsAccepted (calls_in life) name id ⊎ WasOpen files name id → IsAccepted (calls_in life) name id ⊎ CameBack life.back name id
  opened files back name id (inl accepted) = inl accepted
  opened files back name id (inr was) = inr
      (subst (λ (n : List ℕ). CameBack life.back n id) was.its_name (subst (λ (i : TransactionId). CameBack life.back was.file.name.items i) was.its_id (back was.file was.among)))

  was_sent : (files : List OpenFile) → ((file : OpenFile) → Contains files file → CameBack life.back file.name.items file.id) → (of : ℕ) (l : Left) → WasSent of (put_first files (calls_in life)) l → PutOf SentBy l
  was_sent files back of l d =
      let a = d.accepted in
      let names = a.wishes.names in
      let it : IsPut own w.puts names l.id =
      first_put own w.puts files (calls_in life) (λ file among. back_put file (back file among)) calls_put a.before a.behind names l.id (a.is ∙ ap (λ x. a.before ++ Asks x ∷ accepts_put l.id ∷ a.behind) a.wishes.is) in
      let named : it.put.source ≡ l.name = it.source ∙ a.wishes.source in
      let heard : Contains (heard_by (calls_in life)) (delivered l.id) = subst (λ (is : List Indication). Contains is (delivered l.id)) (first_heard files (calls_in life)) d.told.1 in
      let told : IsToldComplete (promise.own_of shown) (promise.told_by shown) it.put.id = (
        ap (λ i. i.source) it.its_id ∙ it.of_own ∙ sym own_shown,
        subst (λ (i : TransactionId). Contains (promise.told_by shown) (delivered i)) (sym it.its_id) (was_told (delivered l.id) heard),
      ) in
      record {
        put = it.put;
        source = named;
        its_id = it.its_id;
        holds = (
          record {
            is_put = ap (λ i. found w.puts i) it.its_id ∙ it.is_put;
            source = refl;
            destination = it.destination ∙ a.wishes.destination ∙ sym named;
            told = subst (λ (x : Served). IsToldComplete (promise.own_of x) (promise.told_by x) it.put.id) (sym (at_side s)) told;
          },
          subst (λ (n : List ℕ). IsAccepted (calls_in life) n it.put.id ⊎ CameBack life.back n it.put.id) (sym named)
              (subst (λ (i : TransactionId). IsAccepted (calls_in life) l.name i ⊎ CameBack life.back l.name i) (sym it.its_id)
              (opened files back l.name l.id (first_accepted files (calls_in life) l.name l.id a))),
        );
      }

-- ---- what left the spool
module _ {W : Type 0} (Steps : W → WireCall → W → Type 0) (all : AllLaws) (sound : ResumedSound) (c : Setup) (joined : AreJoined c) where
  -- The file of a put that was indicated complete lies at the other side, now and later.
  still_lies : (then now : BothLives) → AreAlive c then → AreAlive c now → Since c then now → (s : Side) (put : Put) → IsSent s put.source put (shaded then) → Lies (other s) put (shaded now)
  still_lies then now k later since s put sent =
      let done : Contains (promise.completed_by (served_at (other s) (shaded then))) put.id = sent_done all c joined (shaded then) k.held (λ r. (life_of r then).served.begun) s put.id sent.told in
      let was : Contains (completions (setup_of (other s) c).entity.entity (told_of (life_of (other s) then).served.kept)) put.id =
      subst (λ (ids : List TransactionId). Contains ids put.id) (completed_is c then k s (other s)) done in
      let is : Contains (promise.completed_by (served_at (other s) (shaded now))) put.id =
      subst (λ (ids : List TransactionId). Contains ids put.id) (sym (completed_is c now later s (other s))) (since.done (other s) put.id was) in
      done_lies all c joined (shaded now) later.held (other s) put (since.finds put.id put sent.is_put) is

  pub spooled : {S : Type 0} (sent failed : S → List (List ℕ)) (files : Side → FileMap) (then now : BothLives) (more : ℕ) → HaveServedOrResumed Steps c files then →
      Times (GoesOrResumes Steps c) more then now → (s : Side) (old new : ClerkState S) → Chain (ClerkSteps sent failed) (calls_in (life_of s then)) old new → old.asked ≡ None →
      ((file : OpenFile) → Contains old.files file → CameBack (life_of s then).back file.name.items file.id) → (left : List (List ℕ)) × (sent new.spool ≡ sent old.spool ++ left) × AreDelivered s left then now
  spooled sent failed files then now more served went s old new chain asked back =
      let k : AreAlive c then = all_alive Steps all sound c joined files then served in
      let later = went_alive Steps all sound c joined more then now went k in
      let calls : List UserCall = calls_in (life_of s then) in
      let begun : Chain (ClerkSteps sent failed) calls (clerk sent failed old.own old.spool old.files) new =
      subst (λ (a : Option (List ℕ)). Chain (ClerkSteps sent failed) calls (record old { asked = a }) new) asked chain in
      let t : Tracks sent failed (clerk sent failed old.own old.spool []) (put_first old.files calls) new =
      tracks_all sent failed (put_first old.files calls) (clerk sent failed old.own old.spool []) new (chain_first sent failed old.own old.spool old.files calls new begun) refl refl in
      let puts : PutsOf (SentBy c then k s) t.left = all_puts (SentBy c then k s) t.left (λ l has. was_sent c then k s old.files back old.own l (t.each l has)) in (
        names_of t.left,
        t.gone,
        record {
          puts = puts.puts;
          named = puts.named;
          apart = λ id.
              let same : count_by (λ (put : Put). same_id put.id id) puts.puts ≡ of_id id t.left = puts.counted id in
              let few : of_id id t.left ≤ count_by (is_finished id) (heard_by (put_first old.files calls)) = t.few id in
              let heard : count_by (is_finished id) (heard_by (put_first old.files calls)) ≡ count_by (is_finished id) (heard_by calls) = ap (count_by (is_finished id)) (first_heard old.files calls) in
              let once : count_by (is_finished id) (heard_by calls) ≤ 1 = heard_once c then k s id in
              omega (arith, same, few, heard, once);
          opened = λ put has. (puts.each put has).1;
          sent = λ put has. sent_so Steps c s put.source put (stations_of then) (subst (λ (x : Stations). IsSent s put.source put x) (sym (shaded_is Steps c (stations_of then))) (puts.each put has).0);
          lie = λ put has. lies_so Steps c (other s) put (stations_of now)
              (subst (λ (x : Stations). Lies (other s) put x) (sym (shaded_is Steps c (stations_of now))) (still_lies then now k later.0 later.1 s put (puts.each put has).0));
        },
      )
