-- A put stays on its course if the PDU at the front of a way is heard, or lost.
use Rattle.std.proofs.Common.{◌≡◌, ◌≢◌, ◌⊎◌, inl, inr, ℕ, zero, suc, ◌<◌, Bool, true, false, List, [], ◌∷◌, ◌++◌, append-nil, length, get_or, Option, Some, None, refl, sym, ap, subst, ◌∙◌, arith}
use Rattle.std.specs.Prelude.{slice_get}
use Rattle.std.proofs.lemmas.List.Quantifiers.{position-Some}
use Rattle.cfdp_header.specs.declared.value.Header.{Header}
use Rattle.cfdp_header.specs.declared.value.TransactionId.{TransactionId}
use Rattle.cfdp_header.specs.Ids.{same_id}
use Rattle.cfdp_directives.specs.Pdu.Addressing.{addressing_of as addressing_in}
use Rattle.cfdp_directives.specs.Pdu.Content.{Content}
use Rattle.cfdp_directives.specs.User.Put.{Put}
use Rattle.cfdp_sender.specs.State.{SenderState}
use Rattle.cfdp_receiver.specs.State.{ReceiverState}
use Rattle.cfdp_entity.specs.declared.error.EntityDrop.{EntityDrop}
use Rattle.cfdp_entity.specs.declared.error.EntityDrop.TheVariants as drops
use Rattle.cfdp_entity.specs.Entity.{EntityState, Counted, dropped, with_table}
use Rattle.cfdp_entity.specs.Errors.{drop_number}
use Rattle.cfdp_entity.specs.Hearing.{OpensOne, FindsNoMemory}
use Rattle.cfdp_entity.specs.Opening.{opens}
use Rattle.cfdp_entity.specs.Seen.{Seen, Sends, Receives}
use Rattle.cfdp_entity.specs.Steps.{After, no_step, hears, Spoils}
use Rattle.cfdp_entity.specs.Table.{Entry, TableState, place_of, record_of}
use Rattle.cfdp_entity.proofs.CallerLemmas.{same_id-true, push-own, push-other}
use Rattle.cfdp_entity.proofs.Entries.{same_id-itself}
use Rattle.cfdp_entity.proofs.Histories.{no-record}
use Rattle.cfdp_directives.specs.declared.user.indication.Indication.{Indication}
use Rattle.cfdp_entity.specs.Sending.{SendsItsPut}
use Rattle.link_sim.specs.Clean.{HasHeardAll}
use Rattle.link_sim.specs.Course.{IsCourse}
use Rattle.link_sim.specs.Exchange.{tells_complete}
use Rattle.link_sim.specs.Between.{Pdu, of_id, IsReceiverIn, IsOnCourse, StaysOnCourse}
use Rattle.link_sim.specs.Waiting.{one_tells, IsUncancelled}
use Rattle.link_sim.specs.Work.{opening_work}
use Rattle.link_sim.proofs.Course.Laws.{CourseLaws}
use Rattle.link_sim.proofs.EveryPut.Routes.{HeardSo, StepsRecord, OpensRecord, DropsNew, SpoilsRecord}
use Rattle.link_sim.proofs.EveryPut.Views.{head-own, head-other, drops-none, heard-before, Grew, grew-none}
use Rattle.link_sim.proofs.EveryPut.Goes.{SenderGoes, ReceiverGoes, ReceiverOpens, goes-on, stays-same, receiver-opens, mine-steps, theirs-steps, course-so, MineGoes, TheirsGoes}
use Rattle.link_sim.proofs.EveryPut.Sends.{sender-hears, sender-spoils}
use Rattle.link_sim.proofs.EveryPut.Receives.{receiver-hears, receiver-opened, receiver-spoils}
use Rattle.link_sim.proofs.EveryPut.Steps.{IsInOrder, SendsIt, sends-there, mine-at, theirs-at, sends-it}

-- ---- the place of a transaction's record
slice-or : (xs : List Entry) (n : ℕ) (d e : Entry) → slice_get xs n ≡ Some e → get_or xs n d ≡ e
slice-or [] n d e at = absurd cc
slice-or (x ∷ xs) zero d e at = let is : x ≡ e = cc in is
slice-or (x ∷ xs) (suc n) d e at = slice-or xs n d e at

pub key-there : (id : TransactionId) (xs : List Entry) (place : ℕ) (e : Entry) → place_of id xs ≡ Some place → slice_get xs place ≡ Some e → id ≡ e.0
key-there id xs place e is at =
    let found : same_id id (get_or xs place e).0 ≡ true = (position-Some (λ (d : Entry). same_id id d.0) xs place e is).1 in
    same_id-true id e.0 (ap (λ (d : Entry). same_id id d.0) (sym (slice-or xs place e e at)) ∙ found)

in-length : (xs : List Entry) (place : ℕ) → place < length xs → slice_get xs place ≡ None → ⊥
in-length [] place low none = omega (arith, low)
in-length (x ∷ xs) zero low none = cc
in-length (x ∷ xs) (suc n) low none = in-length xs n (omega (arith, low)) none

pub no-place : (id : TransactionId) (xs : List Entry) (place : ℕ) → place_of id xs ≡ Some place → slice_get xs place ≡ None → ⊥
no-place id [] place is none = absurd cc
no-place id (x ∷ xs) place is none = in-length (x ∷ xs) place (position-Some (λ (d : Entry). same_id id d.0) (x ∷ xs) place x is).0 none

pub differs-too : (id h k : TransactionId) → h ≡ k → same_id id k ≡ false → same_id id h ≡ false
differs-too id h k is apart = ap (same_id id) is ∙ apart

module _ (laws : CourseLaws) (put : Put) (put_of : TransactionId → Option Put) (found : put_of put.id ≡ Some put) (h : Header) (v : Content) (old new : Counted)
    (order : IsInOrder put_of old.state.table) (kinds : length old.state.drops ≡ 18) where
  abbrev p : Pdu
  p = (h, v)

  abbrev st : TableState
  st = old.state.table

  -- ---- what became of the entity
  -- what the record that was opened leaves
  abbrev left : OpensOne (addressing_in h) h.large v old new → After
  left o = opens o.begun o.stored st.policy.times st.files h.large v (addressing_in h)

  same-drops : (t : TableState) → new.state ≡ with_table old.state t → HasHeardAll new.state → HasHeardAll old.state
  same-drops t is heard = λ n apart. ap (λ (e : EntityState). get_or e.drops n 0) (sym is) ∙ heard n apart

  grew-opened : (o : OpensOne (addressing_in h) h.large v old new) → Grew old.state new.state (left o).told
  grew-opened o = record { told = ap (λ (e : EntityState). e.table.told) o.opens; drops = same-drops _ o.opens }

  grew-dropped : (by : EntityDrop) → drop_number by < 18 → new.state ≡ dropped by old.state → Grew old.state new.state []
  grew-dropped by low is = record {
    told = ap (λ (e : EntityState). e.table.told) is ∙ sym (append-nil st.told);
    drops = λ heard. heard-before by old.state (subst (λ n. drop_number by < n) (sym kinds) low) (subst HasHeardAll is heard);
  }

  drops-all : (by : EntityDrop) → drop_number by < 18 → drop_number by ≢ 14 → new.state ≡ dropped by old.state → HasHeardAll new.state → ⊥
  drops-all by low apart is heard = drops-none by old.state (subst (λ n. drop_number by < n) (sym kinds) low) apart (subst HasHeardAll is heard)

  finds-none : (place : ℕ) → FindsNoMemory place v old new → HasHeardAll new.state → ⊥
  finds-none place f heard = drops-none drops.NoMemory (with_table old.state new.state.table) (subst (λ n. 16 < n) (sym kinds) (omega arith)) (λ e. omega (arith, e))
      (subst HasHeardAll f.counted heard)

  grew-spoiled : (place : ℕ) → FindsNoMemory place v old new → Grew old.state new.state []
  grew-spoiled place f = record {
    told = ap (λ (t : TableState). t.told) f.spoiled.table ∙ sym (append-nil st.told);
    drops = λ heard. absurd (finds-none place f heard);
  }

  is-own : (xs : List Pdu) → h.id ≡ put.id → v ∷ of_id put.id xs ≡ of_id put.id (p ∷ xs)
  is-own xs same = sym (head-own put.id p xs (same_id-itself put.id h.id (sym same)))

  is-other : (xs : List Pdu) → same_id put.id h.id ≡ false → of_id put.id xs ≡ of_id put.id (p ∷ xs)
  is-other xs differs = sym (head-other put.id p xs differs)

  -- the record at a place of the PDU's transaction
  is-there : (place : ℕ) (e : Entry) → place_of h.id st.records ≡ Some place → slice_get st.records place ≡ Some e → h.id ≡ e.0
  is-there place e is at = key-there h.id st.records place e is at

  opened-other : (o : OpensOne (addressing_in h) h.large v old new) → same_id put.id h.id ≡ false → record_of put.id new.state.table.records ≡ record_of put.id st.records
  opened-other o differs = ap (λ (e : EntityState). record_of put.id e.table.records) o.opens ∙ push-other st.records h.id put.id (left o).seen differs

  none-there : h.id ≡ put.id → place_of h.id st.records ≡ None → record_of put.id st.records ≡ None
  none-there same none = ap (λ q. record_of q st.records) (sym same) ∙ (no-record st.records h.id none).0

  -- ---- the put's entity hears the PDU at the front of its way back
  module _ (theirs : EntityState) (forth rest : List Pdu) where
    abbrev BeforeMine : Bool → Type 0
    BeforeMine lossless = StaysOnCourse lossless put old.state theirs forth (p ∷ rest)

    abbrev AfterMine : Bool → Type 0
    AfterMine lossless = StaysOnCourse lossless put new.state theirs forth rest

    mine-stepped : (lossless : Bool) → StepsRecord h v old new → BeforeMine lossless → AfterMine lossless
    mine-stepped lossless k = mine-at laws lossless put put_of found (hears k.steps.stored st.policy.times st.files h.large v) k.place forth forth (p ∷ rest) rest old.state new.state theirs order
        (ap (λ (e : EntityState). e.table) k.steps.steps) (same-drops _ k.steps.steps)
        (λ none. absurd (no-place h.id st.records k.place k.at none))
        (λ e at differs. (refl, is-other rest (differs-too put.id h.id e.0 (is-there k.place e k.at at) differs)))
        (λ x i at. subst (λ l. SenderGoes lossless put x (hears k.steps.stored st.policy.times st.files h.large v (Sends x)) (of_id put.id forth) (of_id put.id forth) l (of_id put.id rest))
        (is-own rest (is-there k.place (put.id, Sends x) k.at at))
        (sender-hears laws lossless put x i.is_sender i.in_file st.policy.times st.files k.steps.stored (of_id put.id forth) (of_id put.id rest) h.large v))

    -- if it has no record the put isn't on its course
    none-mine : (lossless : Bool) (gained : List Indication) → Grew old.state new.state gained → h.id ≡ put.id → place_of h.id st.records ≡ None → BeforeMine lossless → AfterMine lossless
    none-mine lossless gained g same none =
        let absent : record_of put.id st.records ≡ None = none-there same none in
        goes-on laws lossless put old.state new.state theirs theirs gained [] g (grew-none theirs) forth forth (p ∷ rest) rest (λ _ _. subst IsUncancelled (sym absent) tt)
        (λ _ _ _ c. absurd (let is : None ≡ Some (Sends c.sender) = sym absent ∙ c.is_sender in cc))

    mine-opened : (lossless : Bool) → OpensRecord h v old new → BeforeMine lossless → AfterMine lossless
    mine-opened lossless k s = elim (same_id put.id h.id) as (λ b. same_id put.id h.id ≡ b → AfterMine lossless) [
      | true ↦ λ is. none-mine lossless _ (grew-opened k.opens) (sym (same_id-true put.id h.id is)) k.none s
      | false ↦ λ differs. stays-same laws lossless put old.state new.state theirs theirs _ [] (grew-opened k.opens) (grew-none theirs) forth forth (p ∷ rest) rest
          (opened-other k.opens differs) refl refl (is-other rest differs) s
    ] refl

    mine-dropped : (lossless : Bool) → DropsNew h v old new → BeforeMine lossless → AfterMine lossless
    mine-dropped lossless k s = elim (same_id put.id h.id) as (λ b. same_id put.id h.id ≡ b → AfterMine lossless) [
      | true ↦ λ is. none-mine lossless [] (grew-dropped k.by k.low k.is) (sym (same_id-true put.id h.id is)) k.none s
      | false ↦ λ differs. stays-same laws lossless put old.state new.state theirs theirs [] [] (grew-dropped k.by k.low k.is) (grew-none theirs) forth forth (p ∷ rest) rest
          (ap (λ (e : EntityState). record_of put.id e.table.records) k.is) refl refl (is-other rest differs) s
    ] refl

    mine-spoiled : (lossless : Bool) → SpoilsRecord h v old new → BeforeMine lossless → AfterMine lossless
    mine-spoiled true k s = λ u. absurd (finds-none k.place k.finds (u.heard refl))
    mine-spoiled false k s = by (slice_get st.records k.place) refl
      where
        by : (o : Option Entry) → slice_get st.records k.place ≡ o → AfterMine false
        by None none = absurd (no-place h.id st.records k.place k.at none)
        by (Some e) at = mine-steps laws false put old.state new.state theirs forth forth (p ∷ rest) rest k.place e (no_step st.files k.finds.spoiled.seen) order.distinct at
            (ap (λ (t : TableState). t.records) k.finds.spoiled.table) (grew-spoiled k.place k.finds)
            (λ _. refl) (λ differs. is-other rest (differs-too put.id h.id e.0 (is-there k.place e k.at at) differs)) (λ same. own e.1 same refl) s
          where
            own : (r : Seen) (same : put.id ≡ e.0) → e.1 ≡ r → MineGoes false put r (no_step st.files k.finds.spoiled.seen) (of_id put.id forth) (of_id put.id forth) (of_id put.id (p ∷ rest))
                (of_id put.id rest)
            own (Receives r m) same is = tt
            own (Sends x) same is =
                let i : SendsIt put st.sources x = sends-it put put_of found st.sources e.0 x same (subst (λ r. SendsItsPut put_of st.sources e.0 r) is (order.own k.place e at).1) in
                subst (λ l. SenderGoes false put x (no_step st.files k.finds.spoiled.seen) (of_id put.id forth) (of_id put.id forth) l (of_id put.id rest))
                (is-own rest (is-there k.place e k.at at ∙ sym same))
                (sender-spoils laws put x i.is_sender i.in_file st.files (of_id put.id forth) (of_id put.id rest) v k.finds.spoiled.seen
                (subst (λ r. Spoils v r k.finds.spoiled.seen) is (k.finds.spoiled.spoils e at)))

    pub heard-mine : (lossless : Bool) → HeardSo h v old new → BeforeMine lossless → AfterMine lossless
    heard-mine lossless (inl k) = mine-stepped lossless k
    heard-mine lossless (inr (inl k)) = mine-opened lossless k
    heard-mine lossless (inr (inr (inl k))) = mine-dropped lossless k
    heard-mine lossless (inr (inr (inr k))) = mine-spoiled lossless k

  -- ---- the other entity hears the PDU at the front of its way
  module _ (mine : EntityState) (order_mine : IsInOrder put_of mine.table) (rest back : List Pdu) where
    abbrev BeforeTheirs : Bool → Type 0
    BeforeTheirs lossless = StaysOnCourse lossless put mine old.state (p ∷ rest) back

    abbrev AfterTheirs : Bool → Type 0
    AfterTheirs lossless = StaysOnCourse lossless put mine new.state rest back

    theirs-stepped : (lossless : Bool) → StepsRecord h v old new → BeforeTheirs lossless → AfterTheirs lossless
    theirs-stepped lossless k = theirs-at laws lossless put put_of found (hears k.steps.stored st.policy.times st.files h.large v) k.place (p ∷ rest) rest back back mine old.state new.state
        order_mine order
        (ap (λ (e : EntityState). e.table) k.steps.steps) (same-drops _ k.steps.steps)
        (λ none. absurd (no-place h.id st.records k.place k.at none))
        (λ e at differs. (is-other rest (differs-too put.id h.id e.0 (is-there k.place e k.at at) differs), refl))
        (λ x r m size is_id at. subst (λ l. ReceiverGoes lossless put x r (hears k.steps.stored st.policy.times st.files h.large v (Receives r m)) l (of_id put.id rest) (of_id put.id back)
        (of_id put.id back))
        (is-own rest (is-there k.place (put.id, Receives r m) k.at at))
        (receiver-hears laws lossless put x size r m is_id st.policy.times st.files k.steps.stored (of_id put.id rest) (of_id put.id back) h.large v))

    theirs-opened : (lossless : Bool) → OpensRecord h v old new → BeforeTheirs lossless → AfterTheirs lossless
    theirs-opened lossless k s = elim (same_id put.id h.id) as (λ b. same_id put.id h.id ≡ b → AfterTheirs lossless) [
      | true ↦ λ is. own (sym (same_id-true put.id h.id is))
      | false ↦ λ differs. stays-same laws lossless put mine mine old.state new.state [] _ (grew-none mine) (grew-opened k.opens) (p ∷ rest) rest back back refl (opened-other k.opens differs)
          (is-other rest differs) refl s
    ] refl
      where
        own : h.id ≡ put.id → AfterTheirs lossless
        own same =
            let a : After = left k.opens in
            let none : record_of put.id st.records ≡ None = none-there same k.none in
            receiver-opens laws lossless put mine old.state new.state (p ∷ rest) rest back back a (grew-opened k.opens) none
            (ap (λ (e : EntityState). record_of put.id e.table.records) k.opens.opens ∙ ap (λ q. record_of put.id (st.records ++ (q, a.seen) ∷ [])) same ∙ push-own st.records put.id a.seen none)
            (λ x here. subst (λ l. ReceiverOpens lossless put x a l (of_id put.id rest) (of_id put.id back)) (is-own rest same)
            (receiver-opened laws lossless put x (sends-there put put_of found mine.table order_mine x here).is_sender.size (addressing_in h) same st.policy.times st.files h.large k.opens.begun
            k.opens.stored (of_id put.id rest) (of_id put.id back) v k.opening))
            refl s

    -- dropped if the put has no receiver
    none-theirs : (lossless : Bool) (k : DropsNew h v old new) → h.id ≡ put.id
        → ((x : SenderState) (b c : Bool) → IsCourse put lossless lossless lossless lossless x None (v ∷ of_id put.id rest) (of_id put.id back) b c →
        IsCourse put lossless lossless lossless lossless x None (of_id put.id rest) (of_id put.id back) b c)
        → BeforeTheirs lossless → AfterTheirs lossless
    none-theirs lossless k same goes = goes-on laws lossless put mine mine old.state new.state [] [] (grew-none mine) (grew-dropped k.by k.low k.is) (p ∷ rest) rest back back (λ _ u. u)
        (λ _ _ _ c. by c c.receiver (subst (λ o. IsReceiverIn o c.receiver) (none-there same k.none) c.is_receiver) c.course)
      where
        by : (c : IsOnCourse lossless put mine old.state (p ∷ rest) back) (o : Option ReceiverState) → IsReceiverIn None o
            → IsCourse put lossless lossless lossless lossless c.sender o (of_id put.id (p ∷ rest)) (of_id put.id back) (one_tells (tells_complete put.id) mine.table.told)
            (one_tells (tells_complete put.id) st.told) → IsOnCourse lossless put mine new.state rest back
        by c (Some r) is course = absurd is
        by c None is course = record {
          sender = c.sender;
          is_sender = c.is_sender;
          receiver = None;
          is_receiver = subst (λ o. IsReceiverIn o None) (sym (ap (λ (e : EntityState). record_of put.id e.table.records) k.is ∙ none-there same k.none)) tt;
          course = course-so put lossless lossless lossless lossless c.sender None _ _ _ _ _ _ _ _ refl refl refl (ap (λ (e : EntityState). one_tells (tells_complete put.id) e.table.told) (sym k.is))
              (goes c.sender _ _ (course-so put lossless lossless lossless lossless c.sender None _ _ _ _ _ _ _ _ (sym (is-own rest same)) refl refl refl course));
        }

    own-dropped : (lossless : Bool) (k : DropsNew h v old new) → h.id ≡ put.id → (opening_work v ≡ 0) ⊎ (drop_number k.by ≢ 14) → BeforeTheirs lossless → AfterTheirs lossless
    own-dropped lossless k same (inl nothing) s = none-theirs lossless k same
        (λ x b c. laws.none_hears put lossless lossless lossless lossless x [] (of_id put.id rest) (of_id put.id back) v b c nothing) s
    own-dropped true k same (inr apart) s = λ u. absurd (drops-all k.by k.low apart k.is (u.heard_there refl))
    own-dropped false k same (inr apart) s = none-theirs false k same (λ x b c. laws.lost_forth put x None [] (of_id put.id rest) (of_id put.id back) v b c) s

    theirs-dropped : (lossless : Bool) → DropsNew h v old new → BeforeTheirs lossless → AfterTheirs lossless
    theirs-dropped lossless k s = elim (same_id put.id h.id) as (λ b. same_id put.id h.id ≡ b → AfterTheirs lossless) [
      | true ↦ λ is. own-dropped lossless k (sym (same_id-true put.id h.id is)) k.opening s
      | false ↦ λ differs. stays-same laws lossless put mine mine old.state new.state [] [] (grew-none mine) (grew-dropped k.by k.low k.is) (p ∷ rest) rest back back
          refl (ap (λ (e : EntityState). record_of put.id e.table.records) k.is) (is-other rest differs) refl s
    ] refl

    theirs-spoiled : (lossless : Bool) → SpoilsRecord h v old new → BeforeTheirs lossless → AfterTheirs lossless
    theirs-spoiled true k s = λ u. absurd (finds-none k.place k.finds (u.heard_there refl))
    theirs-spoiled false k s = by (slice_get st.records k.place) refl
      where
        by : (o : Option Entry) → slice_get st.records k.place ≡ o → AfterTheirs false
        by None none = absurd (no-place h.id st.records k.place k.at none)
        by (Some e) at = theirs-steps laws false put mine old.state new.state (p ∷ rest) rest back back k.place e (no_step st.files k.finds.spoiled.seen) order.distinct at
            (ap (λ (t : TableState). t.records) k.finds.spoiled.table) (grew-spoiled k.place k.finds)
            (λ differs. is-other rest (differs-too put.id h.id e.0 (is-there k.place e k.at at) differs)) (λ _. refl) (λ same x here. own x e.1 same refl) s
          where
            own : (x : SenderState) (r : Seen) (same : put.id ≡ e.0) → e.1 ≡ r →
                TheirsGoes false put x r (no_step st.files k.finds.spoiled.seen) (of_id put.id (p ∷ rest)) (of_id put.id rest) (of_id put.id back) (of_id put.id back)
            own x (Sends y) same is = tt
            own x (Receives r m) same is =
                subst (λ l. ReceiverGoes false put x r (no_step st.files k.finds.spoiled.seen) l (of_id put.id rest) (of_id put.id back) (of_id put.id back))
                (is-own rest (is-there k.place e k.at at ∙ sym same))
                (receiver-spoils laws put x r m st.files (of_id put.id rest) (of_id put.id back) v k.finds.spoiled.seen (subst (λ s. Spoils v s k.finds.spoiled.seen) is (k.finds.spoiled.spoils e at)))

    pub heard-theirs : (lossless : Bool) → HeardSo h v old new → BeforeTheirs lossless → AfterTheirs lossless
    heard-theirs lossless (inl k) = theirs-stepped lossless k
    heard-theirs lossless (inr (inl k)) = theirs-opened lossless k
    heard-theirs lossless (inr (inr (inl k))) = theirs-dropped lossless k
    heard-theirs lossless (inr (inr (inr k))) = theirs-spoiled lossless k
