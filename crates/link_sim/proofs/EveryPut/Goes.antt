-- A put stays on its course if an entity goes on: by what becomes of its two records and of its
-- PDUs on their way.
use Rattle.std.proofs.Common.{◌≡◌, ◌≢◌, ℕ, zero, suc, Bool, true, false, cond, List, [], ◌∷◌, Option, Some, None, refl, sym, ap, subst, ◌∙◌}
use Rattle.std.specs.List.{IsDistinct}
use Rattle.std.specs.Map.{keys_of}
use Rattle.std.specs.Prelude.{slice_get}
use Rattle.std.proofs.lemmas.Bool.{or_left}
use Rattle.std.proofs.lemmas.Map.Keys.{IsDistinct-head, IsDistinct-tail}
use Rattle.cfdp_header.specs.Ids.{same_id}
use Rattle.cfdp_directives.specs.declared.user.indication.Indication.{Indication}
use Rattle.cfdp_directives.specs.Pdu.Content.{Content}
use Rattle.cfdp_directives.specs.User.Put.{Put}
use Rattle.cfdp_store.specs.Staged.{OctetMap}
use Rattle.cfdp_sender.specs.declared.phase.SenderPhase.TheVariants as sending
use Rattle.cfdp_sender.specs.State.{SenderState}
use Rattle.cfdp_receiver.specs.State.{ReceiverState}
use Rattle.cfdp_entity.specs.Entity.{EntityState}
use Rattle.cfdp_entity.specs.Seen.{Seen, Sends, Receives}
use Rattle.cfdp_entity.specs.Steps.{After}
use Rattle.cfdp_entity.specs.Table.{Entry, record_of, stepped}
use Rattle.cfdp_entity.proofs.CallerLemmas.{same_id-true, same_id-symm, step-own, step-other}
use Rattle.cfdp_entity.proofs.Entries.{same_id-itself, at_place}
use Rattle.cfdp_entity.proofs.Histories.{key-at}
use Rattle.link_sim.specs.Between.{Pdu, of_id, IsReceiverIn, IsOnCourse, IsUnspoiled, StaysOnCourse}
use Rattle.link_sim.specs.Course.{IsCourse}
use Rattle.link_sim.specs.Exchange.{tells_complete, pauses}
use Rattle.link_sim.specs.Waiting.{IsUncancelled, spoils, one_tells}
use Rattle.link_sim.proofs.Course.Laws.{CourseLaws, TellsWell, told_with}
use Rattle.link_sim.proofs.EveryPut.Views.{some-same, told-parts, told-more, Grew, grew-none, unspoiled-before}

-- a course with the same PDUs and the same indications
pub course-so : (put : Put) (awake acks files ends : Bool) (x : SenderState) (o : Option ReceiverState) (forth forth1 back back1 : List Content) (b b1 c c1 : Bool) → forth ≡ forth1 → back ≡ back1 → b
    ≡ b1 → c ≡ c1
    → IsCourse put awake acks files ends x o forth back b c → IsCourse put awake acks files ends x o forth1 back1 b1 c1
course-so put awake acks files ends x o forth forth1 back back1 b b1 c c1 f k bs cs h =
    subst (λ l. IsCourse put awake acks files ends x o l back1 b1 c1) f
    (subst (λ l. IsCourse put awake acks files ends x o forth l b1 c1) k
    (subst (λ t. IsCourse put awake acks files ends x o forth back t c1) bs
    (subst (λ t. IsCourse put awake acks files ends x o forth back b t) cs h)))

-- ---- the record at a place
pub at-own : (xs : List Entry) (place : ℕ) (e : Entry) → IsDistinct same_id (keys_of xs) → slice_get xs place ≡ Some e → record_of e.0 xs ≡ Some e.1
at-own [] place e apart at = absurd cc
at-own (x ∷ xs) zero e apart at =
    let is : x ≡ e = cc in
    subst (λ (y : Entry). record_of y.0 (x ∷ xs) ≡ Some y.1) is (ap (λ b. cond b (Some x.1) (record_of x.0 xs)) (same_id-itself x.0 x.0 refl))
at-own (x ∷ xs) (suc n) e apart at =
    let other : same_id x.0 e.0 ≡ false = at_place (λ k. same_id x.0 k ≡ false) (keys_of xs) n e.0 (IsDistinct-head same_id x.0 (keys_of xs) apart) (key-at xs n e at) in
    ap (λ b. cond b (Some x.1) (record_of e.0 xs)) (same_id-symm x.0 e.0 other) ∙ at-own xs n e (IsDistinct-tail same_id x.0 (keys_of xs) apart) at

-- ---- a step of a record, as far as the put's course is concerned
-- of a sender: what it says with the course, and that it stays cancelled
pub record SenderGoes (lossless : Bool) (put : Put) (x : SenderState) (a : After) (forth forth1 back back1 : List Content) : Type 0 where
  pub sender : SenderState
  pub is_sender : a.seen ≡ Sends sender
  pub stays : one_tells (spoils put.id) a.told ≡ false → x.phase ≡ sending.Cancelling → sender.phase ≡ sending.Cancelling
  pub course : (o : Option ReceiverState) (b c : Bool) → sender.phase ≢ sending.Cancelling → TellsWell put lossless a.told → IsCourse put lossless lossless lossless lossless x o forth back b c
      → IsCourse put lossless lossless lossless lossless sender o forth1 back1 (told_with put b a.told) c

abbrev pub MineGoes : Bool → Put → Seen → After → (forth forth1 back back1 : List Content) → Type 0
MineGoes lossless put (Sends x) a forth forth1 back back1 = SenderGoes lossless put x a forth forth1 back back1
MineGoes lossless put (Receives r m) a forth forth1 back back1 = Unit {0}

-- of a receiver, beside a sender of the put
pub record ReceiverGoes (lossless : Bool) (put : Put) (x : SenderState) (r : ReceiverState) (a : After) (forth forth1 back back1 : List Content) : Type 0 where
  pub receiver : ReceiverState
  pub octets : OctetMap
  pub is_receiver : a.seen ≡ Receives receiver octets
  pub course : (b c : Bool) → TellsWell put lossless a.told → IsCourse put lossless lossless lossless lossless x (Some r) forth back b c
      → IsCourse put lossless lossless lossless lossless x (Some receiver) forth1 back1 b (told_with put c a.told)

abbrev pub TheirsGoes : Bool → Put → SenderState → Seen → After → (forth forth1 back back1 : List Content) → Type 0
TheirsGoes lossless put x (Receives r m) a forth forth1 back back1 = ReceiverGoes lossless put x r a forth forth1 back back1
TheirsGoes lossless put x (Sends y) a forth forth1 back back1 = Unit {0}

-- a receiver is opened
abbrev pub ReceiverOpens : Bool → Put → SenderState → After → (forth forth1 back : List Content) → Type 0
ReceiverOpens lossless put x a forth forth1 back = (b c : Bool) → TellsWell put lossless a.told → IsCourse put lossless lossless lossless lossless x None forth back b c →
    (r : ReceiverState) × ((m : OctetMap) × ((a.seen ≡ Receives r m) × IsCourse put lossless lossless lossless lossless x (Some r) forth1 back b (told_with put c a.told)))

module _ (laws : CourseLaws) (lossless : Bool) (put : Put) where
  -- ---- both entities went on
  module _ (mine mine1 theirs theirs1 : EntityState) (gained gained_there : List Indication) (g : Grew mine mine1 gained) (t : Grew theirs theirs1 gained_there)
      (forth forth1 back back1 : List Pdu) where
    well : IsUnspoiled lossless put.id mine1 theirs1 → TellsWell put lossless gained
    well u = record {
      good = (told-parts (spoils put.id) mine.table.told gained mine1.table.told g.told u.told).1;
      unpaused = λ l. (told-parts (pauses put.id) mine.table.told gained mine1.table.told g.told (u.awake l)).1;
    }

    well-there : IsUnspoiled lossless put.id mine1 theirs1 → TellsWell put lossless gained_there
    well-there u = record {
      good = (told-parts (spoils put.id) theirs.table.told gained_there theirs1.table.told t.told u.told_there).1;
      unpaused = λ l. (told-parts (pauses put.id) theirs.table.told gained_there theirs1.table.told t.told (u.awake_there l)).1;
    }

    pub goes-on : (one_tells (spoils put.id) gained ≡ false → IsUncancelled (record_of put.id mine1.table.records) → IsUncancelled (record_of put.id mine.table.records))
        → (IsUnspoiled lossless put.id mine1 theirs1 → TellsWell put lossless gained → TellsWell put lossless gained_there → IsOnCourse lossless put mine theirs forth back →
        IsOnCourse lossless put mine1 theirs1 forth1 back1)
        → StaysOnCourse lossless put mine theirs forth back → StaysOnCourse lossless put mine1 theirs1 forth1 back1
    goes-on back_to goes s = λ u. goes u (well u) (well-there u) (s (unspoiled-before lossless put.id mine mine1 theirs theirs1 gained gained_there g t back_to u))

    -- nothing changes of the put
    pub stays-same : record_of put.id mine1.table.records ≡ record_of put.id mine.table.records → record_of put.id theirs1.table.records ≡ record_of put.id theirs.table.records → of_id put.id forth1
        ≡ of_id put.id forth → of_id put.id back1 ≡ of_id put.id back
        → StaysOnCourse lossless put mine theirs forth back → StaysOnCourse lossless put mine1 theirs1 forth1 back1
    stays-same same same_there f k = goes-on (λ _ h. subst IsUncancelled same h) (λ _ _ _ c. record {
      sender = c.sender;
      is_sender = same ∙ c.is_sender;
      receiver = c.receiver;
      is_receiver = subst (λ o. IsReceiverIn o c.receiver) (sym same_there) c.is_receiver;
      course = course-so put lossless lossless lossless lossless c.sender c.receiver (of_id put.id forth) (of_id put.id forth1) (of_id put.id back) (of_id put.id back1) _ _ _ _ (sym f)
          (sym k) refl refl
          (laws.told_more put lossless lossless lossless lossless c.sender c.receiver (of_id put.id forth) (of_id put.id back) _ _ _ _
          (λ h. sym (told-more (tells_complete put.id) mine.table.told gained mine1.table.told g.told) ∙ or_left _ _ h)
          (λ h. sym (told-more (tells_complete put.id) theirs.table.told gained_there theirs1.table.told t.told) ∙ or_left _ _ h) c.course);
    })

  -- ---- the put's entity went on
  module _ (mine mine1 theirs : EntityState) (forth forth1 back back1 : List Pdu) where
    pub sender-steps : (x : SenderState) (a : After) (g : Grew mine mine1 a.told) → record_of put.id mine.table.records ≡ Some (Sends x) → record_of put.id mine1.table.records ≡ Some a.seen
        → SenderGoes lossless put x a (of_id put.id forth) (of_id put.id forth1) (of_id put.id back) (of_id put.id back1) → StaysOnCourse lossless put mine theirs forth back →
        StaysOnCourse lossless put mine1 theirs forth1 back1
    sender-steps x a g was now k = goes-on mine mine1 theirs theirs a.told [] g (grew-none theirs) forth forth1 back back1 (λ good h. subst IsUncancelled (sym was) (uncancelled good h)) after
      where
        is : record_of put.id mine1.table.records ≡ Some (Sends k.sender)
        is = now ∙ ap Some k.is_sender

        uncancelled : one_tells (spoils put.id) a.told ≡ false → IsUncancelled (record_of put.id mine1.table.records) → x.phase ≢ sending.Cancelling
        uncancelled good h = λ p. (let no : k.sender.phase ≢ sending.Cancelling = subst IsUncancelled is h in no (k.stays good p))

        after : IsUnspoiled lossless put.id mine1 theirs → TellsWell put lossless a.told → TellsWell put lossless [] → IsOnCourse lossless put mine theirs forth back →
            IsOnCourse lossless put mine1 theirs forth1 back1
        after u good _ c =
            let same : Sends x ≡ Sends c.sender = some-same (sym was ∙ c.is_sender) in
            let same_sender : x ≡ c.sender = cc in
            let before : IsCourse put lossless lossless lossless lossless x c.receiver (of_id put.id forth) (of_id put.id back) (one_tells (tells_complete put.id) mine.table.told)
            (one_tells (tells_complete put.id) theirs.table.told) =
            subst (λ y. IsCourse put lossless lossless lossless lossless y c.receiver (of_id put.id forth) (of_id put.id back) (one_tells (tells_complete put.id) mine.table.told)
            (one_tells (tells_complete put.id) theirs.table.told)) (sym same_sender) c.course in
            let no : k.sender.phase ≢ sending.Cancelling = subst IsUncancelled is u.uncancelled in
            record {
              sender = k.sender;
              is_sender = is;
              receiver = c.receiver;
              is_receiver = c.is_receiver;
              course = course-so put lossless lossless lossless lossless k.sender c.receiver _ _ _ _ _ _ _ _ refl refl
                  (told-more (tells_complete put.id) mine.table.told a.told mine1.table.told g.told) refl
                  (k.course c.receiver (one_tells (tells_complete put.id) mine.table.told) (one_tells (tells_complete put.id) theirs.table.told) no good before);
            }

    -- it made a step of the record at a place, and said what is of that record's transaction
    pub mine-steps : (place : ℕ) (e : Entry) (a : After) → IsDistinct same_id (keys_of mine.table.records) → slice_get mine.table.records place ≡ Some e → mine1.table.records
        ≡ (stepped place e.0 a mine.table).records → Grew mine mine1 a.told
        → (same_id put.id e.0 ≡ false → of_id put.id forth1 ≡ of_id put.id forth) → (same_id put.id e.0 ≡ false → of_id put.id back1 ≡ of_id put.id back)
        → (put.id ≡ e.0 → MineGoes lossless put e.1 a (of_id put.id forth) (of_id put.id forth1) (of_id put.id back) (of_id put.id back1)) → StaysOnCourse lossless put mine theirs forth back →
        StaysOnCourse lossless put mine1 theirs forth1 back1
    mine-steps place e a apart at records g f k own s = elim (same_id put.id e.0) as (λ b. same_id put.id e.0 ≡ b → StaysOnCourse lossless put mine1 theirs forth1 back1) [
      | true ↦ λ is. (let same : put.id ≡ e.0 = same_id-true put.id e.0 is in mine_own same e.1 refl (own same))
      | false ↦ λ differs. stays-same mine mine1 theirs theirs a.told [] g (grew-none theirs) forth forth1 back back1
          (ap (record_of put.id) records ∙ step-other mine.table.records place e.0 put.id a.seen (key-at mine.table.records place e at) differs) refl (f differs) (k differs) s
    ] refl
      where
        mine_own : (same : put.id ≡ e.0) (r : Seen) → e.1 ≡ r → MineGoes lossless put r a (of_id put.id forth) (of_id put.id forth1) (of_id put.id back) (of_id put.id back1) →
            StaysOnCourse lossless put mine1 theirs forth1 back1
        mine_own same r is goes =
            let was : record_of put.id mine.table.records ≡ Some r = ap (λ q. record_of q mine.table.records) same ∙ at-own mine.table.records place e apart at ∙ ap Some is in
            let now : record_of put.id mine1.table.records ≡ Some a.seen = ap (record_of put.id) records ∙ ap (λ q. record_of q (stepped place e.0 a mine.table).records) same
            ∙ step-own mine.table.records place e a.seen apart (key-at mine.table.records place e at) in
            by r was now goes
          where
            by : (r : Seen) → record_of put.id mine.table.records ≡ Some r → record_of put.id mine1.table.records ≡ Some a.seen →
                MineGoes lossless put r a (of_id put.id forth) (of_id put.id forth1) (of_id put.id back) (of_id put.id back1) → StaysOnCourse lossless put mine1 theirs forth1 back1
            by (Sends x) was now goes = sender-steps x a g was now goes s
            by (Receives r m) was now goes = goes-on mine mine1 theirs theirs a.told [] g (grew-none theirs) forth forth1 back back1 (λ _ _. subst IsUncancelled (sym was) tt)
                (λ _ _ _ c. absurd (let no : Some (Receives r m) ≡ Some (Sends c.sender) = sym was ∙ c.is_sender in cc)) s

  -- ---- the other entity went on
  module _ (mine theirs theirs1 : EntityState) (forth forth1 back back1 : List Pdu) where
    pub receiver-steps : (r : ReceiverState) (m : OctetMap) (a : After) (g : Grew theirs theirs1 a.told) → record_of put.id theirs.table.records ≡ Some (Receives r m) →
        record_of put.id theirs1.table.records ≡ Some a.seen
        → ((x : SenderState) → record_of put.id mine.table.records ≡ Some (Sends x) →
        ReceiverGoes lossless put x r a (of_id put.id forth) (of_id put.id forth1) (of_id put.id back) (of_id put.id back1))
        → StaysOnCourse lossless put mine theirs forth back → StaysOnCourse lossless put mine theirs1 forth1 back1
    receiver-steps r m a g was now goes = goes-on mine mine theirs theirs1 [] a.told (grew-none mine) g forth forth1 back back1 (λ _ h. h) after
      where
        after : IsUnspoiled lossless put.id mine theirs1 → TellsWell put lossless [] → TellsWell put lossless a.told → IsOnCourse lossless put mine theirs forth back →
            IsOnCourse lossless put mine theirs1 forth1 back1
        after u _ good c = by c.receiver (subst (λ o. IsReceiverIn o c.receiver) was c.is_receiver) c.course
          where
            k : ReceiverGoes lossless put c.sender r a (of_id put.id forth) (of_id put.id forth1) (of_id put.id back) (of_id put.id back1)
            k = goes c.sender c.is_sender

            is : record_of put.id theirs1.table.records ≡ Some (Receives k.receiver k.octets)
            is = now ∙ ap Some k.is_receiver

            by : (o : Option ReceiverState) → IsReceiverIn (Some (Receives r m)) o
                → IsCourse put lossless lossless lossless lossless c.sender o (of_id put.id forth) (of_id put.id back) (one_tells (tells_complete put.id) mine.table.told)
                (one_tells (tells_complete put.id) theirs.table.told) → IsOnCourse lossless put mine theirs1 forth1 back1
            by None h course = absurd h
            by (Some s) h course = record {
              sender = c.sender;
              is_sender = c.is_sender;
              receiver = Some k.receiver;
              is_receiver = subst (λ o. IsReceiverIn o (Some k.receiver)) (sym is) refl;
              course = course-so put lossless lossless lossless lossless c.sender (Some k.receiver) _ _ _ _ _ _ _ _ refl refl refl
                  (told-more (tells_complete put.id) theirs.table.told a.told theirs1.table.told g.told)
                  (k.course (one_tells (tells_complete put.id) mine.table.told) (one_tells (tells_complete put.id) theirs.table.told) good
                  (subst (λ q. IsCourse put lossless lossless lossless lossless c.sender (Some q) (of_id put.id forth) (of_id put.id back) (one_tells (tells_complete put.id) mine.table.told)
                  (one_tells (tells_complete put.id) theirs.table.told)) h course));
            }

    pub receiver-opens : (a : After) (g : Grew theirs theirs1 a.told) → record_of put.id theirs.table.records ≡ None → record_of put.id theirs1.table.records ≡ Some a.seen
        → ((x : SenderState) → record_of put.id mine.table.records ≡ Some (Sends x) → ReceiverOpens lossless put x a (of_id put.id forth) (of_id put.id forth1) (of_id put.id back)) → of_id put.id back
        ≡ of_id put.id back1
        → StaysOnCourse lossless put mine theirs forth back → StaysOnCourse lossless put mine theirs1 forth1 back1
    receiver-opens a g was now goes k = goes-on mine mine theirs theirs1 [] a.told (grew-none mine) g forth forth1 back back1 (λ _ h. h) after
      where
        after : IsUnspoiled lossless put.id mine theirs1 → TellsWell put lossless [] → TellsWell put lossless a.told → IsOnCourse lossless put mine theirs forth back →
            IsOnCourse lossless put mine theirs1 forth1 back1
        after u _ good c = by c.receiver (subst (λ o. IsReceiverIn o c.receiver) was c.is_receiver) c.course
          where
            by : (o : Option ReceiverState) → IsReceiverIn None o
                → IsCourse put lossless lossless lossless lossless c.sender o (of_id put.id forth) (of_id put.id back) (one_tells (tells_complete put.id) mine.table.told)
                (one_tells (tells_complete put.id) theirs.table.told) → IsOnCourse lossless put mine theirs1 forth1 back1
            by (Some s) h course = absurd h
            by None h course =
                let o = goes c.sender c.is_sender (one_tells (tells_complete put.id) mine.table.told) (one_tells (tells_complete put.id) theirs.table.told) good course in
                record {
                  sender = c.sender;
                  is_sender = c.is_sender;
                  receiver = Some o.0;
                  is_receiver = subst (λ p. IsReceiverIn p (Some o.0)) (sym (now ∙ ap Some o.1.1.0)) refl;
                  course = course-so put lossless lossless lossless lossless c.sender (Some o.0) _ _ _ _ _ _ _ _ refl k refl
                      (told-more (tells_complete put.id) theirs.table.told a.told theirs1.table.told g.told) o.1.1.1;
                }

    -- it made a step of the record at a place, and said what is of that record's transaction
    pub theirs-steps : (place : ℕ) (e : Entry) (a : After) → IsDistinct same_id (keys_of theirs.table.records) → slice_get theirs.table.records place ≡ Some e → theirs1.table.records
        ≡ (stepped place e.0 a theirs.table).records → Grew theirs theirs1 a.told
        → (same_id put.id e.0 ≡ false → of_id put.id forth1 ≡ of_id put.id forth) → (same_id put.id e.0 ≡ false → of_id put.id back1 ≡ of_id put.id back)
        → (put.id ≡ e.0 → (x : SenderState) → record_of put.id mine.table.records ≡ Some (Sends x) →
        TheirsGoes lossless put x e.1 a (of_id put.id forth) (of_id put.id forth1) (of_id put.id back) (of_id put.id back1))
        → StaysOnCourse lossless put mine theirs forth back → StaysOnCourse lossless put mine theirs1 forth1 back1
    theirs-steps place e a apart at records g f k own s = elim (same_id put.id e.0) as (λ b. same_id put.id e.0 ≡ b → StaysOnCourse lossless put mine theirs1 forth1 back1) [
      | true ↦ λ is. (let same : put.id ≡ e.0 = same_id-true put.id e.0 is in theirs_own same e.1 refl (own same))
      | false ↦ λ differs. stays-same mine mine theirs theirs1 [] a.told (grew-none mine) g forth forth1 back back1
          refl (ap (record_of put.id) records ∙ step-other theirs.table.records place e.0 put.id a.seen (key-at theirs.table.records place e at) differs) (f differs) (k differs) s
    ] refl
      where
        theirs_own : (same : put.id ≡ e.0) (r : Seen) → e.1 ≡ r → ((x : SenderState) → record_of put.id mine.table.records ≡ Some (Sends x) →
            TheirsGoes lossless put x r a (of_id put.id forth) (of_id put.id forth1) (of_id put.id back) (of_id put.id back1)) → StaysOnCourse lossless put mine theirs1 forth1 back1
        theirs_own same r is goes =
            let was : record_of put.id theirs.table.records ≡ Some r = ap (λ q. record_of q theirs.table.records) same ∙ at-own theirs.table.records place e apart at ∙ ap Some is in
            let now : record_of put.id theirs1.table.records ≡ Some a.seen = ap (record_of put.id) records ∙ ap (λ q. record_of q (stepped place e.0 a theirs.table).records) same
            ∙ step-own theirs.table.records place e a.seen apart (key-at theirs.table.records place e at) in
            by r was now goes
          where
            by : (r : Seen) → record_of put.id theirs.table.records ≡ Some r → record_of put.id theirs1.table.records ≡ Some a.seen
                → ((x : SenderState) → record_of put.id mine.table.records ≡ Some (Sends x) →
                TheirsGoes lossless put x r a (of_id put.id forth) (of_id put.id forth1) (of_id put.id back) (of_id put.id back1)) → StaysOnCourse lossless put mine theirs1 forth1 back1
            by (Receives r m) was now goes = receiver-steps r m a g was now goes s
            by (Sends x) was now goes = goes-on mine mine theirs theirs1 [] a.told (grew-none mine) g forth forth1 back back1 (λ _ h. h)
                (λ _ _ _ c. absurd (none c.receiver (subst (λ o. IsReceiverIn o c.receiver) was c.is_receiver))) s
              where
                none : (o : Option ReceiverState) → IsReceiverIn (Some (Sends x)) o → ⊥
                none (Some r) h = h
                none None h = h
