-- Each put has its transaction in a world, just one, and as long as nothing spoiled the put it is on
-- its course.
use Rattle.std.proofs.Common.{◌≡◌, ℕ, Bool, true, false, List, [], ◌∷◌, ◌++◌, Option, Some, None, ◌⊎◌, inl, inr, refl, sym, ap, subst, ◌∙◌}
use Rattle.std.specs.Prelude.{IsSome}
use Rattle.aos_frame.specs.declared.config.Lane.TheVariants.{Directives, Data}
use Rattle.cfdp_header.specs.declared.value.Header.{Header}
use Rattle.cfdp_header.specs.declared.value.TransactionId.{TransactionId}
use Rattle.cfdp_header.specs.Ids.{same_id}
use Rattle.cfdp_directives.specs.Pdu.Content.{Content}
use Rattle.cfdp_directives.specs.User.Put.{Put}
use Rattle.cfdp_sender.specs.State.{SenderState}
use Rattle.cfdp_receiver.specs.State.{ReceiverState}
use Rattle.cfdp_entity.specs.Entity.{EntityState}
use Rattle.cfdp_entity.specs.Seen.{Seen, Sends, Receives}
use Rattle.cfdp_entity.specs.Table.{record_of}
use Rattle.cfdp_entity.specs.Truth.{KnowsTruth}
use Rattle.cfdp_entity.proofs.CallerLemmas.{same_id-true}
use Rattle.station_pair.specs.declared.side.Side.{Side}
use Rattle.link_sim.specs.Between.{Pdu, of_id, IsReceiverIn, IsOnCourse, IsUnspoiled, AreSpelled}
use Rattle.link_sim.specs.Course.{IsCourse}
use Rattle.link_sim.specs.EveryPut.{KeepCourse}
use Rattle.link_sim.specs.Found.{IsPutOf, HasExchange}
use Rattle.link_sim.specs.Known.{IsSending, AreKnown}
use Rattle.link_sim.specs.Observed.{seen}
use Rattle.link_sim.specs.OneWay.{OneWayState, on_way, arriving, IsOneWay}
use Rattle.link_sim.specs.Runs.{Exchange}
use Rattle.station_pair.specs.Stations.{other}
use Rattle.link_sim.specs.Sound.{IsSound}
use Rattle.link_sim.specs.Theorem.{put_of}
use Rattle.link_sim.specs.World.State.{AreWays, WorldState, arriving_from, delivered_from, entity_at, on_way_from, way_from}
use Rattle.link_sim.proofs.OnWay.Arriving.{OneFewer}
use Rattle.link_sim.proofs.OnWay.ArrivingWorld.{arriving-or}
use Rattle.link_sim.proofs.Clean.Puts.{IsCourseFrom, course-from, StandsAt, stands-at}
use Rattle.link_sim.proofs.Course.Laws.{CourseLaws}
use Rattle.link_sim.proofs.EveryPut.Goes.{course-so}
use Rattle.link_sim.proofs.EveryPut.Views.{head-own, head-other, of_id-append}
use Rattle.link_sim.proofs.EveryPut.Pdus.{InTwo, one-pdu, spelled-append, spelled-split}
use Rattle.link_sim.proofs.Lanes.Arrive.{LacksFirst, course-back-lanes, course-forth-lanes, known-lanes}
use Rattle.link_sim.proofs.Events.Moving.{apart}
use Rattle.link_sim.proofs.Runs.Places.{view}

-- ---- texts spell PDUs
pub spelled-same : (texts : List (List ℕ)) (xs ys : List Pdu) → AreSpelled texts xs → AreSpelled texts ys → xs ≡ ys
spelled-same [] [] [] a b = refl
spelled-same [] (x ∷ xs) ys a b = absurd a
spelled-same [] [] (y ∷ ys) a b = absurd b
spelled-same (t ∷ texts) [] ys a b = absurd a
spelled-same (t ∷ texts) (x ∷ xs) [] a b = absurd b
spelled-same (t ∷ texts) (x ∷ xs) (y ∷ ys) a b =
    let one : (x.0 ≡ y.0) × (x.1 ≡ y.1) = one-pdu x.0 y.0 x.1 y.1 t a.0 b.0 in
    let same : x ≡ y = ap (λ (h : Header). (h, x.1)) one.0 ∙ ap (λ (v : Content). (y.0, v)) one.1 in
    ap (λ (p : Pdu). p ∷ xs) same ∙ ap (λ (l : List Pdu). y ∷ l) (spelled-same texts xs ys a.1 b.1)

-- Of the PDUs on their way in a lane those that will arrive: all, or all but the first.
record Arrives (w : OneWayState) (pdus : List Pdu) : Type 0 where
  some : List Pdu
  spelled : AreSpelled (arriving w) some
  is : LacksFirst pdus some

arrives : (w : OneWayState) (pdus : List Pdu) → IsOneWay w → AreSpelled (on_way w) pdus → Arrives w pdus
arrives w pdus is s = by (arriving-or w is)
  where
    fewer : (first : List ℕ) (rest : List (List ℕ)) (ps : List Pdu) → AreSpelled (first ∷ rest) ps → (some : List Pdu) × AreSpelled rest some × LacksFirst ps some
    fewer first rest [] s = absurd s
    fewer first rest (p ∷ ps) s = (ps, s.1, inr (p, refl))

    by : (on_way w ≡ arriving w) ⊎ OneFewer (on_way w) (arriving w) → Arrives w pdus
    by (inl e) = record { some = pdus; spelled = subst (λ l. AreSpelled l pdus) e s; is = inl refl }
    by (inr o) =
        let f = fewer o.first (arriving w) pdus (subst (λ l. AreSpelled l pdus) o.is s) in
        record { some = f.0; spelled = f.1; is = f.2 }

-- So it is in both lanes from a station.
record ArrivesFrom (s : Side) (w : WorldState) (pdus : List Pdu) : Type 0 where
  directives : List Pdu
  file_data : List Pdu
  joined : pdus ≡ directives ++ file_data
  of_directives : Arrives (way_from s Directives w) directives
  of_data : Arrives (way_from s Data w) file_data

arrives-from : (s : Side) (w : WorldState) (pdus : List Pdu) → AreWays s w → AreSpelled (on_way_from s w) pdus → ArrivesFrom s w pdus
arrives-from s w pdus are spelled =
    let two : InTwo (on_way (way_from s Directives w)) (on_way (way_from s Data w)) pdus = spelled-split (on_way (way_from s Directives w)) (on_way (way_from s Data w)) pdus spelled in
    record {
      directives = two.first;
      file_data = two.rest;
      joined = two.joined;
      of_directives = arrives (way_from s Directives w) two.first (are Directives) two.spelled;
      of_data = arrives (way_from s Data w) two.rest (are Data) two.spelled_rest;
    }

-- ---- of those that will arrive
module _ (s : Side) (w : WorldState) (pdus : List Pdu) (a : ArrivesFrom s w pdus) where
  abbrev arrived : List Pdu
  arrived = a.of_directives.some ++ a.of_data.some

  spelled-arrived : AreSpelled (arriving_from s w) arrived
  spelled-arrived = spelled-append (arriving (way_from s Directives w)) (arriving (way_from s Data w)) a.of_directives.some a.of_data.some a.of_directives.spelled a.of_data.spelled

  known-arrived : (put_of : TransactionId → Option Put) (mine theirs : EntityState) (back : List Pdu) → AreKnown put_of mine theirs pdus back → AreKnown put_of mine theirs arrived back
  known-arrived put_of mine theirs back k = known-lanes put_of mine theirs back a.directives a.of_directives.some a.file_data a.of_data.some a.of_directives.is a.of_data.is
      (subst (λ l. AreKnown put_of mine theirs l back) a.joined k)

of-some : (id : TransactionId) (pdus some : List Pdu) → LacksFirst pdus some → LacksFirst (of_id id pdus) (of_id id some)
of-some id pdus some (inl e) = inl (ap (of_id id) e)
of-some id pdus some (inr e) = elim (same_id id e.0.0.id) as (λ b. same_id id e.0.0.id ≡ b → LacksFirst (of_id id pdus) (of_id id some)) [
  | true ↦ λ is. inr (e.0.1, ap (of_id id) e.1 ∙ head-own id e.0 some is)
  | false ↦ λ differs. inl (ap (of_id id) e.1 ∙ head-other id e.0 some differs)
] refl

module _ (laws : CourseLaws) (put : Put) (x : SenderState) (o : Option ReceiverState) (b c : Bool) (s : Side) (w : WorldState) (pdus : List Pdu) (a : ArrivesFrom s w pdus) where
  -- those of the put, lane by lane
  of-lanes : (one two : List Pdu) → of_id put.id (one ++ two) ≡ of_id put.id one ++ of_id put.id two
  of-lanes one two = of_id-append put.id one two

  course-forth : (back : List Content) → IsCourse put false false false false x o (of_id put.id pdus) back b c → IsCourse put false false false false x o (of_id put.id (arrived s w pdus a)) back b c
  course-forth back h =
      let was : IsCourse put false false false false x o (of_id put.id a.directives ++ of_id put.id a.file_data) back b c =
      subst (λ l. IsCourse put false false false false x o l back b c) (ap (of_id put.id) a.joined ∙ of-lanes a.directives a.file_data) h in
      subst (λ l. IsCourse put false false false false x o l back b c) (sym (of-lanes a.of_directives.some a.of_data.some))
      (course-forth-lanes laws put x o b c (of_id put.id a.directives) (of_id put.id a.of_directives.some) (of_id put.id a.file_data) (of_id put.id a.of_data.some)
      (of-some put.id a.directives a.of_directives.some a.of_directives.is) (of-some put.id a.file_data a.of_data.some a.of_data.is) back was)

  course-back : (forth : List Content) → IsCourse put false false false false x o forth (of_id put.id pdus) b c → IsCourse put false false false false x o forth (of_id put.id (arrived s w pdus a)) b c
  course-back forth h =
      let was : IsCourse put false false false false x o forth (of_id put.id a.directives ++ of_id put.id a.file_data) b c =
      subst (λ l. IsCourse put false false false false x o forth l b c) (ap (of_id put.id) a.joined ∙ of-lanes a.directives a.file_data) h in
      subst (λ l. IsCourse put false false false false x o forth l b c) (sym (of-lanes a.of_directives.some a.of_data.some))
      (course-back-lanes laws put x o b c (of_id put.id a.directives) (of_id put.id a.of_directives.some) (of_id put.id a.file_data) (of_id put.id a.of_data.some)
      (of-some put.id a.directives a.of_directives.some a.of_directives.is) (of-some put.id a.file_data a.of_data.some a.of_data.is) forth was)

-- ---- one exchange at most
same-sender : (x y : SenderState) (o : Option Seen) → o ≡ Some (Sends x) → o ≡ Some (Sends y) → x ≡ y
same-sender x y o a b = let is : Some (Sends x) ≡ Some (Sends y) = sym a ∙ b in cc

same-receiver : (o : Option Seen) (a b : Option ReceiverState) → IsReceiverIn o a → IsReceiverIn o b → a ≡ b
same-receiver None None None h k = refl
same-receiver None None (Some s) h k = absurd k
same-receiver None (Some r) b h k = absurd h
same-receiver (Some (Receives r m)) (Some s) (Some t) h k = ap Some (h ∙ sym k)
same-receiver (Some (Receives r m)) (Some s) None h k = absurd k
same-receiver (Some (Receives r m)) None b h k = absurd h
same-receiver (Some (Sends x)) (Some s) b h k = absurd h
same-receiver (Some (Sends x)) None b h k = absurd h

-- ---- a put has one
some-sender : (o : Option Seen) → IsSending o → (x : SenderState) × (o ≡ Some (Sends x))
some-sender (Some (Sends x)) h = (x, refl)
some-sender (Some (Receives r m)) h = absurd h
some-sender None h = absurd h

module _ (s : Side) (put : Put) (w : WorldState) (sound : IsSound w) (kept : KeepCourse w) (is : IsPutOf s put w) where
  abbrev mine : EntityState
  mine = entity_at s w

  abbrev theirs : EntityState
  theirs = entity_at (other s) w

  c : IsCourseFrom s w
  c = course-from s w kept

  forth : ArrivesFrom s w c.forth
  forth = arrives-from s w c.forth (sound s).ways c.spelled

  back : ArrivesFrom (other s) w c.back
  back = arrives-from (other s) w c.back (sound (other s)).ways c.spelled_back

  abbrev forth-now : List Pdu
  forth-now = arrived s w c.forth forth

  abbrev back-now : List Pdu
  back-now = arrived (other s) w c.back back

  known : AreKnown (put_of (seen w)) mine theirs forth-now back-now
  known =
      let one : AreKnown (put_of (seen w)) mine theirs forth-now c.back = known-arrived s w c.forth forth (put_of (seen w)) mine theirs c.back c.known in
      let two : AreKnown (put_of (seen w)) theirs mine back-now forth-now = known-arrived (other s) w c.back back (put_of (seen w)) theirs mine forth-now (one.1, one.0) in
      (two.1, two.0)

  -- no record of the other entity sends it
  receiver-there : (o : Option Seen) → record_of put.id theirs.table.records ≡ o → (r : Option ReceiverState) × IsReceiverIn o r
  receiver-there None e = (None, tt)
  receiver-there (Some (Receives r m)) e = (Some r, refl)
  receiver-there (Some (Sends x)) e =
      let at : StandsAt put.id theirs.table.records (Sends x) = stands-at put.id theirs.table.records (Sends x) e in
      let knows : KnowsTruth theirs.config.entity (put_of (seen w)) (delivered_from (other (other s)) w) at.entry.0 (Sends x) =
      subst (KnowsTruth theirs.config.entity (put_of (seen w)) (delivered_from (other (other s)) w) at.entry.0) at.is ((sound (other s)).entity.knows.knows at.place at.entry at.at) in
      let key : put.id ≡ at.entry.0 = same_id-true put.id at.entry.0 at.own in
      absurd (apart w sound s (sym is.own ∙ ap (λ (i : TransactionId). i.source) key ∙ knows.1))

  pub has-exchange : (e : Exchange) × HasExchange s put w e
  has-exchange =
      let x : (x : SenderState) × (record_of put.id mine.table.records ≡ Some (Sends x)) =
      some-sender (record_of put.id mine.table.records) (known.0.sends put.id (subst IsSome (sym is.found) refl) is.own) in
      let r : (r : Option ReceiverState) × IsReceiverIn (record_of put.id theirs.table.records) r = receiver-there (record_of put.id theirs.table.records) refl in (
        view put x.0 r.0 mine theirs forth-now back-now,
        record {
          forth = forth-now;
          back = back-now;
          spelled = spelled-arrived s w c.forth forth;
          spelled_back = spelled-arrived (other s) w c.back back;
          known = known;
          is = record { is_sender = x.1; is_receiver = r.1; is_forth = refl; is_back = refl; is_told = refl; is_told_there = refl };
        },
      )

  -- ---- it is on its course
  pub exchange-true : CourseLaws → IsUnspoiled false put.id mine theirs → (e : Exchange) → HasExchange s put w e →
      IsCourse put false false false false e.sender e.receiver e.forth e.back e.told e.told_there
  exchange-true laws unspoiled e h =
      let k : IsOnCourse false put mine theirs c.forth c.back = c.puts put is.found is.own false (λ no. absurd (let never : false ≡ true = no in cc)) unspoiled in
      let sender : k.sender ≡ e.sender = same-sender k.sender e.sender (record_of put.id mine.table.records) k.is_sender h.is.is_sender in
      let receiver : k.receiver ≡ e.receiver = same-receiver (record_of put.id theirs.table.records) k.receiver e.receiver k.is_receiver h.is.is_receiver in
      let f : forth-now ≡ h.forth = spelled-same (arriving_from s w) forth-now h.forth (spelled-arrived s w c.forth forth) h.spelled in
      let g : back-now ≡ h.back = spelled-same (arriving_from (other s) w) back-now h.back (spelled-arrived (other s) w c.back back) h.spelled_back in
      let one = course-forth laws put k.sender k.receiver _ _ s w c.forth forth (of_id put.id c.back) k.course in
      let two = course-back laws put k.sender k.receiver _ _ (other s) w c.back back (of_id put.id forth-now) one in
      subst (λ (x : SenderState). IsCourse put false false false false x e.receiver e.forth e.back e.told e.told_there) sender
      (subst (λ (o : Option ReceiverState). IsCourse put false false false false k.sender o e.forth e.back e.told e.told_there) receiver
      (course-so put false false false false k.sender k.receiver _ _ _ _ _ _ _ _ (ap (of_id put.id) f ∙ h.is.is_forth) (ap (of_id put.id) g ∙ h.is.is_back) h.is.is_told h.is.is_told_there two))
