-- In a clean world that has settled, every accepted put is complete, and closed at both ends.
use Rattle.std.proofs.Common.{◌≡◌, ◌≢◌, ℕ, zero, suc, ◌<◌, ◌==◌, ◌||◌, not, Bool, true, false, List, [], ◌∷◌, length, slice_get, is_some, Option, Some, None, inl, inr, refl, sym, ap, subst, ◌∙◌, if◌then◌else◌, arith}
use Rattle.std.specs.Prelude.{Contains}
use Rattle.std.specs.List.{IsDistinct}
use Rattle.std.specs.Map.{keys_of}
use Rattle.std.proofs.lemmas.Bool.{cases_Bool, eqb-true, eq-eqb, ne_eqb}
use Rattle.std.proofs.lemmas.List.Quantifiers.{position-Some}
use Rattle.cfdp_header.specs.declared.value.TransactionId.{TransactionId}
use Rattle.cfdp_header.specs.Ids.{same_id}
use Rattle.cfdp_header.proofs.Ids.{same_id-is}
use Rattle.cfdp_directives.specs.declared.pdu.codes.Delivery.{Delivery}
use Rattle.cfdp_directives.specs.declared.pdu.codes.Delivery.TheVariants.{Complete, Incomplete}
use Rattle.cfdp_directives.specs.declared.pdu.codes.FileStatus.{FileStatus}
use Rattle.cfdp_directives.specs.declared.pdu.codes.FileStatus.TheVariants.{Discarded, Rejected, Retained, Unreported}
use Rattle.cfdp_directives.specs.declared.user.indication.Indication.{Indication}
use Rattle.cfdp_directives.specs.declared.user.indication.Indication.TheVariants as indication
use Rattle.cfdp_directives.specs.declared.user.phase.Phase.TheVariants as phases
use Rattle.cfdp_directives.specs.Pdu.Codes.{no_error}
use Rattle.cfdp_directives.specs.User.Completions.{is_complete, completion, completions}
use Rattle.cfdp_directives.specs.User.Put.{Put}
use Rattle.cfdp_directives.proofs.Puts.{Contains-append_left, Contains-append_right}
use Rattle.cfdp_sender.specs.declared.phase.SenderPhase.TheVariants as sending
use Rattle.cfdp_sender.specs.Due.{sender_due}
use Rattle.cfdp_sender.specs.Inputs.{IsSenderOf}
use Rattle.cfdp_sender.specs.State.{SenderState}
use Rattle.cfdp_receiver.specs.declared.state.ReceiverPhase.{ReceiverPhase}
use Rattle.cfdp_receiver.specs.declared.state.ReceiverPhase.TheVariants as receiving
use Rattle.cfdp_receiver.specs.Due.{receiver_due}
use Rattle.cfdp_receiver.specs.State.{ReceiverState}
use Rattle.cfdp_entity.specs.Entity.{EntityState, phase_told, phase_by}
use Rattle.cfdp_entity.specs.Polling.{Place, Rests, Stray, turn, turn_by}
use Rattle.cfdp_entity.specs.Seen.{Seen, Sends, Receives, phase_of}
use Rattle.cfdp_entity.specs.Sending.{SendsPut, SendsItsPut}
use Rattle.cfdp_entity.specs.Strays.{StrayAck}
use Rattle.cfdp_entity.specs.Table.{Entry, TableState, place_of, record_of, has_due, next_due, phase_in}
use Rattle.cfdp_entity.proofs.CallerLemmas.{nothing-due}
use Rattle.cfdp_entity.proofs.Histories.{no-record}
use Rattle.link_sim.specs.declared.event.AcceptedPut.{AcceptedPut}
use Rattle.station_pair.specs.declared.side.Side.{Side}
use Rattle.station_pair.specs.declared.side.Side.TheVariants.{One, Two}
use Rattle.link_sim.specs.Between.{Pdu, IsReceiverIn, IsOnCourse, AreSpelled}
use Rattle.link_sim.specs.Clean.{IsClean, IsCompleteAt, AllComplete}
use Rattle.link_sim.specs.EveryPut.{IsFound, KeepCourse}
use Rattle.link_sim.specs.Exchange.{is_closed, is_closed_in, maybe, tells_complete}
use Rattle.link_sim.specs.Observed.{seen}
use Rattle.link_sim.specs.Settling.{IsSettled}
use Rattle.station_pair.specs.Stations.{other}
use Rattle.link_sim.specs.Sound.{IsSound}
use Rattle.link_sim.specs.Theorem.{side_of, put_of, completions_at}
use Rattle.link_sim.specs.Waiting.{one_tells}
use Rattle.link_sim.specs.World.State.{WorldState, AreRested, entity_at, on_way_from}
use Rattle.link_sim.proofs.Clean.Hears.{slice-or}
use Rattle.link_sim.proofs.Clean.Puts.{IsCourseFrom, course-from, on-course, StandsAt, stands-at}
use Rattle.link_sim.proofs.Course.Ends.{completes}
use Rattle.link_sim.proofs.Course.Laws.{NothingDue}
use Rattle.link_sim.proofs.Events.Keeping.{done, at-done}
use Rattle.link_sim.proofs.EveryPut.Goes.{at-own}
use Rattle.link_sim.proofs.EveryPut.Routes.{and-parts}
use Rattle.link_sim.proofs.OnWay.World.{settled-on-way}
use Rattle.link_sim.proofs.Found.Puts.{puts-by-id}

-- ---- nothing is due at any record
turn-none : (strays : List StrayAck) (next : Option ℕ) → turn_by strays next ≡ Rests → next ≡ None
turn-none [] None is = refl
turn-none [] (Some place) is = absurd (let e : Place place ≡ Rests = is in cc)
turn-none (s ∷ strays) next is = absurd (let e : Stray s strays ≡ Rests = is in cc)

inside-of : (xs : List Entry) (n : ℕ) (e : Entry) → slice_get xs n ≡ Some e → n < length xs
inside-of [] n e at = absurd cc
inside-of (x ∷ xs) zero e at = omega arith
inside-of (x ∷ xs) (suc n) e at = let low : n < length xs = inside-of xs n e at in omega (arith, low)

rests-at : (e : EntityState) → turn e ≡ Rests → (n : ℕ) (d : Entry) → slice_get e.table.records n ≡ Some d → has_due d ≡ false
rests-at e is n d at =
    let none : next_due e.cursor e.table.records ≡ None = turn-none e.strays (next_due e.cursor e.table.records) is in
    ap has_due (sym (slice-or e.table.records n d d at)) ∙ nothing-due e.cursor e.table.records none n d (inside-of e.table.records n d at)

pub none-of : {X : Type 0} (o : Option X) → is_some o ≡ false → o ≡ None
none-of None is = refl
none-of (Some x) is = absurd cc

pub rests-of : (e : EntityState) → turn e ≡ Rests → (id : TransactionId) (s : Seen) (there : StandsAt id e.table.records s) → has_due (there.entry.0, s) ≡ false
rests-of e is id s there = subst (λ (q : Seen). has_due (there.entry.0, q) ≡ false) there.is (rests-at e is there.place there.entry there.at)

-- ---- how far a transaction has come
entry-there : (xs : List Entry) (n : ℕ) → n < length xs → (d : Entry) × (slice_get xs n ≡ Some d)
entry-there [] n low = absurd (omega (arith, low))
entry-there (x ∷ xs) zero low = (x, refl)
entry-there (x ∷ xs) (suc n) low = entry-there xs n (omega (arith, low))

phase-by : (id : TransactionId) (st : TableState) (s : Seen) → IsDistinct same_id (keys_of st.records) → record_of id st.records ≡ Some s → (o : Option ℕ) → place_of id st.records ≡ o → phase_by o st
    ≡ Some (phase_of s)
phase-by id st s apart found None at = absurd (let none : record_of id st.records ≡ None = (no-record st.records id at).0 in let e : Some s ≡ None = sym found ∙ none in cc)
phase-by id st s apart found (Some place) at =
    let stands : StandsAt id st.records s = stands-at id st.records s found in
    let there = position-Some (λ (d : Entry). same_id id d.0) st.records place stands.entry at in
    let e = entry-there st.records place there.0 in
    let key : same_id id e.0.0 ≡ true = ap (λ (d : Entry). same_id id d.0) (sym (slice-or st.records place stands.entry e.0 e.1)) ∙ there.1 in
    let id_is : id ≡ e.0.0 = same_id-is id e.0.0 key in
    let own : record_of id st.records ≡ Some e.0.1 = ap (λ i. record_of i st.records) id_is ∙ at-own st.records place e.0 apart e.1 in
    let same : Some s ≡ Some e.0.1 = sym found ∙ own in
    let is : e.0.1 ≡ s = cc in
    ap phase_in e.1 ∙ ap (λ (q : Seen). Some (phase_of q)) is

pub phase-is : (id : TransactionId) (st : TableState) (s : Seen) → IsDistinct same_id (keys_of st.records) → record_of id st.records ≡ Some s → phase_told id st ≡ Some (phase_of s)
phase-is id st s apart found = phase-by id st s apart found (place_of id st.records) refl

pub closed-receiver : (p : ReceiverPhase) → is_closed_in p ≡ true → p ≡ receiving.Closed
closed-receiver receiving.Receiving is = absurd cc
closed-receiver receiving.Finishing is = absurd cc
closed-receiver receiving.Closed is = refl

-- ---- what was indicated
tells-is : (id : TransactionId) (i : Indication) → tells_complete id i ≡ true → i ≡ indication.Finished id no_error Complete Retained
tells-is id (indication.Finished of condition delivery status) is =
    let parts = and-parts (same_id id of) (is_complete condition delivery status) is in
    let own : id ≡ of = same_id-is id of parts.0 in
    let c = so condition delivery status parts.1 in
    ap (λ q. indication.Finished q condition delivery status) (sym own) ∙ ap (λ n. indication.Finished id n delivery status) c.0 ∙ ap (λ d. indication.Finished id no_error d status) c.1
    ∙ ap (λ t. indication.Finished id no_error Complete t) c.2
  where
    so : (condition : ℕ) (delivery : Delivery) (status : FileStatus) → is_complete condition delivery status ≡ true → (condition ≡ no_error) × (delivery ≡ Complete) × (status ≡ Retained)
    so condition Complete Retained is = (eqb-true condition no_error is, refl, refl)
    so condition Complete Discarded is = absurd cc
    so condition Complete Rejected is = absurd cc
    so condition Complete Unreported is = absurd cc
    so condition Incomplete Retained is = absurd cc
    so condition Incomplete Discarded is = absurd cc
    so condition Incomplete Rejected is = absurd cc
    so condition Incomplete Unreported is = absurd cc
tells-is id (indication.Fault of condition) is = absurd cc
tells-is id (indication.Suspended of condition) is = absurd cc
tells-is id (indication.Abandoned of condition) is = absurd cc
tells-is id (indication.Transaction of) is = absurd cc
tells-is id (indication.EofSent of) is = absurd cc
tells-is id (indication.MetadataRecv of source destination size) is = absurd cc
tells-is id (indication.EofRecv of) is = absurd cc
tells-is id (indication.Resumed of) is = absurd cc
tells-is id (indication.Progress of octets) is = absurd cc

behind : {X : Type 0} (y : X) (xs : List X) (x : X) → Contains xs x → Contains (y ∷ xs) x
behind y xs x c = (suc c.0, (let k = c.0 in let low : k < length xs = c.1 in omega arith), c.2)

pub told-complete : (id : TransactionId) (told : List Indication) → one_tells (tells_complete id) told ≡ true → Contains told (indication.Finished id no_error Complete Retained)
told-complete id [] is = absurd cc
told-complete id (i ∷ told) is = elim (cases_Bool (tells_complete id i)) [
  | inl yes_ ↦ (0, omega arith, tells-is id i yes_)
  | inr no_ ↦ behind i told (indication.Finished id no_error Complete Retained) (told-complete id told (none-first (tells_complete id i) (one_tells (tells_complete id) told) no_ is))
]
  where
    none-first : (a b : Bool) → a ≡ false → (a || b) ≡ true → b ≡ true
    none-first false b none h = h
    none-first true b none h = absurd cc

pub completed-there : (own : ℕ) (id : TransactionId) (told : List Indication) → (id.source == own) ≡ false → Contains told (indication.Finished id no_error Complete Retained) →
    Contains (completions own told) id
completed-there own id [] apart c = absurd (let k = c.0 in let low : k < 0 = c.1 in omega arith)
completed-there own id (i ∷ told) apart (zero, low, is) =
    let one : completion own (indication.Finished id no_error Complete Retained) ≡ id ∷ [] = ap (λ b. if not b then id ∷ [] else []) apart in
    let here : completion own i ≡ id ∷ [] = ap (completion own) is ∙ one in
    Contains-append_left (completion own i) (completions own told) id (subst (λ (l : List TransactionId). Contains l id) (sym here) (0, omega arith, refl))
completed-there own id (i ∷ told) apart (suc k, low, is) =
    Contains-append_right (completion own i) (completions own told) id (completed-there own id told apart (k, omega (arith, low), is))

-- ---- a put
pub no-pdus : (pdus : List Pdu) → AreSpelled [] pdus → pdus ≡ []
no-pdus [] s = refl
no-pdus (p ∷ pdus) s = absurd s

module _ (w : WorldState) (sound : IsSound w) where
  apart : (s : Side) → (entity_at s w).config.entity ≢ (entity_at (other s) w).config.entity
  apart s is = (sound s).entity.config.ids.apart (is ∙ sym (sound s).peer)

  pub side-is : (s : Side) (source : ℕ) → source ≡ (entity_at s w).config.entity → side_of source (seen w) ≡ s
  side-is One source own = ap (λ b. if b then One else Two) (eq-eqb source w.one.entity.state.config.entity own)
  side-is Two source own = ap (λ b. if b then One else Two) (ne_eqb source w.one.entity.state.config.entity (λ e. apart Two (sym own ∙ e)))

  -- a put whose sender and receiver are closed, if it was indicated complete to both users
  module _ (s : Side) (p : AcceptedPut) (put : Put) (id : put.id ≡ p.id) (made : put.id.source ≡ (entity_at s w).config.entity) (x : SenderState) (o : Option ReceiverState)
      (is_sender : record_of put.id (entity_at s w).table.records ≡ Some (Sends x)) (is_receiver : IsReceiverIn (record_of put.id (entity_at (other s) w).table.records) o)
      (closed : x.phase ≡ sending.Closed) (closed_there : maybe is_closed o ≡ true) (tells : one_tells (tells_complete put.id) (entity_at s w).table.told ≡ true)
      (tells_there : one_tells (tells_complete put.id) (entity_at (other s) w).table.told ≡ true) where
    pub complete-at : IsCompleteAt s p w
    complete-at =
        let mine : EntityState = entity_at s w in
        let theirs : EntityState = entity_at (other s) w in
        let told_there : Contains theirs.table.told (indication.Finished put.id no_error Complete Retained) = told-complete put.id theirs.table.told tells_there in
        let not_own : (put.id.source == theirs.config.entity) ≡ false = ne_eqb put.id.source theirs.config.entity (λ e. apart s (sym made ∙ e)) in
        let complete : Contains (done (other s) w) put.id = completed-there theirs.config.entity put.id theirs.table.told not_own told_there in
        let told : Contains mine.table.told (indication.Finished put.id no_error Complete Retained) = told-complete put.id mine.table.told tells in
        let phase : phase_told put.id mine.table ≡ Some (phase_of (Sends x)) = phase-is put.id mine.table (Sends x) (sound s).entity.once.distinct is_sender in
        record {
          completed = subst (λ (i : TransactionId). Contains (completions_at (other s) (seen w)) i) id (subst (λ (l : List TransactionId). Contains l put.id) (sym (at-done (other s) w)) complete);
          told = (ap (λ (i : TransactionId). i.source) (sym id) ∙ made, subst (λ (i : TransactionId). Contains mine.table.told (indication.Finished i no_error Complete Retained)) id told);
          closed = ap (λ i. phase_told i mine.table) (sym id) ∙ phase ∙ ap (λ q. Some (phase_of (Sends (record x { phase = q })))) closed;
          closed_there = ap (λ i. phase_told i theirs.table) (sym id) ∙ closed-there o (record_of put.id theirs.table.records) refl is_receiver closed_there;
        }
      where
        closed-there : (o : Option ReceiverState) (q : Option Seen) → record_of put.id (entity_at (other s) w).table.records ≡ q → IsReceiverIn q o → maybe is_closed o ≡ true →
            phase_told put.id (entity_at (other s) w).table ≡ Some phases.Closed
        closed-there None q at is closed = absurd cc
        closed-there (Some r) None at is closed = absurd is
        closed-there (Some r) (Some (Sends y)) at is closed = absurd is
        closed-there (Some r) (Some (Receives t m)) at is closed =
            let phase : t.phase ≡ receiving.Closed = ap (λ (z : ReceiverState). z.phase) (sym is) ∙ closed-receiver r.phase closed in
            phase-is put.id (entity_at (other s) w).table (Receives t m) (sound (other s)).entity.once.distinct at ∙ ap (λ q. Some (phase_of (Receives (record t { phase = q }) m))) phase

  module _ (course : KeepCourse w) (clean : IsClean w) (settled : IsSettled w) (rested : (s : Side) → AreRested s w) where
    at-side : (s : Side) (p : AcceptedPut) (put : Put) → put_of (seen w) p.id ≡ Some put → put.id ≡ p.id → p.id.source ≡ (entity_at s w).config.entity → IsCompleteAt s p w
    at-side s p put found id own =
        let mine : EntityState = entity_at s w in
        let theirs : EntityState = entity_at (other s) w in
        let c : IsCourseFrom s w = course-from s w course in
        let none : on_way_from s w ≡ [] = settled-on-way s w (sound s).ways (rested s) (settled s) in
        let none_back : on_way_from (other s) w ≡ [] = settled-on-way (other s) w (sound (other s)).ways (rested (other s)) (settled (other s)) in
        let forth : c.forth ≡ [] = no-pdus c.forth (subst (λ (l : List (List ℕ)). AreSpelled l c.forth) none c.spelled) in
        let back : c.back ≡ [] = no-pdus c.back (subst (λ (l : List (List ℕ)). AreSpelled l c.back) none_back c.spelled_back) in
        let named : put_of (seen w) put.id ≡ Some put = ap (put_of (seen w)) id ∙ found in
        let made : put.id.source ≡ mine.config.entity = ap (λ (i : TransactionId). i.source) id ∙ own in
        let was : IsOnCourse true put mine theirs c.forth c.back = on-course s w c.forth c.back clean c.puts put named made in
        let o : IsOnCourse true put mine theirs [] [] = subst (λ (l : List Pdu). IsOnCourse true put mine theirs l []) forth
        (subst (λ (l : List Pdu). IsOnCourse true put mine theirs c.forth l) back was) in
        let x : SenderState = o.sender in
        let stands : StandsAt put.id mine.table.records (Sends x) = stands-at put.id mine.table.records (Sends x) o.is_sender in
        let its = (sound s).entity.sends.sends stands.place stands.entry stands.at in
        let sends : SendsPut (put_of (seen w)) mine.table.sources stands.entry.0 x = subst (SendsItsPut (put_of (seen w)) mine.table.sources stands.entry.0) stands.is its in
        let key : put.id ≡ stands.entry.0 = same_id-is put.id stands.entry.0 stands.own in
        let same : sends.put ≡ put = (let e : Some sends.put ≡ Some put = sym sends.is_put ∙ ap (put_of (seen w)) (sym key) ∙ named in cc) in
        let of : IsSenderOf put x = subst (λ (q : Put). IsSenderOf q x) same sends.sender in
        let quiet : sender_due x ≡ None = none-of (sender_due x) (rests-of mine (settled s).rests put.id (Sends x) stands) in
        let ends = completes put x o.receiver (one_tells (tells_complete put.id) mine.table.told) (one_tells (tells_complete put.id) theirs.table.told) of sends.in_file o.course quiet
        (rests-there o.receiver o.is_receiver) in
        complete-at s p put id made x o.receiver o.is_sender o.is_receiver ends.0 ends.1.0 ends.1.1.0 ends.1.1.1
      where
        rests-by : (o : Option ReceiverState) (q : Option Seen) → record_of put.id (entity_at (other s) w).table.records ≡ q → IsReceiverIn q o → NothingDue o
        rests-by None q at is = tt
        rests-by (Some r) None at is = absurd is
        rests-by (Some r) (Some (Sends y)) at is = absurd is
        rests-by (Some r) (Some (Receives t m)) at is =
            let quiet : receiver_due t ≡ None = none-of (receiver_due t)
            (rests-of (entity_at (other s) w) (settled (other s)).rests put.id (Receives t m) (stands-at put.id (entity_at (other s) w).table.records (Receives t m) at)) in
            ap receiver_due is ∙ quiet

        rests-there : (o : Option ReceiverState) → IsReceiverIn (record_of put.id (entity_at (other s) w).table.records) o → NothingDue o
        rests-there o is = rests-by o (record_of put.id (entity_at (other s) w).table.records) refl is

    pub clean-completes : ((p : AcceptedPut) → Contains w.puts p → IsFound w p) → AllComplete w
    clean-completes founds p among =
        let f : IsFound w p = founds p among in
        subst (λ (s : Side). IsCompleteAt s p w) (sym (side-is f.side p.id.source f.own)) (at-side f.side p f.put f.is_put (puts-by-id (seen w) p.id f.put f.is_put) f.own)
