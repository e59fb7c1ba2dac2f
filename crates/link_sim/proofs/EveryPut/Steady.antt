-- A put stays on its course whatever its entity does (`mine-`), or the other one (`theirs-`): one
-- lemma for each step. `IsInOrder` of an entity before a step is what `in-order` takes from IsSound.
use Rattle.std.proofs.Common.{◌≡◌, ◌≢◌, ℕ, Bool, true, false, List, [], ◌∷◌, ◌++◌, length, get_or, Option, Some, None, refl, sym, ap, subst, ◌∙◌}
use Rattle.std.specs.Prelude.{slice_get}
use Rattle.std.proofs.lemmas.Bool.{false_from_ne_true}
use Rattle.cfdp_header.specs.declared.value.TransactionId.{TransactionId}
use Rattle.cfdp_header.specs.Ids.{same_id}
use Rattle.cfdp_directives.specs.declared.user.indication.Indication.TheVariants as indication
use Rattle.cfdp_directives.specs.User.Put.{Put}
use Rattle.cfdp_store.specs.declared.stored.Stored.TheVariants.{Done, Refused}
use Rattle.cfdp_store.specs.Files.{octets_in}
use Rattle.cfdp_sender.specs.declared.due.SenderDue.{SenderDue}
use Rattle.cfdp_sender.specs.Due.{sender_due, carries, carries_by}
use Rattle.cfdp_sender.specs.declared.transfer.Transfer.{Transfer}
use Rattle.cfdp_sender.specs.State.{opened_sender}
use Rattle.cfdp_entity.specs.declared.request.Request.{Request}
use Rattle.cfdp_entity.specs.Refusing.{called_in}
use Rattle.cfdp_entity.specs.Requests.{IsCalled}
use Rattle.cfdp_entity.specs.Entity.{EntityState, Counted, with_table}
use Rattle.cfdp_entity.specs.Polling.{Place, turn, served}
use Rattle.cfdp_entity.specs.Putting.{Accepts, next_id, next_transfer}
use Rattle.cfdp_entity.specs.Seen.{Seen, Sends, Receives, due_content, carries_data}
use Rattle.cfdp_entity.specs.Sound.{next_put}
use Rattle.cfdp_entity.specs.Steps.{calls, takes}
use Rattle.cfdp_entity.specs.Table.{Entry, Ticks, place_of, record_of, data_due, data_at}
use Rattle.cfdp_entity.proofs.CallerLemmas.{same_id-true, push-own, push-other}
use Rattle.cfdp_entity.proofs.Entries.{same_id-itself}
use Rattle.cfdp_entity.proofs.Histories.{no-record}
use Rattle.link_sim.specs.Between.{Pdu, of_id, IsReceiverIn, StaysOnCourse}
use Rattle.link_sim.specs.Course.{IsCourse}
use Rattle.link_sim.specs.Exchange.{tells_complete}
use Rattle.link_sim.specs.Waiting.{one_tells}
use Rattle.link_sim.proofs.Course.Laws.{CourseLaws}
use Rattle.link_sim.proofs.EveryPut.Known.{TurnSays, pdu_of}
use Rattle.link_sim.proofs.EveryPut.Routes.{HeardSo}
use Rattle.link_sim.proofs.EveryPut.Views.{of_id-append, head-own, head-other, end-own, end-other, Grew, grew-none}
use Rattle.link_sim.proofs.EveryPut.Goes.{course-so, SenderGoes, ReceiverGoes, goes-on, stays-same}
use Rattle.link_sim.proofs.EveryPut.Sends.{CarriesData, sender-called, sender-takes, sender-fails}
use Rattle.link_sim.proofs.EveryPut.Receives.{receiver-called, receiver-takes}
use Rattle.link_sim.proofs.EveryPut.Steps.{IsInOrder, mine-at, theirs-at}
use Rattle.link_sim.proofs.EveryPut.Ticks.{ticks-mine, ticks-theirs}
use Rattle.link_sim.proofs.EveryPut.Hears.{heard-mine, heard-theirs}

-- ---- what has the turn
key-same : (a b : Entry) → Some a ≡ Some b → a ≡ b
key-same a b is = cc

module _ (put_of : TransactionId → Option Put) (e : EntityState) (order : IsInOrder put_of e.table) (t : TurnSays e) where
  abbrev p : Pdu
  p = pdu_of t.entry t.content

  -- a record at its place is the one of its PDU
  turn-content : (id : TransactionId) (s : Seen) → slice_get e.table.records t.place ≡ Some (id, s) → (due_content e.table.sources s ≡ Some p.1) × (p.0.id ≡ id)
  turn-content id s at =
      let same : t.entry ≡ (id, s) = key-same t.entry (id, s) (sym t.at ∙ at) in
      (ap (λ (d : Entry). due_content e.table.sources d.1) (sym same) ∙ t.due, (order.own t.place t.entry t.at).0 ∙ ap (λ (d : Entry). d.0) same)

  turn-nowhere : slice_get e.table.records t.place ≡ None → ⊥
  turn-nowhere none = (let there : Some t.entry ≡ None = sym t.at ∙ none in cc)

carries-so : (o : Option SenderDue) → carries_by o ≡ true → (d : SenderDue) × ((o ≡ Some d) × (carries d ≡ true))
carries-so (Some d) is = (d, (refl, is))
carries-so None is = absurd cc

-- a record whose PDU carries file data sends
carries-there : (e : EntityState) (place : ℕ) (id : TransactionId) (s : Seen) → data_at place e.table ≡ true → slice_get e.table.records place ≡ Some (id, s) → CarriesData s
carries-there e place id s carries at = by s (ap data_due (sym at) ∙ carries)
  where
    by : (s : Seen) → carries_data s ≡ true → CarriesData s
    by (Sends x) is = carries-so (sender_due x) is
    by (Receives r m) is = absurd cc

-- ---- two ids
apart-ids : (a b : TransactionId) → (a.source ≡ b.source → ⊥) → same_id a b ≡ false
apart-ids a b apart = false_from_ne_true (same_id a b) (λ is. apart (ap (λ (i : TransactionId). i.source) (same_id-true a b is)))

pub end-differs : (id : TransactionId) (pdus : List Pdu) (p : Pdu) (k : TransactionId) → p.0.id ≡ k → same_id id k ≡ false → of_id id (pdus ++ p ∷ []) ≡ of_id id pdus
end-differs id pdus p k is differs = end-other id pdus p (ap (same_id id) is ∙ differs)

pub end-is : (id : TransactionId) (pdus : List Pdu) (p : Pdu) → p.0.id ≡ id → of_id id pdus ++ p.1 ∷ [] ≡ of_id id (pdus ++ p ∷ [])
end-is id pdus p is = sym (end-own id pdus p (same_id-itself id p.0.id (sym is)))

module _ (laws : CourseLaws) (lossless : Bool) (put : Put) where
  -- ---- puts
  module _ (source destination : List ℕ) (id : TransactionId) (old new : EntityState) (a : Accepts source destination id old new) where
    abbrev transfer : Transfer
    transfer = next_transfer source destination (length (octets_in old.table.sources source)) old

    put-grew : Grew old new (indication.Transaction (next_id old) ∷ [])
    put-grew = record { told = ap (λ (e : EntityState). e.table.told) a.opened; drops = λ heard n apart. ap (λ (e : EntityState). get_or e.drops n 0) (sym a.opened) ∙ heard n apart }

    put-other : same_id put.id id ≡ false → record_of put.id new.table.records ≡ record_of put.id old.table.records
    put-other differs = ap (λ (e : EntityState). record_of put.id e.table.records) a.opened
        ∙ push-other old.table.records (next_id old) put.id (Sends (opened_sender transfer)) (ap (same_id put.id) (sym a.is_next) ∙ differs)

  -- another put than this one
  pub mine-puts : (source destination : List ℕ) (id : TransactionId) (mine mine1 theirs : EntityState) (forth back : List Pdu) → Accepts source destination id mine mine1 → same_id put.id id ≡ false
      → StaysOnCourse lossless put mine theirs forth back → StaysOnCourse lossless put mine1 theirs forth back
  mine-puts source destination id mine mine1 theirs forth back a differs =
      stays-same laws lossless put mine mine1 theirs theirs _ [] (put-grew source destination id mine mine1 a) (grew-none theirs) forth forth back back
      (put-other source destination id mine mine1 a differs) refl refl refl

  pub theirs-puts : (source destination : List ℕ) (id : TransactionId) (mine theirs theirs1 : EntityState) (forth back : List Pdu) → Accepts source destination id theirs theirs1 →
      put.id.source ≢ theirs.config.entity
      → StaysOnCourse lossless put mine theirs forth back → StaysOnCourse lossless put mine theirs1 forth back
  theirs-puts source destination id mine theirs theirs1 forth back a apart =
      let differs : same_id put.id id ≡ false = apart-ids put.id id (λ is. apart (is ∙ ap (λ (i : TransactionId). i.source) a.is_next)) in
      stays-same laws lossless put mine mine theirs theirs1 [] _ (grew-none mine) (put-grew source destination id theirs theirs1 a) forth forth back back refl
      (put-other source destination id theirs theirs1 a differs) refl refl

  -- this very put: of it nothing was known
  pub mine-puts-own : (source destination : List ℕ) (id : TransactionId) (mine mine1 theirs : EntityState) (forth back : List Pdu) → Accepts source destination id mine mine1 → put
      ≡ next_put source destination mine
      → record_of put.id theirs.table.records ≡ None → of_id put.id forth ≡ [] → of_id put.id back ≡ [] → StaysOnCourse lossless put mine1 theirs forth back
  mine-puts-own source destination id mine mine1 theirs forth back a is none f k = λ _.
      let t : Transfer = transfer source destination id mine mine1 a in
      let fresh : record_of (next_id mine) mine.table.records ≡ None = ap (λ q. record_of q mine.table.records) (sym a.is_next) ∙ (no-record mine.table.records id a.fresh).0 in
      let is_id : put.id ≡ next_id mine = ap (λ (p : Put). p.id) is in
      record {
        sender = opened_sender t;
        is_sender = ap (λ q. record_of q mine1.table.records) is_id ∙ ap (λ (e : EntityState). record_of (next_id mine) e.table.records) a.opened
            ∙ push-own mine.table.records (next_id mine) (Sends (opened_sender t)) fresh;
        receiver = None;
        is_receiver = subst (λ o. IsReceiverIn o None) (sym none) tt;
        course = course-so put lossless lossless lossless lossless (opened_sender t) None [] (of_id put.id forth) [] (of_id put.id back) _ _ _ _ (sym f) (sym k) refl refl
            (subst (λ (p : Put). IsCourse p lossless lossless lossless lossless (opened_sender t) None [] [] (one_tells (tells_complete put.id) mine1.table.told)
            (one_tells (tells_complete put.id) theirs.table.told)) (sym is)
            (laws.opened t (octets_in mine.table.sources source) lossless lossless lossless lossless (one_tells (tells_complete put.id) mine1.table.told)
            (one_tells (tells_complete put.id) theirs.table.told)));
      }

  -- ---- a PDU is lost, on a link that may lose it
  lost-other : (before after : List Pdu) (p : Pdu) → same_id put.id p.0.id ≡ false → of_id put.id (before ++ after) ≡ of_id put.id (before ++ p ∷ after)
  lost-other before after p differs = of_id-append put.id before after ∙ ap (λ l. of_id put.id before ++ l) (sym (head-other put.id p after differs)) ∙ sym (of_id-append put.id before (p ∷ after))

  lost-own : (before after : List Pdu) (p : Pdu) → same_id put.id p.0.id ≡ true → of_id put.id (before ++ p ∷ after) ≡ of_id put.id before ++ p.1 ∷ of_id put.id after
  lost-own before after p is = of_id-append put.id before (p ∷ after) ∙ ap (λ l. of_id put.id before ++ l) (head-own put.id p after is)

  pub forth-lost : (mine theirs : EntityState) (before after back : List Pdu) (p : Pdu) → StaysOnCourse false put mine theirs (before ++ p ∷ after) back →
      StaysOnCourse false put mine theirs (before ++ after) back
  forth-lost mine theirs before after back p s = elim (same_id put.id p.0.id) as (λ b. same_id put.id p.0.id ≡ b → StaysOnCourse false put mine theirs (before ++ after) back) [
    | true ↦ λ is. goes-on laws false put mine mine theirs theirs [] [] (grew-none mine) (grew-none theirs) (before ++ p ∷ after) (before ++ after) back back (λ _ u. u) (λ _ _ _ c. record {
      sender = c.sender;
      is_sender = c.is_sender;
      receiver = c.receiver;
      is_receiver = c.is_receiver;
      course = course-so put false false false false c.sender c.receiver _ _ _ _ _ _ _ _ (sym (of_id-append put.id before after)) refl refl refl
          (laws.lost_forth put c.sender c.receiver (of_id put.id before) (of_id put.id after) (of_id put.id back) p.1 _ _
          (course-so put false false false false c.sender c.receiver _ _ _ _ _ _ _ _ (lost-own before after p is) refl refl refl c.course));
    }) s
    | false ↦ λ differs. stays-same laws false put mine mine theirs theirs [] [] (grew-none mine) (grew-none theirs) (before ++ p ∷ after) (before ++ after) back back refl refl
        (lost-other before after p differs) refl s
  ] refl

  pub back-lost : (mine theirs : EntityState) (forth before after : List Pdu) (p : Pdu) → StaysOnCourse false put mine theirs forth (before ++ p ∷ after) →
      StaysOnCourse false put mine theirs forth (before ++ after)
  back-lost mine theirs forth before after p s = elim (same_id put.id p.0.id) as (λ b. same_id put.id p.0.id ≡ b → StaysOnCourse false put mine theirs forth (before ++ after)) [
    | true ↦ λ is. goes-on laws false put mine mine theirs theirs [] [] (grew-none mine) (grew-none theirs) forth forth (before ++ p ∷ after) (before ++ after) (λ _ u. u) (λ _ _ _ c. record {
      sender = c.sender;
      is_sender = c.is_sender;
      receiver = c.receiver;
      is_receiver = c.is_receiver;
      course = course-so put false false false false c.sender c.receiver _ _ _ _ _ _ _ _ refl (sym (of_id-append put.id before after)) refl refl
          (laws.lost_back put c.sender c.receiver (of_id put.id forth) (of_id put.id before) (of_id put.id after) p.1 _ _
          (course-so put false false false false c.sender c.receiver _ _ _ _ _ _ _ _ refl (lost-own before after p is) refl refl c.course));
    }) s
    | false ↦ λ differs. stays-same laws false put mine mine theirs theirs [] [] (grew-none mine) (grew-none theirs) forth forth (before ++ p ∷ after) (before ++ after) refl refl refl
        (lost-other before after p differs) s
  ] refl

  module _ (put_of : TransactionId → Option Put) (found : put_of put.id ≡ Some put) where
    -- ---- steps of the put's entity
    module _ (mine mine1 theirs : EntityState) (forth back : List Pdu) (order : IsInOrder put_of mine.table) where
      pub mine-called : (c : Request) (id : TransactionId) → IsCalled c id mine mine1 → StaysOnCourse lossless put mine theirs forth back → StaysOnCourse lossless put mine1 theirs forth back
      mine-called c id k = by (place_of id mine.table.records) k.called
        where
          by : (o : Option ℕ) → mine1 ≡ with_table mine (called_in c o mine.table) → StaysOnCourse lossless put mine theirs forth back → StaysOnCourse lossless put mine1 theirs forth back
          by None is = λ s. subst (λ e. StaysOnCourse lossless put e theirs forth back) (sym is) s
          by (Some place) is = mine-at laws lossless put put_of found (calls mine.table.policy.times mine.table.files c) place forth forth back back mine mine1 theirs order
              (ap (λ (e : EntityState). e.table) is) (λ heard n apart. ap (λ (e : EntityState). get_or e.drops n 0) (sym is) ∙ heard n apart) (λ _. (refl, refl)) (λ _ _ _. (refl, refl))
              (λ x i _. sender-called laws lossless put x i.is_sender i.in_file mine.table.policy.times mine.table.files c (of_id put.id forth) (of_id put.id back))

      pub mine-ticks : (now : ℕ) → Ticks now mine.table mine1.table → mine1 ≡ with_table mine mine1.table → StaysOnCourse lossless put mine theirs forth back →
          StaysOnCourse lossless put mine1 theirs forth back
      mine-ticks now t is = ticks-mine laws lossless put put_of found mine theirs forth back now mine1 order t is

      pub mine-sends : (t : TurnSays mine) → mine1 ≡ served Done (turn mine) mine → StaysOnCourse lossless put mine theirs forth back →
          StaysOnCourse lossless put mine1 theirs (forth ++ pdu_of t.entry t.content ∷ []) back
      mine-sends t is =
          let now : mine1 ≡ served Done (Place t.place) mine = is ∙ ap (λ u. served Done u mine) t.is_turn in
          mine-at laws lossless put put_of found (takes Done mine.table.policy.times mine.table.sources mine.table.files) t.place forth
          (forth ++ pdu_of t.entry t.content ∷ []) back back mine mine1 theirs order
          (ap (λ (e : EntityState). e.table) now) (λ heard k apart. ap (λ (e : EntityState). get_or e.drops k 0) (sym now) ∙ heard k apart)
          (λ none. absurd (turn-nowhere put_of mine order t none))
          (λ e at differs. (end-differs put.id forth (pdu_of t.entry t.content) e.0 (turn-content put_of mine order t e.0 e.1 at).1 differs, refl))
          (λ x i at. let c = turn-content put_of mine order t put.id (Sends x) at in
          subst (λ l. SenderGoes lossless put x (takes Done mine.table.policy.times mine.table.sources mine.table.files (Sends x)) (of_id put.id forth) l (of_id put.id back) (of_id put.id back))
          (end-is put.id forth (pdu_of t.entry t.content) c.1)
          (sender-takes laws lossless put x i.is_sender i.in_file mine.table.policy.times mine.table.sources mine.table.files t.content (of_id put.id forth) (of_id put.id back) i.octets c.0))

      -- the outbox failed to give the file data
      pub mine-fails : (place : ℕ) → turn mine ≡ Place place → data_at place mine.table ≡ true → mine1 ≡ served Refused (turn mine) mine → StaysOnCourse lossless put mine theirs forth back →
          StaysOnCourse lossless put mine1 theirs forth back
      mine-fails place is_turn carries is =
          let now : mine1 ≡ served Refused (Place place) mine = is ∙ ap (λ t. served Refused t mine) is_turn in
          mine-at laws lossless put put_of found (takes Refused mine.table.policy.times mine.table.sources mine.table.files) place forth forth back back mine mine1 theirs order
          (ap (λ (e : EntityState). e.table) now) (λ heard k apart. ap (λ (e : EntityState). get_or e.drops k 0) (sym now) ∙ heard k apart) (λ _. (refl, refl)) (λ _ _ _. (refl, refl))
          (λ x i at. sender-fails laws lossless put x i.is_sender i.in_file mine.table.policy.times mine.table.sources mine.table.files (of_id put.id forth) (of_id put.id back)
          (carries-there mine place put.id (Sends x) carries at))

    -- the PDU at the front of its way back is heard, or dropped
    pub mine-hears : (old new : Counted) (theirs : EntityState) (forth back : List Pdu) (p : Pdu) → IsInOrder put_of old.state.table → length old.state.drops ≡ 18 → HeardSo p.0 p.1 old new
        → StaysOnCourse lossless put old.state theirs forth (p ∷ back) → StaysOnCourse lossless put new.state theirs forth back
    mine-hears old new theirs forth back p order kinds = heard-mine laws put put_of found p.0 p.1 old new order kinds theirs forth back lossless

    -- ---- steps of the other entity
    module _ (mine theirs theirs1 : EntityState) (forth back : List Pdu) (order_mine : IsInOrder put_of mine.table) (order : IsInOrder put_of theirs.table) where
      pub theirs-called : (c : Request) (id : TransactionId) → IsCalled c id theirs theirs1 → StaysOnCourse lossless put mine theirs forth back → StaysOnCourse lossless put mine theirs1 forth back
      theirs-called c id k = by (place_of id theirs.table.records) k.called
        where
          by : (o : Option ℕ) → theirs1 ≡ with_table theirs (called_in c o theirs.table) → StaysOnCourse lossless put mine theirs forth back → StaysOnCourse lossless put mine theirs1 forth back
          by None is = λ s. subst (λ e. StaysOnCourse lossless put mine e forth back) (sym is) s
          by (Some place) is = theirs-at laws lossless put put_of found (calls theirs.table.policy.times theirs.table.files c) place forth forth back back mine theirs theirs1 order_mine order
              (ap (λ (e : EntityState). e.table) is) (λ heard n apart. ap (λ (e : EntityState). get_or e.drops n 0) (sym is) ∙ heard n apart) (λ _. (refl, refl)) (λ _ _ _. (refl, refl))
              (λ x r m size is_id _. receiver-called laws lossless put x size r m is_id theirs.table.policy.times theirs.table.files c (of_id put.id forth) (of_id put.id back))

      pub theirs-ticks : (now : ℕ) → Ticks now theirs.table theirs1.table → theirs1 ≡ with_table theirs theirs1.table → StaysOnCourse lossless put mine theirs forth back →
          StaysOnCourse lossless put mine theirs1 forth back
      theirs-ticks now t is = ticks-theirs laws lossless put put_of found mine theirs forth back order_mine now theirs1 order t is

      pub theirs-sends : (t : TurnSays theirs) → theirs1 ≡ served Done (turn theirs) theirs → StaysOnCourse lossless put mine theirs forth back →
          StaysOnCourse lossless put mine theirs1 forth (back ++ pdu_of t.entry t.content ∷ [])
      theirs-sends t is =
          let now : theirs1 ≡ served Done (Place t.place) theirs = is ∙ ap (λ u. served Done u theirs) t.is_turn in
          theirs-at laws lossless put put_of found (takes Done theirs.table.policy.times theirs.table.sources theirs.table.files) t.place forth forth back
          (back ++ pdu_of t.entry t.content ∷ []) mine theirs theirs1 order_mine order
          (ap (λ (e : EntityState). e.table) now) (λ heard k apart. ap (λ (e : EntityState). get_or e.drops k 0) (sym now) ∙ heard k apart)
          (λ none. absurd (turn-nowhere put_of theirs order t none))
          (λ e at differs. (refl, end-differs put.id back (pdu_of t.entry t.content) e.0 (turn-content put_of theirs order t e.0 e.1 at).1 differs))
          (λ x r m size is_id at. let c = turn-content put_of theirs order t put.id (Receives r m) at in
          subst (λ l. ReceiverGoes lossless put x r (takes Done theirs.table.policy.times theirs.table.sources theirs.table.files (Receives r m)) (of_id put.id forth) (of_id put.id forth)
          (of_id put.id back) l) (end-is put.id back (pdu_of t.entry t.content) c.1)
          (receiver-takes laws lossless put x size r m is_id Done theirs.table.policy.times theirs.table.sources theirs.table.files t.content (of_id put.id forth) (of_id put.id back) c.0))

      -- the outbox failed to give the file data
      pub theirs-fails : (place : ℕ) → turn theirs ≡ Place place → data_at place theirs.table ≡ true → theirs1 ≡ served Refused (turn theirs) theirs →
          StaysOnCourse lossless put mine theirs forth back → StaysOnCourse lossless put mine theirs1 forth back
      theirs-fails place is_turn carries is =
          let now : theirs1 ≡ served Refused (Place place) theirs = is ∙ ap (λ t. served Refused t theirs) is_turn in
          theirs-at laws lossless put put_of found (takes Refused theirs.table.policy.times theirs.table.sources theirs.table.files) place forth forth back back mine theirs theirs1 order_mine order
          (ap (λ (e : EntityState). e.table) now) (λ heard k apart. ap (λ (e : EntityState). get_or e.drops k 0) (sym now) ∙ heard k apart) (λ _. (refl, refl)) (λ _ _ _. (refl, refl))
          (λ x r m size is_id at. absurd (carries-there theirs place put.id (Receives r m) carries at))

    -- the PDU at the front of its way is heard, or dropped
    pub theirs-hears : (mine : EntityState) (old new : Counted) (forth back : List Pdu) (p : Pdu) → IsInOrder put_of mine.table → IsInOrder put_of old.state.table → length old.state.drops ≡ 18 →
        HeardSo p.0 p.1 old new
        → StaysOnCourse lossless put mine old.state (p ∷ forth) back → StaysOnCourse lossless put mine new.state forth back
    theirs-hears mine old new forth back p order_mine order kinds = heard-theirs laws put put_of found p.0 p.1 old new order kinds mine order_mine forth back lossless
