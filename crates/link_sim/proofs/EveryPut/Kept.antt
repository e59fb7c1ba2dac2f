-- What is kept of the puts of two entities and of their PDUs on their way, by each step of one of
-- the two.
use Rattle.std.proofs.Common.{◌≡◌, ℕ, Bool, true, false, List, [], ◌∷◌, ◌++◌, length, Option, Some, None, ◌⊎◌, inl, inr, refl, sym, ap, subst, ◌∙◌}
use Rattle.std.specs.Prelude.{IsSome, slice_get, if◌then◌else◌}
use Rattle.cfdp_header.specs.declared.value.TransactionId.{TransactionId}
use Rattle.cfdp_header.specs.Files.{FileMap}
use Rattle.cfdp_header.specs.Ids.{same_id}
use Rattle.cfdp_directives.specs.User.Put.{Put}
use Rattle.cfdp_store.specs.declared.stored.Stored.{Stored}
use Rattle.cfdp_store.specs.declared.stored.Stored.TheVariants.{Done, Refused}
use Rattle.cfdp_entity.specs.declared.request.Request.{Request}
use Rattle.cfdp_entity.specs.declared.config.EntityConfig.{EntityConfig}
use Rattle.cfdp_entity.specs.Requests.{IsCalled}
use Rattle.cfdp_entity.specs.Entity.{EntityState, Counted, with_table}
use Rattle.cfdp_entity.specs.History.{KeepsRecords, Leads}
use Rattle.cfdp_entity.specs.Polling.{Place, turn, turn_octets, served}
use Rattle.cfdp_entity.specs.Putting.{Accepts}
use Rattle.cfdp_entity.specs.Seen.{Seen, Sends, Receives}
use Rattle.cfdp_entity.specs.Sending.{SendsItsPut}
use Rattle.cfdp_entity.specs.Truth.{KnowsTruth}
use Rattle.cfdp_entity.specs.Sound.{IsSound, FindsMore, SpellsTurn, next_put}
use Rattle.cfdp_entity.specs.Table.{Entry, TableState, Ticks, place_of, record_of, data_at}
use Rattle.cfdp_entity.proofs.CallerLemmas.{same_id-true}
use Rattle.cfdp_entity.proofs.Entries.{same_id-itself}
use Rattle.cfdp_entity.proofs.Histories.{no-record}
use Rattle.link_sim.specs.Between.{Pdu, of_id, StaysOnCourse, AreSpelled}
use Rattle.link_sim.specs.Exchange.{AllTrue}
use Rattle.link_sim.specs.Known.{IsDirected, AreKnown, ArePeers, AddsPut}
use Rattle.link_sim.proofs.Course.All.{course-laws}
use Rattle.link_sim.proofs.EveryPut.Heard.{Runs, theirs-run, mine-run}
use Rattle.link_sim.proofs.EveryPut.Steady.{mine-puts, mine-puts-own, theirs-puts, mine-called, theirs-called, mine-ticks, theirs-ticks, mine-sends, theirs-sends, mine-fails, theirs-fails}
use Rattle.link_sim.proofs.EveryPut.Hears.{key-there, no-place}
use Rattle.link_sim.proofs.EveryPut.Steps.{IsInOrder}
use Rattle.link_sim.proofs.EveryPut.Known.{TurnSays, pdu_of, turn-says, puts-known, called-known, ticks-known, sends-known, fails-known, same-known}
use Rattle.link_sim.proofs.EveryPut.Pdus.{InTwo, spelled-append, spelled-split}

-- ---- what is kept
-- Each put of an entity stays on its course: on the course of a link without losses if there were
-- none.
abbrev pub StayBy : (TransactionId → Option Put) → (NoneLost : Type 0) → (mine theirs : EntityState) → (forth back : List Pdu) → Type 0
StayBy put_of NoneLost mine theirs forth back = (put : Put) → put_of put.id ≡ Some put → put.id.source ≡ mine.config.entity
    → (lossless : Bool) → (lossless ≡ true → NoneLost) → StaysOnCourse lossless put mine theirs forth back

-- `texts` are on their way from the first entity, `texts_back` to it.
pub record Kept (put_of : TransactionId → Option Put) (NoneLost : Type 0) (mine theirs : EntityState) (texts texts_back : List (List ℕ)) : Type 0 where
  pub forth : List Pdu
  pub back : List Pdu
  pub spelled : AreSpelled texts forth
  pub spelled_back : AreSpelled texts_back back
  pub known : AreKnown put_of mine theirs forth back
  pub kinds : length mine.drops ≡ 18
  pub kinds_there : length theirs.drops ≡ 18
  pub of_mine : StayBy put_of NoneLost mine theirs forth back
  pub of_theirs : StayBy put_of NoneLost theirs mine back forth

-- if the same puts are found
pub kept-same : (P Q : TransactionId → Option Put) (N : Type 0) (m th : EntityState) (a b : List (List ℕ)) → FindsMore P Q → FindsMore Q P → Kept P N m th a b → Kept Q N m th a b
kept-same P Q N m th a b more fewer c = record {
  forth = c.forth;
  back = c.back;
  spelled = c.spelled;
  spelled_back = c.spelled_back;
  known = same-known P Q m th c.forth c.back more fewer c.known;
  kinds = c.kinds;
  kinds_there = c.kinds_there;
  of_mine = λ put found own lossless none. c.of_mine put (fewer put.id put found) own lossless none;
  of_theirs = λ put found own lossless none. c.of_theirs put (fewer put.id put found) own lossless none;
}

-- if nothing was lost that wasn't
pub kept-losses : (P : TransactionId → Option Put) (N N1 : Type 0) (m th : EntityState) (a b : List (List ℕ)) → (N1 → N) → Kept P N m th a b → Kept P N1 m th a b
kept-losses P N N1 m th a b so c = record {
  forth = c.forth;
  back = c.back;
  spelled = c.spelled;
  spelled_back = c.spelled_back;
  known = c.known;
  kinds = c.kinds;
  kinds_there = c.kinds_there;
  of_mine = λ put found own lossless none. c.of_mine put found own lossless (λ e. so (none e));
  of_theirs = λ put found own lossless none. c.of_theirs put found own lossless (λ e. so (none e));
}

-- an entity's own put was its own before
own-before : (m m1 : EntityState) (put : Put) → m1.config ≡ m.config → put.id.source ≡ m1.config.entity → put.id.source ≡ m.config.entity
own-before m m1 put same own = own ∙ ap (λ (c : EntityConfig). c.entity) same

-- ---- the steps of an entity
module _ (stays : (old new : TableState) → Leads old new → KeepsRecords old.records new.records) (P : TransactionId → Option Put) (N : Type 0) (m m1 th : EntityState) (a b : List (List ℕ))
    (same : m1.config ≡ m.config) (order : IsInOrder P m.table) (order_there : IsInOrder P th.table) (c : Kept P N m th a b) where
  -- a call on a transaction
  pub kept-called : (call : Request) (id : TransactionId) → IsCalled call id m m1 → Kept P N m1 th a b
  kept-called call id h = record {
    forth = c.forth;
    back = c.back;
    spelled = c.spelled;
    spelled_back = c.spelled_back;
    known = called-known stays P m m1 th c.forth c.back call id h c.known;
    kinds = ap (λ (e : EntityState). length e.drops) h.called ∙ c.kinds;
    kinds_there = c.kinds_there;
    of_mine = λ put found own lossless none. mine-called course-laws lossless put P found m m1 th c.forth c.back order call id h (c.of_mine put found (own-before m m1 put same own) lossless none);
    of_theirs = λ put found own lossless none. theirs-called course-laws lossless put P found th m m1 c.back c.forth order_there order call id h (c.of_theirs put found own lossless none);
  }

  -- the time is given
  pub kept-ticked : (now : ℕ) → Ticks now m.table m1.table → m1 ≡ with_table m m1.table → Kept P N m1 th a b
  kept-ticked now t is = record {
    forth = c.forth;
    back = c.back;
    spelled = c.spelled;
    spelled_back = c.spelled_back;
    known = ticks-known stays P m m1 th c.forth c.back now t is c.known;
    kinds = ap (λ (e : EntityState). length e.drops) is ∙ c.kinds;
    kinds_there = c.kinds_there;
    of_mine = λ put found own lossless none. mine-ticks course-laws lossless put P found m m1 th c.forth c.back order now t is (c.of_mine put found (own-before m m1 put same own) lossless none);
    of_theirs = λ put found own lossless none. theirs-ticks course-laws lossless put P found th m m1 c.back c.forth order_there order now t is (c.of_theirs put found own lossless none);
  }

  kinds-served : (stored : Stored) (place : ℕ) → turn m ≡ Place place → m1 ≡ served stored (turn m) m → length m1.drops ≡ 18
  kinds-served stored place is_turn is =
      let now : m1 ≡ served stored (Place place) m = is ∙ ap (λ t. served stored t m) is_turn in
      ap (λ (e : EntityState). length e.drops) now ∙ c.kinds

  -- a PDU is sent, and is the last on its way
  pub kept-sent : (heard : List (List ℕ)) (first : FileMap) → IsSound P heard first m → ArePeers m th → SpellsTurn (turn m) m → m1 ≡ served Done (turn m) m →
      Kept P N m1 th (a ++ turn_octets (turn m) m ∷ []) b
  kept-sent heard first sound peers spells is =
      let t : TurnSays m = turn-says m c.known.0.none_stray spells in
      let p : Pdu = pdu_of t.entry t.content in
      record {
        forth = c.forth ++ p ∷ [];
        back = c.back;
        spelled = spelled-append a (turn_octets (turn m) m ∷ []) c.forth (p ∷ []) c.spelled (t.spells, tt);
        spelled_back = c.spelled_back;
        known = sends-known stays P m m1 th c.forth c.back heard first Done t sound peers is c.known;
        kinds = kinds-served Done t.place t.is_turn is;
        kinds_there = c.kinds_there;
        of_mine = λ put found own lossless none. mine-sends course-laws lossless put P found m m1 th c.forth c.back order t is (c.of_mine put found (own-before m m1 put same own) lossless none);
        of_theirs = λ put found own lossless none. theirs-sends course-laws lossless put P found th m m1 c.back c.forth order_there order t is (c.of_theirs put found own lossless none);
      }

  -- the outbox fails to give the octets of a file
  pub kept-failed : (place : ℕ) → turn m ≡ Place place → data_at place m.table ≡ true → m1 ≡ served Refused (turn m) m → Kept P N m1 th a b
  kept-failed place is_turn carries is = record {
    forth = c.forth;
    back = c.back;
    spelled = c.spelled;
    spelled_back = c.spelled_back;
    known = fails-known stays P m m1 th c.forth c.back Refused is c.known;
    kinds = kinds-served Refused place is_turn is;
    kinds_there = c.kinds_there;
    of_mine = λ put found own lossless none. mine-fails course-laws lossless put P found m m1 th c.forth c.back order place is_turn carries is
        (c.of_mine put found (own-before m m1 put same own) lossless none);
    of_theirs = λ put found own lossless none. theirs-fails course-laws lossless put P found th m m1 c.back c.forth order_there order place is_turn carries is
        (c.of_theirs put found own lossless none);
  }

-- ---- PDUs that are taken from the front of those on their way to the other entity
module _ (P : TransactionId → Option Put) (N : Type 0) (m : EntityState) (old new : Counted) (gone a b : List (List ℕ)) (same : new.state.config ≡ old.state.config) (order : IsInOrder P m.table)
    (c : Kept P N m old.state (gone ++ a) b) where
  -- the first ones, and the rest
  abbrev pub parts : InTwo gone a c.forth
  parts = spelled-split gone a c.forth c.spelled

  pub kept-run : AreKnown P new.state m c.back parts.rest → length new.state.drops ≡ 18 → ((lossless : Bool) → (lossless ≡ true → N) → Runs P lossless parts.first old new) → Kept P N m new.state a b
  kept-run known kinds runs = record {
    forth = parts.rest;
    back = c.back;
    spelled = parts.spelled_rest;
    spelled_back = c.spelled_back;
    known = (known.1, known.0);
    kinds = c.kinds;
    kinds_there = kinds;
    of_mine = λ put found own lossless none. theirs-run course-laws lossless put P found m order parts.first parts.rest c.back old new (runs lossless none)
        (subst (λ l. StaysOnCourse lossless put m old.state l c.back) parts.joined (c.of_mine put found own lossless none));
    of_theirs = λ put found own lossless none. mine-run course-laws lossless put P found m parts.first c.back parts.rest old new (runs lossless none)
        (subst (λ l. StaysOnCourse lossless put old.state m c.back l) parts.joined (c.of_theirs put found (own-before old.state new.state put same own) lossless none));
  }

-- ---- a put
-- the put of a record is found
some-put : (own : ℕ) (P : TransactionId → Option Put) (heard : List (List ℕ)) (sources : FileMap) (id : TransactionId) (s : Seen) → KnowsTruth own P heard id s → SendsItsPut P sources id s →
    IsSome (P id)
some-put own P heard sources id (Sends x) knows sends = subst IsSome (sym sends.is_put) refl
some-put own P heard sources id (Receives r m) knows sends = subst IsSome (sym knows.is_put) refl

-- of a transaction whose put isn't found an entity has no record, and no PDU is on its way
pub none-known : (P : TransactionId → Option Put) (heard : List (List ℕ)) (first : FileMap) (e : EntityState) (id : TransactionId) → IsSound P heard first e → (IsSome (P id) → ⊥) →
    record_of id e.table.records ≡ None
none-known P heard first e id sound none = by (place_of id e.table.records) refl
  where
    there : (place : ℕ) (o : Option Entry) → place_of id e.table.records ≡ Some place → slice_get e.table.records place ≡ o → ⊥
    there place None is at = no-place id e.table.records place is at
    there place (Some d) is at =
        let key : id ≡ d.0 = key-there id e.table.records place d is at in
        none (subst (λ i. IsSome (P i)) (sym key) (some-put e.config.entity P heard e.table.sources d.0 d.1 (sound.knows.knows place d at) (sound.sends.sends place d at)))

    by : (o : Option ℕ) → place_of id e.table.records ≡ o → record_of id e.table.records ≡ None
    by None is = (no-record e.table.records id is).0
    by (Some place) is = absurd (there place (slice_get e.table.records place) is refl)

pub none-on-way : (P : TransactionId → Option Put) (e : EntityState) (id : TransactionId) → (IsSome (P id) → ⊥) → (pdus : List Pdu) → AllTrue (IsDirected P e) pdus → of_id id pdus ≡ []
none-on-way P e id none [] all = refl
none-on-way P e id none (p ∷ pdus) all = elim (same_id id p.0.id) as (λ t. same_id id p.0.id ≡ t → (if t then p.1 ∷ of_id id pdus else of_id id pdus) ≡ []) [
  | true ↦ λ t. absurd (none (subst (λ i. IsSome (P i)) (sym (same_id-true id p.0.id t)) all.0.of_put))
  | false ↦ λ f. none-on-way P e id none pdus all.1
] refl

module _ (P Q : TransactionId → Option Put) (N : Type 0) (source destination : List ℕ) (id : TransactionId) (m m1 th : EntityState) (a b : List (List ℕ)) (accepts : Accepts source destination id m m1)
    (adds : AddsPut id P Q)
    (peers : ArePeers m th) (found : Q id ≡ Some (next_put source destination m)) (fresh : IsSome (P id) → ⊥) (heard : List (List ℕ)) (first : FileMap) (sound : IsSound P heard first th)
    (c : Kept P N m th a b) where
  same-put : (p q : Put) → Some p ≡ Some q → p ≡ q
  same-put p q is = cc

  -- another put was found before
  was-found : (put : Put) → Q put.id ≡ Some put → (put.id ≡ id → ⊥) → P put.id ≡ Some put
  was-found put is differs = by (P put.id) refl (adds.only put.id (subst IsSome (sym is) refl))
    where
      by : (o : Option Put) → P put.id ≡ o → (put.id ≡ id) ⊎ IsSome o → o ≡ Some put
      by o e (inl h) = absurd (differs h)
      by None e (inr h) = absurd cc
      by (Some q) e (inr h) = sym (adds.more put.id q e) ∙ is

  own-id : id.source ≡ m.config.entity
  own-id = ap (λ (i : TransactionId). i.source) accepts.is_next

  mine-put : StayBy Q N m1 th c.forth c.back
  mine-put put is own lossless none = elim (same_id put.id id) as (λ t. same_id put.id id ≡ t → StaysOnCourse lossless put m1 th c.forth c.back) [
    | true ↦ λ t. (let key : put.id ≡ id = same_id-true put.id id t in
        mine-puts-own course-laws lossless put source destination id m m1 th c.forth c.back accepts (same-put put (next_put source destination m) (sym is ∙ ap Q key ∙ found))
        (ap (λ i. record_of i th.table.records) key ∙ none-known P heard first th id sound fresh)
        (ap (λ i. of_id i c.forth) key ∙ none-on-way P th id fresh c.forth c.known.0.directed)
        (ap (λ i. of_id i c.back) key ∙ none-on-way P m id fresh c.back c.known.1.directed))
    | false ↦ λ f. (let apart : put.id ≡ id → ⊥ = λ (e : put.id ≡ id). (let yes : same_id put.id id ≡ true = same_id-itself put.id id e in absurd (let no : true ≡ false = sym yes ∙ f in cc)) in
        mine-puts course-laws lossless put source destination id m m1 th c.forth c.back accepts f
        (c.of_mine put (was-found put is apart) (own-before m m1 put (ap (λ (e : EntityState). e.config) accepts.opened) own) lossless none))
  ] refl

  their-put : StayBy Q N th m1 c.back c.forth
  their-put put is own lossless none =
      let apart : put.id.source ≡ m.config.entity → ⊥ = λ (e : put.id.source ≡ m.config.entity). peers.apart (sym e ∙ own) in
      theirs-puts course-laws lossless put source destination id th m m1 c.back c.forth accepts apart
      (c.of_theirs put (was-found put is (λ e. apart (ap (λ (i : TransactionId). i.source) e ∙ own-id))) own lossless none)

  pub kept-put : Kept Q N m1 th a b
  kept-put = record {
    forth = c.forth;
    back = c.back;
    spelled = c.spelled;
    spelled_back = c.spelled_back;
    known = puts-known P Q source destination id m m1 th c.forth c.back accepts adds peers c.known;
    kinds = ap (λ (e : EntityState). length e.drops) accepts.opened ∙ c.kinds;
    kinds_there = c.kinds_there;
    of_mine = mine-put;
    of_theirs = their-put;
  }
