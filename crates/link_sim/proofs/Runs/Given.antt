-- The run of its own that a put makes if one of the two entities hears PDUs in turn, or sends one,
-- and nothing is short.
use Rattle.std.proofs.Common.{◌≡◌, ℕ, suc, ◌<◌, List, [], ◌∷◌, ◌++◌, length, Option, Some, refl, sym, ap, subst, ◌∙◌, arith}
use Rattle.std.specs.Prelude.{Contains, slice_get}
use Rattle.cfdp_header.specs.declared.value.TransactionId.{TransactionId}
use Rattle.cfdp_header.specs.Files.{FileMap}
use Rattle.cfdp_directives.specs.User.Put.{Put}
use Rattle.cfdp_store.specs.declared.stored.Stored.TheVariants.{Done}
use Rattle.cfdp_receiver.specs.Sound.{IsReceivable}
use Rattle.cfdp_entity.specs.Entity.{EntityState, Counted}
use Rattle.cfdp_entity.specs.History.{Leads, KeepsRecords}
use Rattle.cfdp_entity.specs.Polling.{Place, turn, served}
use Rattle.cfdp_entity.specs.Seen.{Seen, Sends, Receives, due_content}
use Rattle.cfdp_entity.specs.Sound.{IsSound as IsSoundEntity, FindsById, ComesTrue}
use Rattle.cfdp_entity.specs.Steps.{takes}
use Rattle.cfdp_entity.specs.Table.{Entry, TableState, step_of, stepped}
use Rattle.cfdp_entity.specs.Truth.{IsTrueOf}
use Rattle.cfdp_station.specs.Taking.{HearsAll}
use Rattle.link_sim.specs.Between.{Pdu, of_id, AreSpelled}
use Rattle.link_sim.specs.Known.{AreKnown}
use Rattle.link_sim.proofs.Clean.Given.{one-sound, one-goes, so, known-next}
use Rattle.link_sim.proofs.Clean.Hears.{HearingLaws, flag-allows, forth-away}
use Rattle.link_sim.proofs.Clean.Puts.{true-of}
use Rattle.link_sim.proofs.EveryPut.Steady.{end-differs, end-is}
use Rattle.link_sim.proofs.EveryPut.Steps.{IsInOrder, SendsIt, sends-it, in-order}
use Rattle.link_sim.proofs.EveryPut.Known.{TurnSays, pdu_of}
use Rattle.link_sim.proofs.EveryPut.Routes.{HeardSo}
use Rattle.link_sim.proofs.Events.Moving.{EntityLaws}
use Rattle.link_sim.proofs.Runs.Hears.{Shorter, Spared, shorter-both, spared-first, spared-rest, heard-shorter, heard-mine, heard-theirs}
use Rattle.link_sim.proofs.Runs.Places.{Goes, SenderTo, MineTo, ReceiverTo, TheirsTo, goes-none, goes-both, mine-steps, theirs-steps}
use Rattle.link_sim.proofs.Runs.Records.{sender-takes, receiver-takes}

-- ---- PDUs that are heard in turn
module _ (laws : EntityLaws) (hearing : HearingLaws) (stays : (old new : TableState) → Leads old new → KeepsRecords old.records new.records) where
  module _ (put_of : TransactionId → Option Put) (by_id : FindsById put_of) (heard : List (List ℕ)) (first : FileMap) (theirs : EntityState) (forth : List Pdu) where
    all-shorter : (texts : List (List ℕ)) (pdus rest : List Pdu) (old new : Counted) → AreSpelled texts pdus → HearsAll texts old new → AreKnown put_of old.state theirs forth (pdus ++ rest) →
        length old.state.drops ≡ 18 → Shorter old new
    all-shorter [] [] rest old new s h k kinds = subst (λ (c : Counted). Shorter old c) (sym h) (record { memory = omega arith; table = omega arith; inbox = omega arith; kinds = refl })
    all-shorter [] (p ∷ pdus) rest old new s h k kinds = absurd s
    all-shorter (t ∷ texts) [] rest old new s h k kinds = absurd s
    all-shorter (t ∷ texts) (p ∷ pdus) rest old new s (mid, here, behind) k kinds =
        let said : HeardSo p.0 p.1 old mid = so laws hearing stays put_of by_id heard first theirs forth p (pdus ++ rest) t old mid (s.0, tt) here k in
        let one : Shorter old mid = heard-shorter p.0 p.1 old mid kinds said in
        shorter-both old mid new one (all-shorter texts pdus rest mid new s.1 behind (known-next laws hearing stays put_of by_id heard first theirs forth p (pdus ++ rest) t old mid (s.0, tt) here k)
        (one.kinds ∙ kinds))

    -- What they come to: of the puts of the entity that hears them, and of the puts of the other
    -- one.
    pub record AllRun (pdus rest : List Pdu) (old new : Counted) : Type 0 where
      pub known : AreKnown put_of new.state theirs forth rest
      pub mine : (put : Put) → put_of put.id ≡ Some put → Goes put old.state theirs forth (pdus ++ rest) new.state theirs forth rest
      pub theirs_too : (put : Put) → put_of put.id ≡ Some put → IsReceivable put → Goes put theirs old.state (pdus ++ rest) forth theirs new.state rest forth

    pub all-run : (texts : List (List ℕ)) (pdus rest : List Pdu) (old new : Counted) → AreSpelled texts pdus → HearsAll texts old new → AreKnown put_of old.state theirs forth (pdus ++ rest) →
        ((x : List ℕ) → Contains texts x → ComesTrue old.state.config.peer put_of heard x) → IsSoundEntity put_of heard first old.state → length old.state.drops ≡ 18 → Spared old new →
        AllRun pdus rest old new
    all-run [] [] rest old new s h k comes sound kinds spared =
        subst (λ (c : Counted). AllRun [] rest old c) (sym h)
        (record { known = k; mine = λ put found. goes-none put old.state theirs forth rest; theirs_too = λ put found fits. goes-none put theirs old.state rest forth })
    all-run [] (p ∷ pdus) rest old new s h k comes sound kinds spared = absurd s
    all-run (t ∷ texts) [] rest old new s h k comes sound kinds spared = absurd s
    all-run (t ∷ texts) (p ∷ pdus) rest old new s (mid, here, behind) k comes sound kinds spared =
        let said : HeardSo p.0 p.1 old mid = so laws hearing stays put_of by_id heard first theirs forth p (pdus ++ rest) t old mid (s.0, tt) here k in
        let known : AreKnown put_of mid.state theirs forth (pdus ++ rest) = known-next laws hearing stays put_of by_id heard first theirs forth p (pdus ++ rest) t old mid (s.0, tt) here k in
        let one : Shorter old mid = heard-shorter p.0 p.1 old mid kinds said in
        let kinds_then : length mid.state.drops ≡ 18 = one.kinds ∙ kinds in
        let more : Shorter mid new = all-shorter texts pdus rest mid new s.1 behind known kinds_then in
        let spared_now : Spared old mid = spared-first old mid new one more spared in
        let spared_then : Spared mid new = spared-rest old mid new one more spared in
        let order : IsInOrder put_of old.state.table = in-order put_of heard first old.state sound in
        let come : ComesTrue old.state.config.peer put_of heard t = comes t (0, omega arith, refl) in
        let truth : IsTrueOf put_of heard p.0.id p.1 = true-of put_of heard by_id old.state.config.peer t come.among p.0 p.1 s.0 (come.says p.0 p.1 s.0) in
        let peer : mid.state.config.peer ≡ old.state.config.peer = ap (λ c. c.peer) (one-goes laws hearing stays put_of by_id heard first theirs forth t old mid here).config in
        let then : AllRun pdus rest mid new = all-run texts pdus rest mid new s.1 behind known
        (λ x c. subst (λ (n : ℕ). ComesTrue n put_of heard x) (sym peer) (comes x (suc c.0, (let n = c.0 in let within : n < length texts = c.1 in omega arith), c.2)))
        (one-sound laws hearing stays put_of by_id heard first theirs forth t old mid here come sound) kinds_then spared_then in
        record {
          known = then.known;
          mine = λ put found. goes-both put old.state theirs forth (p ∷ (pdus ++ rest)) mid.state theirs forth (pdus ++ rest) new.state theirs forth rest
              (heard-mine put put_of found p.0 p.1 old mid order kinds spared_now theirs forth (pdus ++ rest) said) (then.mine put found);
          theirs_too = λ put found fits. goes-both put theirs old.state (p ∷ (pdus ++ rest)) forth theirs mid.state (pdus ++ rest) forth theirs new.state rest forth
              (heard-theirs put put_of found p.0 p.1 old mid order kinds spared_now hearing fits
              (λ key t. flag-allows p.0.large (length put.octets) (k.1.directed.0.flag (forth-away put p.1 t) put (ap put_of key ∙ found)) fits.size)
              heard truth old.state.config.entity sound.knows.knows theirs (pdus ++ rest) forth said)
              (then.theirs_too put found fits);
        }

-- ---- a PDU that is sent
module _ (put : Put) (put_of : TransactionId → Option Put) (found : put_of put.id ≡ Some put) (e e1 : EntityState) (order : IsInOrder put_of e.table) (t : TurnSays e)
    (is : e1 ≡ served Done (turn e) e) where
  abbrev p : Pdu
  p = pdu_of t.entry t.content

  abbrev st : TableState
  st = e.table

  key-is : p.0.id ≡ t.entry.0
  key-is = (order.own t.place t.entry t.at).0

  table-is : e1.table ≡ stepped t.place t.entry.0 (takes Done st.policy.times st.sources st.files t.entry.1) st
  table-is =
      let now : e1 ≡ served Done (Place t.place) e = is ∙ ap (λ u. served Done u e) t.is_turn in
      ap (λ (x : EntityState). x.table) now ∙ ap (λ (o : Option Entry). step_of (λ d. takes Done st.policy.times st.sources st.files d.1) t.place o st) t.at

  module _ (theirs : EntityState) (forth back : List Pdu) where
    mine-to : (s : Seen) → slice_get st.records t.place ≡ Some (put.id, s) → due_content st.sources s ≡ Some t.content → p.0.id ≡ put.id
        → MineTo put s (takes Done st.policy.times st.sources st.files s) (of_id put.id forth) (of_id put.id (forth ++ p ∷ [])) (of_id put.id back) (of_id put.id back)
    mine-to (Receives r m) at due key = tt
    mine-to (Sends x) at due key =
        let i : SendsIt put st.sources x = sends-it put put_of found st.sources put.id x refl (order.own t.place (put.id, Sends x) at).1 in
        subst (λ l. SenderTo put x (takes Done st.policy.times st.sources st.files (Sends x)) (of_id put.id forth) l (of_id put.id back) (of_id put.id back)) (end-is put.id forth p key)
        (sender-takes put x (record { is_sender = i.is_sender; in_file = i.in_file }) st.policy.times st.sources st.files t.content (of_id put.id forth) (of_id put.id back) i.octets due)

    -- by the put's entity
    pub mine-sends : Goes put e theirs forth back e1 theirs (forth ++ p ∷ []) back
    mine-sends = mine-steps put e e1 theirs forth (forth ++ p ∷ []) back back t.place t.entry (takes Done st.policy.times st.sources st.files t.entry.1) order.distinct t.at
        (ap (λ (x : TableState). x.records) table-is) (ap (λ (x : TableState). x.told) table-is) (λ differs. end-differs put.id forth p t.entry.0 key-is differs) (λ _. refl)
        (λ same. mine-to t.entry.1 (t.at ∙ ap (λ i. Some (i, t.entry.1)) (sym same)) t.due (key-is ∙ sym same))

  module _ (mine : EntityState) (forth back : List Pdu) where
    theirs-to : (s : Seen) → slice_get st.records t.place ≡ Some (put.id, s) → due_content st.sources s ≡ Some t.content → p.0.id ≡ put.id
        → TheirsTo put s (takes Done st.policy.times st.sources st.files s) (of_id put.id forth) (of_id put.id forth) (of_id put.id back) (of_id put.id (back ++ p ∷ []))
    theirs-to (Sends x) at due key = tt
    theirs-to (Receives r m) at due key =
        subst (λ l. ReceiverTo put r (takes Done st.policy.times st.sources st.files (Receives r m)) (of_id put.id forth) (of_id put.id forth) (of_id put.id back) l) (end-is put.id back p key)
        (receiver-takes put r m (order.own t.place (put.id, Receives r m) at).0 Done st.policy.times st.sources st.files t.content (of_id put.id forth) (of_id put.id back) due)

    -- by the other one
    pub theirs-sends : Goes put mine e forth back mine e1 forth (back ++ p ∷ [])
    theirs-sends = theirs-steps put mine e e1 forth forth back (back ++ p ∷ []) t.place t.entry (takes Done st.policy.times st.sources st.files t.entry.1) order.distinct t.at
        (ap (λ (x : TableState). x.records) table-is) (ap (λ (x : TableState). x.told) table-is) (λ _. refl) (λ differs. end-differs put.id back p t.entry.0 key-is differs)
        (λ same. theirs-to t.entry.1 (t.at ∙ ap (λ i. Some (i, t.entry.1)) (sym same)) t.due (key-is ∙ sym same))
