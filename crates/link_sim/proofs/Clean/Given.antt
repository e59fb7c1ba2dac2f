-- What entities serve and hear in turn, if nothing goes wrong.
use Rattle.std.proofs.Common.{◌≡◌, ℕ, suc, ◌-◌, ◌^◌, ◌<◌, ◌≤◌, List, [], ◌∷◌, ◌++◌, length, slice_get, Option, Some, None, inl, inr, refl, sym, ap, subst, ◌∙◌, arith}
use Rattle.std.specs.Prelude.{Contains}
use Rattle.cfdp_header.specs.declared.value.TransactionId.{TransactionId}
use Rattle.cfdp_header.specs.Files.{FileMap}
use Rattle.cfdp_directives.specs.declared.user.limits.Times.{Times}
use Rattle.cfdp_directives.specs.User.Put.{Put}
use Rattle.cfdp_store.specs.declared.stored.Stored.TheVariants.{Done}
use Rattle.cfdp_store.specs.Staged.{OctetMap}
use Rattle.cfdp_store.specs.Files.{octets_in}
use Rattle.cfdp_sender.specs.declared.due.SenderDue.{SenderDue}
use Rattle.cfdp_sender.specs.Due.{sender_due}
use Rattle.cfdp_sender.specs.State.{SenderState}
use Rattle.cfdp_receiver.specs.declared.due.Due.{Due}
use Rattle.cfdp_receiver.specs.Due.{receiver_due}
use Rattle.cfdp_receiver.specs.State.{ReceiverState}
use Rattle.cfdp_entity.specs.Entity.{EntityState, Counted}
use Rattle.cfdp_entity.specs.History.{Leads, KeepsRecords}
use Rattle.cfdp_entity.specs.Polling.{Turn, Stray, Place, Rests, served}
use Rattle.cfdp_entity.specs.Seen.{Seen, Sends, Receives}
use Rattle.cfdp_entity.specs.Sound.{IsSound as IsSoundEntity, FindsById, ComesTrue, GoesOn}
use Rattle.cfdp_entity.specs.Steps.{takes, sender_takes, receiver_takes}
use Rattle.cfdp_entity.specs.Table.{Entry, TableState}
use Rattle.cfdp_station.specs.Taking.{HearsPdu, HearsAll}
use Rattle.link_sim.specs.Between.{Pdu, AreSpelled}
use Rattle.link_sim.specs.Exchange.{AllTrue}
use Rattle.link_sim.specs.Known.{AreKnown}
use Rattle.link_sim.proofs.Clean.Hears.{IsKept, StaysClean, IsCleanTable, HearingLaws, IsFine, HearsClean, not-cancelling, uncancelling, kept-at, step-clean, heard-clean, heard-grows}
use Rattle.link_sim.proofs.EveryPut.Known.{hears-known}
use Rattle.link_sim.proofs.EveryPut.Pdus.{hears-one}
use Rattle.link_sim.proofs.EveryPut.Routes.{HeardSo, heard-so}
use Rattle.link_sim.proofs.Events.Moving.{EntityLaws}
use Rattle.link_sim.proofs.Clean.WellHeard.{GoesWell, sends-well}

-- ---- what is sent
module _ (times : Times) (files : FileMap) where
  sender-clean : (file : List ℕ) (x : SenderState) (o : Option SenderDue) → IsKept (Sends x) → StaysClean (sender_takes Done times files file x o)
  sender-clean file x None kept = record { told = refl; kept = kept }
  sender-clean file x (Some d) kept =
      let w : GoesWell _ = sends-well file x d (not-cancelling x.phase (kept x.addressing.id)) in
      record { told = w.told; kept = λ id. uncancelling _ w.uncancelled }

  receiver-clean : (r : ReceiverState) (m : OctetMap) (o : Option Due) → StaysClean (receiver_takes times files r m o)
  receiver-clean r m None = record { told = refl; kept = λ id. refl }
  receiver-clean r m (Some d) = record { told = refl; kept = λ id. refl }

  takes-clean : (sources : FileMap) (s : Seen) → IsKept s → StaysClean (takes Done times sources files s)
  takes-clean sources (Sends x) kept = sender-clean (octets_in sources x.source) x (sender_due x) kept
  takes-clean sources (Receives r m) kept = receiver-clean r m (receiver_due r)

pub served-clean : (t : Turn) (e : EntityState) → IsCleanTable e.table → IsCleanTable (served Done t e).table
served-clean (Stray s strays) e k = k
served-clean (Place place) e k =
    let st : TableState = e.table in
    step-clean (λ (d : Entry). takes Done st.policy.times st.sources st.files d.1) place st (slice_get st.records place)
    (λ d at. takes-clean st.policy.times st.files st.sources d.1 (kept-at st.records place d k.kept at)) k
served-clean Rests e k = k

pub served-drops : (t : Turn) (e : EntityState) → (served Done t e).drops ≡ e.drops
served-drops (Stray s strays) e = refl
served-drops (Place place) e = refl
served-drops Rests e = refl

-- ---- what is heard
module _ (laws : EntityLaws) (hearing : HearingLaws) (stays : (old new : TableState) → Leads old new → KeepsRecords old.records new.records) where
  module _ (put_of : TransactionId → Option Put) (by_id : FindsById put_of) (heard : List (List ℕ)) (first : FileMap) (theirs : EntityState) (forth : List Pdu) where
    pub one-sound : (text : List ℕ) (old new : Counted) → HearsPdu text old new → ComesTrue old.state.config.peer put_of heard text → IsSoundEntity put_of heard first old.state →
        IsSoundEntity put_of heard first new.state
    one-sound text old new (inl h) t k = laws.heard put_of heard first text old new by_id t h k
    one-sound text old new (inr d) t k = laws.dropped put_of heard first text d.0 old new d.1 k

    pub one-goes : (text : List ℕ) (old new : Counted) → HearsPdu text old new → GoesOn old.state new.state
    one-goes text old new (inl h) = laws.heard_on text old new h
    one-goes text old new (inr d) = laws.dropped_on text d.0 old new d.1

    pub so : (p : Pdu) (rest : List Pdu) (text : List ℕ) (old new : Counted) → AreSpelled (text ∷ []) (p ∷ []) → HearsPdu text old new → AreKnown put_of old.state theirs forth (p ∷ rest) →
        HeardSo p.0 p.1 old new
    so p rest text old new s h k = heard-so put_of theirs forth p.0 p.1 old new k.0 k.1.directed.0 (hears-one p.0 p.1 text s.0 old new h)

    pub known-next : (p : Pdu) (rest : List Pdu) (text : List ℕ) (old new : Counted) → AreSpelled (text ∷ []) (p ∷ []) → HearsPdu text old new → AreKnown put_of old.state theirs forth (p ∷ rest) →
        AreKnown put_of new.state theirs forth rest
    known-next p rest text old new s h k = hears-known stays put_of theirs forth rest p.0 p.1 old new (hears-one p.0 p.1 text s.0 old new h) k

    pub all-grow : (texts : List (List ℕ)) (pdus rest : List Pdu) (old new : Counted) → AreSpelled texts pdus → HearsAll texts old new → AreKnown put_of old.state theirs forth (pdus ++ rest) →
        old.inbox_failures ≤ new.inbox_failures
    all-grow [] [] rest old new s h k = let same : new.inbox_failures ≡ old.inbox_failures = ap (λ (c : Counted). c.inbox_failures) h in omega (arith, same)
    all-grow [] (p ∷ pdus) rest old new s h k = absurd s
    all-grow (t ∷ texts) [] rest old new s h k = absurd s
    all-grow (t ∷ texts) (p ∷ pdus) rest old new s (mid, here, behind) k =
        let one : old.inbox_failures ≤ mid.inbox_failures = heard-grows p.0 p.1 old mid (so p (pdus ++ rest) t old mid (s.0, tt) here k) in
        let more : mid.inbox_failures ≤ new.inbox_failures = all-grow texts pdus rest mid new s.1 behind (known-next p (pdus ++ rest) t old mid (s.0, tt) here k) in
        omega (arith, one, more)

    -- these PDUs are heard, in turn
    pub all-clean : (texts : List (List ℕ)) (pdus rest : List Pdu) (old new : Counted) → AreSpelled texts pdus → HearsAll texts old new → AreKnown put_of old.state theirs forth (pdus ++ rest) →
        AllTrue (IsFine put_of heard) pdus → ((x : List ℕ) → Contains texts x → ComesTrue old.state.config.peer put_of heard x) → IsSoundEntity put_of heard first old.state →
        new.inbox_failures ≡ old.inbox_failures → old.inbox_failures < 2 ^ 64 - 1 → IsCleanTable old.state.table → HearsClean old.state new.state
    all-clean [] [] rest old new s h k fine comes sound same low clean =
        subst (λ (c : Counted). HearsClean old.state c.state) (sym h) (record { table = clean; drops = λ n a b c. refl })
    all-clean [] (p ∷ pdus) rest old new s h k fine comes sound same low clean = absurd s
    all-clean (t ∷ texts) [] rest old new s h k fine comes sound same low clean = absurd s
    all-clean (t ∷ texts) (p ∷ pdus) rest old new s (mid, here, behind) k fine comes sound same low clean =
        let said : HeardSo p.0 p.1 old mid = so p (pdus ++ rest) t old mid (s.0, tt) here k in
        let known : AreKnown put_of mid.state theirs forth (pdus ++ rest) = known-next p (pdus ++ rest) t old mid (s.0, tt) here k in
        let one : old.inbox_failures ≤ mid.inbox_failures = heard-grows p.0 p.1 old mid said in
        let more : mid.inbox_failures ≤ new.inbox_failures = all-grow texts pdus rest mid new s.1 behind known in
        let level : mid.inbox_failures ≡ old.inbox_failures = omega (arith, one, more, same) in
        let level_then : new.inbox_failures ≡ mid.inbox_failures = omega (arith, one, more, same) in
        let low_then : mid.inbox_failures < 2 ^ 64 - 1 = subst (λ n. n < 2 ^ 64 - 1) (sym level) low in
        let g : GoesOn old.state mid.state = one-goes t old mid here in
        let peer : mid.state.config.peer ≡ old.state.config.peer = ap (λ c. c.peer) g.config in
        let now : HearsClean old.state mid.state = heard-clean hearing put_of heard first old.state.config.entity p fine.0 old mid sound.knows level low clean said in
        let then : HearsClean mid.state new.state = all-clean texts pdus rest mid new s.1 behind known fine.1
        (λ x c. subst (λ (n : ℕ). ComesTrue n put_of heard x) (sym peer) (comes x (suc c.0, (let n = c.0 in let within : n < length texts = c.1 in omega arith), c.2)))
        (one-sound t old mid here (comes t (0, omega arith, refl)) sound) level_then low_then now.table in
        record { table = then.table; drops = λ n a b c. then.drops n a b c ∙ now.drops n a b c }
