-- PDUs that were the first on their way to an entity: each is heard, or lost if that may be, and
-- each put stays on its course.
use Rattle.std.proofs.Common.{◌≡◌, ℕ, suc, ◌<◌, Bool, false, List, [], ◌∷◌, ◌++◌, length, Option, ◌⊎◌, inl, inr, refl, sym, ap, subst, ◌∙◌, arith}
use Rattle.std.specs.Prelude.{Contains, get_or, Some}
use Rattle.std.proofs.lemmas.List.{length-set}
use Rattle.mpdu.specs.Parts.{IsPartOf}
use Rattle.mpdu.proofs.Parts.{part-none}
use Rattle.cfdp_header.specs.declared.value.Header.{Header}
use Rattle.cfdp_header.specs.declared.value.TransactionId.{TransactionId}
use Rattle.cfdp_header.specs.Files.{FileMap}
use Rattle.cfdp_directives.specs.Pdu.Content.{Content}
use Rattle.cfdp_directives.specs.User.Put.{Put}
use Rattle.cfd_bits.specs.Counting.{raised}
use Rattle.cfdp_entity.specs.Entity.{EntityState, Counted, counted}
use Rattle.cfdp_entity.specs.Errors.{drop_number}
use Rattle.cfdp_entity.specs.declared.error.EntityDrop.{EntityDrop}
use Rattle.cfdp_entity.specs.declared.error.EntityDrop.TheVariants.{NoMemory}
use Rattle.cfdp_entity.specs.History.{KeepsRecords, Leads}
use Rattle.cfdp_entity.specs.Sound.{IsSound as IsSoundEntity, FindsById, ComesTrue, GoesOn}
use Rattle.cfdp_entity.specs.Table.{TableState}
use Rattle.cfdp_station.specs.Taking.{HearsPdu, HearsAll}
use Rattle.link_sim.specs.Between.{Pdu, StaysOnCourse, AreSpelled}
use Rattle.link_sim.specs.Known.{AreKnown}
use Rattle.link_sim.proofs.Course.Laws.{CourseLaws}
use Rattle.link_sim.proofs.EveryPut.Steady.{mine-hears, theirs-hears, forth-lost, back-lost}
use Rattle.link_sim.proofs.EveryPut.Steps.{IsInOrder, in-order}
use Rattle.link_sim.proofs.EveryPut.Known.{hears-known, lost-known}
use Rattle.link_sim.proofs.EveryPut.Pdus.{HearsOne, hears-one}
use Rattle.link_sim.proofs.EveryPut.Routes.{HeardSo, heard-so}
use Rattle.link_sim.proofs.Events.Moving.{EntityLaws}

-- ---- the counts of drops are as many as they were
kinds-dropped : (by : EntityDrop) (drops : List ℕ) (n : ℕ) → length drops ≡ n → length (counted by drops) ≡ n
kinds-dropped by drops n is = length-set drops (drop_number by) (raised (get_or drops (drop_number by) 0)) ∙ is

pub kinds-so : (h : Header) (v : Content) (old new : Counted) → HeardSo h v old new → length new.state.drops ≡ length old.state.drops
kinds-so h v old new (inl s) = ap (λ (e : EntityState). length e.drops) s.steps.steps
kinds-so h v old new (inr (inl o)) = ap (λ (e : EntityState). length e.drops) o.opens.opens
kinds-so h v old new (inr (inr (inl x))) = ap (λ (e : EntityState). length e.drops) x.is ∙ kinds-dropped x.by old.state.drops (length old.state.drops) refl
kinds-so h v old new (inr (inr (inr s))) = ap (λ (e : EntityState). length e.drops) s.finds.counted ∙ kinds-dropped NoMemory old.state.drops (length old.state.drops) refl

-- ---- one by one
-- Each of these PDUs in turn was heard, or lost if that may be, and nothing else happened.
abbrev pub Runs : (TransactionId → Option Put) → (lossless : Bool) → List Pdu → (old new : Counted) → Type 0
Runs put_of lossless [] old new = new ≡ old
Runs put_of lossless (p ∷ pdus) old new =
    ((mid : Counted) × HeardSo p.0 p.1 old mid × IsInOrder put_of old.state.table × (length old.state.drops ≡ 18) × Runs put_of lossless pdus mid new)
    ⊎ ((lossless ≡ false) × Runs put_of lossless pdus old new)

module _ (laws : CourseLaws) (lossless : Bool) (put : Put) (put_of : TransactionId → Option Put) (found : put_of put.id ≡ Some put) where
  -- a put of the other entity
  pub theirs-run : (mine : EntityState) → IsInOrder put_of mine.table → (pdus forth back : List Pdu) (old new : Counted) → Runs put_of lossless pdus old new
      → StaysOnCourse lossless put mine old.state (pdus ++ forth) back → StaysOnCourse lossless put mine new.state forth back
  theirs-run mine order [] forth back old new r s = subst (λ (c : Counted). StaysOnCourse lossless put mine c.state forth back) (sym r) s
  theirs-run mine order (p ∷ pdus) forth back old new (inl h) s =
      theirs-run mine order pdus forth back h.0 new h.4 (theirs-hears laws lossless put put_of found mine old h.0 (pdus ++ forth) back p order h.2 h.3 h.1 s)
  theirs-run mine order (p ∷ pdus) forth back old new (inr l) s =
      let lost : StaysOnCourse lossless put mine old.state (p ∷ (pdus ++ forth)) back → StaysOnCourse lossless put mine old.state (pdus ++ forth) back =
      subst (λ b. StaysOnCourse b put mine old.state (p ∷ (pdus ++ forth)) back → StaysOnCourse b put mine old.state (pdus ++ forth) back) (sym l.0)
      (forth-lost laws lossless put mine old.state [] (pdus ++ forth) back p) in
      theirs-run mine order pdus forth back old new l.1 (lost s)

  -- a put of the entity that hears them
  pub mine-run : (theirs : EntityState) (pdus forth back : List Pdu) (old new : Counted) → Runs put_of lossless pdus old new
      → StaysOnCourse lossless put old.state theirs forth (pdus ++ back) → StaysOnCourse lossless put new.state theirs forth back
  mine-run theirs [] forth back old new r s = subst (λ (c : Counted). StaysOnCourse lossless put c.state theirs forth back) (sym r) s
  mine-run theirs (p ∷ pdus) forth back old new (inl h) s =
      mine-run theirs pdus forth back h.0 new h.4 (mine-hears laws lossless put put_of found old h.0 theirs forth (pdus ++ back) p h.2 h.3 h.1 s)
  mine-run theirs (p ∷ pdus) forth back old new (inr l) s =
      let lost : StaysOnCourse lossless put old.state theirs forth (p ∷ (pdus ++ back)) → StaysOnCourse lossless put old.state theirs forth (pdus ++ back) =
      subst (λ b. StaysOnCourse b put old.state theirs forth (p ∷ (pdus ++ back)) → StaysOnCourse b put old.state theirs forth (pdus ++ back)) (sym l.0)
      (back-lost laws lossless put old.state theirs forth [] (pdus ++ back) p) in
      mine-run theirs pdus forth back old new l.1 (lost s)

-- if all are lost
pub lost-run : (put_of : TransactionId → Option Put) (pdus : List Pdu) (c : Counted) → Runs put_of false pdus c c
lost-run put_of [] c = refl
lost-run put_of (p ∷ pdus) c = inr (refl, lost-run put_of pdus c)

-- ---- what was given of the texts that ended
-- All of them, or some if the others may be lost.
abbrev pub Given : Bool → (given ended : List (List ℕ)) → Type 0
Given lossless given [] = given ≡ []
Given lossless given (t ∷ ended) = ((rest : List (List ℕ)) × (given ≡ t ∷ rest) × Given lossless rest ended) ⊎ ((lossless ≡ false) × Given lossless given ended)

pub given-all : (lossless : Bool) (ended : List (List ℕ)) → Given lossless ended ended
given-all lossless [] = refl
given-all lossless (t ∷ ended) = inl (ended, refl, given-all lossless ended)

pub given-part : (given ended : List (List ℕ)) → IsPartOf given ended → Given false given ended
given-part given [] part = part
given-part [] (t ∷ ended) part = inr (refl, given-part [] ended (part-none ended))
given-part (g ∷ given) (t ∷ ended) (inl part) = inl (given, ap (λ x. x ∷ given) part.0, given-part given ended part.1)
given-part (g ∷ given) (t ∷ ended) (inr part) = inr (refl, given-part (g ∷ given) ended part)

-- ---- they are heard
module _ (laws : EntityLaws) (stays : (old new : TableState) → Leads old new → KeepsRecords old.records new.records)
    (put_of : TransactionId → Option Put) (ids : FindsById put_of) (heard : List (List ℕ)) (first : FileMap) (theirs : EntityState) (forth : List Pdu) (lossless : Bool) where
  one-sound : (text : List ℕ) (a b : Counted) → HearsPdu text a b → ComesTrue a.state.config.peer put_of heard text → IsSoundEntity put_of heard first a.state →
      IsSoundEntity put_of heard first b.state
  one-sound text a b (inl h) t k = laws.heard put_of heard first text a b ids t h k
  one-sound text a b (inr d) t k = laws.dropped put_of heard first text d.0 a b d.1 k

  one-goes : (text : List ℕ) (a b : Counted) → HearsPdu text a b → GoesOn a.state b.state
  one-goes text a b (inl h) = laws.heard_on text a b h
  one-goes text a b (inr d) = laws.dropped_on text d.0 a b d.1

  -- all of these come true
  abbrev pub AllCome : List (List ℕ) → ℕ → Type 0
  AllCome given peer = (x : List ℕ) → Contains given x → ComesTrue peer put_of heard x

  come-behind : (t : List ℕ) (rest : List (List ℕ)) (peer : ℕ) → AllCome (t ∷ rest) peer → AllCome rest peer
  come-behind t rest peer all x c = all x (suc c.0, (let n = c.0 in let low : n < length rest = c.1 in omega arith), c.2)

  -- What they come to.
  pub record Ran (pdus back : List Pdu) (old new : Counted) : Type 0 where
    pub runs : Runs put_of lossless pdus old new
    pub known : AreKnown put_of new.state theirs forth back
    pub kinds : length new.state.drops ≡ 18

  pub run : (ended given : List (List ℕ)) (pdus back : List Pdu) (old new : Counted) → Given lossless given ended → AreSpelled ended pdus → HearsAll given old new →
      AllCome given old.state.config.peer →
      IsSoundEntity put_of heard first old.state → length old.state.drops ≡ 18 → AreKnown put_of old.state theirs forth (pdus ++ back) → Ran pdus back old new
  run [] given (p ∷ pdus) back old new g spelled h come sound kinds known = absurd spelled
  run (t ∷ ended) given [] back old new g spelled h come sound kinds known = absurd spelled
  run [] given [] back old new g spelled h come sound kinds known =
      let is : new ≡ old = subst (λ l. HearsAll l old new) g h in
      record {
        runs = is;
        known = subst (λ (c : Counted). AreKnown put_of c.state theirs forth back) (sym is) known;
        kinds = ap (λ (c : Counted). length c.state.drops) is ∙ kinds;
      }
  run (t ∷ ended) given (p ∷ pdus) back old new (inl g) spelled h come sound kinds known =
      let rest : List (List ℕ) = g.0 in
      let all : HearsAll (t ∷ rest) old new = subst (λ l. HearsAll l old new) g.1 h in
      let mid : Counted = all.0 in
      let one : HearsOne p.0 p.1 old mid = hears-one p.0 p.1 t spelled.0 old mid all.1 in
      let so : HeardSo p.0 p.1 old mid = heard-so put_of theirs forth p.0 p.1 old mid known.0 known.1.directed.0 one in
      let come_now : AllCome (t ∷ rest) old.state.config.peer = subst (λ l. AllCome l old.state.config.peer) g.1 come in
      let peer : mid.state.config.peer ≡ old.state.config.peer = ap (λ c. c.peer) (one-goes t old mid all.1).config in
      let after = run ended rest pdus back mid new g.2 spelled.1 all.2
      (subst (λ n. AllCome rest n) (sym peer) (come-behind t rest old.state.config.peer come_now))
      (one-sound t old mid all.1 (come_now t (0, omega arith, refl)) sound)
      (kinds-so p.0 p.1 old mid so ∙ kinds)
      (hears-known stays put_of theirs forth (pdus ++ back) p.0 p.1 old mid one known) in
      record { runs = inl (mid, so, in-order put_of heard first old.state sound, kinds, after.runs); known = after.known; kinds = after.kinds }
  run (t ∷ ended) given (p ∷ pdus) back old new (inr g) spelled h come sound kinds known =
      let left : AreKnown put_of theirs old.state (pdus ++ back) forth = lost-known put_of theirs old.state [] p (pdus ++ back) forth (known.1, known.0) in
      let after = run ended given pdus back old new g.1 spelled.1 h come sound kinds (left.1, left.0) in
      record { runs = inr (g.0, after.runs); known = after.known; kinds = after.kinds }
