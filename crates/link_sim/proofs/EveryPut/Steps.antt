-- A put stays on its course if one of the two entities makes a step of the record at a place.
use Rattle.std.proofs.Common.{◌≡◌, ℕ, suc, Bool, true, false, cond, List, [], ◌∷◌, append-nil, length, Option, Some, None, refl, sym, ap, subst, ◌∙◌}
use Rattle.std.specs.List.{IsDistinct}
use Rattle.std.specs.Map.{keys_of}
use Rattle.std.specs.Prelude.{slice_get}
use Rattle.cfdp_header.specs.Files.{FileMap}
use Rattle.cfdp_header.specs.declared.value.TransactionId.{TransactionId}
use Rattle.cfdp_header.specs.Ids.{same_id}
use Rattle.cfdp_directives.specs.User.Put.{Put}
use Rattle.cfdp_store.specs.Files.{octets_in}
use Rattle.cfdp_store.specs.Staged.{OctetMap}
use Rattle.cfdp_sender.specs.InFile.{IsInFile}
use Rattle.cfdp_sender.specs.Inputs.{IsSenderOf}
use Rattle.cfdp_sender.specs.State.{SenderState}
use Rattle.cfdp_receiver.specs.State.{ReceiverState}
use Rattle.cfdp_entity.specs.Entity.{EntityState}
use Rattle.cfdp_entity.specs.Seen.{Seen, Sends, Receives, addressing_of}
use Rattle.cfdp_entity.specs.Sending.{SendsPut, SendsItsPut}
use Rattle.cfdp_entity.specs.Sound.{IsSound}
use Rattle.cfdp_entity.specs.Steps.{After}
use Rattle.cfdp_entity.specs.Table.{Entry, TableState, record_of, step_of, step_at}
use Rattle.cfdp_entity.proofs.CallerLemmas.{same_id-true}
use Rattle.link_sim.specs.Between.{Pdu, of_id, StaysOnCourse}
use Rattle.link_sim.specs.Clean.{HasHeardAll}
use Rattle.link_sim.proofs.Course.Laws.{CourseLaws}
use Rattle.link_sim.proofs.EveryPut.Views.{some-same, grew-none}
use Rattle.link_sim.proofs.EveryPut.Goes.{SenderGoes, MineGoes, ReceiverGoes, TheirsGoes, stays-same, mine-steps, theirs-steps}

-- A record stands under its transaction, and if it sends, it sends its put.
abbrev pub IsOwn : (TransactionId → Option Put) → FileMap → Entry → Type 0
IsOwn put_of sources e = ((addressing_of e.1).id ≡ e.0) × SendsItsPut put_of sources e.0 e.1

-- So do all of a table, no two under the same.
pub record IsInOrder (put_of : TransactionId → Option Put) (st : TableState) : Type 0 where
  pub distinct : IsDistinct same_id (keys_of st.records)
  pub own : (place : ℕ) (e : Entry) → slice_get st.records place ≡ Some e → IsOwn put_of st.sources e

pub in-order : (put_of : TransactionId → Option Put) (heard : List (List ℕ)) (first : FileMap) (e : EntityState) → IsSound put_of heard first e → IsInOrder put_of e.table
in-order put_of heard first e s = record { distinct = s.once.distinct; own = λ place d at. (s.once.own place d at, s.sends.sends place d at) }

-- ---- the record of a transaction has a place
record HasPlace (id : TransactionId) (xs : List Entry) (s : Seen) : Type 0 where
  place : ℕ
  key : TransactionId
  at : slice_get xs place ≡ Some (key, s)
  same : id ≡ key

has-place : (id : TransactionId) (xs : List Entry) (s : Seen) → record_of id xs ≡ Some s → HasPlace id xs s
has-place id [] s is = absurd cc
has-place id (x ∷ xs) s is = elim (same_id id x.0) as (λ b. same_id id x.0 ≡ b → cond b (Some x.1) (record_of id xs) ≡ Some s → HasPlace id (x ∷ xs) s) [
  | true ↦ λ t h. record { place = 0; key = x.0; at = ap (λ r. Some (x.0, r)) (some-same h); same = same_id-true id x.0 t }
  | false ↦ λ t h. (let p = has-place id xs s h in record { place = suc p.place; key = p.key; at = p.at; same = p.same })
] refl is

-- ---- a sender of the put
pub record SendsIt (put : Put) (sources : FileMap) (x : SenderState) : Type 0 where
  pub is_sender : IsSenderOf put x
  pub in_file : IsInFile x
  pub octets : put.octets ≡ octets_in sources x.source

module _ (put : Put) (put_of : TransactionId → Option Put) (found : put_of put.id ≡ Some put) where
  pub sends-it : (sources : FileMap) (id : TransactionId) (x : SenderState) → put.id ≡ id → SendsPut put_of sources id x → SendsIt put sources x
  sends-it sources id x same k =
      let is : k.put ≡ put = some-same (sym k.is_put ∙ ap put_of (sym same) ∙ found) in
      record { is_sender = subst (λ (p : Put). IsSenderOf p x) is k.sender; in_file = k.in_file; octets = sym (ap (λ (p : Put). p.octets) is) ∙ k.octets }

  pub sends-there : (st : TableState) → IsInOrder put_of st → (x : SenderState) → record_of put.id st.records ≡ Some (Sends x) → SendsIt put st.sources x
  sends-there st order x is =
      let p = has-place put.id st.records (Sends x) is in
      sends-it st.sources p.key x p.same (order.own p.place (p.key, Sends x) p.at).1

module _ (laws : CourseLaws) (lossless : Bool) (put : Put) (put_of : TransactionId → Option Put) (found : put_of put.id ≡ Some put) (g : Seen → After) (place : ℕ)
    (forth forth1 back back1 : List Pdu) where
  -- the PDUs of the put that are on their way stay the same
  abbrev pub SamePdus : Type 0
  SamePdus = (of_id put.id forth1 ≡ of_id put.id forth) × (of_id put.id back1 ≡ of_id put.id back)

  -- ---- the put's entity
  module _ (mine mine1 theirs : EntityState) (order : IsInOrder put_of mine.table) (steps : mine1.table ≡ step_at (λ e. g e.1) place mine.table) (drops : HasHeardAll mine1 → HasHeardAll mine)
      (nowhere : slice_get mine.table.records place ≡ None → SamePdus) (others : (e : Entry) → slice_get mine.table.records place ≡ Some e → same_id put.id e.0 ≡ false → SamePdus) where
    pub mine-at : ((x : SenderState) → SendsIt put mine.table.sources x → slice_get mine.table.records place ≡ Some (put.id, Sends x) →
        SenderGoes lossless put x (g (Sends x)) (of_id put.id forth) (of_id put.id forth1) (of_id put.id back) (of_id put.id back1))
        → StaysOnCourse lossless put mine theirs forth back → StaysOnCourse lossless put mine1 theirs forth1 back1
    mine-at goes = by (slice_get mine.table.records place) refl steps
      where
        by : (o : Option Entry) → slice_get mine.table.records place ≡ o → mine1.table ≡ step_of (λ e. g e.1) place o mine.table → StaysOnCourse lossless put mine theirs forth back →
            StaysOnCourse lossless put mine1 theirs forth1 back1
        by None none is = stays-same laws lossless put mine mine1 theirs theirs [] []
            (record { told = ap (λ (t : TableState). t.told) is ∙ sym (append-nil mine.table.told); drops = drops }) (grew-none theirs) forth forth1 back back1
            (ap (λ (t : TableState). record_of put.id t.records) is) refl (nowhere none).0 (nowhere none).1
        by (Some e) at is = mine-steps laws lossless put mine mine1 theirs forth forth1 back back1 place e (g e.1) order.distinct at (ap (λ (t : TableState). t.records) is)
            (record { told = ap (λ (t : TableState). t.told) is; drops = drops }) (λ differs. (others e at differs).0) (λ differs. (others e at differs).1)
            (λ same. own e.1 same (at ∙ ap (λ k. Some (k, e.1)) (sym same)))
          where
            own : (s : Seen) → put.id ≡ e.0 → slice_get mine.table.records place ≡ Some (put.id, s) →
                MineGoes lossless put s (g s) (of_id put.id forth) (of_id put.id forth1) (of_id put.id back) (of_id put.id back1)
            own (Receives r m) same at = tt
            own (Sends x) same at = goes x (sends-it put put_of found mine.table.sources put.id x refl (order.own place (put.id, Sends x) at).1) at

  -- ---- the other entity
  module _ (mine theirs theirs1 : EntityState) (order : IsInOrder put_of mine.table) (order_there : IsInOrder put_of theirs.table) (steps : theirs1.table ≡ step_at (λ e. g e.1) place theirs.table)
      (drops : HasHeardAll theirs1 → HasHeardAll theirs)
      (nowhere : slice_get theirs.table.records place ≡ None → SamePdus) (others : (e : Entry) → slice_get theirs.table.records place ≡ Some e → same_id put.id e.0 ≡ false → SamePdus) where
    pub theirs-at : ((x : SenderState) (r : ReceiverState) (m : OctetMap) → x.size ≡ length put.octets → r.addressing.id ≡ put.id → slice_get theirs.table.records place ≡ Some (put.id, Receives r m)
        → ReceiverGoes lossless put x r (g (Receives r m)) (of_id put.id forth) (of_id put.id forth1) (of_id put.id back) (of_id put.id back1))
        → StaysOnCourse lossless put mine theirs forth back → StaysOnCourse lossless put mine theirs1 forth1 back1
    theirs-at goes = by (slice_get theirs.table.records place) refl steps
      where
        by : (o : Option Entry) → slice_get theirs.table.records place ≡ o → theirs1.table ≡ step_of (λ e. g e.1) place o theirs.table → StaysOnCourse lossless put mine theirs forth back →
            StaysOnCourse lossless put mine theirs1 forth1 back1
        by None none is = stays-same laws lossless put mine mine theirs theirs1 [] [] (grew-none mine)
            (record { told = ap (λ (t : TableState). t.told) is ∙ sym (append-nil theirs.table.told); drops = drops }) forth forth1 back back1
            refl (ap (λ (t : TableState). record_of put.id t.records) is) (nowhere none).0 (nowhere none).1
        by (Some e) at is = theirs-steps laws lossless put mine theirs theirs1 forth forth1 back back1 place e (g e.1) order_there.distinct at (ap (λ (t : TableState). t.records) is)
            (record { told = ap (λ (t : TableState). t.told) is; drops = drops }) (λ differs. (others e at differs).0) (λ differs. (others e at differs).1)
            (λ same x here. own x here e.1 (at ∙ ap (λ k. Some (k, e.1)) (sym same)))
          where
            own : (x : SenderState) → record_of put.id mine.table.records ≡ Some (Sends x) → (s : Seen) → slice_get theirs.table.records place ≡ Some (put.id, s) →
                TheirsGoes lossless put x s (g s) (of_id put.id forth) (of_id put.id forth1) (of_id put.id back) (of_id put.id back1)
            own x here (Sends y) at = tt
            own x here (Receives r m) at = goes x r m (sends-there put put_of found mine.table order x here).is_sender.size (order_there.own place (put.id, Receives r m) at).0 at
