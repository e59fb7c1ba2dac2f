-- What a sender that indicated its put complete knows of the other station's files, if one put was
-- made.
use Rattle.std.proofs.Common.{◌≡◌, ◌⊎◌, ℕ, zero, suc, List, [], ◌∷◌, Option, Some, None, Contains, cond, if◌then◌else◌, refl, sym, ap, subst, ◌∙◌, inl, inr, arith, eq-eqb}
use Rattle.std.proofs.lemmas.Bool.{cases_Bool}
use Rattle.std.proofs.lemmas.Cmp.{eq_by_cmp_equiv, nat_list_cmp_total}
use Rattle.std.specs.FinMap.{get, get-insert, insert}
use Rattle.std.specs.Prelude.{unwrap_or}
use Rattle.cfdp_header.specs.declared.value.TransactionId.{TransactionId}
use Rattle.cfdp_header.specs.Files.{FileMap}
use Rattle.cfdp_header.specs.Ids.{same_id}
use Rattle.cfdp_header.proofs.Ids.{same_id-is, same_id-itself}
use Rattle.cfdp_directives.specs.User.Completions.{IsToldComplete}
use Rattle.cfdp_directives.specs.User.Put.{Put, inbox_after, overwritten}
use Rattle.cfdp_station.specs.Station.{StationState}
use Rattle.link_sim.specs.declared.event.AcceptedPut.{AcceptedPut}
use Rattle.station_pair.specs.declared.side.Side.TheVariants.{One, Two}
use Rattle.station_pair.specs.declared.world_config.WorldConfig.{WorldConfig}
use Rattle.link_sim.specs.Observed.{seen}
use Rattle.link_sim.specs.Theorem.{accepted_as, at, completions_at, put_at, put_by, put_of, with_octets}
use Rattle.link_sim.specs.World.State.{WorldState}
use Rattle.ports_in_order.specs.InOrder.{AreOfWorld, Passage}

-- ---- an inbox after completions of one put
written : (files : FileMap) (name octets : List ℕ) → get (insert files name octets) name ≡ Some octets
written files name octets = get-insert nat_list_cmp_total files name octets name
    ∙ ap (λ b. cond b (Some octets) (get files name)) ((eq_by_cmp_equiv nat_list_cmp_total).refl name)

holds_file : (of : TransactionId → Option Put) (id : TransactionId) (p : Put) → of id ≡ Some p → (ids : List TransactionId) → ((q : TransactionId) → Contains ids q → q ≡ id) → (files : FileMap) →
    (get files p.destination ≡ Some p.octets) ⊎ Contains ids id → get (inbox_after of files ids) p.destination ≡ Some p.octets
holds_file of id p is [] all files (inl h) = h
holds_file of id p is [] all files (inr (place, low, e)) = absurd (omega (arith, low))
holds_file of id p is (q ∷ ids) all files h =
    let same : of q ≡ Some p = ap of (all q (zero, omega arith, refl)) ∙ is in
    let now : get (overwritten files (of q)) p.destination ≡ Some p.octets = ap (λ o. get (overwritten files o) p.destination) same ∙ written files p.destination p.octets in
    holds_file of id p is ids (λ x m. all x (suc m.0, omega (arith, m.1), m.2)) (overwritten files (of q)) (inl now)

-- ---- the only put of a world
module _ (w : WorldState) (put : AcceptedPut) (only : w.puts ≡ put ∷ []) where
  its_put : (q : TransactionId) (p : Put) → put_of (seen w) q ≡ Some p → q ≡ put.id
  its_put q p is = elim (cases_Bool (same_id put.id q)) [
    | inl t ↦ sym (same_id-is put.id q t)
    | inr f ↦ absurd (
        let none : accepted_as w.puts q ≡ None = ap (λ ps. accepted_as ps q) only ∙ ap (λ b. if b then Some put else None) f in
        let bad : None ≡ Some p = sym (ap (put_by (seen w)) none) ∙ is in
        cc)
  ]

  -- its file, if the first station made it
  its_file : (p : Put) → put.id.source ≡ w.one.entity.state.config.entity → put_of (seen w) put.id ≡ Some p →
      with_octets w.one.entity.state.config.checksum_kind put (get w.one.entity.state.table.sources put.source) ≡ Some p
  its_file p own is =
      let found : accepted_as w.puts put.id ≡ Some put = ap (λ ps. accepted_as ps put.id) only ∙ ap (λ b. if b then Some put else None) (same_id-itself put.id) in
      let side : put_by (seen w) (Some put) ≡ put_at (at One (seen w)) put = ap (λ b. put_at (at (if b then One else Two) (seen w)) put) (eq-eqb put.id.source w.one.entity.state.config.entity own) in
      sym (ap (put_by (seen w)) found ∙ side) ∙ is

same_file : (files : FileMap) (kind : ℕ) (put : AcceptedPut) (p : Put) (found : Option (List ℕ)) → with_octets kind put found ≡ Some p → get files p.destination ≡ Some p.octets →
    get files put.destination ≡ found
same_file files kind put p None is have = absurd cc
same_file files kind put p (Some octets) is have =
    let as_put : Put = record { id = put.id; source = put.source; destination = put.destination; octets = octets; checksum_kind = kind } in
    let same : as_put ≡ p = ap (λ o. unwrap_or o p) is in
    ap (λ (x : Put). get files x.destination) same ∙ have ∙ ap (λ (x : Put). Some x.octets) (sym same)

pub published : (c : WorldConfig) (outboxes inboxes : FileMap × FileMap) (put : AcceptedPut) (passed : Passage) (one two : StationState) → AreOfWorld c outboxes inboxes put passed one two →
    (id : TransactionId) → IsToldComplete one.entity.state.config.entity one.entity.state.table.told id → get two.entity.state.table.files put.destination
    ≡ get one.entity.state.table.sources put.source
published c outboxes inboxes put passed one two is id told =
    let w : WorldState = is.now in
    let told_there : IsToldComplete w.one.entity.state.config.entity w.one.entity.state.table.told id =
    subst (λ (x : StationState). IsToldComplete x.entity.state.config.entity x.entity.state.table.told id) (sym is.is_one) told in
    let done : Contains (completions_at Two (seen w)) id = ((is.promises.holds One).told id told_there).completed in
    let caused = λ (q : TransactionId) (m : Contains (completions_at Two (seen w)) q). (is.promises.holds Two).caused q m in
    let all : (q : TransactionId) → Contains (completions_at Two (seen w)) q → q ≡ put.id = λ (q : TransactionId) (m : Contains (completions_at Two (seen w)) q).
    its_put w put is.puts q (caused q m).0 (caused q m).1.0 in
    let same : id ≡ put.id = all id done in
    let p : Put = (caused id done).0 in
    let its : put_of (seen w) put.id ≡ Some p = ap (put_of (seen w)) (sym same) ∙ (caused id done).1.0 in
    let own : put.id.source ≡ w.one.entity.state.config.entity = ap (λ (x : TransactionId). x.source) (sym same) ∙ told_there.0 in
    let have : get (inbox_after (put_of (seen w)) inboxes.1 (completions_at Two (seen w))) p.destination ≡ Some p.octets =
    holds_file (put_of (seen w)) put.id p its (completions_at Two (seen w)) all inboxes.1 (inr (subst (λ (x : TransactionId). Contains (completions_at Two (seen w)) x) same done)) in
    let there : get w.two.entity.state.table.files p.destination ≡ Some p.octets = ap (λ (x : FileMap). get x p.destination) (is.promises.inbox Two) ∙ have in
    let ends : get w.two.entity.state.table.files put.destination ≡ get w.one.entity.state.table.sources put.source =
    same_file w.two.entity.state.table.files w.one.entity.state.config.checksum_kind put p (get w.one.entity.state.table.sources put.source) (its_file w put is.puts p own its) there in
    ap (λ (x : StationState). get x.entity.state.table.files put.destination) (sym is.is_two) ∙ ends ∙ ap (λ (x : StationState). get x.entity.state.table.sources put.source) is.is_one
