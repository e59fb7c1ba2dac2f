-- The put of a transaction, and that it stays what it is if more are accepted.
use Rattle.std.proofs.Common.{◌≡◌, ℕ, suc, ◌<◌, length, true, false, List, [], ◌∷◌, ◌++◌, Option, Some, None, refl, sym, ap, ◌∙◌, arith}
use Rattle.std.specs.Prelude.{◌==◌, Contains, if◌then◌else◌}
use Rattle.std.specs.FinMap.{get}
use Rattle.cfdp_header.specs.declared.value.TransactionId.{TransactionId}
use Rattle.cfdp_header.specs.Files.{FileMap}
use Rattle.cfdp_header.specs.Ids.{same_id}
use Rattle.cfdp_header.proofs.Ids.{same_id-is, same_id-itself}
use Rattle.cfdp_directives.specs.User.Put.{Put}
use Rattle.cfdp_entity.specs.Sound.{FindsMore, FindsById}
use Rattle.station_pair.specs.declared.side.Side.{Side}
use Rattle.station_pair.specs.declared.side.Side.TheVariants.{One, Two}
use Rattle.link_sim.specs.declared.event.AcceptedPut.{AcceptedPut}
use Rattle.link_sim.specs.Theorem.{StationSeen, WorldSeen, at, accepted_as, side_of, with_octets, put_at, put_by, put_of}

-- ---- among accepted puts
pub accepted-id : (puts : List AcceptedPut) (id : TransactionId) (q : AcceptedPut) → accepted_as puts id ≡ Some q → q.id ≡ id
accepted-id [] id q e = absurd cc
accepted-id (x ∷ puts) id q e =
    elim (same_id x.id id) as (λ b. same_id x.id id ≡ b → (if b then Some x else accepted_as puts id) ≡ Some q → q.id ≡ id) [
      | true ↦ λ t s. (let is : x ≡ q = cc in sym (ap (λ (y : AcceptedPut). y.id) is) ∙ same_id-is x.id id t)
      | false ↦ λ f s. accepted-id puts id q s
    ] refl e

-- one that was found is found among more
accepted-left : (ps qs : List AcceptedPut) (id : TransactionId) (q : AcceptedPut) → accepted_as ps id ≡ Some q → accepted_as (ps ++ qs) id ≡ Some q
accepted-left [] qs id q e = absurd cc
accepted-left (x ∷ ps) qs id q e =
    elim (same_id x.id id) as (λ b. (if b then Some x else accepted_as ps id) ≡ Some q → (if b then Some x else accepted_as (ps ++ qs) id) ≡ Some q) [
      | true ↦ λ s. s
      | false ↦ λ s. accepted-left ps qs id q s
    ] e

-- and if none was, the first of the later ones
accepted-right : (ps qs : List AcceptedPut) (id : TransactionId) → accepted_as ps id ≡ None → accepted_as (ps ++ qs) id ≡ accepted_as qs id
accepted-right [] qs id e = refl
accepted-right (x ∷ ps) qs id e =
    elim (same_id x.id id) as (λ b. (if b then Some x else accepted_as ps id) ≡ None → (if b then Some x else accepted_as (ps ++ qs) id) ≡ accepted_as qs id) [
      | true ↦ λ s. absurd cc
      | false ↦ λ s. accepted-right ps qs id s
    ] e

-- one that is found is among them
pub accepted-among : (puts : List AcceptedPut) (id : TransactionId) (q : AcceptedPut) → accepted_as puts id ≡ Some q → Contains puts q
accepted-among [] id q e = absurd cc
accepted-among (x ∷ puts) id q e =
    elim (same_id x.id id) as (λ b. (if b then Some x else accepted_as puts id) ≡ Some q → Contains (x ∷ puts) q) [
      | true ↦ λ s. (0, omega arith, (let is : x ≡ q = cc in is))
      | false ↦ λ s. behind x puts q (accepted-among puts id q s)
    ] e
  where
    behind : (x : AcceptedPut) (puts : List AcceptedPut) (q : AcceptedPut) → Contains puts q → Contains (x ∷ puts) q
    behind x puts q c = (suc c.0, (let k = c.0 in let low : k < length puts = c.1 in omega arith), c.2)

-- ---- what is found of it
found-octets : (kind : ℕ) (q : AcceptedPut) (o : Option (List ℕ)) (put : Put) → with_octets kind q o ≡ Some put → put.id ≡ q.id
found-octets kind q None put e = absurd cc
found-octets kind q (Some octets) put e =
    let is : record { id = q.id; source = q.source; destination = q.destination; octets = octets; checksum_kind = kind } ≡ put = cc in
    sym (ap (λ (x : Put). x.id) is)

pub found-by : (w : WorldSeen) (o : Option AcceptedPut) (put : Put) → put_by w o ≡ Some put → (q : AcceptedPut) × ((o ≡ Some q) × (put.id ≡ q.id))
found-by w None put e = absurd cc
found-by w (Some q) put e =
    let s : StationSeen = at (side_of q.id.source w) w in
    (q, (refl, found-octets s.checksum_kind q (get s.sources q.source) put e))

-- each put is found under its own transaction
pub puts-by-id : (w : WorldSeen) → FindsById (put_of w)
puts-by-id w id put e = let q = found-by w (accepted_as w.puts id) put e in q.1.1 ∙ accepted-id w.puts id q.0 q.1.0

-- ---- more puts
-- The files that a station sends are as they were, and so is the kind of its checksums.
pub record SendsSame (old new : StationSeen) : Type 0 where
  pub entity : new.entity ≡ old.entity
  pub kind : new.checksum_kind ≡ old.checksum_kind
  pub sources : new.sources ≡ old.sources

at-same : (old new : WorldSeen) → SendsSame old.one new.one → SendsSame old.two new.two → (s : Side) → SendsSame (at s old) (at s new)
at-same old new one two One = one
at-same old new one two Two = two

put_at-same : (s t : StationSeen) (q : AcceptedPut) → SendsSame s t → put_at t q ≡ put_at s q
put_at-same s t q same =
    ap (λ kind. with_octets kind q (get t.sources q.source)) same.kind
    ∙ ap (λ (files : FileMap). with_octets s.checksum_kind q (get files q.source)) same.sources

put_by-same : (old new : WorldSeen) → SendsSame old.one new.one → SendsSame old.two new.two → (o : Option AcceptedPut) → put_by new o ≡ put_by old o
put_by-same old new one two None = refl
put_by-same old new one two (Some q) =
    let side : side_of q.id.source new ≡ side_of q.id.source old = ap (λ (entity : ℕ). if q.id.source == entity then One else Two) one.entity in
    ap (λ s. put_at (at s new) q) side ∙ put_at-same (at (side_of q.id.source old) old) (at (side_of q.id.source old) new) q (at-same old new one two (side_of q.id.source old))

-- puts that were found are found if more were accepted
pub puts-more : (old new : WorldSeen) (qs : List AcceptedPut) → SendsSame old.one new.one → SendsSame old.two new.two → new.puts ≡ old.puts ++ qs → FindsMore (put_of old) (put_of new)
puts-more old new qs one two puts id put e =
    let q = found-by old (accepted_as old.puts id) put e in
    let there : accepted_as new.puts id ≡ Some q.0 = ap (λ (ps : List AcceptedPut). accepted_as ps id) puts ∙ accepted-left old.puts qs id q.0 q.1.0 in
    ap (put_by new) there ∙ put_by-same old new one two (Some q.0) ∙ ap (put_by old) (sym q.1.0) ∙ e

-- the one that was accepted last, if no earlier one has its id
pub put-last : (old new : WorldSeen) (p : AcceptedPut) → SendsSame old.one new.one → SendsSame old.two new.two → new.puts ≡ old.puts ++ p ∷ [] →
    ((q : AcceptedPut) → Contains old.puts q → q.id ≡ p.id → ⊥) → put_of new p.id ≡ put_by old (Some p)
put-last old new p one two puts fresh =
    let none : accepted_as old.puts p.id ≡ None = elim (accepted_as old.puts p.id) as (λ o. accepted_as old.puts p.id ≡ o → o ≡ None) [
      | None ↦ λ e. refl
      | Some q ↦ λ e. absurd (fresh q (accepted-among old.puts p.id q e) (accepted-id old.puts p.id q e))
    ] refl in
    ap (λ (ps : List AcceptedPut). put_by new (accepted_as ps p.id)) puts ∙ ap (put_by new) (accepted-right old.puts (p ∷ []) p.id none) ∙ ap (put_by new) (here p)
    ∙ put_by-same old new one two (Some p)
  where
    here : (p : AcceptedPut) → accepted_as (p ∷ []) p.id ≡ Some p
    here p = ap (λ b. if b then Some p else None) (same_id-itself p.id)
