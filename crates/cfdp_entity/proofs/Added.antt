-- A file under a new name leaves all records ready.
use Rattle.std.proofs.Common.{◌≡◌, ℕ, Bool, cond, List, [], ◌∷◌, length, Some, None, IsSome, refl, sym, ap, subst, ◌∙◌, true≢false}
use Rattle.std.specs.Prelude.{unwrap_or, Result, Ok, Err, OnOk, OnErr}
use Rattle.std.specs.Ordering.{nat_cmp, is_eq}
use Rattle.std.specs.declared.cmp.Ordering.TheVariants.{Less, Equal, Greater}
use Rattle.std.specs.Cmp.Lexicographic.{slice_cmp, nat_list_cmp_total}
use Rattle.std.specs.FinMap as map
use Rattle.std.specs.FinSet as set
use Rattle.cfdp_header.specs.declared.value.TransactionId.{TransactionId}
use Rattle.cfdp_header.specs.Ids.{id_cmp}
use Rattle.cfdp_header.specs.Files.{FileMap}
use Rattle.cfdp_sender.specs.declared.phase.SenderPhase.{SenderPhase}
use Rattle.cfdp_sender.specs.declared.phase.SenderPhase.TheVariants.{Sending, Cancelling, Closed}
use Rattle.cfdp_sender.specs.Does.{HasFile, HasFileWhile}
use Rattle.cfdp_entity.specs.declared.record.Record.{Record}
use Rattle.cfdp_entity.specs.declared.record.Record.TheVariants as held
use Rattle.cfdp_entity.specs.Desk.{Staged, DeskState}
use Rattle.cfdp_entity.specs.Whole.{AllReady, IsReadyRecord, IsWhole}

module _ (sources : FileMap) (name octets : List ℕ) (free : map.get sources name ≡ None) where
  abbrev more : FileMap
  more = map.insert sources name octets

  -- a file that is there keeps its octets
  get-kept : (other : List ℕ) → IsSome (map.get sources other) → map.get more other ≡ map.get sources other
  get-kept other there =
      map.get-insert nat_list_cmp_total sources name octets other
      ∙ elim (slice_cmp nat_cmp other name) as (λ o. slice_cmp nat_cmp other name ≡ o → cond (is_eq o) (Some octets) (map.get sources other) ≡ map.get sources other) [
        | Less ↦ λ same. refl
        | Equal ↦ λ same. absurd (true≢false (sym (subst IsSome (sym (map.get_tied nat_list_cmp_total sources other name same) ∙ free) there)))
        | Greater ↦ λ same. refl
      ] refl

  file-kept : (other : List ℕ) (size : ℕ) → HasFile sources other size → HasFile more other size
  file-kept other size has =
      let e = get-kept other has.there in
      record { there = subst IsSome (sym e) has.there; whole = ap (λ o. length (unwrap_or o [])) e ∙ has.whole }

  while-kept : (p : SenderPhase) (other : List ℕ) (size : ℕ) → HasFileWhile p sources other size → HasFileWhile p more other size
  while-kept Sending other size has = file-kept other size has
  while-kept Cancelling other size has = tt
  while-kept Closed other size has = tt

  record-kept : (staged : Staged) (id : TransactionId) (r : Record) → IsReadyRecord staged sources id r → IsReadyRecord staged more id r
  unfolding IsReadyRecord
  record-kept staged id (held.Sends x) ready = (ready.0, while-kept x.phase x.source x.size ready.1)
  record-kept staged id (held.Receives r) ready = ready

  ready-kept : (staged : Staged) (roomy : set.FinSet id_cmp) (es : List (TransactionId × Record)) → AllReady staged sources roomy es → AllReady staged more roomy es
  unfolding AllReady
  ready-kept staged roomy [] all = tt
  ready-kept staged roomy (e ∷ es) all = (record-kept staged e.0 e.1 all.0, all.1, ready-kept staged roomy es all.2)

-- Nor does it if the file wasn't added, perhaps.
pub whole-added : {T E : Type 0} (r : Result T E) (desk : DeskState) (new : FileMap) (failures : ℕ) (name octets : List ℕ) (es : List (TransactionId × Record)) (flags : List Bool) →
    map.get desk.sources name ≡ None → OnOk r (new ≡ map.insert desk.sources name octets) → OnErr r (new ≡ desk.sources) → IsWhole desk es flags
    → IsWhole (record desk { sources = new; outbox_failures = failures }) es flags
whole-added r desk new failures name octets es flags free ok err whole = record {
  distinct = whole.distinct;
  ready = by r ok err;
  flagged = whole.flagged;
  few = whole.few;
}
  where
    by : {T E : Type 0} (r : Result T E) → OnOk r (new ≡ map.insert desk.sources name octets) → OnErr r (new ≡ desk.sources) → AllReady desk.staged new desk.effects.timers.roomy es
    by (Ok value) ok err = subst (λ m. AllReady desk.staged m desk.effects.timers.roomy es) (sym ok) (ready-kept desk.sources name octets free desk.staged desk.effects.timers.roomy es whole.ready)
    by (Err e) ok err = subst (λ m. AllReady desk.staged m desk.effects.timers.roomy es) (sym err) whole.ready
