-- Whatever is called at two stations, and whichever resumes, each has something to do for all that is open.
use Rattle.std.proofs.Common.{ℕ, List, [], ◌∷◌, refl, ap}
use Rattle.cfdp_header.specs.Files.{FileMap}
use Rattle.cfdp_entity.specs.Entity.{EntityState}
use Rattle.cfdp_endings.specs.Entity.{AllOwe, IsLively}
use Rattle.cfdp_resuming.specs.Entity.{IsResumed}
use Rattle.any_order.specs.Calls.{AreJoined, At, IsNew, One, Two, Pair, Setup, Side, at, entity_of, setup_of}
use Rattle.promises.proofs.Lively.{EntityLaws, HoldsAt, first-holds, happens-holds, kept-holds}
use Rattle.promises.specs.Owing.{HappenOwing, IsOwing}
use Rattle.any_order.specs.Resuming.{Calls, LifeEvent, HappensOrResumes, ResumesAt}

resumed-lively : (old new : EntityState) → IsResumed old new → AllOwe new.table.records → IsLively new
resumed-lively old new is owing = record {
  config = is.valid;
  policy = is.policy;
  table = record { distinct = is.distinct; timed = is.timed; owing = owing };
}

module _ (laws : EntityLaws) (c : Setup) where
  event-holds : (t : Side) (event : LifeEvent) (old new : Pair) → HappensOrResumes c event old new → IsOwing c event new → HoldsAt c t old → HoldsAt c t new
  event-holds t (Calls (At s call)) old new does owing h = happens-holds laws s t call c old new does h
  event-holds One (ResumesAt One first) old new (does, same, others) owing h =
      record { lively = resumed-lively (entity_of old.one) (entity_of new.one) does.entity owing.0; policy_is = owing.1 }
  event-holds Two (ResumesAt One first) old new (does, same, others) owing h = kept-holds laws c Two old new others h
  event-holds One (ResumesAt Two first) old new (does, same, others) owing h = kept-holds laws c One old new others h
  event-holds Two (ResumesAt Two first) old new (does, same, others) owing h =
      record { lively = resumed-lively (entity_of old.two) (entity_of new.two) does.entity owing.0; policy_is = owing.1 }

  events-hold : (t : Side) (events : List LifeEvent) (old new : Pair) → HappenOwing c events old new → HoldsAt c t old → HoldsAt c t new
  events-hold t [] old new same h = kept-holds laws c t old new (ap (at t) same) h
  events-hold t (event ∷ events) old new (mid, (one, owing), rest) h = events-hold t events mid new rest (event-holds t event old mid one owing h)

  pub all-holds : (counts : Side → ℕ) (sources files : Side → FileMap) (events : List LifeEvent) (start now : Pair) → AreJoined c →
      ((s : Side) → IsNew (setup_of s c) (counts s) (sources s) (files s) (at s start)) → HappenOwing c events start now → (s : Side) → HoldsAt c s now
  all-holds counts sources files events start now joined begun happen s = events-hold s events start now happen
      (first-holds laws (setup_of s c).entity.policy (sources s) (files s) (setup_of s c).entity (entity_of (at s start)) (joined.valid s).entity refl (begun s).entity)
