-- A station may be killed at any time, and resume as it was.
use Rattle.std.proofs.Common.{◌≡◌, ℕ, ◌+◌, ◌<◌, ◌≤◌, Option, None, List, [], ◌++◌, length, take, refl, subst}
use Rattle.std.specs.Prelude.{Contains}
use Rattle.aos_frame.specs.declared.config.Lane.{Lane}
use Rattle.link_stack.specs.Downward.{both_counted_from, first_down}
use Rattle.link_stack.specs.Upward.{first_up}
use Rattle.cfdp_header.specs.declared.value.TransactionId.{TransactionId}
use Rattle.cfdp_header.specs.Files.{FileMap}
use Rattle.cfdp_directives.specs.declared.user.indication.Indication.{Indication}
use Rattle.cfdp_directives.specs.User.Completions.{FinishedOnce}
use Rattle.cfdp_directives.specs.User.Put.{Put}
use Rattle.cfdp_entity.specs.Entity.{EntityState}
use Rattle.cfdp_entity.specs.Sound.{IsSound}
use Rattle.cfdp_resuming.specs.Entity.{IsResumed}
use Rattle.cfdp_station.specs.declared.config.StationConfig.{StationConfig}
use Rattle.cfdp_station.specs.Station.{StationState}
use Rattle.shown_sources.specs.Shown.{entity_sending}
use Rattle.any_order.specs.Calls.{One, Two, Setup, Side, setup_of}
use Rattle.any_order.specs.Kept.{all_kept, frames_in}
use Rattle.any_order.specs.Promise.{found}
use Rattle.cfdp_port.specs.Calls.{WireCall}
use Rattle.promises.specs.Serving.{life_from}
use Rattle.promises.proofs.Promising.{held_at}
use Rattle.promises.proofs.Reaching.{LongOf}
use Rattle.promises.specs.Resuming.{AreSummed, BothLives, GoesOrResumes, Resumes, ResumesFrom, ServiceLife, entity_in, life_of}
use Rattle.promises.proofs.Events.{AreAlive, shaded}

-- what a law says of an entity that resumes as it was
abbrev pub ResumesItself : Type 0
ResumesItself = (put_of : TransactionId → Option Put) (heard : List (List ℕ)) (first : FileMap) (e : EntityState) → IsSound put_of heard first e → AreSummed e.table.records → IsResumed e e

-- the life of a station that resumed as it was, whose user heard this again
abbrev as_it_was : (first : ℕ) → StationConfig → List Indication → ServiceLife → ServiceLife
as_it_was first c again l = record {
  served = record {
    kept = record {
      station = record l.served.kept.station { down = both_counted_from first (first_down c.sends c.capacity); up = first_up c.receives };
      before = all_kept l.served.kept;
      latest = life_from first;
      told_before = l.served.kept.told_before;
      last_directives = None;
      last_data = None;
    };
    calls = [];
    has = l.served.has;
    begun = l.served.begun;
    inboxes_before = l.served.inboxes_before;
  };
  back = (entity_in l).table.records;
  again = again;
}

resumed_from : (first : ℕ) (c : StationConfig) (again : List Indication) (l : ServiceLife) → IsResumed (entity_sending l.served.has (entity_in l)) (entity_sending l.served.has (entity_in l)) → LongOf l.served →
    ((lane : Lane) → l.served.kept.latest.first + length (frames_in lane l.served.kept.latest) < first) → (entity_in l).table.gone ≤ length (entity_in l).table.told →
    ((i : Indication) → Contains again i → Contains (take (entity_in l).table.gone (entity_in l).table.told) i) → FinishedOnce again → ResumesFrom first c l (as_it_was first c again l)
resumed_from first c again l is long apart few among once = record {
  entity = is;
  files = λ place id x at. refl;
  long = long;
  down = refl;
  up = refl;
  apart = apart;
  kept = refl;
  calls = refl;
  begun = refl;
  inboxes_before = refl;
  few = few;
  back = refl;
  again = among;
  once = once;
}

module _ {W : Type 0} (Steps : W → WireCall → W → Type 0) (itself : ResumesItself) (c : Setup) (first : ℕ) (again : List Indication) where
  -- what a station can do then
  abbrev pub MayResume : BothLives → Side → Type 0
  MayResume now s = (next : BothLives) × GoesOrResumes Steps c now next × ((life_of s next).back ≡ (entity_in (life_of s now)).table.records) × ((life_of s next).again ≡ again)

  goes_back : (s : Side) (now : BothLives) → ResumesFrom first (setup_of s c) (life_of s now) (as_it_was first (setup_of s c) again (life_of s now)) → MayResume now s
  goes_back One now r = (record now { one = as_it_was first c.one again now.one }, record { side = One; event = Resumes first; does = (r, refl); others = refl }, refl, refl)
  goes_back Two now r = (record now { two = as_it_was first c.two again now.two }, record { side = Two; event = Resumes first; does = (r, refl); others = refl }, refl, refl)

  -- what is sent by its files is sound
  sound_at : (s : Side) (w : BothLives) (k : AreAlive c w) → (heard : List (List ℕ)) × IsSound (found w.puts) heard (life_of s w).served.begun (entity_sending (life_of s w).served.has (entity_in (life_of s w)))
  sound_at One w k =
      let from = held_at c (shaded w) One k.held in (
        from.m.heard_before ++ from.m.heard,
        subst (λ (x : StationState). IsSound (found w.puts) (from.m.heard_before ++ from.m.heard) w.one.served.begun x.entity.state) from.of_mine.station from.kept_mine.entity,
      )
  sound_at Two w k =
      let from = held_at c (shaded w) Two k.held in (
        from.m.heard_before ++ from.m.heard,
        subst (λ (x : StationState). IsSound (found w.puts) (from.m.heard_before ++ from.m.heard) w.two.served.begun x.entity.state) from.of_mine.station from.kept_mine.entity,
      )

  pub may_resume : (now : BothLives) → AreAlive c now → (s : Side) → ((lane : Lane) → (life_of s now).served.kept.latest.first + length (frames_in lane (life_of s now).served.kept.latest) < first) →
      ((i : Indication) → Contains again i → Contains (take (entity_in (life_of s now)).table.gone (entity_in (life_of s now)).table.told) i) → FinishedOnce again →
      AreSummed (entity_in (life_of s now)).table.records → MayResume now s
  may_resume now k s apart among once summed =
      let sound = sound_at s now k in
      goes_back s now
      (resumed_from first (setup_of s c) again (life_of s now)
      (itself (found now.puts) sound.0 (life_of s now).served.begun (entity_sending (life_of s now).served.has (entity_in (life_of s now))) sound.1 summed)
      (k.long s) apart (k.known s).known.gone.few among once)
