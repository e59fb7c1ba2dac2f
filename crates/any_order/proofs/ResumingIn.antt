-- What is kept of two stations, one of which resumes.
use Rattle.std.proofs.Common.{◌≡◌, ℕ, ◌+◌, ◌<◌, None, [], ◌++◌, length, refl, sym, ap, subst, ◌∙◌}
use Rattle.aos_frame.specs.declared.config.Lane.{Lane}
use Rattle.aos_frame.specs.declared.config.Lane.TheVariants.{Directives, Data}
use Rattle.link_stack.specs.EndToEnd.{made_of}
use Rattle.cfdp_entity.specs.Sound.{IsSound}
use Rattle.cfdp_station.specs.Station.{StationState}
use Rattle.cfdp_station.specs.declared.config.StationConfig.{StationConfig}
use Rattle.cfdp_resuming.specs.Entity.{IsResumed}
use Rattle.any_order.specs.Calls.{End, One, Two, Pair, Setup, Side, at, lives, other, setup_of}
use Rattle.any_order.specs.Kept.{EndKept, HasTaken, IsOf, LifeKept, last_at, present}
use Rattle.any_order.specs.Promise.{found, heard_ever}
use Rattle.any_order.specs.Restoring.{ComesBackFrom, ResumesKept}
use Rattle.any_order.specs.Resuming.{HappensOrResumes, Resumes, ResumesAt}
use Rattle.any_order.specs.World.{HasResumed, HasRun, IsPairOf, ResumesIn, WorldKept, first_at, kept_at, setup}
use Rattle.any_order.proofs.Coming.{kept_lives}
use Rattle.any_order.proofs.Keeping.{taken_grown}
use Rattle.any_order.proofs.Kept.{IsKept}
use Rattle.any_order.proofs.Lives.{Grow, grow_more}
use Rattle.any_order.proofs.Promise.{AreKept, Laws}
use Rattle.any_order.proofs.ComingBack.{ResumingLaws, entity-resumes}
use Rattle.any_order.proofs.Resuming.{ResumedSound, run_kept}

-- ---- the station
module _ (first number : ℕ) (c : StationConfig) (old new : EndKept) (is : ResumesKept first number c old new) (entity : IsResumed old.station.entity.state new.station.entity.state) where
  -- what was done at it, after that
  abbrev pub resumed : End → End
  resumed mine = record {
    station = new.station;
    first = first;
    sent = [];
    came = [];
    heard = [];
    lives_before = lives mine;
    told_before = mine.told_before;
    heard_before = mine.heard_before ++ mine.heard;
  }

  behind : (lane : Lane) (mine : End) → IsOf old mine → mine.first + length (made_of lane mine.sent) < first
  behind Directives mine of = subst (λ (k : LifeKept). k.first + length k.directives < first) (sym of.latest) is.directives
  behind Data mine of = subst (λ (k : LifeKept). k.first + length k.file_data < first) (sym of.latest) is.file_data

  pub end_resumes : (mine : End) → IsOf old mine → Resumes first c mine (resumed mine)
  end_resumes mine of = record {
    entity = subst (λ (s : StationState). IsResumed s.entity.state new.station.entity.state) (sym of.station) entity;
    down = is.down;
    up = is.up;
    counted = refl;
    apart = λ lane. behind lane mine of;
    sent = refl;
    came = refl;
    heard = refl;
    lives_before = refl;
    told_before = refl;
    heard_before = refl;
  }

  pub resumed_of : (mine : End) → IsOf old mine → IsOf new (resumed mine)
  resumed_of mine of = record {
    station = refl;
    before = kept_lives old mine of ∙ ap (λ (k : EndKept). k.before) (sym is.same);
    latest = ap (λ (k : EndKept). k.latest) (sym is.same);
    told = of.told ∙ ap (λ (k : EndKept). k.told_before) (sym is.same);
  }

  pub resumed_taken : (mine theirs : End) → HasTaken c.receives new (resumed mine) theirs
  resumed_taken mine theirs = record { coming = tt; near = λ lane. tt; last = none }
    where
      none : (lane : Lane) → None ≡ last_at lane new
      none Directives = ap (λ (k : EndKept). k.last_directives) (sym is.same)
      none Data = ap (λ (k : EndKept). k.last_data) (sym is.same)

  pub resumed_grows : (mine : End) → Grow (lives mine) (lives (resumed mine))
  resumed_grows mine = grow_more (lives mine) (present (resumed mine))

-- ---- in the world
first_resumes : (first number : ℕ) (old : WorldKept) (n : EndKept) → ResumesKept first number old.config.one old.one n → IsResumed old.one.station.entity.state n.station.entity.state →
    HasResumed One first number old (record old { one = n })
first_resumes first number old n is entity = record { resumes = record { same = refl; kept = is }; follow = follow }
  where
    follow : (before : Pair) → IsPairOf old before → (after : Pair) × HappensOrResumes (setup old.config) (ResumesAt One first) before after × IsPairOf (record old { one = n }) after
    follow before pair =
        let e : End = resumed first number old.config.one old.one n is entity before.one in (
          record { one = e; two = before.two; puts = before.puts },
          (end_resumes first number old.config.one old.one n is entity before.one (pair.of One), refl, refl),
          record {
            of = λ (s : Side). each_of e (resumed_of first number old.config.one old.one n is entity before.one (pair.of One)) s;
            taken = λ (s : Side).
                each_taken e (resumed_taken first number old.config.one old.one n is entity before.one before.two) (resumed_grows first number old.config.one old.one n is entity before.one) s;
            puts = pair.puts;
          },
        )
      where
        each_of : (e : End) → IsOf n e → (s : Side) → IsOf (kept_at s (record old { one = n })) (at s (record { one = e; two = before.two; puts = before.puts }))
        each_of e k One = k
        each_of e k Two = pair.of Two

        each_taken : (e : End) → HasTaken old.config.one.receives n e before.two → Grow (lives before.one) (lives e) → (s : Side) →
            HasTaken (setup_of s (setup old.config)).receives (kept_at s (record old { one = n })) (at s (record { one = e; two = before.two; puts = before.puts }))
            (at (other s) (record { one = e; two = before.two; puts = before.puts }))
        each_taken e t grow One = t
        each_taken e t grow Two = taken_grown old.config.two.receives old.two before.two before.one e grow (pair.taken Two)

second_resumes : (first number : ℕ) (old : WorldKept) (n : EndKept) → ResumesKept first number old.config.two old.two n → IsResumed old.two.station.entity.state n.station.entity.state →
    HasResumed Two first number old (record old { two = n })
second_resumes first number old n is entity = record { resumes = record { same = refl; kept = is }; follow = follow }
  where
    follow : (before : Pair) → IsPairOf old before → (after : Pair) × HappensOrResumes (setup old.config) (ResumesAt Two first) before after × IsPairOf (record old { two = n }) after
    follow before pair =
        let e : End = resumed first number old.config.two old.two n is entity before.two in (
          record { one = before.one; two = e; puts = before.puts },
          (end_resumes first number old.config.two old.two n is entity before.two (pair.of Two), refl, refl),
          record {
            of = λ (s : Side). each_of e (resumed_of first number old.config.two old.two n is entity before.two (pair.of Two)) s;
            taken = λ (s : Side).
                each_taken e (resumed_taken first number old.config.two old.two n is entity before.two before.one) (resumed_grows first number old.config.two old.two n is entity before.two) s;
            puts = pair.puts;
          },
        )
      where
        each_of : (e : End) → IsOf n e → (s : Side) → IsOf (kept_at s (record old { two = n })) (at s (record { one = before.one; two = e; puts = before.puts }))
        each_of e k One = pair.of One
        each_of e k Two = k

        each_taken : (e : End) → HasTaken old.config.two.receives n e before.one → Grow (lives before.two) (lives e) → (s : Side) →
            HasTaken (setup_of s (setup old.config)).receives (kept_at s (record old { two = n })) (at s (record { one = before.one; two = e; puts = before.puts }))
            (at (other s) (record { one = before.one; two = e; puts = before.puts }))
        each_taken e t grow One = taken_grown old.config.one.receives old.one before.one before.two e grow (pair.taken One)
        each_taken e t grow Two = t

side_resumes : (s : Side) (first number : ℕ) (old new : WorldKept) → ResumesIn s first number old new → IsResumed (kept_at s old).station.entity.state (kept_at s new).station.entity.state → HasResumed s first number old new
side_resumes One first number old new is entity = subst (λ (w : WorldKept). HasResumed One first number old w) (sym is.same) (first_resumes first number old new.one is.kept entity)
side_resumes Two first number old new is entity = subst (λ (w : WorldKept). HasResumed Two first number old w) (sym is.same) (second_resumes first number old new.two is.kept entity)

-- Its entity was sound, so it resumes.
pub world_resumes : Laws → ResumedSound → ResumingLaws → (s : Side) (first number : ℕ) (old new : WorldKept) → HasRun old → ResumesIn s first number old new → HasResumed s first number old new
world_resumes laws sound resuming s first number old new run is =
    let c : Setup = setup old.config in
    let w : Pair = run.now in
    let kept : AreKept c (λ (t : Side). first_at t old) w = run_kept laws sound c (λ (t : Side). first_at t old) run.joined run.counts run.sources run.events run.start w run.begun run.none run.happen in
    let mine : IsKept (setup_of s c) (setup_of (other s) c) (first_at s old) w.puts (at s w) (at (other s) w) = kept s in
    let st : (at s w).station ≡ (kept_at s old).station = (run.is.of s).station in
    let comes : ComesBackFrom number (setup_of s c).entity (kept_at s old).station.entity.state (kept_at s new).station.entity.state = is.kept.entity in
    side_resumes s first number old new is
    (entity-resumes resuming (found w.puts) (heard_ever (at s w)) mine.begun number (setup_of s c).entity (kept_at s old).station.entity.state (kept_at s new).station.entity.state
    (subst (λ (x : StationState). IsSound (found w.puts) (heard_ever (at s w)) mine.begun x.entity.state) st mine.life.entity)
    (subst (λ (x : StationState). x.entity.state.config.entity ≡ (setup_of s c).entity.entity) st mine.life.own)
    (subst (λ (x : StationState). x.entity.state.config.peer ≡ (setup_of s c).entity.peer) st mine.life.peer) comes)
