-- What stays of a station's lives, whatever is called.
use Rattle.std.proofs.Common.{◌≡◌, ℕ, List, [], ◌∷◌, ◌++◌, map, ap, sym, ◌∙◌}
use Rattle.cfdp_directives.specs.declared.user.indication.Indication.{Indication}
use Rattle.cfdp_directives.specs.User.Put as user
use Rattle.cfdp_entity.specs.Entity.{Counted, EntityState}
use Rattle.cfdp_station.specs.Station.{StationState}
use Rattle.cfdp_station.specs.declared.config.StationConfig.{StationConfig}
use Rattle.cfdp_station.specs.declared.polled.Polled.TheVariants.{Moved, Nothing, Full, SourceFailed}
use Rattle.cfdp_station.proofs.AnyOrder.{TruthLaws}
use Rattle.cfdp_store.specs.declared.stored.Stored.TheVariants.{Done, Refused}
use Rattle.link_stack.specs.EndToEnd.{DownCall}
use Rattle.link_stack.specs.Lives.{Life}
use Rattle.any_order.specs.Calls.{Call, Does, DoesCall, End, Happen, IsOneLife, One, Two, Pair, Puts, Asks, Tells, Polls, Fills, Gives, Receives, Refuses, Restarts, Setup, Side, at, entity_of, other, setup_of}
use Rattle.any_order.specs.Kept.{EndKept, IsOf, all_kept, kept_of}
use Rattle.any_order.specs.Onward.{AreNoStarts, BeginsAnew, GoesOn, GoesOnInNewLife, IsNoStart}
use Rattle.any_order.specs.Resuming.{HappensOrResumes, Resumes, ResumesAt}
use Rattle.any_order.specs.World.{Happened, HasResumed, KeepsPromise, WorldKept, calls_at, kept_at, setup, sources_at}
use Rattle.any_order.proofs.Calls.{EntityLaws, all_goes, served_goes}
use Rattle.any_order.proofs.Coming.{kept_lives}

-- It goes on in its life, and no indication is discarded.
record EndGoes (old new : End) : Type 0 where
  before : new.lives_before ≡ old.lives_before
  told : new.told_before ≡ old.told_before
  gone : (entity_of new).table.gone ≡ (entity_of old).table.gone

goes_none : (old new : End) → new ≡ old → EndGoes old new
goes_none old new e = record { before = ap (λ (x : End). x.lives_before) e; told = ap (λ (x : End). x.told_before) e; gone = ap (λ (x : End). (entity_of x).table.gone) e }

goes_then : (a b c : End) → EndGoes a b → EndGoes b c → EndGoes a c
goes_then a b c g h = record { before = h.before ∙ g.before; told = h.told ∙ g.told; gone = h.gone ∙ g.gone }

in_life : (old new : End) → IsOneLife old new → (entity_of new).table.gone ≡ (entity_of old).table.gone → EndGoes old new
in_life old new l gone = record { before = l.lives_before; told = l.told_before; gone = gone }

does_goes : (calls : List DownCall) (added : List user.Put) (old new : End) (p q : List user.Put) → Does calls added old new p q → (entity_of new).table.gone ≡ (entity_of old).table.gone → EndGoes old new
does_goes calls added old new p q d gone = in_life old new d.goes_on gone

same_gone : (old new : EntityState) → new ≡ old → new.table.gone ≡ old.table.gone
same_gone old new e = ap (λ (x : EntityState). x.table.gone) e

-- of what is kept
kept_goes : (k l : EndKept) (old new : End) → IsOf k old → IsOf l new → EndGoes old new → GoesOn k l
kept_goes k l old new is then goes = record {
  before = sym then.before ∙ (ap (λ (x : List Life). map kept_of x) goes.before ∙ is.before);
  told_before = sym then.told ∙ (goes.told ∙ is.told);
  gone = sym (ap (λ (st : StationState). st.entity.state.table.gone) then.station) ∙ (goes.gone ∙ ap (λ (st : StationState). st.entity.state.table.gone) is.station);
}

module _ (laws : EntityLaws) (truth : TruthLaws) where
  call_goes : (call : Call) (c : StationConfig) (old theirs new : End) (p q : List user.Put) → DoesCall call c old theirs new p q → IsNoStart call → EndGoes old new
  call_goes (Puts source destination id) c old theirs new p q (accepts, keeps, d) nostart = does_goes _ _ old new p q d (laws.put_on source destination id (entity_of old) (entity_of new) accepts).gone
  call_goes (Asks request id) c old theirs new p q (called, keeps, d) nostart = does_goes _ _ old new p q d (laws.called_on request id (entity_of old) (entity_of new) called).gone
  call_goes (Tells now) c old theirs new p q (ticks, table, keeps, d) nostart = does_goes _ _ old new p q d (laws.ticked_on now (entity_of old) (entity_of new) ticks table).gone
  call_goes (Polls Moved) c old theirs new p q ((moves, up), spells, d) nostart = does_goes _ _ old new p q d (served_goes laws Done (entity_of old) (entity_of new) moves.served).gone
  call_goes (Polls Nothing) c old theirs new p q ((nothing, up), spells, d) nostart = does_goes _ _ old new p q d (ap (λ (x : Counted). x.state.table.gone) nothing.1)
  call_goes (Polls Full) c old theirs new p q ((full, up), spells, d) nostart = does_goes _ _ old new p q d (ap (λ (x : Counted). x.state.table.gone) full.1)
  call_goes (Polls SourceFailed) c old theirs new p q ((loses, up), spells, d) nostart = does_goes _ _ old new p q d (served_goes laws Refused (entity_of old) (entity_of new) loses.0.served).gone
  call_goes (Fills lane) c old theirs new p q (flushes, other_, rest, d) nostart = does_goes _ _ old new p q d (ap (λ (x : Counted). x.state.table.gone) rest.0)
  call_goes (Gives lane frame) c old theirs new p q (gives, d) nostart = does_goes _ _ old new p q d (ap (λ (x : Counted). x.state.table.gone) gives.rest.0)
  call_goes (Receives coming) c old theirs new p q (are, near, (taken, heard), sent, came, one_life, same) nostart =
      in_life old new one_life (all_goes truth taken.pdus old.station.entity new.station.entity taken.heard).gone
  call_goes Refuses c old theirs new p q (same, keeps, d) nostart = does_goes _ _ old new p q d (same_gone (entity_of old) (entity_of new) same)
  call_goes (Restarts first number) c old theirs new p q d nostart = absurd nostart

  -- at either side of both
  happens_goes : (t s : Side) (call : Call) (c : Setup) (old new : Pair) → DoesCall call (setup_of t c) (at t old) (at (other t) old) (at t new) old.puts new.puts → at (other t) new ≡ at (other t) old →
      IsNoStart call → EndGoes (at s old) (at s new)
  happens_goes One One call c old new does others nostart = call_goes call c.one old.one old.two new.one old.puts new.puts does nostart
  happens_goes One Two call c old new does others nostart = goes_none old.two new.two others
  happens_goes Two One call c old new does others nostart = goes_none old.one new.one others
  happens_goes Two Two call c old new does others nostart = call_goes call c.two old.two old.one new.two old.puts new.puts does nostart

  happen_goes : (calls : List Call) (t s : Side) (c : Setup) (old new : Pair) → Happen c (calls_at t calls) old new → AreNoStarts calls → EndGoes (at s old) (at s new)
  happen_goes [] t s c old new same nostart = goes_none (at s old) (at s new) (ap (λ (p : Pair). at s p) same)
  happen_goes (call ∷ calls) t s c old new (mid, one, rest) nostart =
      goes_then (at s old) (at s mid) (at s new) (happens_goes t s call c old mid one.0 one.1 nostart.0) (happen_goes calls t s c mid new rest nostart.1)

  pub world_goes : (t : Side) (calls : List Call) (old new : WorldKept) → KeepsPromise old → Happened t calls old new → AreNoStarts calls → (s : Side) → GoesOn (kept_at s old) (kept_at s new)
  world_goes t calls old new promised happened nostart s =
      let next = happened.follow promised.run.now promised.run.is in
      kept_goes (kept_at s old) (kept_at s new) (at s promised.run.now) (at s next.0) (promised.run.is.of s) (next.2.of s)
      (happen_goes calls t s (setup old.config) promised.run.now next.0 next.1 nostart)

-- ---- a start
other_goes : (t : Side) (old new mid : Pair) → at (other t) mid ≡ at (other t) old → new ≡ mid → EndGoes (at (other t) old) (at (other t) new)
other_goes t old new mid others same = goes_none (at (other t) old) (at (other t) new) (ap (λ (p : Pair). at (other t) p) same ∙ others)

pub world_begins : (t : Side) (first number : ℕ) (old new : WorldKept) → KeepsPromise old → Happened t (Restarts first number ∷ []) old new →
    BeginsAnew (kept_at t old) (kept_at t new) × GoesOn (kept_at (other t) old) (kept_at (other t) new)
world_begins t first number old new promised happened =
    let next = happened.follow promised.run.now promised.run.is in
    let mid : Pair = next.1.0 in
    let anew = next.1.1.0.0 in
    let same : next.0 ≡ mid = next.1.2 in
    let mine : End = at t promised.run.now in
    let after : End = at t next.0 in
    let is : IsOf (kept_at t old) mine = promised.run.is.of t in
    let then : IsOf (kept_at t new) after = next.2.of t in
    let at_mid : after ≡ at t mid = ap (λ (p : Pair). at t p) same in (
      record {
        before = sym then.before ∙ (ap (λ (e : End). map kept_of e.lives_before) at_mid ∙ (ap (λ (l : List Life). map kept_of l) anew.lives_before ∙ kept_lives (kept_at t old) mine is));
        told_before = sym then.told ∙ (ap (λ (e : End). e.told_before) at_mid ∙ (anew.told_before
            ∙ (ap (λ (l : List Indication). l ++ (entity_of mine).table.told) is.told
            ∙ ap (λ (st : StationState). (kept_at t old).told_before ++ st.entity.state.table.told) is.station)));
        gone = sym (ap (λ (st : StationState). st.entity.state.table.gone) then.station) ∙ (ap (λ (e : End). (entity_of e).table.gone) at_mid ∙ ap (λ (e : EntityState). e.table.gone) anew.entity);
      },
      record {
        before = sym (next.2.of (other t)).before ∙ (ap (λ (l : List Life). map kept_of l) (other_goes t promised.run.now next.0 mid next.1.1.1 same).before ∙ (promised.run.is.of (other t)).before);
        told_before = sym (next.2.of (other t)).told ∙ ((other_goes t promised.run.now next.0 mid next.1.1.1 same).told ∙ (promised.run.is.of (other t)).told);
        gone = sym (ap (λ (st : StationState). st.entity.state.table.gone) (next.2.of (other t)).station)
            ∙ ((other_goes t promised.run.now next.0 mid next.1.1.1 same).gone ∙ ap (λ (st : StationState). st.entity.state.table.gone) (promised.run.is.of (other t)).station);
      },
    )

-- ---- a station that resumes
resumed_goes : (k : EndKept) (old new : End) (first : ℕ) (c : StationConfig) → IsOf k old → Resumes first c old new → map kept_of new.lives_before ≡ all_kept k
resumed_goes k old new first c is r = ap (λ (l : List Life). map kept_of l) r.lives_before ∙ kept_lives k old is

resumed_sources : (t s : Side) (c : Setup) (first : ℕ) (old new : Pair) → HappensOrResumes c (ResumesAt t first) old new → (entity_of (at s new)).table.sources ≡ (entity_of (at s old)).table.sources
resumed_sources One One c first old new (does, same, others) = does.entity.sources
resumed_sources One Two c first old new (does, same, others) = ap (λ (e : End). (entity_of e).table.sources) others
resumed_sources Two One c first old new (does, same, others) = ap (λ (e : End). (entity_of e).table.sources) others
resumed_sources Two Two c first old new (does, same, others) = does.entity.sources

pub world_goes_on : (t : Side) (first number : ℕ) (old new : WorldKept) → KeepsPromise old → HasResumed t first number old new →
    GoesOnInNewLife (kept_at t old) (kept_at t new) × (GoesOn (kept_at (other t) old) (kept_at (other t) new) × ((s : Side) → sources_at s new ≡ sources_at s old))
world_goes_on t first number old new promised h =
    let next = h.follow promised.run.now promised.run.is in
    let mine : End = at t promised.run.now in
    let resumes : Resumes first (setup_of t (setup old.config)) mine (at t next.0) = next.1.0 in
    let is : IsOf (kept_at t old) mine = promised.run.is.of t in
    let then : IsOf (kept_at t new) (at t next.0) = next.2.of t in
    let entity = h.resumes.kept.entity in
    let others : at (other t) next.0 ≡ at (other t) promised.run.now = next.1.2 in (
      record {
        before = sym then.before ∙ resumed_goes (kept_at t old) mine (at t next.0) first (setup_of t (setup old.config)) is resumes;
        told_before = sym then.told ∙ (resumes.told_before ∙ is.told);
        told = ap (λ (e : EntityState). e.table.told) entity.told;
        gone = ap (λ (e : EntityState). e.table.gone) entity.told;
      },
      (
        kept_goes (kept_at (other t) old) (kept_at (other t) new) (at (other t) promised.run.now) (at (other t) next.0) (promised.run.is.of (other t)) (next.2.of (other t))
            (goes_none (at (other t) promised.run.now) (at (other t) next.0) others),
        λ s.
            ap (λ (st : StationState). st.entity.state.table.sources) (sym ((next.2.of s).station))
            ∙ (resumed_sources t s (setup old.config) first promised.run.now next.0 next.1
            ∙ ap (λ (st : StationState). st.entity.state.table.sources) ((promised.run.is.of s).station)),
      ),
    )
