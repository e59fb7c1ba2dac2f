-- The files that two stations can send stay, whatever is called.
use Rattle.std.proofs.Common.{◌≡◌, List, [], ◌∷◌, ap, sym, ◌∙◌}
use Rattle.cfdp_station.specs.Station.{StationState}
use Rattle.cfdp_station.proofs.AnyOrder.{TruthLaws}
use Rattle.any_order.specs.Calls.{At, Call, End, Event, Happen, Happens, One, Two, Pair, Setup, Side, at, entity_of}
use Rattle.any_order.specs.World.{Happened, KeepsPromise, WorldKept, calls_at, setup, sources_at}
use Rattle.any_order.proofs.Calls.{EntityLaws, call_sources}

module _ (laws : EntityLaws) (truth : TruthLaws) where
  happens_sources : (s t : Side) (call : Call) (c : Setup) (old new : Pair) → Happens c (At s call) old new → (entity_of (at t new)).table.sources ≡ (entity_of (at t old)).table.sources
  happens_sources One One call c old new (does, others) = call_sources laws truth call c.one old.one old.two new.one old.puts new.puts does
  happens_sources One Two call c old new (does, others) = ap (λ (e : End). (entity_of e).table.sources) others
  happens_sources Two One call c old new (does, others) = ap (λ (e : End). (entity_of e).table.sources) others
  happens_sources Two Two call c old new (does, others) = call_sources laws truth call c.two old.two old.one new.two old.puts new.puts does

  happen_sources : (events : List Event) (c : Setup) (old new : Pair) (t : Side) → Happen c events old new → (entity_of (at t new)).table.sources ≡ (entity_of (at t old)).table.sources
  happen_sources [] c old new t same = ap (λ (p : Pair). (entity_of (at t p)).table.sources) same
  happen_sources (At s call ∷ events) c old new t (mid, one, rest) = happen_sources events c mid new t rest ∙ happens_sources s t call c old mid one

  pub world_sources : (t : Side) (calls : List Call) (old new : WorldKept) → KeepsPromise old → Happened t calls old new → (s : Side) → sources_at s new ≡ sources_at s old
  world_sources t calls old new promised happened s =
      let next = happened.follow promised.run.now promised.run.is in
      ap (λ (st : StationState). st.entity.state.table.sources) (sym ((next.2.of s).station))
      ∙ (happen_sources (calls_at t calls) (setup old.config) promised.run.now next.0 s next.1
      ∙ ap (λ (st : StationState). st.entity.state.table.sources) ((promised.run.is.of s).station))
