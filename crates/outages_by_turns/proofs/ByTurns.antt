-- Turns of two stations are an outage of a world, event by event.
use Rattle.std.proofs.Common.{◌≡◌, ◌≢◌, ◌⊎◌, ℕ, ◌+◌, ◌&&◌, true, false, List, [], ◌∷◌, Ok, max, refl, sym, ap, subst, ◌∙◌, arith}
use Rattle.std.specs.Prelude.{IsTrue}
use Rattle.aos_frame.specs.declared.config.Lane.{Lane}
use Rattle.cfdp_header.specs.Files.{FileMap}
use Rattle.cfdp_directives.specs.declared.user.handler.Handler.TheVariants.{Ignore}
use Rattle.cfdp_timers.specs.declared.kind.Kind.{Kind}
use Rattle.cfdp_timers.specs.declared.kind.Kind.TheVariants.{Inactivity}
use Rattle.cfdp_timers.specs.Due.{is_due}
use Rattle.cfdp_station.specs.Station.{StationState}
use Rattle.station_pair.specs.declared.side.Side.{Side}
use Rattle.station_pair.specs.declared.side.Side.TheVariants.{One, Two}
use Rattle.station_pair.specs.declared.world_config.WorldConfig.{WorldConfig}
use Rattle.link_sim.specs.declared.event.AcceptedPut.{AcceptedPut}
use Rattle.link_sim.specs.declared.event.Applied.TheVariants as did
use Rattle.link_sim.specs.declared.event.Event.{Event}
use Rattle.link_sim.specs.declared.event.Event.TheVariants as event
use Rattle.link_sim.specs.Running.{Led}
use Rattle.link_sim.specs.Settling.{KeepsAll, all_shortages}
use Rattle.link_sim.specs.Waiting.{IsCompleted, IsWaiting}
use Rattle.link_sim.specs.World.State.{IsFirst, WorldState}
use Rattle.ports_in_order.proofs.Aside.{AnyEvent, none_taken, reaches_led, world_at}
use Rattle.cfdp_port.specs.Calls.{WireCall}
use Rattle.cfdp_port.specs.Pair.{PairState}
use Rattle.cfdp_port.specs.Port.{PortState}
use Rattle.cfdp_port.proofs.GainLemmas.{GoesOnLaws}
use Rattle.ports_in_order.specs.InOrder.{Passage, nothing_passed}
use Rattle.ports_in_order.proofs.OrderLemmas.{AreAt, AreOfTurn, GoesOnBy, TurnsIn, begins, orderly, turn_stood}
use Rattle.outages.specs.Tries.{IsCalm, expires_at, one_if}
use Rattle.outages_by_turns.specs.Turns.{AreCalmIn, AreTurns, HaveTurned, NoneShort, Turn, expires_in, expiries_in, in_world, then_pair}
use Rattle.outages_by_turns.proofs.Listing.{Listed, listed-as, listed-both, listed-none, listed-reach, listed-tick, reach-rises}
use Rattle.outages.proofs.Rising.{IsOfTurn, RiseAll, first-keeps, rise-both, rise-same, then-keeps, tick-rises}

-- the events of a turn, beside ticks
of-turn : AreOfTurn IsOfTurn
of-turn = record { poll = λ s. tt; flush = λ s. tt; deliver = λ s x. tt }

abbrev Stand : StationState → Type 0
Stand s = IsTrue s.entity.state.table.stands

-- If the files stand in the end, they stood before these turns.
module _ {W : Type 0} (Steps : W → WireCall → W → Type 0) (laws : GoesOnLaws) where
  pub stood : (turns : List (Turn W)) (old : PairState W) (before after : Passage) → AreTurns Steps turns old before after → Stand (then_pair old turns).one.station → Stand (then_pair old turns).two.station →
      Stand old.one.station × Stand old.two.station
  stood [] old before after same one two = (one, two)
  stood (t ∷ turns) old before after (turn, passed, pass, more) one two =
      let s = stood turns t.after passed after more one two in
      turn_stood Steps laws t.now old t.after turn s.0 s.1

module _ {W : Type 0} (Steps : W → WireCall → W → Type 0) (laws : GoesOnLaws) (first : WorldState) (put : AcceptedPut) where
  abbrev puts : List AcceptedPut
  puts = put ∷ []

  -- these stations are those of a world
  abbrev pub At : PairState W → Passage → Type 0
  At p passed = AreAt Steps first puts p.one.station p.two.station passed none_taken none_taken

  abbrev pub world : (p : PairState W) (passed : Passage) → At p passed → WorldState
  world p passed at = world_at One p.one.station p.two.station at.k at.m puts at.ticks

  -- ---- one turn
  module _ (now : ℕ) (old : PairState W) (w v : WorldState) (one : w.one ≡ old.one.station) (t : TurnsIn Steps IsOfTurn now old.two.station w v) where
    abbrev Due : Kind → StationState → ℕ
    Due k x = one_if (is_due x.entity.state.table.armed (max x.entity.state.table.now now) (put.id, k))

    abbrev CalmAt : StationState → Type 0
    CalmAt x = (x.entity.state.config.policy.handlers.inactivity ≡ Ignore) ⊎ (is_due x.entity.state.table.armed (max x.entity.state.table.now now) (put.id, Inactivity) ≡ false)

    rise-one : RiseAll w t.told_one
    rise-one = tick-rises One w t.told_one now t.tick_one

    rise-sent : RiseAll t.told_one t.mid
    rise-sent = reach-rises t.told_one t.mid t.sent_one

    rise-two : RiseAll t.mid t.told_two
    rise-two = tick-rises Two t.mid t.told_two now t.tick_two

    rise-rest : RiseAll t.told_two v
    rise-rest = reach-rises t.told_two v t.rest

    rise-mid : RiseAll w t.mid
    rise-mid = rise-both w t.told_one t.mid rise-one rise-sent

    rise-end : RiseAll t.mid v
    rise-end = rise-both t.mid t.told_two v rise-two rise-rest

    pub turn-rises : RiseAll w v
    turn-rises = rise-both w t.mid v rise-mid rise-end

    module _ (keeps : KeepsAll (all_shortages w) (all_shortages v)) where
      keeps-mid : KeepsAll (all_shortages w) (all_shortages t.mid)
      keeps-mid = first-keeps w t.mid v rise-mid rise-end keeps

      keeps-end : KeepsAll (all_shortages t.mid) (all_shortages v)
      keeps-end = then-keeps w t.mid v rise-mid rise-end keeps

      abbrev first_counts : Side → Kind → ℕ
      first_counts s k = one_if (expires_at s put.id k w (event.Tick One now)) + 0

      abbrev then_counts : Side → Kind → ℕ
      then_counts s k = one_if (expires_at s put.id k t.mid (event.Tick Two now)) + 0

      abbrev FirstCalm : Type 0
      FirstCalm = IsCalm put.id w (event.Tick One now) × Unit {0}

      abbrev ThenCalm : Type 0
      ThenCalm = IsCalm put.id t.mid (event.Tick Two now) × Unit {0}

      events-one : Listed put.id w t.mid first_counts FirstCalm
      events-one = listed-both put.id w t.told_one t.mid (λ s k. one_if (expires_at s put.id k w (event.Tick One now))) (λ s k. 0) (IsCalm put.id w (event.Tick One now)) (Unit {0})
          (listed-tick put.id One now w t.told_one t.tick_one (first-keeps w t.told_one t.mid rise-one rise-sent keeps-mid))
          (listed-reach put.id t.told_one t.mid t.sent_one (then-keeps w t.told_one t.mid rise-one rise-sent keeps-mid))

      events-two : Listed put.id t.mid v then_counts ThenCalm
      events-two = listed-both put.id t.mid t.told_two v (λ s k. one_if (expires_at s put.id k t.mid (event.Tick Two now))) (λ s k. 0) (IsCalm put.id t.mid (event.Tick Two now)) (Unit {0})
          (listed-tick put.id Two now t.mid t.told_two t.tick_two (first-keeps t.mid t.told_two v rise-two rise-rest keeps-end))
          (listed-reach put.id t.told_two v t.rest (then-keeps t.mid t.told_two v rise-two rise-rest keeps-end))

      counts-so : (s : Side) (k : Kind) → first_counts s k + then_counts s k ≡ one_if (expires_in put s k now old)
      counts-so One k =
          let here : one_if (expires_at One put.id k w (event.Tick One now)) ≡ one_if (expires_in put One k now old) = ap (Due k) one in
          let none : one_if (expires_at One put.id k t.mid (event.Tick Two now)) ≡ 0 = refl in
          omega (arith, here, none)
      counts-so Two k =
          let none : one_if (expires_at Two put.id k w (event.Tick One now)) ≡ 0 = refl in
          let here : one_if (expires_at Two put.id k t.mid (event.Tick Two now)) ≡ one_if (expires_in put Two k now old) = ap (Due k) t.is_two in
          omega (arith, here, none)

      calm-so : ((s : Side) → IsCalm put.id (in_world put old) (event.Tick s now)) → FirstCalm × ThenCalm
      calm-so c = ((subst CalmAt (sym one) (c One), tt), (subst CalmAt (sym t.is_two) (c Two), tt))

      pub turn-listed : Listed put.id w v (λ s k. one_if (expires_in put s k now old)) ((s : Side) → IsCalm put.id (in_world put old) (event.Tick s now))
      turn-listed = listed-as put.id w v (λ s k. first_counts s k + then_counts s k) (λ s k. one_if (expires_in put s k now old)) (FirstCalm × ThenCalm)
          ((s : Side) → IsCalm put.id (in_world put old) (event.Tick s now)) counts-so calm-so
          (listed-both put.id w t.mid v first_counts then_counts FirstCalm ThenCalm events-one events-two)

  -- ---- turns
  -- What they are in the world.
  pub record TurnsOn (old : PairState W) (turns : List (Turn W)) (before after : Passage) (at : At old before) : Type 0 where
    pub next : At (then_pair old turns) after
    pub rises : RiseAll (world old before at) (world (then_pair old turns) after next)
    pub listed : KeepsAll (all_shortages (world old before at)) (all_shortages (world (then_pair old turns) after next)) →
        Listed put.id (world old before at) (world (then_pair old turns) after next) (expiries_in put old turns) (AreCalmIn put old turns)

  pub turns-on : (turns : List (Turn W)) (old : PairState W) (before after : Passage) → AreTurns Steps turns old before after → Stand (then_pair old turns).one.station → Stand (then_pair old turns).two.station →
      (at : At old before) → TurnsOn old turns before after at
  turns-on [] old before after same one two at = subst (λ (p : Passage). TurnsOn old [] before p at) (sym same) (record {
    next = at;
    rises = rise-same (world old before at);
    listed = λ keeps. listed-as put.id (world old before at) (world old before at) (λ s k. 0) (expiries_in put old []) (Unit {0}) (AreCalmIn put old []) (λ s k. refl) (λ c. tt)
        (listed-none put.id (world old before at));
  })
  turns-on (t ∷ turns) old before after (turn, passed, pass, more) one two at =
      let s = stood Steps laws turns t.after passed after more one two in
      let g : GoesOnBy Steps IsOfTurn t.now first puts old t.after before passed none_taken none_taken none_taken none_taken at =
      orderly Steps IsOfTurn of-turn (λ q x. tt) laws t.now old t.after turn before passed pass first puts s.0 s.1 at in
      let rest : TurnsOn t.after turns passed after g.next = turns-on turns t.after passed after more one two g.next in
      let a : WorldState = world old before at in
      let b : WorldState = world t.after passed g.next in
      let c : WorldState = world (then_pair t.after turns) after rest.next in
      let rise : RiseAll a b = turn-rises t.now old a b refl g.turns in
      record {
        next = rest.next;
        rises = rise-both a b c rise rest.rises;
        listed = λ keeps. listed-as put.id a c (λ s k. one_if (expires_in put s k t.now old) + expiries_in put t.after turns s k) (expiries_in put old (t ∷ turns))
            (((s : Side) → IsCalm put.id (in_world put old) (event.Tick s t.now)) × AreCalmIn put t.after turns) (AreCalmIn put old (t ∷ turns)) (λ s k. refl) (λ calm. calm)
            (listed-both put.id a b c (λ s k. one_if (expires_in put s k t.now old)) (expiries_in put t.after turns)
            ((s : Side) → IsCalm put.id (in_world put old) (event.Tick s t.now)) (AreCalmIn put t.after turns)
            (turn-listed t.now old a b refl g.turns (first-keeps a b c rise rest.rises keeps)) (rest.listed (then-keeps a b c rise rest.rises keeps)));
      }

-- ---- from the start
module _ {W : Type 0} (Steps : W → WireCall → W → Type 0) (laws : GoesOnLaws) (c : WorldConfig) (outboxes inboxes : FileMap × FileMap) (put : AcceptedPut) (old : PairState W) (before : Passage)
    (have : HaveTurned Steps c outboxes inboxes put old before) where
  -- The world in which they have turned so.
  pub record Reached : Type 0 where
    pub first : WorldState
    pub starts : IsFirst c outboxes inboxes first
    pub at : At Steps laws first put old before

  pub reached : Stand old.one.station → Stand old.two.station → Reached
  reached one two =
      let b = begins Steps c outboxes inboxes put.source put.destination put.id have.first have.one have.valid have.first_one have.first_two have.puts in
      let start : PairState W = record have.first { one = have.one } in
      let stand_one : Stand (then_pair start have.turns).one.station = subst (λ (p : PairState W). Stand p.one.station) have.is one in
      let stand_two : Stand (then_pair start have.turns).two.station = subst (λ (p : PairState W). Stand p.two.station) have.is two in
      record {
        first = b.0;
        starts = b.1;
        at = subst (λ (p : PairState W). At Steps laws b.0 put p before) (sym have.is) (turns-on Steps laws b.0 put have.turns start nothing_passed before have.are stand_one stand_two b.2).next;
      }

  -- What the outage is in it.
  pub record Outlives (outage : List (Turn W)) (after : Passage) : Type 0 where
    pub first : WorldState
    pub starts : IsFirst c outboxes inboxes first
    pub was : WorldState
    pub led : Led first was
    pub was_one : was.one ≡ old.one.station
    pub was_two : was.two ≡ old.two.station
    pub was_puts : was.puts ≡ put ∷ []
    pub is : WorldState
    pub is_one : is.one ≡ (then_pair old outage).one.station
    pub is_two : is.two ≡ (then_pair old outage).two.station
    pub is_puts : is.puts ≡ put ∷ []
    pub listed : Listed put.id was is (expiries_in put old outage) (AreCalmIn put old outage)

  pub outlives : (outage : List (Turn W)) (after : Passage) → AreTurns Steps outage old before after → Stand (then_pair old outage).one.station → Stand (then_pair old outage).two.station →
      NoneShort old (then_pair old outage) → Outlives outage after
  outlives outage after are one two short =
      let s = stood Steps laws outage old before after are one two in
      let r : Reached = reached s.0 s.1 in
      let t : TurnsOn Steps laws r.first put old outage before after r.at = turns-on Steps laws r.first put outage old before after are one two r.at in
      record {
        first = r.first;
        starts = r.starts;
        was = world Steps laws r.first put old before r.at;
        led = reaches_led AnyEvent r.first (world Steps laws r.first put old before r.at) r.at.led;
        was_one = refl;
        was_two = refl;
        was_puts = refl;
        is = world Steps laws r.first put (then_pair old outage) after t.next;
        is_one = refl;
        is_two = refl;
        is_puts = refl;
        listed = t.listed short;
      }
