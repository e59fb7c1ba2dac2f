-- Two stations that move as those of a world do, one event after another, but keep their frames back
-- until they were polled and flushed.
use Rattle.std.proofs.Common.{◌≡◌, ◌≢◌, ℕ, zero, suc, ◌+◌, ◌*◌, ◌<◌, ◌≤◌, true, false, List, [], ◌∷◌, ◌++◌, length, drop, get_or, replicate, refl, sym, ap, subst, ◌∙◌, inl, inr, arith, length-append}
use Rattle.std.specs.List.{AllByRecursion}
use Rattle.std.proofs.lemmas.List.{append-nil, append_assoc}
use Rattle.aos_frame.specs.Counts.{frame_counts}
use Rattle.aos_frame.specs.Frame.{IsChannel, IsLink, frame_len, lane_channel, other_lane}
use Rattle.aos_frame.specs.declared.config.Lane.{Lane}
use Rattle.aos_frame.specs.declared.config.Lane.TheVariants.{Directives, Data}
use Rattle.aos_frame.specs.declared.config.ChannelConfig.{ChannelConfig}
use Rattle.aos_frame.specs.declared.config.LinkConfig.{LinkConfig}
use Rattle.cfdp_header.specs.Files.{FileMap}
use Rattle.cfdp_header.specs.declared.value.TransactionId.{TransactionId}
use Rattle.mpdu.specs.Packing.{next_start}
use Rattle.link_stack.specs.Downward.{DownState, LinkSenderState, IsDown, MakesFrame, first_down, first_lane_down, lane_down}
use Rattle.link_stack.specs.Upward.{LinkReceiverState, UpState, IsUp, first_lane_up, first_up, lane_up}
use Rattle.link_stack.proofs.Grown.{new_is}
use Rattle.cfdp_store.specs.Chains.{Raises}
use Rattle.cfdp_store.specs.Stores.{Counts}
use Rattle.cfdp_store.specs.declared.stored.Stored.TheVariants as storeds
use Rattle.cfd_bits.specs.Counting.{raised}
use Rattle.cfdp_entity.specs.Entity.{with_table}
use Rattle.cfdp_entity.specs.Gives.{CountsOutbox}
use Rattle.cfdp_entity.specs.Polling.{LosesPdu, turn}
use Rattle.cfdp_entity.specs.Putting.{Accepts}
use Rattle.cfdp_entity.specs.Sound.{SpellsTurn}
use Rattle.cfdp_entity.specs.Storing.{AsksToTick}
use Rattle.cfdp_entity.specs.Table.{Ticks}
use Rattle.cfdp_station.specs.Link.{FlushesBoth, next_lane}
use Rattle.cfdp_station.specs.Polling as station_polling
use Rattle.cfdp_station.specs.Polling.{MovesPdu, next_pdu, stored_by_poll}
use Rattle.cfdp_station.specs.Station.{StationState, KeepsLink, KeepsRest}
use Rattle.cfdp_station.specs.Taking.{TakesFrame}
use Rattle.cfdp_station.specs.declared.polled.Polled.{Polled}
use Rattle.cfdp_station.specs.declared.polled.Polled.TheVariants.{Moved, Nothing, Full, SourceFailed}
use Rattle.station_pair.specs.declared.side.Side.{Side}
use Rattle.station_pair.specs.declared.side.Side.TheVariants.{One, Two}
use Rattle.link_sim.specs.declared.event.AcceptedPut.{AcceptedPut}
use Rattle.link_sim.specs.declared.event.Applied.{Applied}
use Rattle.link_sim.specs.declared.event.Applied.TheVariants as did
use Rattle.link_sim.specs.declared.event.Event.{Event}
use Rattle.link_sim.specs.declared.event.Event.TheVariants as event
use Rattle.link_sim.specs.FrameLink.{most_struck, FrameLinkState, FrameLinksState, lane_of_links, oldest}
use Rattle.station_pair.specs.declared.world_config.WorldConfig.{WorldConfig}
use Rattle.link_sim.specs.AtStation.{AreCarried, AreSameMarks, FailsAt, FillsAt, FrameArrivesAt, HearsAt, SendsOneAt, StrikesAt}
use Rattle.cfdp_station.specs.Failures.{KeepsFailures, KeepsOutbox}
use Rattle.link_sim.specs.OneWay.{IsCarried}
use Rattle.link_sim.specs.Running.{AreSteps, Called, Happens, Led}
use Rattle.link_sim.specs.World.State.{WorldState, IsFirst}
use Rattle.cfdp_station.specs.New.{IsFirstAt}
use Rattle.link_sim.specs.World.Steps.{Steps, TellsTime}
use Rattle.station_pair.specs.Stations.{IsWorldConfig}
use Rattle.link_sim.proofs.Events.AtStations.{delivered_at, first_carried, struck_at}
use Rattle.link_sim.proofs.Events.Behind.{AreBehind, FillsBoth, IsBehind, SendsDown, all_left, all_sent, flush_both, lane_leaves, none_behind, one_more, sends_down}
use Rattle.link_sim.proofs.Events.InWorlds.{delivers-one, delivers-two, flushes-one, flushes-two, polls-one, polls-two, strikes-one, strikes-two, world_of}
use Rattle.link_sim.proofs.Events.Leading.{many-both, many-none, many-one}
use Rattle.link_sim.proofs.Lanes.Each.{each-lane, either-lane, lane-valid}

-- ---- a world, seen from one of its stations
-- This station is on that side, and sends over the first link.
abbrev pub world_at : Side → (a b : StationState) → (k m : FrameLinksState) → List AcceptedPut → ℕ → WorldState
world_at One a b k m puts ticks = world_of a b k m puts ticks
world_at Two a b k m puts ticks = world_of b a m k puts ticks

-- ---- events, one after another
-- Some events of these kinds led from the old world to the new one.
abbrev pub Reaches : (Event → Type 0) → (old new : WorldState) → Type 0
Reaches Of old new = (events : List Event) × Happens events old new × AllByRecursion Of events

-- all kinds of events
abbrev pub AnyEvent : Event → Type 0
AnyEvent e = Unit {0}

module _ (Of : Event → Type 0) where
  pub reaches_none : (old new : WorldState) → new ≡ old → Reaches Of old new
  reaches_none old new same = ([], ([], same), tt)

  before_all : (e : Event) (d : Applied) (old mid new : WorldState) → Of e → Steps e d old mid → Reaches Of mid new → Reaches Of old new
  before_all e d old mid new of step rest = (e ∷ rest.0, (d ∷ rest.1.0, (mid, step, rest.1.1)), (of, rest.2))

  joined : (events : List Event) (did : List Applied) (old mid new : WorldState) → AreSteps events did old mid → AllByRecursion Of events → Reaches Of mid new → Reaches Of old new
  joined [] [] old mid new same of rest = subst (λ (w : WorldState). Reaches Of w new) same rest
  joined [] (d ∷ did) old mid new bad of rest = absurd bad
  joined (e ∷ events) [] old mid new bad of rest = absurd bad
  joined (e ∷ events) (d ∷ did) old mid new (next, step, more) of rest = before_all e d old next new of.0 step (joined events did next mid new more of.1 rest)

  pub reaches_both : (old mid new : WorldState) → Reaches Of old mid → Reaches Of mid new → Reaches Of old new
  reaches_both old mid new one two = joined one.0 one.1.0 old mid new one.1.1 one.2 two

  pub one_event : (old new : WorldState) (e : Event) (d : Applied) → Of e → Steps e d old new → Reaches Of old new
  one_event old new e d of step = before_all e d old new new of step (reaches_none new new refl)

-- whatever kinds they are of
pub reaches_any : (Of : Event → Type 0) (old new : WorldState) → Reaches Of old new → Reaches AnyEvent old new
reaches_any Of old new h = (h.0, h.1, all h.0)
  where
    all : (events : List Event) → AllByRecursion AnyEvent events
    all [] = tt
    all (e ∷ events) = (tt, all events)

-- so they are calls of a world
led_by : (events : List Event) (did : List Applied) (old new : WorldState) → AreSteps events did old new → Led old new
led_by [] [] old new same = many-none Called old new same
led_by [] (d ∷ did) old new bad = absurd bad
led_by (e ∷ events) [] old new bad = absurd bad
led_by (e ∷ events) (d ∷ did) old new (next, step, more) = many-both Called old next new (many-one Called old next (inl (inl (e, d, step)))) (led_by events did next new more)

pub reaches_led : (Of : Event → Type 0) (old new : WorldState) → Reaches Of old new → Led old new
reaches_led Of old new h = led_by h.0 h.1.0 old new h.1.1

-- a station whose end that sends is another
abbrev pub with_down : StationState → DownState → StationState
with_down l d = record { entity = l.entity; down = d; up = l.up }

-- Of the station on this side of a world `l` differs by the frames that it keeps back: it has made
-- only so many of each lane. The other one is as in the world.
pub record IsAside (l : StationState) (d : DownState) (b : StationState) (k m : FrameLinksState) (sent : Lane → ℕ) : Type 0 where
  pub behind : AreBehind l.down d k b.up sent
  pub back : AreCarried b.down m l.up

-- It is the station of the world.
pub aside_none : (a b : StationState) (k m : FrameLinksState) → AreCarried a.down k b.up → AreCarried b.down m a.up → IsAside a a.down b k m (all_sent k)
aside_none a b k m forth back = record { behind = none_behind a.down k b.up forth; back = back }

-- What came of a world while a station on this side moved on, by events of these kinds.
pub record GoesAside (Of : Event → Type 0) (s : Side) (l now : StationState) (d : DownState) (b : StationState) (k m : FrameLinksState) (puts : List AcceptedPut) (ticks : ℕ) (sent : Lane → ℕ) : Type 0 where
  pub down : DownState
  pub link : FrameLinksState
  pub then_ticks : ℕ
  pub is : IsAside now down b link m sent
  pub led : Reaches Of (world_at s (with_down l d) b k m puts ticks) (world_at s (with_down now down) b link m puts then_ticks)
  pub marks : AreSameMarks k link
  pub more : Lane → List (List ℕ)
  pub grows : (x : Lane) → (lane_of_links x link).frames ≡ (lane_of_links x k).frames ++ more x

-- ---- what a station does before its frames leave
same_station : (now l : StationState) → now.entity ≡ l.entity → now.down ≡ l.down → now.up ≡ l.up → now ≡ l
same_station now l entity down up = λ i. record { entity = entity i; down = down i; up = up i }

module _ (s : Side) (l now : StationState) (d : DownState) (b : StationState) (k m : FrameLinksState) (puts : List AcceptedPut) (ticks : ℕ) (sent : Lane → ℕ) (is : IsAside l d b k m sent) where
  abbrev Goes : (Event → Type 0) → Type 0
  Goes Of = GoesAside Of s l now d b k m puts ticks sent

  -- the other way is as it was
  back_same : now.up ≡ l.up → AreCarried b.down m now.up
  back_same up = subst (λ (u : UpState). AreCarried b.down m u) (sym up) is.back

  -- so is this one
  behind_same : now.down ≡ l.down → AreBehind now.down d k b.up sent
  behind_same down = subst (λ (x : DownState). AreBehind x d k b.up sent) (sym down) is.behind

  -- both lanes of it are carried
  carried : AreCarried d k b.up
  carried x = (is.behind.lanes x).carried

  -- if only the entity changed, in one event
  entity_goes : (Of : Event → Type 0) (e : Event) → Of e → now.down ≡ l.down → now.up ≡ l.up
      → Steps e did.Applied (world_at s (with_down l d) b k m puts ticks) (world_at s (with_down now d) b k m puts ticks) → Goes Of
  entity_goes Of e of down up step = record {
    down = d;
    link = k;
    then_ticks = ticks;
    is = record { behind = behind_same down; back = back_same up };
    led = one_event Of _ _ e did.Applied of step;
    marks = λ x. (refl, refl, refl);
    more = λ x. [];
    grows = λ (x : Lane). sym (append-nil (lane_of_links x k).frames);
  }

  -- if nothing did, except for a frame that the lagging one may have made
  nothing_goes : (Of : Event → Type 0) → IsAside now d b k m sent → now.entity ≡ l.entity → now.up ≡ l.up → Goes Of
  nothing_goes Of after entity up = record {
    down = d;
    link = k;
    then_ticks = ticks;
    is = after;
    led = reaches_none Of _ _ (ap (λ (x : StationState). world_at s x b k m puts ticks) (same_station (with_down now d) (with_down l d) entity refl up));
    marks = λ x. (refl, refl, refl);
    more = λ x. [];
    grows = λ (x : Lane). sym (append-nil (lane_of_links x k).frames);
  }

  -- ---- the time
  module _ (t : ℕ) (ticked : Ticks t l.entity.state.table now.entity.state.table) (table : now.entity.state ≡ with_table l.entity.state now.entity.state.table)
      (failures : KeepsOutbox l.entity now.entity) (raises : AsksToTick Raises t l.entity.state.table l.entity.inbox_failures now.entity.inbox_failures)
      (link : KeepsLink l now) where
    tells : (q : Side) → TellsTime q t (world_at q (with_down l d) b k m puts ticks) (world_at q (with_down now d) b k m puts (raised ticks))
    tells One = record {
      ticked = ticked;
      table = table;
      failures = failures;
      raises = raises;
      links = record { ends = (refl, link.1); link = refl; spares = record { station = refl; link = refl } };
      puts = refl;
      ticks = refl;
    }
    tells Two = record {
      ticked = ticked;
      table = table;
      failures = failures;
      raises = raises;
      links = record { ends = (refl, link.1); link = refl; spares = record { station = refl; link = refl } };
      puts = refl;
      ticks = refl;
    }

    -- It is an event of the world, and no frame is made or leaves.
    pub tick_goes : (then_ticks : ℕ) × Steps (event.Tick s t) did.Applied (world_at s (with_down l d) b k m puts ticks) (world_at s (with_down now d) b k m puts then_ticks) × IsAside now d b k m sent
    tick_goes = (raised ticks, tells s, record { behind = behind_same link.0; back = back_same link.1 })

  -- ---- a poll
  module _ (moved : MovesPdu l.entity.state now.entity.state l.down now.down) (up : now.up ≡ l.up) (spells : SpellsTurn (turn l.entity.state) l.entity.state)
      (failures : KeepsFailures l.entity now.entity) where
    abbrev pdu : List ℕ
    pdu = next_pdu l.entity.state

    abbrev its_lane : Lane
    its_lane = next_lane l.entity.state

    sent_down : SendsDown its_lane pdu now.down d k b.up sent
    sent_down = sends_down l.down now.down d k b.up sent is.behind pdu moved.packet_count its_lane moved.sent moved.other

    abbrev then_down : DownState
    then_down = sent_down.goes.down

    abbrev then_link : FrameLinksState
    then_link = sent_down.goes.link

    polled : SendsOneAt (with_down l d) (with_down now then_down) k then_link
    polled = record {
      served = moved.served;
      spells = spells;
      failures = failures;
      sends = sent_down.sends;
      packet_count = sent_down.packet_count;
      other = sent_down.other;
      none_whole = sent_down.goes.none_whole;
      unflushed = (sent_down.goes.behind.lanes its_lane).flushed ∙ moved.sent.unflushed;
    }

    polls : (q : Side) → Steps (event.Poll q) did.Applied (world_at q (with_down l d) b k m puts ticks) (world_at q (with_down now then_down) b then_link m puts ticks)
    polls One = polls-one (with_down l d) (with_down now then_down) b k then_link m puts ticks did.Applied (inl polled) carried up sent_down.goes.marks
    polls Two = polls-two (with_down l d) (with_down now then_down) b k then_link m puts ticks did.Applied (inl polled) carried up sent_down.goes.marks

    moves_goes : (Of : Event → Type 0) → Of (event.Poll s) → Goes Of
    moves_goes Of of = record {
      down = then_down;
      link = then_link;
      then_ticks = ticks;
      is = record { behind = sent_down.goes.behind; back = back_same up };
      led = one_event Of _ _ (event.Poll s) did.Applied of (polls s);
      marks = sent_down.goes.marks;
      more = sent_down.goes.more;
      grows = sent_down.goes.grows;
    }

  module _ (room : ℕ) (lost : LosesPdu room l.entity.state now.entity.state) (up : now.up ≡ l.up) (failed : Counts storeds.Refused l.entity.outbox_failures now.entity.outbox_failures)
      (inbox : now.entity.inbox_failures ≡ l.entity.inbox_failures) where
    failed_at : FailsAt (with_down l d) (with_down now d) k k
    failed_at = record {
      place = lost.place;
      is_next = lost.is_next;
      carries = lost.carries;
      counts = failed;
      inbox = inbox;
      served = lost.served;
      down = refl;
      same_links = λ x. (refl, refl, refl, refl);
    }

    fails : (q : Side) → Steps (event.Poll q) did.Applied (world_at q (with_down l d) b k m puts ticks) (world_at q (with_down now d) b k m puts ticks)
    fails One = polls-one (with_down l d) (with_down now d) b k k m puts ticks did.Applied (inr failed_at) carried up (λ x. (refl, refl, refl))
    fails Two = polls-two (with_down l d) (with_down now d) b k k m puts ticks did.Applied (inr failed_at) carried up (λ x. (refl, refl, refl))

  pub poll_goes : (Of : Event → Type 0) → Of (event.Poll s) → (answer : Polled) → station_polling.Polls answer l now → (answer ≡ Moved → SpellsTurn (turn l.entity.state) l.entity.state)
      → CountsOutbox (stored_by_poll answer) l.entity.outbox_failures now.entity.outbox_failures → now.entity.inbox_failures ≡ l.entity.inbox_failures → Goes Of
  poll_goes Of of Moved polls spells outbox inbox = moves_goes polls.0 polls.1 (spells refl) (outbox, inbox) Of of
  poll_goes Of of Nothing polls spells outbox inbox = nothing_goes Of (record { behind = behind_same polls.0.2; back = back_same polls.1 }) polls.0.1 polls.1
  poll_goes Of of Full polls spells outbox inbox = nothing_goes Of (record { behind = behind_same polls.0.2; back = back_same polls.1 }) polls.0.1 polls.1
  poll_goes Of of SourceFailed polls spells outbox inbox = entity_goes Of (event.Poll s) of polls.0.1 polls.1 (fails _ polls.0.0 polls.1 outbox inbox s)

  -- ---- a flush
  module _ (rest : KeepsRest l now) (f : FillsBoth now.down d k b.up sent) where
    abbrev filled_down : DownState
    filled_down = f.goes.down

    abbrev filled_link : FrameLinksState
    filled_link = f.goes.link

    filled : FillsAt (with_down l d) (with_down now filled_down) k filled_link
    filled = record { entity = rest.0; lanes = f.lanes; packet_count = f.packet_count; more = f.more }

    flushes : (q : Side) → Steps (event.Flush q) did.Applied (world_at q (with_down l d) b k m puts ticks) (world_at q (with_down now filled_down) b filled_link m puts ticks)
    flushes One = flushes-one (with_down l d) (with_down now filled_down) b k filled_link m puts ticks did.Applied filled carried rest.1 f.goes.marks
    flushes Two = flushes-two (with_down l d) (with_down now filled_down) b k filled_link m puts ticks did.Applied filled carried rest.1 f.goes.marks

    fills_goes : (Of : Event → Type 0) → Of (event.Flush s) → Goes Of
    fills_goes Of of = record {
      down = filled_down;
      link = filled_link;
      then_ticks = ticks;
      is = record { behind = f.goes.behind; back = back_same rest.1 };
      led = one_event Of _ _ (event.Flush s) did.Applied of (flushes s);
      marks = f.goes.marks;
      more = f.goes.more;
      grows = f.goes.grows;
    }

  pub flush_on : (Of : Event → Type 0) → Of (event.Flush s) → FlushesBoth l.down now.down → KeepsRest l now → Goes Of
  flush_on Of of flushed rest = elim (flush_both l.down now.down d k b.up sent is.behind flushed) [
    | inl none ↦ nothing_goes Of (record { behind = behind_same none.1; back = back_same rest.1 }) rest.0 rest.1
    | inr f ↦ fills_goes rest f Of of
  ]

  -- ---- a frame leaves
  pub frame_on : (x : Lane) (frame : List ℕ) → MakesFrame frame (lane_down x l.down) (lane_down x now.down) → lane_down (other_lane x) now.down ≡ lane_down (other_lane x) l.down →
      now.down.packet_count ≡ l.down.packet_count → KeepsRest l now →
      IsAside now d b k m (one_more x sent) × (sent x < length (lane_of_links x k).frames) × (frame ≡ get_or (lane_of_links x k).frames (sent x) []) × (with_down now d ≡ with_down l d)
  frame_on x frame made other count rest =
      let f = lane_leaves x l.down now.down d k b.up sent frame is.behind made other count in
      (record { behind = f.0; back = back_same rest.1 }, f.1, f.2, same_station (with_down now d) (with_down l d) rest.0 refl rest.1)

-- as many frames left, in other words
pub sent_as : (l : StationState) (d : DownState) (b : StationState) (k m : FrameLinksState) (sent count : Lane → ℕ) → ((x : Lane) → count x ≡ sent x) → IsAside l d b k m sent → IsAside l d b k m count
sent_as l d b k m sent count same is = record {
  behind = record {
    lanes = λ (x : Lane). subst (λ n. IsBehind (lane_down x l.down) (lane_down x d) (lane_of_links x k) (lane_up x b.up) n) (sym (same x)) (is.behind.lanes x);
    packet_count = is.behind.packet_count;
  };
  back = is.back;
}

-- if it did nothing
pub goes_none : (Of : Event → Type 0) (s : Side) (l : StationState) (d : DownState) (b : StationState) (k m : FrameLinksState) (puts : List AcceptedPut) (ticks : ℕ) (sent : Lane → ℕ) →
    IsAside l d b k m sent → GoesAside Of s l l d b k m puts ticks sent
goes_none Of s l d b k m puts ticks sent is = nothing_goes s l l d b k m puts ticks sent is Of is refl refl

-- one step after another
pub goes_both : (Of : Event → Type 0) (s : Side) (l mid now : StationState) (d : DownState) (b : StationState) (k m : FrameLinksState) (puts : List AcceptedPut) (ticks : ℕ) (sent : Lane → ℕ) →
    (one : GoesAside Of s l mid d b k m puts ticks sent) → GoesAside Of s mid now one.down b one.link m puts one.then_ticks sent → GoesAside Of s l now d b k m puts ticks sent
goes_both Of s l mid now d b k m puts ticks sent one two = record {
  down = two.down;
  link = two.link;
  then_ticks = two.then_ticks;
  is = two.is;
  led = reaches_both Of _ _ _ one.led two.led;
  marks = λ (x : Lane). ((two.marks x).0 ∙ (one.marks x).0, (two.marks x).1 ∙ (one.marks x).1, (two.marks x).2 ∙ (one.marks x).2);
  more = λ (x : Lane). one.more x ++ two.more x;
  grows = λ (x : Lane). two.grows x ∙ ap (λ (y : List (List ℕ)). y ++ two.more x) (one.grows x) ∙ append_assoc (lane_of_links x k).frames (one.more x) (two.more x);
}

-- all frames of the lagging one have left: it is the station of the world
pub aside_all : (l : StationState) (d : DownState) (b : StationState) (k m : FrameLinksState) (sent : Lane → ℕ) → IsAside l d b k m sent →
    ((x : Lane) → length (lane_down x l.down).waiting < (lane_down x l.down).link.zone) → (with_down l d ≡ l) × ((x : Lane) → sent x ≡ length (lane_of_links x k).frames)
aside_all l d b k m sent is waits =
    let all = all_left l.down d k b.up sent is.behind waits in
    (ap (λ (x : DownState). with_down l x) (sym all.0), all.1)

-- ---- frames that are lost, and one that arrives
-- Both ways are carried. Of the frames of each lane of the first one so many were taken, and so many
-- of these were lost since the last one that arrived.
pub record AreJoined (a b : StationState) (k m : FrameLinksState) (taken gone : Lane → ℕ) : Type 0 where
  pub forth : AreCarried a.down k b.up
  pub back : AreCarried b.down m a.up
  pub marks : (x : Lane) → length (lane_of_links x k).marks ≡ taken x
  pub run : (x : Lane) → (lane_of_links x k).run ≡ gone x

abbrev struck_link : FrameLinkState → FrameLinkState
struck_link k = record k { marks = k.marks ++ false ∷ []; run = k.run + 1 }

abbrev arrived_link : FrameLinkState → FrameLinkState
arrived_link k = record k { marks = k.marks ++ true ∷ []; run = 0 }

-- a lane that is as it was is carried still
still : {d : LinkSenderState} {k n : FrameLinkState} {u v : LinkReceiverState} → IsCarried d k u → n ≡ k → v ≡ u → IsCarried d n v
still {d} {k} {n} {u} {v} is link up = subst (λ (y : FrameLinkState). IsCarried d y v) (sym link) (subst (λ (y : LinkReceiverState). IsCarried d k y) (sym up) is)

-- one lane with other frames; of that lane, and of the other one
abbrev put_lane : Lane → FrameLinkState → FrameLinksState → FrameLinksState
put_lane Directives n k = record { directives = n; file_data = k.file_data }
put_lane Data n k = record { directives = k.directives; file_data = n }

put_here : (x : Lane) (n : FrameLinkState) (k : FrameLinksState) → lane_of_links x (put_lane x n k) ≡ n
put_here Directives n k = refl
put_here Data n k = refl

put_beside : (x : Lane) (n : FrameLinkState) (k : FrameLinksState) → lane_of_links (other_lane x) (put_lane x n k) ≡ lane_of_links (other_lane x) k
put_beside Directives n k = refl
put_beside Data n k = refl

module _ (Of : Event → Type 0) (s : Side) (a : StationState) (m : FrameLinksState) (puts : List AcceptedPut) (ticks : ℕ) (x : Lane) where
  strikes : (q : Side) (b : StationState) (k n : FrameLinksState) → lane_of_links (other_lane x) n ≡ lane_of_links (other_lane x) k →
      IsCarried (lane_down x a.down) (lane_of_links x k) (lane_up x b.up) → StrikesAt did.Applied (lane_of_links x k) (lane_of_links x n) →
      Steps (event.Strike q x) did.Applied (world_at q a b k m puts ticks) (world_at q a b n m puts ticks)
  strikes One b k n other forth h = strikes-one x a b k n m puts ticks other did.Applied h forth
  strikes Two b k n other forth h = strikes-two x b a k n m puts ticks other did.Applied h forth

  -- so many frames of this lane were lost
  record Loses (b : StationState) (k : FrameLinksState) (lost : ℕ) : Type 0 where
    pub link : FrameLinksState
    pub forth : IsCarried (lane_down x a.down) (lane_of_links x link) (lane_up x b.up)
    pub led : Reaches Of (world_at s a b k m puts ticks) (world_at s a b link m puts ticks)
    pub frames : (lane_of_links x link).frames ≡ (lane_of_links x k).frames
    pub marks : length (lane_of_links x link).marks ≡ length (lane_of_links x k).marks + lost
    pub run : (lane_of_links x link).run ≡ (lane_of_links x k).run + lost
    pub other : lane_of_links (other_lane x) link ≡ lane_of_links (other_lane x) k

  loses : (b : StationState) (k : FrameLinksState) (lost : ℕ) → IsCarried (lane_down x a.down) (lane_of_links x k) (lane_up x b.up) →
      length (lane_of_links x k).marks + lost ≤ length (lane_of_links x k).frames → (lane_of_links x k).run + lost ≤ most_struck → (lost ≢ 0 → Of (event.Strike s x)) → Loses b k lost
  loses b k zero forth there few of = record { link = k; forth = forth; led = reaches_none Of _ _ refl; frames = refl; marks = omega arith; run = omega arith; other = refl }
  loses b k (suc lost) forth there few of =
      let old : FrameLinkState = lane_of_links x k in
      let n : FrameLinksState = put_lane x (struck_link old) k in
      let here : lane_of_links x n ≡ struck_link old = put_here x (struck_link old) k in
      let lost_one : StrikesAt did.Applied old (lane_of_links x n) = record { waits = omega (arith, there); few = omega (arith, few); marked = here } in
      let one : IsCarried (lane_down x a.down) (lane_of_links x n) (lane_up x b.up) = (struck_at did.Applied (lane_down x a.down) old (lane_of_links x n) (lane_up x b.up) lost_one forth).0 in
      let frames : (lane_of_links x n).frames ≡ old.frames = ap (λ (y : FrameLinkState). y.frames) here in
      let more : length (lane_of_links x n).marks ≡ length old.marks + 1 = ap (λ (y : FrameLinkState). length y.marks) here ∙ length-append old.marks (false ∷ []) in
      let once : (lane_of_links x n).run ≡ old.run + 1 = ap (λ (y : FrameLinkState). y.run) here in
      let strikes_it : Of (event.Strike s x) = of (λ none. (let bad : suc lost ≡ 0 = none in omega (arith, bad))) in
      let rest : Loses b n lost = loses b n lost one
      (omega (arith, more, there, ap (λ (y : List (List ℕ)). length y) frames)) (omega (arith, few, once)) (λ _. strikes_it) in
      record {
        link = rest.link;
        forth = rest.forth;
        led = reaches_both Of _ _ _ (one_event Of _ (world_at s a b n m puts ticks) (event.Strike s x) did.Applied strikes_it (strikes s b k n (put_beside x (struck_link old) k) forth lost_one)) rest.led;
        frames = rest.frames ∙ frames;
        marks = omega (arith, rest.marks, more);
        run = omega (arith, rest.run, once);
        other = rest.other ∙ put_beside x (struck_link old) k;
      }

  delivers : (q : Side) (b now : StationState) (k n : FrameLinksState) → lane_of_links (other_lane x) n ≡ lane_of_links (other_lane x) k → now.down ≡ b.down →
      IsCarried (lane_down x a.down) (lane_of_links x k) (lane_up x b.up) → FrameArrivesAt did.Applied x (lane_of_links x k) (lane_of_links x n) b now →
      Steps (event.Deliver q x) did.Applied (world_at q a b k m puts ticks) (world_at q a now n m puts ticks)
  delivers One b now k n other down forth h = delivers-one x k n m b now a puts ticks other down did.Applied h forth
  delivers Two b now k n other down forth h = delivers-two x k n m b now a puts ticks other down did.Applied h forth

  -- What came of a world in which frames of this lane were lost, and then one arrived or none.
  pub record Arrives (b now : StationState) (k : FrameLinksState) (then_taken then_gone : Lane → ℕ) : Type 0 where
    pub link : FrameLinksState
    pub are : AreJoined a now link m then_taken then_gone
    pub led : Reaches Of (world_at s a b k m puts ticks) (world_at s a now link m puts ticks)
    pub frames : (y : Lane) → (lane_of_links y link).frames ≡ (lane_of_links y k).frames

  -- Frames of this lane that wait are lost.
  pub lose : (b : StationState) (k : FrameLinksState) (taken then_taken gone then_gone : Lane → ℕ) (lost : ℕ) → AreJoined a b k m taken gone → gone x + lost < frame_counts →
      (lost ≢ 0 → Of (event.Strike s x)) → taken x + lost ≤ length (lane_of_links x k).frames →
      then_taken x ≡ taken x + lost → then_taken (other_lane x) ≡ taken (other_lane x) → then_gone x ≡ gone x + lost → then_gone (other_lane x) ≡ gone (other_lane x) →
      Arrives b b k then_taken then_gone
  lose b k taken then_taken gone then_gone lost are few of there taken_here taken_beside gone_here gone_beside =
      let n : Loses b k lost = loses b k lost (are.forth x) (omega (arith, are.marks x, there)) (omega (arith, are.run x, few)) of in
      record {
        link = n.link;
        are = record {
          forth = either-lane (λ (y : Lane). IsCarried (lane_down y a.down) (lane_of_links y n.link) (lane_up y b.up)) x
              n.forth (subst (λ (y : FrameLinkState). IsCarried (lane_down (other_lane x) a.down) y (lane_up (other_lane x) b.up)) (sym n.other) (are.forth (other_lane x)));
          back = are.back;
          marks = either-lane (λ (y : Lane). length (lane_of_links y n.link).marks ≡ then_taken y) x (omega (arith, n.marks, are.marks x, taken_here))
              (ap (λ (y : FrameLinkState). length y.marks) n.other ∙ are.marks (other_lane x) ∙ sym taken_beside);
          run = either-lane (λ (y : Lane). (lane_of_links y n.link).run ≡ then_gone y) x (omega (arith, n.run, are.run x, gone_here))
              (ap (λ (y : FrameLinkState). y.run) n.other ∙ are.run (other_lane x) ∙ sym gone_beside);
        };
        led = n.led;
        frames = either-lane (λ (y : Lane). (lane_of_links y n.link).frames ≡ (lane_of_links y k).frames) x n.frames (ap (λ (y : FrameLinkState). y.frames) n.other);
      }

  pub arrives : (b now : StationState) (k : FrameLinksState) (taken then_taken gone then_gone : Lane → ℕ) (lost : ℕ) (frame : List ℕ) → AreJoined a b k m taken gone → gone x + lost < frame_counts →
      (lost ≢ 0 → Of (event.Strike s x)) → Of (event.Deliver s x) → taken x + lost < length (lane_of_links x k).frames → frame ≡ get_or (lane_of_links x k).frames (taken x + lost) [] → TakesFrame frame b now →
      then_taken x ≡ taken x + lost + 1 → then_taken (other_lane x) ≡ taken (other_lane x) → then_gone x ≡ 0 → then_gone (other_lane x) ≡ gone (other_lane x) →
      Arrives b now k then_taken then_gone
  arrives b now k taken then_taken gone then_gone lost frame are few of_strike of_deliver there e takes taken_here taken_beside gone_here gone_beside =
      let marks : length (lane_of_links x k).marks ≡ taken x = are.marks x in
      let n : Loses b k lost = loses b k lost (are.forth x) (omega (arith, marks, there)) (omega (arith, are.run x, few)) of_strike in
      let old : FrameLinkState = lane_of_links x n.link in
      let at : length old.marks ≡ taken x + lost = omega (arith, n.marks, marks) in
      let waits : length old.marks < length old.frames = omega (arith, at, there, ap (λ (y : List (List ℕ)). length y) n.frames) in
      let first : frame ≡ oldest old = e ∙ ap (λ i. get_or (lane_of_links x k).frames i []) (sym at) ∙ ap (λ (y : List (List ℕ)). get_or y (length old.marks) []) (sym n.frames) in
      let forth : AreCarried a.down n.link b.up = either-lane (λ (y : Lane). IsCarried (lane_down y a.down) (lane_of_links y n.link) (lane_up y b.up)) x
      n.forth (subst (λ (y : FrameLinkState). IsCarried (lane_down (other_lane x) a.down) y (lane_up (other_lane x) b.up)) (sym n.other) (are.forth (other_lane x))) in
      let link : FrameLinksState = put_lane x (arrived_link old) n.link in
      let hears : (down : LinkSenderState) → IsCarried down old (lane_up x b.up) → HearsAt x down old (arrived_link old) b now =
      λ (down : LinkSenderState) (is : IsCarried down old (lane_up x b.up)). delivered_at x down old b now frame is waits first takes in
      let h : HearsAt x (lane_down x a.down) old (arrived_link old) b now = hears (lane_down x a.down) (forth x) in
      let comes : FrameArrivesAt did.Applied x old (lane_of_links x link) b now =
      subst (λ (y : FrameLinkState). FrameArrivesAt did.Applied x old y b now) (sym (put_here x (arrived_link old) n.link)) (record { waits = waits; hears = hears; marked = refl; down = takes.down }) in
      let here : lane_of_links x link ≡ arrived_link old = put_here x (arrived_link old) n.link in
      let beside : lane_of_links (other_lane x) link ≡ lane_of_links (other_lane x) k = put_beside x (arrived_link old) n.link ∙ n.other in
      let marked_here : length (lane_of_links x link).marks ≡ then_taken x =
      ap (λ (y : FrameLinkState). length y.marks) here ∙ length-append old.marks (true ∷ []) ∙ ap (λ i. i + 1) at ∙ sym taken_here in
      record {
        link = link;
        are = record {
          forth = either-lane (λ (y : Lane). IsCarried (lane_down y a.down) (lane_of_links y link) (lane_up y now.up)) x
              (subst (λ (y : FrameLinkState). IsCarried (lane_down x a.down) y (lane_up x now.up)) (sym here) h.carried)
              (still (forth (other_lane x)) (put_beside x (arrived_link old) n.link) h.other_up);
          back = subst (λ (d : DownState). AreCarried d m a.up) (sym takes.down) are.back;
          marks = either-lane (λ (y : Lane). length (lane_of_links y link).marks ≡ then_taken y) x marked_here
              (ap (λ (y : FrameLinkState). length y.marks) beside ∙ are.marks (other_lane x) ∙ sym taken_beside);
          run = either-lane (λ (y : Lane). (lane_of_links y link).run ≡ then_gone y) x (ap (λ (y : FrameLinkState). y.run) here ∙ sym gone_here)
              (ap (λ (y : FrameLinkState). y.run) beside ∙ are.run (other_lane x) ∙ sym gone_beside);
        };
        led = reaches_both Of _ _ _ n.led (one_event Of (world_at s a b n.link m puts ticks) _ (event.Deliver s x) did.Applied of_deliver
            (delivers s b now n.link link (put_beside x (arrived_link old) n.link) takes.down (forth x) comes));
        frames = either-lane (λ (y : Lane). (lane_of_links y link).frames ≡ (lane_of_links y k).frames) x
            (ap (λ (y : FrameLinkState). y.frames) here ∙ n.frames) (ap (λ (y : FrameLinkState). y.frames) beside);
      }

-- ---- at first
abbrev no_lane : LinkSenderState → FrameLinkState
no_lane d = record { frames = []; places = []; marks = []; run = 0; blanks = 0; len = frame_len d.link }

abbrev pub no_link : DownState → FrameLinksState
no_link d = record { directives = no_lane d.directives; file_data = no_lane d.file_data }

pub no_link-none : (d : DownState) (x : Lane) → ((lane_of_links x (no_link d)).frames ≡ []) × (length (lane_of_links x (no_link d)).marks ≡ 0) × ((lane_of_links x (no_link d)).run ≡ 0)
no_link-none d Directives = (refl, refl, refl)
no_link-none d Data = (refl, refl, refl)

-- an end that sent nothing, and one that took nothing
none_down : (link : ChannelConfig) (capacity : ℕ) → IsDown (first_lane_down link capacity) [] 0
none_down link capacity =
    let none : 0 * link.zone ≡ 0 = omega arith in
    record {
      packed = record {
        packets_whole = tt;
        below = omega (arith, none);
        rest = ap (λ n. drop n []) (sym none);
        start = ap (λ n. next_start n 0 []) (sym none);
      };
      of_link = tt;
      counted = refl;
    }

none_up : (link : ChannelConfig) → IsUp (first_lane_up link) [] [] 0
none_up link = new_is true link [] (replicate 12 0) refl tt tt

lane_carries : (d : LinkSenderState) (u : LinkReceiverState) (link : ChannelConfig) (capacity : ℕ) → IsChannel link → d ≡ first_lane_down link capacity → u ≡ first_lane_up link → IsCarried d (no_lane d) u
lane_carries d u link capacity valid down up =
    first_carried d u (no_lane d) link capacity (frame_len d.link) valid down (subst (λ (x : LinkSenderState). IsDown x [] 0) (sym down) (none_down link capacity))
    up (subst (λ (x : LinkReceiverState). IsUp x [] [] 0) (sym up) (none_up link)) refl refl

first_carries : (d : DownState) (u : UpState) (link : LinkConfig) (capacity : ℕ) → IsLink link → d ≡ first_down link capacity → u ≡ first_up link → AreCarried d (no_link d) u
first_carries d u link capacity valid down up = each-lane (λ (x : Lane). IsCarried (lane_down x d) (lane_of_links x (no_link d)) (lane_up x u))
    (lane_carries d.directives u.directives (lane_channel Directives link) capacity (lane-valid Directives link valid) (ap (λ (x : DownState). x.directives) down) (ap (λ (x : UpState). x.directives) up))
    (lane_carries d.file_data u.file_data (lane_channel Data link) capacity (lane-valid Data link valid) (ap (λ (x : DownState). x.file_data) down) (ap (λ (x : UpState). x.file_data) up))

-- no frame of either lane was taken
abbrev pub none_taken : Lane → ℕ
none_taken x = 0

-- Two new stations of a world's configuration are joined.
pub first_joined : (c : WorldConfig) (outboxes inboxes : FileMap × FileMap) (a b : StationState) → IsWorldConfig c → IsFirstAt c.one outboxes.0 inboxes.0 a → IsFirstAt c.two outboxes.1 inboxes.1 b →
    AreJoined a b (no_link a.down) (no_link b.down) none_taken none_taken × IsFirst c outboxes inboxes (world_of a b (no_link a.down) (no_link b.down) [] 0)
first_joined c outboxes inboxes a b valid one two = (
  record {
    forth = first_carries a.down b.up c.one.sends c.one.capacity valid.one.sends one.down (two.up ∙ ap first_up (sym valid.sends));
    back = first_carries b.down a.up c.two.sends c.two.capacity valid.two.sends two.down (one.up ∙ ap first_up valid.receives);
    marks = λ (x : Lane). (no_link-none a.down x).1;
    run = λ (x : Lane). (no_link-none a.down x).2;
  },
  record { one = one; two = two; from_one = refl; from_two = refl; puts = refl; ticks = refl },
)

-- A put that the first station accepts is an event of the world.
pub put_reaches : (source destination : List ℕ) (id : TransactionId) (a now b : StationState) (k m : FrameLinksState) (puts : List AcceptedPut) (ticks : ℕ) →
    Accepts source destination id a.entity.state now.entity.state →
    KeepsFailures a.entity now.entity → KeepsLink a now → Reaches AnyEvent (world_of a b k m puts ticks) (world_of now b k m (puts ++ record { id = id; source = source; destination = destination } ∷ []) ticks)
put_reaches source destination id a now b k m puts ticks accepts failures link = one_event AnyEvent _ _ (event.Put One source destination) did.Applied tt (record {
  id = id;
  accepts = accepts;
  failures = failures;
  links = record { ends = link; link = refl; spares = record { station = refl; link = refl } };
  puts = refl;
  ticks = refl;
})
