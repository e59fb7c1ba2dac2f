-- Two stations that take turns over wires that keep the order of each lane are those of a world: turn by turn,
-- and in each one event after another.
use Rattle.std.proofs.Common.{◌≡◌, ◌≢◌, Bool, true, false, ℕ, zero, suc, ◌+◌, ◌<◌, ◌≤◌, List, [], ◌∷◌, ◌++◌, length, take, get_or, Option, Some, None, Result, Ok, Err, refl, sym, ap, subst, ◌∙◌, inl, inr, arith, length-append}
use Rattle.std.specs.Prelude.{IsTrue}
use Rattle.std.proofs.lemmas.List.{append-nil, append_assoc, take_all, take_more}
use Rattle.std.proofs.Math.Seq.{take-append_seam}
use Rattle.aos_frame.specs.Counts.{frame_counts}
use Rattle.aos_frame.specs.Frame.{other_lane}
use Rattle.aos_frame.specs.declared.config.Lane.{Lane}
use Rattle.aos_frame.specs.declared.config.Lane.TheVariants.{Directives, Data}
use Rattle.cfdp_header.specs.Files.{FileMap}
use Rattle.cfdp_header.specs.declared.value.TransactionId.{TransactionId}
use Rattle.link_stack.specs.Downward.{DownState}
use Rattle.link_stack.specs.Upward.{UpState}
use Rattle.cfdp_entity.specs.Entity.{Counted}
use Rattle.cfdp_entity.specs.Polling.{turn}
use Rattle.cfdp_entity.specs.Sound.{SpellsTurn}
use Rattle.cfdp_station.specs.Polling.{Polls}
use Rattle.cfdp_station.specs.Station.{StationState}
use Rattle.cfdp_station.proofs.Lent.{polls-stood}
use Rattle.link_sim.specs.declared.event.AcceptedPut.{AcceptedPut}
use Rattle.link_sim.specs.declared.event.Applied.TheVariants as did
use Rattle.link_sim.specs.declared.event.Event.{Event}
use Rattle.link_sim.specs.declared.event.Event.TheVariants as event
use Rattle.station_pair.specs.declared.side.Side.{Side}
use Rattle.station_pair.specs.declared.side.Side.TheVariants.{One, Two}
use Rattle.station_pair.specs.declared.world_config.WorldConfig.{WorldConfig}
use Rattle.link_sim.specs.AtStation.{AreCarried, AreSameMarks}
use Rattle.link_sim.specs.FrameLink.{FrameLinksState, lane_of_links}
use Rattle.link_sim.specs.Running.{KeepsPromises, Led}
use Rattle.link_sim.specs.World.State.{LinkState, WorldState, IsFirst}
use Rattle.link_sim.specs.World.Steps.{Steps as Does}
use Rattle.cfdp_station.specs.New.{IsFirstAt}
use Rattle.station_pair.specs.Stations.{IsWorldConfig}
use Rattle.ports_in_order.proofs.Aside.{AnyEvent, AreJoined, Arrives, GoesAside, IsAside, Reaches, arrives, aside_all, aside_none, first_joined, flush_on, frame_on, goes_both, goes_none, no_link, no_link-none, none_taken, one_event, poll_goes, put_reaches, reaches_any, reaches_both, reaches_led, reaches_none, sent_as, tick_goes, with_down, world_at}
use Rattle.link_sim.proofs.Events.Behind.{all_sent, one_more}
use Rattle.link_sim.proofs.Lanes.Each.{lane-seen}
use Rattle.cfdp_station.proofs.Whole.{none-is_whole}
use Rattle.cfdp_station.specs.declared.pumping.Until.TheVariants.{Rest}
use Rattle.cfdp_station.specs.Transmitting.{EndsPolls, MovesMore, PollsOnce, PollsUntil, Times}
use Rattle.ports_in_order.specs.InOrder.{AreOfWorld, ComeInOrder, PassInOrder, Passage, PassesInOrder, nothing_passed, taken_to}
use Rattle.cfdp_port.specs.Passing.{frames_came, frames_left, in_lane, what_came}
use Rattle.cfdp_port.specs.Asking.{Puts}
use Rattle.cfdp_port.specs.Pair.{PairState, TakesTurn, Turns}
use Rattle.cfdp_port.specs.Port.{AtStation, PortState}
use Rattle.cfdp_port.specs.Turn.{AsksOn, HearsAll, SendsFrame, Sends, TakesWhat}
use Rattle.cfdp_port.specs.Calls.{WireCall}
use Rattle.cfdp_port.specs.declared.wire.WireFault.{WireFault}
use Rattle.cfdp_port.proofs.GainLemmas.{GoesOnLaws, hears-gains, ticks-gains}

-- the frames of each lane
abbrev frames_in : FrameLinksState → Lane → List (List ℕ)
frames_in k x = (lane_of_links x k).frames

-- The files that a station sends stand.
abbrev Stand : StationState → Type 0
Stand s = IsTrue s.entity.state.table.stands

-- ---- events of a turn
-- The kinds of events, beside ticks, that a turn has of which no frame is lost.
pub record AreOfTurn (Of : Event → Type 0) : Type 0 where
  pub poll : (s : Side) → Of (event.Poll s)
  pub flush : (s : Side) → Of (event.Flush s)
  pub deliver : (s : Side) (x : Lane) → Of (event.Deliver s x)

-- ---- what a station sends
module _ (Of : Event → Type 0) (of : AreOfTurn Of) (s : Side) (b : StationState) (m : FrameLinksState) (puts : List AcceptedPut) where
  -- If its files stand, the station went on from a first state.
  abbrev GoesOn : (first l : StationState) (d : DownState) (k : FrameLinksState) (ticks : ℕ) (sent : Lane → ℕ) → Type 0
  GoesOn first l d k ticks sent = Stand l → GoesAside Of s first l d b k m puts ticks sent

  -- and polled once more: what it read is what its files have
  polled_once : (first l now : StationState) (d : DownState) (k : FrameLinksState) (ticks : ℕ) (sent : Lane → ℕ) → GoesOn first l d k ticks sent
      → (answer : _) → PollsOnce answer l now → GoesOn first now d k ticks sent
  polled_once first l now d k ticks sent before answer p stand =
      let stood = polls-stood answer l now p.shows stand in
      let g : GoesAside Of s first l d b k m puts ticks sent = before stood.0 in
      goes_both Of s first l now d b k m puts ticks sent g
      (poll_goes s l now g.down b g.link m puts g.then_ticks sent g.is Of (of.poll s) answer (subst (λ (x : StationState). Polls answer x now) stood.1 p.polls)
      (λ moved. subst (λ (x : StationState). SpellsTurn (turn x.entity.state) x.entity.state) stood.1 (p.spells moved)) p.outbox p.inbox)

  polled_more : (first : StationState) (d : DownState) (k : FrameLinksState) (ticks : ℕ) (sent : Lane → ℕ) (count : ℕ) (l now : StationState) → Times (MovesMore Rest) count l now
      → GoesOn first l d k ticks sent → GoesOn first now d k ticks sent
  polled_more first d k ticks sent zero l now same g = subst (λ (x : StationState). GoesOn first x d k ticks sent) (sym same) g
  polled_more first d k ticks sent (suc count) l now (mid, before, (on, (answer, more, once))) g =
      polled_once first mid now d k ticks sent (polled_more first d k ticks sent count l mid before g) answer once

  polled_ends : (first l now : StationState) (d : DownState) (k : FrameLinksState) (ticks : ℕ) (sent : Lane → ℕ) (rests : Bool) (count : ℕ) → EndsPolls Rest 16 rests count l now
      → GoesOn first l d k ticks sent → GoesOn first now d k ticks sent
  polled_ends first l now d k ticks sent true count ends g = polled_once first l now d k ticks sent g ends.1.1.0 ends.1.1.2
  polled_ends first l now d k ticks sent false count ends g = subst (λ (x : StationState). GoesOn first x d k ticks sent) (sym ends.1) g

  polled_out : (first l now : StationState) (d : DownState) (k : FrameLinksState) (ticks : ℕ) (sent : Lane → ℕ) (rests : Bool) → PollsUntil Rest 16 rests l now → GoesOn first l d k ticks sent →
      GoesOn first now d k ticks sent
  polled_out first l now d k ticks sent rests p g =
      polled_ends first p.last now d k ticks sent rests p.count p.ends (polled_more first d k ticks sent p.count l p.last p.moved g)

-- ---- frames that leave
-- one frame more of a lane
one_in : (y x : Lane) (frame : List ℕ) (sent : Lane → ℕ) → one_more x sent y ≡ sent y + length (in_lane y x frame)
one_in Directives Directives frame sent = refl
one_in Directives Data frame sent = omega arith
one_in Data Directives frame sent = omega arith
one_in Data Data frame sent = refl

one_below : (x y : Lane) (sent : Lane → ℕ) (frames : Lane → List (List ℕ)) → sent x < length (frames x) → ((z : Lane) → sent z ≤ length (frames z)) → one_more x sent y ≤ length (frames y)
one_below Directives Directives sent frames low all = omega (arith, low)
one_below Directives Data sent frames low all = all Data
one_below Data Directives sent frames low all = all Directives
one_below Data Data sent frames low all = omega (arith, low)

take_one : (x y : Lane) (sent : Lane → ℕ) (frames : Lane → List (List ℕ)) (frame : List ℕ) → sent x < length (frames x) → frame ≡ get_or (frames x) (sent x) [] →
    take (one_more x sent y) (frames y) ≡ take (sent y) (frames y) ++ in_lane y x frame
take_one Directives Directives sent frames frame low e = take_more (frames Directives) (sent Directives) [] low ∙ ap (λ (f : List ℕ). take (sent Directives) (frames Directives) ++ f ∷ []) (sym e)
take_one Directives Data sent frames frame low e = sym (append-nil (take (sent Data) (frames Data)))
take_one Data Directives sent frames frame low e = sym (append-nil (take (sent Directives) (frames Directives)))
take_one Data Data sent frames frame low e = take_more (frames Data) (sent Data) [] low ∙ ap (λ (f : List ℕ). take (sent Data) (frames Data) ++ f ∷ []) (sym e)

-- so many of each lane, and these more
abbrev then_sent : (sent : Lane → ℕ) → (left : Lane → List (List ℕ)) → Lane → ℕ
then_sent sent left x = sent x + length (left x)

module _ {W : Type 0} (Steps : W → WireCall → W → Type 0) where
  -- Frames of a station that lags left, those of each lane of the world in order.
  record Leaves (d : DownState) (b : StationState) (k m : FrameLinksState) (sent : Lane → ℕ) (left : Lane → List (List ℕ)) (old now : StationState) : Type 0 where
    pub is : IsAside now d b k m (then_sent sent left)
    pub below : (x : Lane) → then_sent sent left x ≤ length (frames_in k x)
    pub left_are : (x : Lane) → take (then_sent sent left x) (frames_in k x) ≡ take (sent x) (frames_in k x) ++ left x
    pub same : with_down now d ≡ with_down old d

  abbrev all_left : (count : ℕ) → (old now : PortState W) → Times (SendsFrame Steps) count old now → Lane → List (List ℕ)
  all_left count old now times x = frames_left Steps x count old now times

  leave : (d : DownState) (b : StationState) (k m : FrameLinksState) (sent : Lane → ℕ) (count : ℕ) (old now : PortState W) → ((x : Lane) → sent x ≤ length (frames_in k x)) →
      IsAside old.station d b k m sent
      → (times : Times (SendsFrame Steps) count old now) → Leaves d b k m sent (all_left count old now times) old.station now.station
  leave d b k m sent zero old now few is same =
      let none : (x : Lane) → sent x + 0 ≡ sent x = λ (x : Lane). omega arith in
      let station : now.station ≡ old.station = ap (λ (x : PortState W). x.station) same in
      record {
        is = sent_as now.station d b k m sent (λ x. sent x + 0) none (subst (λ (x : StationState). IsAside x d b k m sent) (sym station) is);
        below = λ (x : Lane). (let low = few x in omega (arith, low));
        left_are = λ (x : Lane). ap (λ n. take n (frames_in k x)) (none x) ∙ sym (append-nil (take (sent x) (frames_in k x)));
        same = ap (λ (x : StationState). with_down x d) station;
      }
  leave d b k m sent (suc count) old now few is (mid, before, step) =
      let left : Lane → List (List ℕ) = all_left count old mid before in
      let h : Leaves d b k m sent left old.station mid.station = leave d b k m sent count old mid few is before in
      let n : Lane → ℕ = then_sent sent left in
      let f = frame_on One mid.station now.station d b k m [] 0 n h.is step.lane step.frame step.gives.made step.gives.other step.gives.packet_count step.gives.rest in
      let grown : (x : Lane) → sent x + length (left x ++ in_lane x step.lane step.frame) ≡ one_more step.lane n x =
      λ (x : Lane). (let one = one_in x step.lane step.frame n in let both = length-append (left x) (in_lane x step.lane step.frame) in omega (arith, one, both)) in
      record {
        is = sent_as now.station d b k m (one_more step.lane n) (λ x. sent x + length (left x ++ in_lane x step.lane step.frame)) grown f.0;
        below = λ (x : Lane). (let low = one_below step.lane x n (frames_in k) f.1 h.below in let sum = grown x in omega (arith, low, sum));
        left_are = λ (x : Lane). ap (λ i. take i (frames_in k x)) (grown x) ∙ take_one step.lane x n (frames_in k) step.frame f.1 f.2
            ∙ ap (λ (ys : List (List ℕ)). ys ++ in_lane x step.lane step.frame) (h.left_are x)
            ∙ append_assoc (take (sent x) (frames_in k x)) (left x) (in_lane x step.lane step.frame);
        same = f.3 ∙ h.same;
      }

  -- ---- if its files stand, they stood before
  left_same : (count : ℕ) (old now : PortState W) → Times (SendsFrame Steps) count old now → now.station.entity ≡ old.station.entity
  left_same zero old now same = ap (λ (x : PortState W). x.station.entity) same
  left_same (suc count) old now (mid, before, step) = step.gives.rest.0 ∙ left_same count old mid before

  polled_stood : (now : ℕ) (old new : PortState W) (h : Sends Steps now old new) → Stand new.station → Stand h.polled
  polled_stood now old new h stand =
      let same : new.station.entity ≡ h.polled.entity = left_same h.sends.count (record old { station = h.flushed }) new h.sends.sent ∙ h.flushes.1.0 in
      subst (λ (e : Counted). IsTrue e.state.table.stands) same stand

  moves_stood : (count : ℕ) (a b : StationState) → Times (MovesMore Rest) count a b → Stand b → Stand a
  moves_stood zero a b same stand = subst Stand same stand
  moves_stood (suc count) a b (mid, before, (on, (answer, more, once))) stand = moves_stood count a mid before (polls-stood answer mid b once.shows stand).0

  ends_stood : (rests : Bool) (count : ℕ) (a b : StationState) → EndsPolls Rest 16 rests count a b → Stand b → Stand a
  ends_stood true count a b ends stand = (polls-stood ends.1.1.0 a b ends.1.1.2.shows stand).0
  ends_stood false count a b ends stand = subst Stand ends.1 stand

  out_stood : (rests : Bool) (a b : StationState) → PollsUntil Rest 16 rests a b → Stand b → Stand a
  out_stood rests a b p stand = moves_stood p.count a p.last p.moved (ends_stood rests p.count p.last b p.ends stand)

  sends_stood : GoesOnLaws → (now : ℕ) (old new : PortState W) → Sends Steps now old new → Stand new.station → Stand old.station
  sends_stood laws now old new h stand =
      (ticks-gains laws now old.station h.told h.tells).stood (out_stood h.rests h.told h.polled h.polls (polled_stood now old new h stand))

  hears_stood : GoesOnLaws → (old new : PortState W) → HearsAll Steps old new → Stand new.station → Stand old.station
  hears_stood laws old new h stand = (hears-gains laws Steps old new h).stood stand

  -- What came of a world while a station on this side sent in its turn: it was given the time, and
  -- then came events of these kinds.
  pub record HasSent (Of : Event → Type 0) (s : Side) (now : ℕ) (l new b : StationState) (k m : FrameLinksState) (puts : List AcceptedPut) (ticks : ℕ) (left : Lane → List (List ℕ)) : Type 0 where
    pub told : WorldState
    pub ticked : Does (event.Tick s now) did.Applied (world_at s l b k m puts ticks) told
    pub link : FrameLinksState
    pub then_ticks : ℕ
    pub forth : AreCarried new.down link b.up
    pub back : AreCarried b.down m new.up
    pub marks : AreSameMarks k link
    pub frames : (x : Lane) → frames_in link x ≡ frames_in k x ++ left x
    pub led : Reaches Of told (world_at s new b link m puts then_ticks)

  has_sent : (Of : Event → Type 0) → AreOfTurn Of → (s : Side) (now : ℕ) (old new : PortState W) (b : StationState) (k m : FrameLinksState) (puts : List AcceptedPut) (ticks : ℕ) → AreCarried old.station.down k b.up →
      AreCarried b.down m old.station.up
      → (h : Sends Steps now old new) → Stand new.station → HasSent Of s now old.station new.station b k m puts ticks (all_left h.sends.count _ _ h.sends.sent)
  has_sent Of of s now old new b k m puts ticks forth back h stand =
      let l : StationState = old.station in
      let sent : Lane → ℕ = all_sent k in
      let tick = tick_goes s l h.told l.down b k m puts ticks sent (aside_none l b k m forth back) now h.tells.ticked h.tells.table h.tells.failures h.tells.raises h.tells.link in
      let told : GoesAside Of s h.told h.told l.down b k m puts tick.0 sent = goes_none Of s h.told l.down b k m puts tick.0 sent tick.2 in
      let polled : GoesAside Of s h.told h.polled l.down b k m puts tick.0 sent =
      polled_out Of of s b m puts h.told h.told h.polled l.down k tick.0 sent h.rests h.polls (λ stood. told) (polled_stood now old new h stand) in
      let g : GoesAside Of s h.told h.flushed l.down b k m puts tick.0 sent = goes_both Of s h.told h.polled h.flushed l.down b k m puts tick.0 sent polled
      (flush_on s h.polled h.flushed polled.down b polled.link m puts polled.then_ticks sent polled.is Of (of.flush s) h.flushes.0 h.flushes.1) in
      let start : PortState W = record old { station = h.flushed } in
      let left : Lane → List (List ℕ) = all_left h.sends.count start new h.sends.sent in
      let few : (x : Lane) → sent x ≤ length (frames_in g.link x) =
      λ (x : Lane). (let grown = ap (λ (ys : List (List ℕ)). length ys) (g.grows x) in let both = length-append (frames_in k x) (g.more x) in omega (arith, grown, both)) in
      let v : Leaves g.down b g.link m sent left h.flushed new.station = leave g.down b g.link m sent h.sends.count start new few g.is h.sends.sent in
      let all = aside_all new.station g.down b g.link m (then_sent sent left) v.is (none-is_whole new.station.down h.sends.none_whole) in
      let down : new.station.down ≡ g.down = ap (λ (x : StationState). x.down) (sym all.0) in
      record {
        told = world_at s (with_down h.told l.down) b k m puts tick.0;
        ticked = tick.1;
        link = g.link;
        then_ticks = g.then_ticks;
        forth = subst (λ (x : DownState). AreCarried x g.link b.up) (sym down) (λ (x : Lane). (v.is.behind.lanes x).carried);
        back = v.is.back;
        marks = g.marks;
        frames = λ (x : Lane). sym (take_all (length (frames_in g.link x)) (frames_in g.link x) (omega arith)) ∙ ap (λ n. take n (frames_in g.link x)) (sym (all.1 x)) ∙ v.left_are x
            ∙ ap (λ (ys : List (List ℕ)). take (sent x) ys ++ left x) (g.grows x) ∙ ap (λ (ys : List (List ℕ)). ys ++ left x) (take-append_seam (frames_in k x) (g.more x));
        led = subst (λ (x : StationState). Reaches Of (world_at s (with_down h.told l.down) b k m puts tick.0) (world_at s x b g.link m puts g.then_ticks)) (sym v.same ∙ all.0) g.led;
      }

  -- ---- frames that come
  taken_here : (x : Lane) (n : ℕ) (taken : Lane → ℕ) → taken_to x n taken x ≡ n
  taken_here Directives n taken = refl
  taken_here Data n taken = refl

  taken_beside : (x : Lane) (n : ℕ) (taken : Lane → ℕ) → taken_to x n taken (other_lane x) ≡ taken (other_lane x)
  taken_beside Directives n taken = refl
  taken_beside Data n taken = refl

  -- Frames come so, and no frame is lost in a way that these kinds of events don't have. So many of
  -- each lane were lost since the last one of it that came, before and after.
  abbrev pub ComeBy : (Of : Event → Type 0) (s : Side) (sent : Lane → List (List ℕ)) (taken gone : Lane → ℕ) (came : List (List ℕ)) (then_taken then_gone : Lane → ℕ) → Type 0
  ComeBy Of s sent taken gone [] then_taken then_gone = (then_taken ≡ taken) × (then_gone ≡ gone)
  ComeBy Of s sent taken gone (frame ∷ came) then_taken then_gone = (lane : Lane) × (lost : ℕ) × (gone lane + lost < frame_counts) × (taken lane + lost < length (sent lane))
      × (frame ≡ get_or (sent lane) (taken lane + lost) []) × (lost ≢ 0 → Of (event.Strike s lane))
      × ComeBy Of s sent (taken_to lane (taken lane + lost + 1) taken) (taken_to lane 0 gone) came then_taken then_gone

  -- what came first, and what came after it
  by-apart : (Of : Event → Type 0) (s : Side) (sent : Lane → List (List ℕ)) (taken gone : Lane → ℕ) (xs ys : List (List ℕ)) (after then_gone : Lane → ℕ) → ComeBy Of s sent taken gone (xs ++ ys) after then_gone →
      (mid : Lane → ℕ) × (mid_gone : Lane → ℕ) × ComeBy Of s sent taken gone xs mid mid_gone × ComeBy Of s sent mid mid_gone ys after then_gone
  by-apart Of s sent taken gone [] ys after then_gone h = (taken, gone, (refl, refl), h)
  by-apart Of s sent taken gone (x ∷ xs) ys after then_gone (lane, lost, few, there, is, of, rest) =
      let r = by-apart Of s sent (taken_to lane (taken lane + lost + 1) taken) (taken_to lane 0 gone) xs ys after then_gone rest in
      (r.0, r.1, (lane, lost, few, there, is, of, r.2), r.3)

  none-to : (lane : Lane) → taken_to lane 0 none_taken ≡ none_taken
  none-to lane = λ i x. by lane x i
    where
      by : (lane x : Lane) → taken_to lane 0 none_taken x ≡ none_taken x
      by Directives Directives = refl
      by Directives Data = refl
      by Data Directives = refl
      by Data Data = refl

  -- if none of a lane was lost since the last one that came
  in_order-by : (Of : Event → Type 0) (s : Side) → ((x : Lane) → Of (event.Strike s x)) → (sent : Lane → List (List ℕ)) (taken : Lane → ℕ) (came : List (List ℕ)) (after : Lane → ℕ) → ComeInOrder sent taken came after →
      ComeBy Of s sent taken none_taken came after none_taken
  in_order-by Of s of sent taken [] after h = (h, refl)
  in_order-by Of s of sent taken (frame ∷ came) after (lane, lost, few, there, is, rest) = (
    lane,
    lost,
    omega (arith, few),
    there,
    is,
    λ _. of lane,
    subst (λ (g : Lane → ℕ). ComeBy Of s sent (taken_to lane (taken lane + lost + 1) taken) g came after none_taken) (sym (none-to lane))
        (in_order-by Of s of sent (taken_to lane (taken lane + lost + 1) taken) came after rest),
  )

  -- What came of a world while the other station heard.
  record HasHeard (Of : Event → Type 0) (s : Side) (a b now : StationState) (k m : FrameLinksState) (puts : List AcceptedPut) (ticks : ℕ) (taken gone : Lane → ℕ) : Type 0 where
    pub link : FrameLinksState
    pub are : AreJoined a now link m taken gone
    pub led : Reaches Of (world_at s a b k m puts ticks) (world_at s a now link m puts ticks)
    pub frames : (x : Lane) → frames_in link x ≡ frames_in k x

  module _ (Of : Event → Type 0) (of : AreOfTurn Of) (s : Side) (a : StationState) (m : FrameLinksState) (puts : List AcceptedPut) (ticks : ℕ) where
    -- nothing came
    heard_none : (b now last : StationState) (k : FrameLinksState) (taken gone after then_gone : Lane → ℕ) → HasHeard Of s a b now k m puts ticks taken gone → last ≡ now →
        after ≡ taken → then_gone ≡ gone → HasHeard Of s a b last k m puts ticks after then_gone
    heard_none b now last k taken gone after then_gone h same at gone_at =
        subst (λ (x : StationState). HasHeard Of s a b x k m puts ticks after then_gone) (sym same)
        (subst (λ (n : Lane → ℕ). HasHeard Of s a b now k m puts ticks n then_gone) (sym at) (subst (λ (g : Lane → ℕ). HasHeard Of s a b now k m puts ticks taken g) (sym gone_at) h))

    -- once more it was asked what came
    heard_one : (b mid now : StationState) (k : FrameLinksState) (taken gone after then_gone : Lane → ℕ) (came : Result (Option (List ℕ)) WireFault) → HasHeard Of s a b mid k m puts ticks taken gone →
        TakesWhat Steps came mid now
        → ComeBy Of s (frames_in k) taken gone (what_came came) after then_gone → HasHeard Of s a b now k m puts ticks after then_gone
    heard_one b mid now k taken gone after then_gone (Ok (Some frame)) h takes (x, lost, few, there, is, strikes, at) =
        let place : ℕ = taken x + lost in
        let now_taken : Lane → ℕ = taken_to x (place + 1) taken in
        let now_gone : Lane → ℕ = taken_to x 0 gone in
        let low : place < length (frames_in h.link x) = (let same = ap (λ (ys : List (List ℕ)). length ys) (h.frames x) in omega (arith, there, same)) in
        let first : frame ≡ get_or (frames_in h.link x) place [] = is ∙ ap (λ (ys : List (List ℕ)). get_or ys place []) (sym (h.frames x)) in
        let r : Arrives Of s a m puts ticks x mid now h.link now_taken now_gone = arrives Of s a m puts ticks x mid now h.link taken now_taken gone now_gone lost frame h.are few strikes (of.deliver s x) low first takes
        (taken_here x (place + 1) taken) (taken_beside x (place + 1) taken) (taken_here x 0 gone) (taken_beside x 0 gone) in
        heard_none b now now k now_taken now_gone after then_gone
        (record {
          link = r.link;
          are = r.are;
          led = reaches_both Of (world_at s a b k m puts ticks) (world_at s a mid h.link m puts ticks) (world_at s a now r.link m puts ticks) h.led r.led;
          frames = λ (y : Lane). r.frames y ∙ h.frames y;
        }) refl at.0 at.1
    heard_one b mid now k taken gone after then_gone (Ok None) h takes at = heard_none b mid now k taken gone after then_gone h takes at.0 at.1
    heard_one b mid now k taken gone after then_gone (Err fault) h takes at = heard_none b mid now k taken gone after then_gone h takes at.0 at.1

    heard_more : (k : FrameLinksState) (taken gone : Lane → ℕ) (count : ℕ) (old now : PortState W) (times : Times (AsksOn Steps) count old now) (after then_gone : Lane → ℕ) → AreJoined a old.station k m taken gone
        → ComeBy Of s (frames_in k) taken gone (frames_came Steps count old now times) after then_gone → HasHeard Of s a old.station now.station k m puts ticks after then_gone
    heard_more k taken gone zero old now same after then_gone are at =
        let here : HasHeard Of s a old.station old.station k m puts ticks taken gone = record { link = k; are = are; led = reaches_none Of _ _ refl; frames = λ x. refl } in
        heard_none old.station old.station now.station k taken gone after then_gone here (ap (λ (x : PortState W). x.station) same) at.0 at.1
    heard_more k taken gone (suc count) old now (mid, before, step) after then_gone are come =
        let c = by-apart Of s (frames_in k) taken gone (frames_came Steps count old mid before) (what_came step.0) after then_gone come in
        let h : HasHeard Of s a old.station mid.station k m puts ticks c.0 c.1 = heard_more k taken gone count old mid before c.0 c.1 are c.2 in
        heard_one old.station mid.station now.station k c.0 c.1 after then_gone step.0 h step.2.takes c.3

    has_heard : (k : FrameLinksState) (taken gone after then_gone : Lane → ℕ) (old new : PortState W) (h : HearsAll Steps old new) → AreJoined a old.station k m taken gone
        → ComeBy Of s (frames_in k) taken gone (frames_came Steps h.count _ _ h.heard) after then_gone → HasHeard Of s a old.station new.station k m puts ticks after then_gone
    has_heard k taken gone after then_gone old new h are come =
        let r : HasHeard Of s a old.station h.last.station k m puts ticks after then_gone = heard_more k taken gone h.count old h.last h.heard after then_gone are come in
        let same : new.station ≡ h.last.station = elim h.ends [
          | inl asked ↦ asked.1.takes
          | inr all ↦ ap (λ (x : PortState W). x.station) all.1
        ] in
        heard_none old.station h.last.station new.station k after then_gone after then_gone r same refl refl

  -- ---- turns
  -- The two stations are those of a world to which events led, and what passed is on its links. Of
  -- the frames of each lane so many were lost since the last one that came.
  pub record AreAt (first : WorldState) (puts : List AcceptedPut) (one two : StationState) (passed : Passage) (gone_one gone_two : Lane → ℕ) : Type 0 where
    pub k : FrameLinksState
    pub m : FrameLinksState
    pub ticks : ℕ
    pub are : AreJoined one two k m passed.taken_one gone_one
    pub marks : (x : Lane) → length (lane_of_links x m).marks ≡ passed.taken_two x
    pub run : (x : Lane) → (lane_of_links x m).run ≡ gone_two x
    pub from_one : (x : Lane) → frames_in k x ≡ passed.from_one x
    pub from_two : (x : Lane) → frames_in m x ≡ passed.from_two x
    pub led : Reaches AnyEvent first (world_at One one two k m puts ticks)

  -- A turn in a world: each station was given the time once, the second one as it stood before the
  -- turn, and else there were events of these kinds.
  pub record TurnsIn (Of : Event → Type 0) (now : ℕ) (two : StationState) (w v : WorldState) : Type 0 where
    pub told_one : WorldState
    pub tick_one : Does (event.Tick One now) did.Applied w told_one
    pub mid : WorldState
    pub sent_one : Reaches Of told_one mid
    pub is_two : mid.two ≡ two
    pub told_two : WorldState
    pub tick_two : Does (event.Tick Two now) did.Applied mid told_two
    pub rest : Reaches Of told_two v

  -- So the world goes on by a turn.
  pub record GoesOnBy (Of : Event → Type 0) (now : ℕ) (first : WorldState) (puts : List AcceptedPut) (old new : PairState W) (before after : Passage) (gone_one gone_two then_one then_two : Lane → ℕ)
      (at : AreAt first puts old.one.station old.two.station before gone_one gone_two) : Type 0 where
    pub next : AreAt first puts new.one.station new.two.station after then_one then_two
    pub turns : TurnsIn Of now old.two.station (world_at One old.one.station old.two.station at.k at.m puts at.ticks) (world_at One new.one.station new.two.station next.k next.m puts next.ticks)

  -- If its files stand in the end, the stations had them before.
  pub turn_stood : GoesOnLaws → (now : ℕ) (old new : PairState W) → TakesTurn Steps now old new → Stand new.one.station → Stand new.two.station → Stand old.one.station × Stand old.two.station
  turn_stood laws now old new turn stand_one stand_two = (
    sends_stood laws now _ _ turn.one_sends (hears_stood laws _ _ turn.one_hears stand_one),
    sends_stood laws now _ _ turn.two_sends (hears_stood laws _ _ turn.two_hears stand_two),
  )

  pub goes_by : (Of : Event → Type 0) → AreOfTurn Of → GoesOnLaws → (now : ℕ) (old new : PairState W) (turn : TakesTurn Steps now old new) (before after : Passage) (gone_one gone_two then_one then_two : Lane → ℕ)
      → (let sends = turn.one_sends.sends in (x : Lane) → after.from_one x ≡ before.from_one x ++ frames_left Steps x sends.count _ _ sends.sent)
      → (let sends = turn.two_sends.sends in (x : Lane) → after.from_two x ≡ before.from_two x ++ frames_left Steps x sends.count _ _ sends.sent)
      → ComeBy Of One after.from_one before.taken_one gone_one (frames_came Steps turn.two_hears.count _ _ turn.two_hears.heard) after.taken_one then_one
      → ComeBy Of Two after.from_two before.taken_two gone_two (frames_came Steps turn.one_hears.count _ _ turn.one_hears.heard) after.taken_two then_two
      → (first : WorldState) (puts : List AcceptedPut) → Stand new.one.station → Stand new.two.station → (at : AreAt first puts old.one.station old.two.station before gone_one gone_two)
      → GoesOnBy Of now first puts old new before after gone_one gone_two then_one then_two at
  goes_by Of of laws now old new turn before after gone_one gone_two then_one then_two grows_one grows_two to_two to_one first puts stand_one stand_two at =
      let mid_one : Stand turn.one.station = hears_stood laws _ _ turn.one_hears stand_one in
      let mid_two : Stand turn.two.station = hears_stood laws _ _ turn.two_hears stand_two in
      let one = has_sent Of of One now _ _ old.two.station at.k at.m puts at.ticks at.are.forth at.are.back turn.one_sends mid_one in
      let two = has_sent Of of Two now _ _ turn.one.station at.m one.link puts one.then_ticks one.back one.forth turn.two_sends mid_two in
      let left_one : Lane → List (List ℕ) = all_left turn.one_sends.sends.count _ _ turn.one_sends.sends.sent in
      let left_two : Lane → List (List ℕ) = all_left turn.two_sends.sends.count _ _ turn.two_sends.sends.sent in
      let from_one : (x : Lane) → frames_in one.link x ≡ after.from_one x = λ (x : Lane). one.frames x ∙ ap (λ (ys : List (List ℕ)). ys ++ left_one x) (at.from_one x) ∙ sym (grows_one x) in
      let from_two : (x : Lane) → frames_in two.link x ≡ after.from_two x = λ (x : Lane). two.frames x ∙ ap (λ (ys : List (List ℕ)). ys ++ left_two x) (at.from_two x) ∙ sym (grows_two x) in
      let all_one : frames_in one.link ≡ after.from_one = λ i x. from_one x i in
      let all_two : frames_in two.link ≡ after.from_two = λ i x. from_two x i in
      let back : AreJoined turn.two.station turn.one.station two.link one.link before.taken_two gone_two = record {
        forth = two.forth;
        back = two.back;
        marks = λ (x : Lane). ap (λ (ys : List _). length ys) (two.marks x).0 ∙ at.marks x;
        run = λ (x : Lane). (two.marks x).1 ∙ at.run x;
      } in
      let hears_one = has_heard Of of Two turn.two.station one.link puts two.then_ticks two.link before.taken_two gone_two after.taken_two then_two _ _ turn.one_hears back
      (subst (λ (f : Lane → List (List ℕ)). ComeBy Of Two f before.taken_two gone_two (frames_came Steps turn.one_hears.count _ _ turn.one_hears.heard) after.taken_two then_two) (sym all_two) to_one) in
      let forth : AreJoined new.one.station turn.two.station one.link hears_one.link before.taken_one gone_one = record {
        forth = hears_one.are.back;
        back = hears_one.are.forth;
        marks = λ (x : Lane). ap (λ (ys : List _). length ys) (one.marks x).0 ∙ at.are.marks x;
        run = λ (x : Lane). (one.marks x).1 ∙ at.are.run x;
      } in
      let hears_two = has_heard Of of One new.one.station hears_one.link puts two.then_ticks one.link before.taken_one gone_one after.taken_one then_one _ _ turn.two_hears forth
      (subst (λ (f : Lane → List (List ℕ)). ComeBy Of One f before.taken_one gone_one (frames_came Steps turn.two_hears.count _ _ turn.two_hears.heard) after.taken_one then_one) (sym all_one) to_two) in
      let turns : TurnsIn Of now old.two.station (world_at One old.one.station old.two.station at.k at.m puts at.ticks)
      (world_at One new.one.station new.two.station hears_two.link hears_one.link puts two.then_ticks) = record {
        told_one = one.told;
        tick_one = one.ticked;
        mid = world_at Two old.two.station turn.one.station at.m one.link puts one.then_ticks;
        sent_one = one.led;
        is_two = refl;
        told_two = two.told;
        tick_two = two.ticked;
        rest = reaches_both Of _ _ _ two.led (reaches_both Of _ _ _ hears_one.led hears_two.led);
      } in
      record {
        next = record {
          k = hears_two.link;
          m = hears_one.link;
          ticks = two.then_ticks;
          are = hears_two.are;
          marks = hears_one.are.marks;
          run = hears_one.are.run;
          from_one = λ (x : Lane). hears_two.frames x ∙ from_one x;
          from_two = λ (x : Lane). hears_one.frames x ∙ from_two x;
          led = reaches_both AnyEvent _ _ _ at.led (turn_led turns);
        };
        turns = turns;
      }
    where
      -- its events, whatever they are
      turn_led : {w v : WorldState} → TurnsIn Of now old.two.station w v → Reaches AnyEvent w v
      turn_led t = reaches_both AnyEvent _ _ _ (one_event AnyEvent _ t.told_one (event.Tick One now) did.Applied tt t.tick_one)
          (reaches_both AnyEvent _ _ _ (reaches_any Of _ t.mid t.sent_one)
          (reaches_both AnyEvent _ _ _ (one_event AnyEvent _ t.told_two (event.Tick Two now) did.Applied tt t.tick_two) (reaches_any Of _ _ t.rest)))

  -- If the files of both stand, and none of a lane was lost since the last one that came.
  abbrev AreAtIf : (first : WorldState) (puts : List AcceptedPut) (one two : StationState) (passed : Passage) → Type 0
  AreAtIf first puts one two passed = Stand one → Stand two → AreAt first puts one two passed none_taken none_taken

  -- a turn of it, by events of kinds that may be lost
  pub orderly : (Of : Event → Type 0) → AreOfTurn Of → ((s : Side) (x : Lane) → Of (event.Strike s x)) → GoesOnLaws → (now : ℕ) (old new : PairState W) (turn : TakesTurn Steps now old new) (before after : Passage)
      → PassesInOrder Steps now old new turn before after → (first : WorldState) (puts : List AcceptedPut) → Stand new.one.station → Stand new.two.station
      → (at : AreAt first puts old.one.station old.two.station before none_taken none_taken) → GoesOnBy Of now first puts old new before after none_taken none_taken none_taken none_taken at
  orderly Of of strikes laws now old new turn before after pass first puts stand_one stand_two at =
      goes_by Of of laws now old new turn before after none_taken none_taken none_taken none_taken pass.from_one pass.from_two
      (in_order-by Of One (strikes One) after.from_one before.taken_one (frames_came Steps turn.two_hears.count _ _ turn.two_hears.heard) after.taken_one pass.to_two)
      (in_order-by Of Two (strikes Two) after.from_two before.taken_two (frames_came Steps turn.one_hears.count _ _ turn.one_hears.heard) after.taken_two pass.to_one)
      first puts stand_one stand_two at

  any_turn : AreOfTurn AnyEvent
  any_turn = record { poll = λ s. tt; flush = λ s. tt; deliver = λ s x. tt }

  takes_turn : GoesOnLaws → (now : ℕ) (old new : PairState W) (turn : TakesTurn Steps now old new) (before after : Passage) → PassesInOrder Steps now old new turn before after
      → (first : WorldState) (puts : List AcceptedPut) → AreAtIf first puts old.one.station old.two.station before → AreAtIf first puts new.one.station new.two.station after
  takes_turn laws now old new turn before after pass first puts earlier stand_one stand_two =
      let stood = turn_stood laws now old new turn stand_one stand_two in
      (orderly AnyEvent any_turn (λ s x. tt) laws now old new turn before after pass first puts stand_one stand_two (earlier stood.0 stood.1)).next

  pub take_turns : GoesOnLaws → (id : TransactionId) (count : ℕ) (old new : PairState W) (turns : Turns Steps id count old new) (passed : Passage) →
      PassInOrder Steps id count old new turns passed
      → (first : WorldState) (puts : List AcceptedPut) → AreAtIf first puts old.one.station old.two.station nothing_passed → AreAtIf first puts new.one.station new.two.station passed
  take_turns laws id zero old new same passed none first puts at =
      subst (λ (p : Passage). AreAtIf first puts new.one.station new.two.station p) (sym none) (subst (λ (x : PairState W). AreAtIf first puts x.one.station x.two.station nothing_passed) (sym same) at)
  take_turns laws id (suc count) old new (mid, before, unclosed, turn) passed (earlier, pass, now) first puts at =
      takes_turn laws (count + 1) mid new turn earlier passed now first puts (take_turns laws id count old mid before earlier pass first puts at)

  -- ---- the whole
  -- Two new stations of which the first accepted a put are those of a world.
  pub begins : (c : WorldConfig) (outboxes inboxes : FileMap × FileMap) (source destination : List ℕ) (id : TransactionId) (first : PairState W) (one : PortState W) → IsWorldConfig c →
      IsFirstAt c.one outboxes.0 inboxes.0 first.one.station → IsFirstAt c.two outboxes.1 inboxes.1 first.two.station → AtStation (Puts source destination (Ok id)) first.one one →
      (begun : WorldState) × IsFirst c outboxes inboxes begun
      × AreAt begun (record { id = id; source = source; destination = destination } ∷ []) one.station first.two.station nothing_passed none_taken none_taken
  begins c outboxes inboxes source destination id first one valid first_one first_two put =
      let joined = first_joined c outboxes inboxes first.one.station first.two.station valid first_one first_two in
      let k : FrameLinksState = no_link first.one.station.down in
      let m : FrameLinksState = no_link first.two.station.down in
      let begun : WorldState = world_at One first.one.station first.two.station k m [] 0 in
      let kept : AreJoined one.station first.two.station k m nothing_passed.taken_one none_taken = record {
        forth = subst (λ (x : DownState). AreCarried x k first.two.station.up) (sym put.happens.2.0) joined.0.forth;
        back = subst (λ (x : UpState). AreCarried first.two.station.down m x) (sym put.happens.2.1) joined.0.back;
        marks = joined.0.marks;
        run = joined.0.run;
      } in
      let puts : List AcceptedPut = record { id = id; source = source; destination = destination } ∷ [] in
      let at : AreAt begun puts one.station first.two.station nothing_passed none_taken none_taken = record {
        k = k;
        m = m;
        ticks = 0;
        are = kept;
        marks = λ (x : Lane). (no_link-none first.two.station.down x).1;
        run = λ (x : Lane). (no_link-none first.two.station.down x).2;
        from_one = λ (x : Lane). (no_link-none first.one.station.down x).0;
        from_two = λ (x : Lane). (no_link-none first.two.station.down x).0;
        led = put_reaches source destination id first.one.station one.station first.two.station k m [] 0 put.happens.0 put.happens.1 put.happens.2;
      } in
      (begun, joined.1, at)

  pub are_of_world : ((c : WorldConfig) (outboxes inboxes : FileMap × FileMap) (first now : WorldState) → IsWorldConfig c → IsFirst c outboxes inboxes first → Led first now →
      KeepsPromises inboxes now)
      → GoesOnLaws → (c : WorldConfig) (outboxes inboxes : FileMap × FileMap) (source destination : List ℕ) (id : TransactionId) (count : ℕ) (first : PairState W) (one : PortState W) (last : PairState W)
      (passed : Passage)
      → IsWorldConfig c → IsFirstAt c.one outboxes.0 inboxes.0 first.one.station → IsFirstAt c.two outboxes.1 inboxes.1 first.two.station → AtStation (Puts source destination (Ok id)) first.one one
      → (turns : Turns Steps id count (record first { one = one }) last) → PassInOrder Steps id count (record first { one = one }) last turns passed
      → Stand last.one.station → Stand last.two.station → AreOfWorld c outboxes inboxes (record { id = id; source = source; destination = destination }) passed last.one.station last.two.station
  are_of_world keeps laws c outboxes inboxes source destination id count first one last passed valid first_one first_two put turns pass stand_one stand_two =
      let begun = begins c outboxes inboxes source destination id first one valid first_one first_two put in
      let puts : List AcceptedPut = record { id = id; source = source; destination = destination } ∷ [] in
      let r : AreAt begun.0 puts last.one.station last.two.station passed none_taken none_taken =
      take_turns laws id count (record first { one = one }) last turns passed pass begun.0 puts (λ a b. begun.2) stand_one stand_two in
      record {
        first = begun.0;
        starts = begun.1;
        events = r.led.0;
        now = world_at One last.one.station last.two.station r.k r.m puts r.ticks;
        happened = r.led.1;
        is_one = refl;
        is_two = refl;
        puts = refl;
        from_one = λ (x : Lane). ap (λ (l : LinkState). l.frames) (lane-seen x r.k) ∙ r.from_one x;
        from_two = λ (x : Lane). ap (λ (l : LinkState). l.frames) (lane-seen x r.m) ∙ r.from_two x;
        taken_one = λ (x : Lane). ap (λ (l : LinkState). length l.marks) (lane-seen x r.k) ∙ r.are.marks x;
        taken_two = λ (x : Lane). ap (λ (l : LinkState). length l.marks) (lane-seen x r.m) ∙ r.marks x;
        promises = keeps c outboxes inboxes begun.0 _ valid begun.1 (reaches_led AnyEvent _ _ r.led);
      }
