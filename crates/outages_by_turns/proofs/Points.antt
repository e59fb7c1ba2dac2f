-- Two stations in turns, as those of a world in which frames may be lost before any other arrives.
use Rattle.std.proofs.Common.{◌≡◌, ◌≢◌, ℕ, ◌+◌, ◌-◌, ◌<◌, ◌≤◌, List, [], ◌∷◌, ◌++◌, length, get_or, refl, sym, ap, subst, ◌∙◌, arith, length-append}
use Rattle.std.specs.Prelude.{IsTrue}
use Rattle.std.proofs.lemmas.List.{get_or-append-add}
use Rattle.aos_frame.specs.Counts.{frame_counts}
use Rattle.aos_frame.specs.Frame.{other_lane}
use Rattle.aos_frame.specs.declared.config.Lane.{Lane}
use Rattle.aos_frame.specs.declared.config.Lane.TheVariants.{Directives, Data}
use Rattle.cfdp_station.specs.Station.{StationState}
use Rattle.station_pair.specs.declared.side.Side.{Side}
use Rattle.station_pair.specs.declared.side.Side.TheVariants.{One, Two}
use Rattle.link_sim.specs.declared.event.AcceptedPut.{AcceptedPut}
use Rattle.link_sim.specs.declared.event.Event.{Event}
use Rattle.link_sim.specs.declared.event.Event.TheVariants as event
use Rattle.link_sim.specs.FrameLink.{FrameLinksState, lane_of_links}
use Rattle.link_sim.specs.Settling.{IsOfSettling}
use Rattle.link_sim.specs.World.State.{WorldState}
use Rattle.ports_in_order.proofs.Aside.{AnyEvent, AreJoined, Arrives, Reaches, lose, none_taken, reaches_any, reaches_both, world_at}
use Rattle.cfdp_port.specs.Calls.{WireCall}
use Rattle.cfdp_port.specs.Pair.{PairState, TakesTurn}
use Rattle.cfdp_port.specs.Passing.{frames_came, frames_left}
use Rattle.cfdp_port.proofs.GainLemmas.{GoesOnLaws}
use Rattle.ports_in_order.specs.InOrder.{ComeInOrder, Passage, PassesInOrder, taken_to}
use Rattle.ports_in_order.proofs.OrderLemmas.{AreAt, AreOfTurn, ComeBy, GoesOnBy, TurnsIn, goes_by}
use Rattle.outages.proofs.Rising.{IsOfTurn}
use Rattle.outages_by_turns.specs.Whole.{AllCome, LosesNothing, passed_whole}

abbrev pub Stand : StationState → Type 0
Stand s = IsTrue s.entity.state.table.stands

pub turn-kinds : AreOfTurn IsOfTurn
turn-kinds = record { poll = λ s. tt; flush = λ s. tt; deliver = λ s x. tt }

pub settling-kinds : AreOfTurn IsOfSettling
settling-kinds = record { poll = λ s. tt; flush = λ s. tt; deliver = λ s x. tt }

-- ---- numbers by lane
-- So many of each lane were lost in a row: no more than were taken.
abbrev pub Few : (gone taken : Lane → ℕ) → Type 0
Few gone taken = (x : Lane) → gone x ≤ taken x

few-to : (lane : Lane) (n : ℕ) (gone taken : Lane → ℕ) → Few gone taken → Few (taken_to lane 0 gone) (taken_to lane n taken)
few-to Directives n gone taken few Directives = omega arith
few-to Directives n gone taken few Data = few Data
few-to Data n gone taken few Directives = few Directives
few-to Data n gone taken few Data = omega arith

-- the frames of each lane are fewer than there are frame counts
abbrev pub AreFewer : (Lane → List (List ℕ)) → Type 0
AreFewer frames = (x : Lane) → length (frames x) < frame_counts

-- one more of a lane, after a number that came before
to-more : (base taken : Lane → ℕ) (lane : Lane) → (λ x. base x + taken_to lane (taken lane + 1) taken x) ≡ taken_to lane ((base lane + taken lane) + 0 + 1) (λ x. base x + taken x)
to-more base taken lane = λ i x. by lane x i
  where
    by : (lane x : Lane) → base x + taken_to lane (taken lane + 1) taken x ≡ taken_to lane ((base lane + taken lane) + 0 + 1) (λ y. base y + taken y) x
    by Directives Directives = omega arith
    by Directives Data = refl
    by Data Directives = refl
    by Data Data = omega arith

module _ {W : Type 0} (Steps : W → WireCall → W → Type 0) where
  -- frames that come in order
  few-come : (s : Side) (sent : Lane → List (List ℕ)) (taken gone : Lane → ℕ) (came : List (List ℕ)) (after : Lane → ℕ) → Few gone taken → AreFewer sent → ComeInOrder sent taken came after →
      (then_gone : Lane → ℕ) × ComeBy Steps IsOfTurn s sent taken gone came after then_gone × Few then_gone after
  few-come s sent taken gone [] after few most h = (gone, (h, refl), subst (λ (t : Lane → ℕ). Few gone t) (sym h) few)
  few-come s sent taken gone (frame ∷ came) after few most (lane, lost, fewer, there, is, rest) =
      let r = few-come s sent (taken_to lane (taken lane + lost + 1) taken) (taken_to lane 0 gone) came after (few-to lane (taken lane + lost + 1) gone taken few) most rest in
      let low : gone lane ≤ taken lane = few lane in
      let all : length (sent lane) < frame_counts = most lane in
      (r.0, (lane, lost, omega (arith, low, all, there), there, is, λ _. tt, r.1), r.2)

  -- and if all that was sent from some time on comes, and nothing else
  whole-come : (s : Side) (base left : Lane → List (List ℕ)) (taken gone : Lane → ℕ) (came : List (List ℕ)) → Few gone (λ x. length (base x) + taken x) → AreFewer (λ x. base x ++ left x) → AllCome left taken came →
      (then_gone : Lane → ℕ) × ComeBy Steps IsOfSettling s (λ x. base x ++ left x) (λ x. length (base x) + taken x) gone came (λ x. length (base x ++ left x)) then_gone
      × Few then_gone (λ x. length (base x ++ left x))
  whole-come s base left taken gone [] few most all =
      let same : (x : Lane) → length (base x ++ left x) ≡ length (base x) + taken x = λ x. (
      let both : length (base x ++ left x) ≡ length (base x) + length (left x) = length-append (base x) (left x) in
      let is : taken x ≡ length (left x) = all x in
      omega (arith, both, is)) in
      (gone, (λ i x. same x i, refl), λ x. (let low : gone x ≤ length (base x) + taken x = few x in let is = same x in omega (arith, low, is)))
  whole-come s base left taken gone (frame ∷ came) few most (lane, there, is, rest) =
      let at : Lane → ℕ = λ x. length (base x) + taken x in
      let grown : Few (taken_to lane 0 gone) (λ x. length (base x) + taken_to lane (taken lane + 1) taken x) =
      subst (λ (t : Lane → ℕ). Few (taken_to lane 0 gone) t) (sym (to-more (λ x. length (base x)) taken lane)) (few-to lane (at lane + 0 + 1) gone at few) in
      let r = whole-come s base left (taken_to lane (taken lane + 1) taken) (taken_to lane 0 gone) came grown most rest in
      let low : gone lane ≤ length (base lane) + taken lane = few lane in
      let all : length (base lane ++ left lane) < frame_counts = most lane in
      let both : length (base lane ++ left lane) ≡ length (base lane) + length (left lane) = length-append (base lane) (left lane) in
      let place : at lane + 0 ≡ length (base lane) + taken lane = omega arith in (
        r.0,
        (
          lane,
          0,
          omega (arith, low, all, both, there),
          omega (arith, both, there),
          is ∙ sym (get_or-append-add (base lane) (left lane) (taken lane) []) ∙ ap (λ n. get_or (base lane ++ left lane) n []) (sym place),
          λ bad. absurd (bad refl),
          subst (λ (t : Lane → ℕ). ComeBy Steps IsOfSettling s (λ x. base x ++ left x) t (taken_to lane 0 gone) came (λ x. length (base x ++ left x)) r.0) (to-more (λ x. length (base x)) taken lane) r.1,
        ),
        r.2,
      )

module _ {W : Type 0} (Steps : W → WireCall → W → Type 0) (laws : GoesOnLaws) (first : WorldState) (put : AcceptedPut) where
  abbrev puts : List AcceptedPut
  puts = put ∷ []

  -- These stations are those of a world, on whose links this passed.
  pub record Point (p : PairState W) (passed : Passage) : Type 0 where
    pub gone_one : Lane → ℕ
    pub gone_two : Lane → ℕ
    pub at : AreAt Steps first puts p.one.station p.two.station passed gone_one gone_two
    pub few_one : Few gone_one passed.taken_one
    pub few_two : Few gone_two passed.taken_two

  abbrev pub world : (p : PairState W) (passed : Passage) → Point p passed → WorldState
  world p passed x = world_at One p.one.station p.two.station x.at.k x.at.m puts x.at.ticks

  -- ---- a turn
  pub record Turned (Of : Event → Type 0) (now : ℕ) (old new : PairState W) (before after : Passage) (x : Point old before) : Type 0 where
    pub next : Point new after
    pub turns : TurnsIn Steps Of now old.two.station (world old before x) (world new after next)

  pub ordinary : (now : ℕ) (old new : PairState W) (turn : TakesTurn Steps now old new) (before after : Passage) → PassesInOrder Steps now old new turn before after → Stand new.one.station → Stand new.two.station →
      AreFewer after.from_one → AreFewer after.from_two → (x : Point old before) → Turned IsOfTurn now old new before after x
  ordinary now old new turn before after pass one two most_one most_two x =
      let to_two = few-come Steps One after.from_one before.taken_one x.gone_one (frames_came Steps turn.two_hears.count _ _ turn.two_hears.heard) after.taken_one x.few_one most_one pass.to_two in
      let to_one = few-come Steps Two after.from_two before.taken_two x.gone_two (frames_came Steps turn.one_hears.count _ _ turn.one_hears.heard) after.taken_two x.few_two most_two pass.to_one in
      let g : GoesOnBy Steps IsOfTurn now first puts old new before after x.gone_one x.gone_two to_two.0 to_one.0 x.at =
      goes_by Steps IsOfTurn turn-kinds laws now old new turn before after x.gone_one x.gone_two to_two.0 to_one.0 pass.from_one pass.from_two to_two.1 to_one.1 first puts one two x.at in
      record { next = record { gone_one = to_two.0; gone_two = to_one.0; at = g.next; few_one = to_two.2; few_two = to_one.2 }; turns = g.turns }

  -- All frames that left were taken.
  pub record NoneWaits (passed : Passage) : Type 0 where
    pub one : (x : Lane) → passed.taken_one x ≡ length (passed.from_one x)
    pub two : (x : Lane) → passed.taken_two x ≡ length (passed.from_two x)

  pub whole : (now : ℕ) (old new : PairState W) (turn : TakesTurn Steps now old new) (before : Passage) → LosesNothing Steps now old new turn → Stand new.one.station → Stand new.two.station →
      AreFewer (passed_whole Steps now old new turn before).from_one → AreFewer (passed_whole Steps now old new turn before).from_two → NoneWaits before → (x : Point old before) →
      Turned IsOfSettling now old new before (passed_whole Steps now old new turn before) x
  whole now old new turn before h one two most_one most_two none x =
      let after : Passage = passed_whole Steps now old new turn before in
      let left_one : Lane → List (List ℕ) = λ lane. frames_left Steps lane turn.one_sends.sends.count _ _ turn.one_sends.sends.sent in
      let left_two : Lane → List (List ℕ) = λ lane. frames_left Steps lane turn.two_sends.sends.count _ _ turn.two_sends.sends.sent in
      let start_one : (λ x. length (before.from_one x) + 0) ≡ before.taken_one = λ i lane. (let e : before.taken_one lane ≡ length (before.from_one lane) = none.one lane in
      let same : length (before.from_one lane) + 0 ≡ before.taken_one lane = omega (arith, e) in same i) in
      let start_two : (λ x. length (before.from_two x) + 0) ≡ before.taken_two = λ i lane. (let e : before.taken_two lane ≡ length (before.from_two lane) = none.two lane in
      let same : length (before.from_two lane) + 0 ≡ before.taken_two lane = omega (arith, e) in same i) in
      let to_two = whole-come Steps One before.from_one left_one none_taken x.gone_one (frames_came Steps turn.two_hears.count _ _ turn.two_hears.heard)
      (subst (λ (t : Lane → ℕ). Few x.gone_one t) (sym start_one) x.few_one) most_one h.to_two in
      let to_one = whole-come Steps Two before.from_two left_two none_taken x.gone_two (frames_came Steps turn.one_hears.count _ _ turn.one_hears.heard)
      (subst (λ (t : Lane → ℕ). Few x.gone_two t) (sym start_two) x.few_two) most_two h.to_one in
      let g : GoesOnBy Steps IsOfSettling now first puts old new before after x.gone_one x.gone_two to_two.0 to_one.0 x.at =
      goes_by Steps IsOfSettling settling-kinds laws now old new turn before after x.gone_one x.gone_two to_two.0 to_one.0 (λ lane. refl) (λ lane. refl)
      (subst (λ (t : Lane → ℕ). ComeBy Steps IsOfSettling One after.from_one t x.gone_one (frames_came Steps turn.two_hears.count _ _ turn.two_hears.heard) after.taken_one to_two.0) start_one to_two.1)
      (subst (λ (t : Lane → ℕ). ComeBy Steps IsOfSettling Two after.from_two t x.gone_two (frames_came Steps turn.one_hears.count _ _ turn.one_hears.heard) after.taken_two to_one.0) start_two to_one.1)
      first puts one two x.at in
      record { next = record { gone_one = to_two.0; gone_two = to_one.0; at = g.next; few_one = to_two.2; few_two = to_one.2 }; turns = g.turns }

  -- ---- what waits is lost
  abbrev pub all_lost : Passage → Passage
  all_lost passed = record passed { taken_one = λ x. length (passed.from_one x); taken_two = λ x. length (passed.from_two x) }

  -- Of a direction: a lane, and then the other one.
  record Lost (s : Side) (a b : StationState) (k m : FrameLinksState) (ticks : ℕ) (frames : Lane → List (List ℕ)) : Type 0 where
    link : FrameLinksState
    gone : Lane → ℕ
    are : AreJoined a b link m (λ x. length (frames x)) gone
    led : Reaches IsOfTurn (world_at s a b k m puts ticks) (world_at s a b link m puts ticks)
    same : (x : Lane) → (lane_of_links x link).frames ≡ frames x
    few : Few gone (λ x. length (frames x))

  abbrev left : (taken : Lane → ℕ) → (frames : Lane → List (List ℕ)) → Lane → ℕ
  left taken frames x = length (frames x) - taken x

  both-lost : (s : Side) (a b : StationState) (k m : FrameLinksState) (ticks : ℕ) (frames : Lane → List (List ℕ)) (taken gone : Lane → ℕ) → AreJoined a b k m taken gone →
      ((x : Lane) → (lane_of_links x k).frames ≡ frames x) → Few gone taken → AreFewer frames → Lost s a b k m ticks frames
  both-lost s a b k m ticks frames taken gone are is few most =
      let n : Lane → ℕ = left taken frames in
      let under : (x : Lane) → taken x ≤ length (frames x) = λ x. (
      let marks : length (lane_of_links x k).marks ≡ taken x = are.marks x in
      let there : length (lane_of_links x k).marks ≤ length (lane_of_links x k).frames = (are.forth x).way.sent.taken in
      let same : length (lane_of_links x k).frames ≡ length (frames x) = ap (λ (l : List (List ℕ)). length l) (is x) in
      omega (arith, marks, there, same)) in
      let taken1 : Lane → ℕ = taken_to Directives (taken Directives + n Directives) taken in
      let gone1 : Lane → ℕ = taken_to Directives (gone Directives + n Directives) gone in
      let fits : (x : Lane) → gone x + n x < frame_counts = λ x. (let low = few x in let all = most x in let u = under x in omega (arith, low, all, u)) in
      let there : (x : Lane) → taken x + n x ≤ length (lane_of_links x k).frames = λ x. (
      let u = under x in let same : length (lane_of_links x k).frames ≡ length (frames x) = ap (λ (l : List (List ℕ)). length l) (is x) in omega (arith, u, same)) in
      let r : Arrives IsOfTurn s a m puts ticks Directives b b k taken1 gone1 = lose IsOfTurn s a m puts ticks Directives b k taken taken1 gone gone1 (n Directives) are (fits Directives) (λ _. tt)
      (there Directives) refl refl refl refl in
      let all_gone : Lane → ℕ = λ x. gone x + n x in
      let ends : (x : Lane) → taken x + n x ≡ length (frames x) = λ x. (let u = under x in omega (arith, u)) in
      let there_data : taken Data + n Data ≤ length (lane_of_links Data r.link).frames = (
      let t = there Data in let same : length (lane_of_links Data r.link).frames ≡ length (lane_of_links Data k).frames = ap (λ (l : List (List ℕ)). length l) (r.frames Data) in omega (arith, t, same)) in
      let q : Arrives IsOfTurn s a m puts ticks Data b b r.link (λ x. length (frames x)) all_gone = lose IsOfTurn s a m puts ticks Data b r.link taken1 (λ x. length (frames x)) gone1 all_gone (n Data) r.are (fits Data) (λ _. tt)
      there_data (sym (ends Data)) (sym (ends Directives)) refl refl in
      record {
        link = q.link;
        gone = all_gone;
        are = q.are;
        led = reaches_both IsOfTurn _ _ _ r.led q.led;
        same = λ x. q.frames x ∙ r.frames x ∙ is x;
        few = λ x. (let low = few x in let e = ends x in omega (arith, low, e));
      }

  pub record AllLost (p : PairState W) (passed : Passage) (x : Point p passed) : Type 0 where
    pub next : Point p (all_lost passed)
    pub led : Reaches IsOfTurn (world p passed x) (world p (all_lost passed) next)

  pub lost : (p : PairState W) (passed : Passage) → AreFewer passed.from_one → AreFewer passed.from_two → (x : Point p passed) → AllLost p passed x
  lost p passed most_one most_two x =
      let at = x.at in
      let one : StationState = p.one.station in
      let two : StationState = p.two.station in
      let a : Lost One one two at.k at.m at.ticks passed.from_one = both-lost One one two at.k at.m at.ticks passed.from_one passed.taken_one x.gone_one at.are at.from_one x.few_one most_one in
      let back : AreJoined two one at.m a.link passed.taken_two x.gone_two = record { forth = a.are.back; back = a.are.forth; marks = at.marks; run = at.run } in
      let b : Lost Two two one at.m a.link at.ticks passed.from_two = both-lost Two two one at.m a.link at.ticks passed.from_two passed.taken_two x.gone_two back at.from_two x.few_two most_two in
      let led : Reaches IsOfTurn (world_at One one two at.k at.m puts at.ticks) (world_at One one two a.link b.link puts at.ticks) = reaches_both IsOfTurn _ _ _ a.led b.led in
      record {
        next = record {
          gone_one = a.gone;
          gone_two = b.gone;
          at = record {
            k = a.link;
            m = b.link;
            ticks = at.ticks;
            are = record { forth = b.are.back; back = b.are.forth; marks = a.are.marks; run = a.are.run };
            marks = b.are.marks;
            run = b.are.run;
            from_one = a.same;
            from_two = b.same;
            led = reaches_both AnyEvent _ _ _ at.led (reaches_any IsOfTurn _ _ led);
          };
          few_one = a.few;
          few_two = b.few;
        };
        led = led;
      }
