-- Two expiries of a run of turns after each of which nothing is lost: the transaction completes.
use Rattle.std.proofs.Common.{◌≡◌, ◌≢◌, ◌⊎◌, ℕ, ◌+◌, ◌<◌, ◌≤◌, false, List, [], ◌∷◌, ◌++◌, length, refl, sym, ap, subst, ◌∙◌, arith, length-append}
use Rattle.aos_frame.specs.Counts.{frame_counts}
use Rattle.aos_frame.specs.declared.config.Lane.{Lane}
use Rattle.cfdp_timers.specs.declared.kind.Kind.{Kind}
use Rattle.station_pair.specs.declared.side.Side.{Side}
use Rattle.station_pair.specs.declared.side.Side.TheVariants.{One}
use Rattle.link_sim.specs.declared.event.AcceptedPut.{AcceptedPut}
use Rattle.link_sim.specs.declared.event.Event.TheVariants as event
use Rattle.link_sim.specs.Running.{Led}
use Rattle.link_sim.specs.Settling.{IsOfSettling, KeepsAll, all_shortages}
use Rattle.link_sim.specs.World.State.{WorldState}
use Rattle.ports_in_order.proofs.Aside.{AnyEvent, reaches_led}
use Rattle.cfdp_port.specs.Calls.{WireCall}
use Rattle.cfdp_port.specs.Pair.{PairState, TakesTurn}
use Rattle.cfdp_port.specs.Passing.{frames_left}
use Rattle.cfdp_port.proofs.GainLemmas.{GoesOnLaws}
use Rattle.ports_in_order.specs.InOrder.{Passage, PassesInOrder}
use Rattle.ports_in_order.proofs.OrderLemmas.{turn_stood}
use Rattle.outages.specs.Spared.{GetsThrough, IsQuiet}
use Rattle.outages.specs.Tries.{IsCalm, one_if}
use Rattle.outages.proofs.Rising.{IsOfTurn, RiseAll, first-keeps, rise-both, rise-same, then-keeps}
use Rattle.outages.proofs.Tracking.{IsReached}
use Rattle.outages_by_turns.specs.Turns.{AreCalmIn, AreTurns, Turn, expires_in, expiries_in, in_world, then_pair}
use Rattle.outages_by_turns.specs.Whole.{AreWhole, GetsThroughIn, passed_whole}
use Rattle.outages_by_turns.proofs.ByTurns.{stood, turn-listed, turn-rises}
use Rattle.outages_by_turns.proofs.Gets.{gets, idle-quiet, turn-spared}
use Rattle.outages_by_turns.proofs.Listing.{Listed, listed-as, listed-both, listed-none, listed-reach, reach-rises}
use Rattle.outages_by_turns.proofs.Points.{AllLost, AreFewer, NoneWaits, Point, Stand, Turned, all_lost, lost, ordinary, whole, world}
use Rattle.outages_by_turns.proofs.Segments.{Spared, spared-both, spared-none}

-- ---- what passes only grows
pub record Grows (before after : Passage) : Type 0 where
  one : (x : Lane) → length (before.from_one x) ≤ length (after.from_one x)
  two : (x : Lane) → length (before.from_two x) ≤ length (after.from_two x)

grows-none : (p : Passage) → Grows p p
grows-none p = record { one = λ x. omega arith; two = λ x. omega arith }

grows-both : (a b c : Passage) → Grows a b → Grows b c → Grows a c
grows-both a b c g h = record {
  one = λ x. (let p : length (a.from_one x) ≤ length (b.from_one x) = g.one x in let q : length (b.from_one x) ≤ length (c.from_one x) = h.one x in omega (arith, p, q));
  two = λ x. (let p : length (a.from_two x) ≤ length (b.from_two x) = g.two x in let q : length (b.from_two x) ≤ length (c.from_two x) = h.two x in omega (arith, p, q));
}

-- if more was appended
appended : (xs ys zs : List (List ℕ)) → zs ≡ xs ++ ys → length xs ≤ length zs
appended xs ys zs is = (let all : length zs ≡ length (xs ++ ys) = ap (λ (l : List (List ℕ)). length l) is in let both : length (xs ++ ys) ≡ length xs + length ys = length-append xs ys in omega (arith, all, both))

-- fewer in the end, fewer before
pub fewer-one : (a b : Passage) → Grows a b → AreFewer b.from_one → AreFewer a.from_one
fewer-one a b g few x = (let p : length (a.from_one x) ≤ length (b.from_one x) = g.one x in let q : length (b.from_one x) < frame_counts = few x in omega (arith, p, q))

pub fewer-two : (a b : Passage) → Grows a b → AreFewer b.from_two → AreFewer a.from_two
fewer-two a b g few x = (let p : length (a.from_two x) ≤ length (b.from_two x) = g.two x in let q : length (b.from_two x) < frame_counts = few x in omega (arith, p, q))

module _ {W : Type 0} (Steps : W → WireCall → W → Type 0) (laws : GoesOnLaws) where
  pub turns-grow : (turns : List (Turn W)) (old : PairState W) (before after : Passage) → AreTurns Steps turns old before after → Grows before after
  turns-grow [] old before after same = subst (λ (p : Passage). Grows before p) (sym same) (grows-none before)
  turns-grow (t ∷ turns) old before after (turn, passed, pass, more) = grows-both before passed after
      (record { one = λ x. appended (before.from_one x) _ (passed.from_one x) (pass.from_one x); two = λ x. appended (before.from_two x) _ (passed.from_two x) (pass.from_two x) })
      (turns-grow turns t.after passed after more)

  whole-grows : (now : ℕ) (old new : PairState W) (turn : TakesTurn Steps now old new) (before : Passage) → Grows before (passed_whole Steps now old new turn before)
  whole-grows now old new turn before = record { one = λ x. appended (before.from_one x) _ _ refl; two = λ x. appended (before.from_two x) _ _ refl }

  pub wholes-grow : (put : AcceptedPut) (turns : List (Turn W)) (old : PairState W) (before after : Passage) → AreWhole Steps put turns old before after → Grows before after
  wholes-grow put [] old before after same = subst (λ (p : Passage). Grows before p) (sym same) (grows-none before)
  wholes-grow put (t ∷ turns) old before after (turn, losing, undue, more) =
      grows-both before (passed_whole Steps t.now old t.after turn before) after (whole-grows t.now old t.after turn before) (wholes-grow put turns t.after (passed_whole Steps t.now old t.after turn before) after more)

  pub gets-grow : (put : AcceptedPut) (old : PairState W) (one : Turn W) (later : List (Turn W)) (before after : Passage) → GetsThroughIn Steps put old one later before after → Grows before after
  gets-grow put old one later before after g =
      grows-both before (passed_whole Steps one.now old one.after g.turn before) after (whole-grows one.now old one.after g.turn before) (wholes-grow put later one.after (passed_whole Steps one.now old one.after g.turn before) after g.rest)

  -- ---- if the files stand in the end, they stood before
  wholes-stood : (put : AcceptedPut) (turns : List (Turn W)) (old : PairState W) (before after : Passage) → AreWhole Steps put turns old before after → Stand (then_pair old turns).one.station →
      Stand (then_pair old turns).two.station → Stand old.one.station × Stand old.two.station
  wholes-stood put [] old before after same one two = (one, two)
  wholes-stood put (t ∷ turns) old before after (turn, losing, undue, more) one two =
      let s = wholes-stood put turns t.after (passed_whole Steps t.now old t.after turn before) after more one two in
      turn_stood Steps laws t.now old t.after turn s.0 s.1

  pub gets-stood : (put : AcceptedPut) (old : PairState W) (one : Turn W) (later : List (Turn W)) (before after : Passage) → GetsThroughIn Steps put old one later before after →
      Stand (then_pair one.after later).one.station → Stand (then_pair one.after later).two.station → Stand old.one.station × Stand old.two.station
  gets-stood put old one later before after g stand_one stand_two =
      let s = wholes-stood put later one.after (passed_whole Steps one.now old one.after g.turn before) after g.rest stand_one stand_two in
      turn_stood Steps laws one.now old one.after g.turn s.0 s.1

module _ {W : Type 0} (Steps : W → WireCall → W → Type 0) (laws : GoesOnLaws) (first : WorldState) (put : AcceptedPut) where
  abbrev P : PairState W → Passage → Type 0
  P p passed = Point Steps laws first put p passed

  abbrev at : (p : PairState W) (passed : Passage) → P p passed → WorldState
  at p passed x = world Steps laws first put p passed x

  -- ---- turns of an outage
  record Ordered (old : PairState W) (turns : List (Turn W)) (before after : Passage) (x : P old before) : Type 0 where
    next : P (then_pair old turns) after
    rises : RiseAll (at old before x) (at (then_pair old turns) after next)
    listed : KeepsAll (all_shortages (at old before x)) (all_shortages (at (then_pair old turns) after next)) →
        Listed put.id (at old before x) (at (then_pair old turns) after next) (expiries_in put old turns) (AreCalmIn put old turns)

  ordered : (turns : List (Turn W)) (old : PairState W) (before after : Passage) → AreTurns Steps turns old before after → Stand (then_pair old turns).one.station → Stand (then_pair old turns).two.station →
      AreFewer after.from_one → AreFewer after.from_two → (x : P old before) → Ordered old turns before after x
  ordered [] old before after same one two most_one most_two x = by after same
    where
      by : (after : Passage) → after ≡ before → Ordered old [] before after x
      by after same = subst (λ (p : Passage). Ordered old [] before p x) (sym same) (record {
        next = x;
        rises = rise-same (at old before x);
        listed = λ keeps. listed-as put.id (at old before x) (at old before x) (λ s k. 0) (expiries_in put old []) (Unit {0}) (AreCalmIn put old []) (λ s k. refl) (λ c. tt) (listed-none put.id (at old before x));
      })
  ordered (t ∷ turns) old before after (turn, passed, pass, more) one two most_one most_two x =
      let s = stood Steps laws turns t.after passed after more one two in
      let grown : Grows passed after = turns-grow Steps laws turns t.after passed after more in
      let g : Turned Steps laws first put IsOfTurn t.now old t.after before passed x =
      ordinary Steps laws first put t.now old t.after turn before passed pass s.0 s.1 (fewer-one passed after grown most_one) (fewer-two passed after grown most_two) x in
      let rest : Ordered t.after turns passed after g.next = ordered turns t.after passed after more one two most_one most_two g.next in
      let a : WorldState = at old before x in
      let b : WorldState = at t.after passed g.next in
      let c : WorldState = at (then_pair t.after turns) after rest.next in
      let rise : RiseAll a b = turn-rises Steps laws first put t.now old a b refl g.turns in
      record {
        next = rest.next;
        rises = rise-both a b c rise rest.rises;
        listed = λ keeps. listed-as put.id a c (λ s k. one_if (expires_in put s k t.now old) + expiries_in put t.after turns s k) (expiries_in put old (t ∷ turns))
            (((s : Side) → IsCalm put.id (in_world put old) (event.Tick s t.now)) × AreCalmIn put t.after turns) (AreCalmIn put old (t ∷ turns)) (λ s k. refl) (λ calm. calm)
            (listed-both put.id a b c (λ s k. one_if (expires_in put s k t.now old)) (expiries_in put t.after turns)
            ((s : Side) → IsCalm put.id (in_world put old) (event.Tick s t.now)) (AreCalmIn put t.after turns)
            (turn-listed Steps laws first put t.now old a b refl g.turns (first-keeps a b c rise rest.rises keeps)) (rest.listed (then-keeps a b c rise rest.rises keeps)));
      }

  -- ---- turns in which nothing is lost
  record WholeOn (old : PairState W) (turns : List (Turn W)) (before after : Passage) (x : P old before) : Type 0 where
    next : P (then_pair old turns) after
    spared : Spared put.id (at old before x) (at (then_pair old turns) after next)
    none : NoneWaits Steps laws first put after

  wholes : (turns : List (Turn W)) (old : PairState W) (before after : Passage) → AreWhole Steps put turns old before after → Stand (then_pair old turns).one.station → Stand (then_pair old turns).two.station →
      AreFewer after.from_one → AreFewer after.from_two → NoneWaits Steps laws first put before → (x : P old before) → WholeOn old turns before after x
  wholes [] old before after same one two most_one most_two none x =
      subst (λ (p : Passage). WholeOn old [] before p x) (sym same) (record { next = x; spared = spared-none put.id (at old before x); none = none })
  wholes (t ∷ turns) old before after (turn, losing, undue, more) one two most_one most_two none x =
      let mid : Passage = passed_whole Steps t.now old t.after turn before in
      let s = wholes-stood Steps laws put turns t.after mid after more one two in
      let grown : Grows mid after = wholes-grow Steps laws put turns t.after mid after more in
      let g : Turned Steps laws first put IsOfSettling t.now old t.after before mid x =
      whole Steps laws first put t.now old t.after turn before losing s.0 s.1 (fewer-one mid after grown most_one) (fewer-two mid after grown most_two) none x in
      let rest : WholeOn t.after turns mid after g.next = wholes turns t.after mid after more one two most_one most_two (record { one = λ y. refl; two = λ y. refl }) g.next in
      record {
        next = rest.next;
        spared = spared-both put.id (at old before x) (at t.after mid g.next) (at (then_pair t.after turns) after rest.next)
            (turn-spared Steps laws first put t.now old t.after (at old before x) (at t.after mid g.next) refl g.turns undue) rest.spared;
        none = rest.none;
      }

  -- ---- an outage, and an expiry after which nothing is lost
  pub record Once (a b : WorldState) (n : Side → Kind → ℕ) (Calm : Type 0) : Type 0 where
    pub rises : RiseAll a b
    pub happened : KeepsAll (all_shortages a) (all_shortages b) → (held : WorldState) × Listed put.id a held n Calm × GetsThrough put.id held b

  pub record OnceOn (old : PairState W) (turns : List (Turn W)) (one : Turn W) (later : List (Turn W)) (before after : Passage) (x : P old before) : Type 0 where
    pub next : P (then_pair one.after later) after
    pub once : Once (at old before x) (at (then_pair one.after later) after next) (expiries_in put old turns) (AreCalmIn put old turns)

  module _ (reached : (w : WorldState) → Led first w → IsReached w) where
    reached-at : (p : PairState W) (passed : Passage) (x : P p passed) → IsReached (at p passed x)
    reached-at p passed x = reached (at p passed x) (reaches_led AnyEvent first (at p passed x) x.at.led)

    pub once-on : (turns : List (Turn W)) (old : PairState W) (one : Turn W) (later : List (Turn W)) (before mid after : Passage) → AreTurns Steps turns old before mid →
        GetsThroughIn Steps put (then_pair old turns) one later mid after → Stand (then_pair one.after later).one.station → Stand (then_pair one.after later).two.station → AreFewer after.from_one →
        AreFewer after.from_two → (x : P old before) → OnceOn old turns one later before after x
    once-on turns old one later before mid after are g stand_one stand_two most_one most_two x =
        let held : PairState W = then_pair old turns in
        let s = gets-stood Steps laws put held one later mid after g stand_one stand_two in
        let grown : Grows mid after = gets-grow Steps laws put held one later mid after g in
        let o : Ordered old turns before mid x = ordered turns old before mid are s.0 s.1 (fewer-one mid after grown most_one) (fewer-two mid after grown most_two) x in
        let l : AllLost Steps laws first put held mid o.next = lost Steps laws first put held mid (fewer-one mid after grown most_one) (fewer-two mid after grown most_two) o.next in
        let gone : Passage = all_lost Steps laws first put mid in
        let next : Passage = passed_whole Steps one.now held one.after g.turn mid in
        let more : Grows next after = wholes-grow Steps laws put later one.after next after g.rest in
        let r = wholes-stood Steps laws put later one.after next after g.rest stand_one stand_two in
        let t : Turned Steps laws first put IsOfSettling one.now held one.after gone next l.next =
        whole Steps laws first put one.now held one.after g.turn gone g.whole r.0 r.1 (fewer-one next after more most_one) (fewer-two next after more most_two) (record { one = λ y. refl; two = λ y. refl }) l.next in
        let u : WholeOn one.after later next after t.next = wholes later one.after next after g.rest stand_one stand_two most_one most_two (record { one = λ y. refl; two = λ y. refl }) t.next in
        let a : WorldState = at old before x in
        let b : WorldState = at held mid o.next in
        let c : WorldState = at held gone l.next in
        let d : WorldState = at one.after next t.next in
        let e : WorldState = at (then_pair one.after later) after u.next in
        let quiet : IsQuiet put.id c = idle-quiet Steps laws first put held gone l.next (reached-at held gone l.next) (record { one = λ y. refl; two = λ y. refl }) g.idle in
        let quiet_then : IsQuiet put.id e = idle-quiet Steps laws first put (then_pair one.after later) after u.next (reached-at (then_pair one.after later) after u.next) u.none g.idle_then in
        let got = gets Steps laws first put one.now held one.after c d refl t.turns e u.spared g.kind g.answerable quiet quiet_then g.side g.expires g.calm g.alone in
        let loses : RiseAll b c = reach-rises b c l.led in
        let outage : RiseAll a c = rise-both a b c o.rises loses in
        record {
          next = u.next;
          once = record {
            rises = rise-both a c e outage got.0;
            happened = λ keeps. (
                let here : KeepsAll (all_shortages a) (all_shortages c) = first-keeps a c e outage got.0 keeps in
                let there : KeepsAll (all_shortages c) (all_shortages e) = then-keeps a c e outage got.0 keeps in
                let both : Listed put.id a c (λ s k. expiries_in put old turns s k + 0) (AreCalmIn put old turns × Unit {0}) =
                listed-both put.id a b c (expiries_in put old turns) (λ s k. 0) (AreCalmIn put old turns) (Unit {0}) (o.listed (first-keeps a b c o.rises loses here))
                (listed-reach put.id b c l.led (then-keeps a b c o.rises loses here)) in
                (c, listed-as put.id a c (λ s k. expiries_in put old turns s k + 0) (expiries_in put old turns) (AreCalmIn put old turns × Unit {0}) (AreCalmIn put old turns) (λ s k. omega arith) (λ calm. (calm, tt)) both, got.1 there));
          };
        }
