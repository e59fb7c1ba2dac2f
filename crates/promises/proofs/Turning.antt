-- What is done in a turn is calls of a station.
use Rattle.std.proofs.Common.{◌≡◌, ℕ, zero, suc, Bool, true, false, List, [], ◌∷◌, ◌++◌, Option, Some, None, IfSome, Result, Ok, Err, refl, sym, ap, ap₂, subst, ◌∙◌, inl, inr}
use Rattle.aos_frame.specs.declared.config.Lane.{Lane}
use Rattle.aos_frame.specs.declared.config.Lane.TheVariants.{Directives, Data}
use Rattle.aos_frame.specs.declared.config.LinkConfig.{LinkConfig}
use Rattle.link_stack.specs.AnyOrder.{IsWithinCounts}
use Rattle.link_stack.specs.Lives.{CopyOf, NoiseOf}
use Rattle.cfdp_directives.specs.User.Put.{Put}
use Rattle.cfdp_entity.specs.Entity.{Counted}
use Rattle.cfdp_entity.specs.Polling.{turn}
use Rattle.cfdp_entity.specs.Sound.{SpellsTurn}
use Rattle.cfdp_station.specs.declared.config.StationConfig.{StationConfig}
use Rattle.cfdp_station.specs.declared.polled.Polled.{Polled}
use Rattle.cfdp_station.specs.Polling.{Polls as IsPolled}
use Rattle.cfdp_station.specs.Station.{StationState, station_lent}
use Rattle.cfdp_station.specs.Taking.{TakesFrame}
use Rattle.cfdp_station.specs.Transmitting.{EndsPolls, FillsUp, MovesMore, PollsOnce, Pulls, Times}
use Rattle.cfdp_station.specs.declared.pumping.Until.{Until}
use Rattle.cfdp_station.specs.declared.pumping.Until.TheVariants.{Frame}
use Rattle.cfdp_station.proofs.Lent.{polls-stood}
use Rattle.cfdp_port.specs.Calls.{WireCall}
use Rattle.cfdp_port.specs.Passing.{frames_came, what_came}
use Rattle.cfdp_port.specs.PeerTurn.{SendsNext, SendsSome, SendsSomeInPart}
use Rattle.cfdp_port.specs.Port.{PortState}
use Rattle.cfdp_port.specs.Turn.{AsksOn, HearsAll, TakesWhat, TellsTime}
use Rattle.cfdp_port.specs.declared.wire.WireFault.{WireFault}
use Rattle.cfdp_port.proofs.GainLemmas.{GoesOnLaws, poll-gains}
use Rattle.any_order.specs.Calls.{Call, Fills, Polls, Receives, Tells}
use Rattle.any_order.specs.Kept.{EndKept, MadeFrame, Makes, gives, last_at, with_frame, with_last}
use Rattle.any_order.specs.Refusing.{IsNearLast, number_in}
use Rattle.any_order.proofs.Coming.{makes_copy, makes_noise}
use Rattle.any_order.proofs.Keeping.{makes_both, makes_gives, makes_none}
use Rattle.any_order.proofs.Leading.{makes_fill, makes_poll, makes_tick}
use Rattle.promises.specs.Passing.{Comes, ComesOne, with_sent}
use Rattle.promises.proofs.Standing.{EndsEarly, SendsThen, Stand, TakesTurn}

-- Some calls were made.
abbrev pub MakesSome : StationConfig → (old theirs new : EndKept) → List Put → Type 0
MakesSome c old theirs new puts = (calls : List Call) × Makes calls c old theirs new puts puts

-- what is kept, of this station
abbrev pub at : StationState → EndKept → EndKept
at s k = record k { station = s }

pub same_stand : (a b : StationState) → b.entity ≡ a.entity → Stand b → Stand a
same_stand a b same stand = sym (ap (λ (e : Counted). e.state.table.stands) same) ∙ stand

-- ---- what came
module _ {W : Type 0} (Steps : W → WireCall → W → Type 0) where
  pub heard_end : (old new : PortState W) (h : HearsAll Steps old new) → new.station ≡ h.last.station
  heard_end old new h = elim (h.ends) [
    | inl asked ↦ asked.1.takes
    | inr all ↦ ap (λ (x : PortState W). x.station) all.1
  ]

-- Its life goes on.
pub record SameLife (old new : EndKept) : Type 0 where
  pub before : new.before ≡ old.before
  pub told : new.told_before ≡ old.told_before

life_then : (a b c : EndKept) → SameLife a b → SameLife b c → SameLife a c
life_then a b c g h = record { before = h.before ∙ g.before; told = h.told ∙ g.told }

life_is : (a b : EndKept) → b ≡ a → SameLife a b
life_is a b same = record { before = ap (λ (k : EndKept). k.before) same; told = ap (λ (k : EndKept). k.told_before) same }

last_life : (lane : Lane) (n : ℕ) (k : EndKept) → SameLife k (with_last lane n k)
last_life Directives n k = record { before = refl; told = refl }
last_life Data n k = record { before = refl; told = refl }

one_life : (link : LinkConfig) (octets : List ℕ) (from old new : EndKept) → ComesOne link octets from old new → SameLife old new
one_life link octets from old new (inl copy) =
    subst (λ (k : EndKept). SameLife old k) (sym copy.last) (last_life copy.frame.lane (number_in copy.frame copy.life) old)
one_life link octets from old new (inr (stray, same)) = life_is old new same

comes_life : (link : LinkConfig) (came : List (List ℕ)) (from old new : EndKept) → Comes link came from old new → SameLife old new
comes_life link [] from old new same = life_is old new same
comes_life link (octets ∷ came) from old new (mid, one, rest) = life_then old mid new (one_life link octets from old mid one) (comes_life link came from mid new rest)

module _ {W : Type 0} (Steps : W → WireCall → W → Type 0) (link : LinkConfig) (theirs old new : EndKept) where
  pub turn_life : TakesTurn Steps link theirs old new → SameLife old new
  turn_life t =
      life_then old t.heard new (comes_life link _ theirs old t.heard t.came)
      (record { before = ap (λ (k : EndKept). k.before) t.kept; told = ap (λ (k : EndKept). k.told_before) t.kept })

  pub early_life : EndsEarly Steps link theirs old new → SameLife old new
  early_life t = life_then old t.heard new (comes_life link _ theirs old t.heard t.came) (elim (t.ends) [
    | inl same ↦ record { before = ap (λ (k : EndKept). k.before) same; told = ap (λ (k : EndKept). k.told_before) same }
    | inr more ↦ record { before = ap (λ (k : EndKept). k.before) more.kept; told = ap (λ (k : EndKept). k.told_before) more.kept }
  ])

module _ (laws : GoesOnLaws) (c : StationConfig) (theirs : EndKept) (puts : List Put) where
  pub none_made : (old new : EndKept) → new ≡ old → MakesSome c old theirs new puts
  none_made old new same = ([], makes_none c old theirs new puts same)

  pub both_made : (old mid new : EndKept) → MakesSome c old theirs mid puts → MakesSome c mid theirs new puts → MakesSome c old theirs new puts
  both_made old mid new a b = (a.0 ++ b.0, makes_both a.0 b.0 c old theirs mid new puts puts puts a.1 b.1)

  -- ---- polls
  pub polled : (k : EndKept) (answer : Polled) (a b : StationState) → PollsOnce answer a b → Stand b → MakesSome c (at a k) theirs (at b k) puts
  polled k answer a b once stand =
      let lent : station_lent b a ≡ a = (polls-stood answer a b once.shows stand).1 in (
        Polls answer ∷ [],
        makes_poll answer c (at a k) theirs (at b k) puts (subst (λ (s : StationState). IsPolled answer s b) lent once.polls)
            (λ moved. subst (λ (s : StationState). SpellsTurn (turn s.entity.state) s.entity.state) lent (once.spells moved)) refl,
      )

  pub moved : (until : Until) (k : EndKept) (count : ℕ) (a b : StationState) → Times (MovesMore until) count a b → Stand b → MakesSome c (at a k) theirs (at b k) puts
  moved until k zero a b same stand = none_made (at a k) (at b k) (ap (λ (s : StationState). at s k) same)
  moved until k (suc count) a b (mid, before, step) stand =
      let stood : Stand mid = (poll-gains laws step.1.0 mid b step.1.2).stood stand in
      both_made (at a k) (at mid k) (at b k) (moved until k count a mid before stood) (polled k step.1.0 mid b step.1.2 stand)

  moved_stood : (until : Until) (count : ℕ) (a b : StationState) → Times (MovesMore until) count a b → Stand b → Stand a
  moved_stood until zero a b same stand = subst (λ (s : StationState). Stand s) same stand
  moved_stood until (suc count) a b (mid, before, step) stand = moved_stood until count a mid before ((poll-gains laws step.1.0 mid b step.1.2).stood stand)

  ended : (most : ℕ) (k : EndKept) (rests : Bool) (count : ℕ) (a b : StationState) → EndsPolls Frame most rests count a b → Stand b → MakesSome c (at a k) theirs (at b k) puts
  ended most k true count a b ends stand = polled k ends.1.1.0 a b ends.1.1.2 stand
  ended most k false count a b ends stand = none_made (at a k) (at b k) (ap (λ (s : StationState). at s k) ends.1)

  ended_stood : (most : ℕ) (rests : Bool) (count : ℕ) (a b : StationState) → EndsPolls Frame most rests count a b → Stand b → Stand a
  ended_stood most true count a b ends stand = (poll-gains laws ends.1.1.0 a b ends.1.1.2).stood stand
  ended_stood most false count a b ends stand = subst (λ (s : StationState). Stand s) ends.1 stand

  pub filled : (k : EndKept) (rests : Bool) (a b : StationState) → FillsUp rests a b → MakesSome c (at a k) theirs (at b k) puts
  filled k false a b f = (Fills Directives ∷ [], makes_fill Directives c (at a k) theirs (at b k) puts f.fills f.file_data f.keeps refl)
  filled k true a b f =
      let mid : StationState = record a { down = record a.down { directives = b.down.directives } } in
      both_made (at a k) (at mid k) (at b k) (Fills Directives ∷ [], makes_fill Directives c (at a k) theirs (at mid k) puts (f.0.lanes Directives) refl (refl, refl) refl)
      (Fills Data ∷ [], makes_fill Data c (at mid k) theirs (at b k) puts (f.0.lanes Data) refl f.1 refl)

  pub filled_same : (rests : Bool) (a b : StationState) → FillsUp rests a b → b.entity ≡ a.entity
  filled_same false a b f = f.keeps.0
  filled_same true a b f = f.1.0

  pub pull_stood : (most : ℕ) (a b : StationState) → Pulls most a b → Stand b → Stand a
  pull_stood most a b pulls stand =
      let polls = pulls.polls in
      moved_stood Frame polls.count a polls.last polls.moved
      (ended_stood most pulls.rests polls.count polls.last pulls.polled polls.ends (same_stand pulls.polled b (filled_same pulls.rests pulls.polled b pulls.fills) stand))

  pub pulled : (most : ℕ) (k : EndKept) (a b : StationState) → Pulls most a b → Stand b → MakesSome c (at a k) theirs (at b k) puts
  pulled most k a b pulls stand =
      let polls = pulls.polls in
      let at_polled : Stand pulls.polled = same_stand pulls.polled b (filled_same pulls.rests pulls.polled b pulls.fills) stand in
      let at_last : Stand polls.last = ended_stood most pulls.rests polls.count polls.last pulls.polled polls.ends at_polled in
      both_made (at a k) (at polls.last k) (at b k) (moved Frame k polls.count a polls.last polls.moved at_last)
      (both_made (at polls.last k) (at pulls.polled k) (at b k) (ended most k pulls.rests polls.count polls.last pulls.polled polls.ends at_polled)
      (filled k pulls.rests pulls.polled b pulls.fills))

  module _ {W : Type 0} (Steps : W → WireCall → W → Type 0) where
    -- ---- frames that leave
    next_pulled : (p q : PortState W) (next : SendsNext Steps p q) → Stand q.station → Stand next.pulled
    next_pulled p q next stand = same_stand next.pulled q.station next.sends.gives.rest.0 stand

    next_stood : (p q : PortState W) → SendsNext Steps p q → Stand q.station → Stand p.station
    next_stood p q next stand = pull_stood 16 p.station next.pulled next.pulls (next_pulled p q next stand)

    left_one : (k : EndKept) (p q : PortState W) (next : SendsNext Steps p q) → Stand q.station →
        MakesSome c (at p.station k) theirs (record k { station = q.station; latest = with_frame next.sends.lane next.sends.frame k.latest }) puts
    left_one k p q next stand =
        let m : MadeFrame = record { lane = next.sends.lane; octets = next.sends.frame } in
        let after : EndKept = record k { station = q.station; latest = with_frame next.sends.lane next.sends.frame k.latest } in
        both_made (at p.station k) (at next.pulled k) after (pulled 16 k p.station next.pulled next.pulls (next_pulled p q next stand))
        (gives (m ∷ []), makes_gives (m ∷ []) c (at next.pulled k) theirs after puts refl (q.station, next.sends.gives, (refl, refl)))

    left : (k : EndKept) (count : ℕ) (p q : PortState W) (times : Times (SendsNext Steps) count p q) → Stand q.station →
        MakesSome c (at p.station k) theirs (record k { station = q.station; latest = with_sent Steps count p q times k.latest }) puts
    left k zero p q same stand = none_made (at p.station k) (at q.station k) (ap (λ (x : PortState W). at x.station k) same)
    left k (suc count) p q (mid, before, step) stand =
        let between : EndKept = record k { station = mid.station; latest = with_sent Steps count p mid before k.latest } in
        both_made (at p.station k) between (record k { station = q.station; latest = with_frame step.sends.lane step.sends.frame between.latest })
        (left k count p mid before (next_stood mid q step stand)) (left_one between mid q step stand)

    -- ---- frames that come
    comes_apart : (link : LinkConfig) (xs ys : List (List ℕ)) (from old new : EndKept) → Comes link (xs ++ ys) from old new → (mid : EndKept) × Comes link xs from old mid × Comes link ys from mid new
    comes_apart link [] ys from old new h = (old, refl, h)
    comes_apart link (x ∷ xs) ys from old new (mid, one, rest) = let r = comes_apart link xs ys from mid new rest in (r.0, (mid, one, r.1), r.2)

    near_at : (lane : Lane) (n : ℕ) (a : StationState) (k : EndKept) → IsNearLast (last_at lane k) n → IfSome (last_at lane (at a k)) (λ last. IsWithinCounts true last n)
    near_at Directives n a k h = h
    near_at Data n a k h = h

    last_on : (lane : Lane) (n : ℕ) (a b : StationState) (old new : EndKept) → new ≡ with_last lane n old → at b new ≡ with_last lane n (record (at a old) { station = b })
    last_on Directives n a b old new e = ap (λ (k : EndKept). at b k) e
    last_on Data n a b old new e = ap (λ (k : EndKept). at b k) e

    came_one : (octets : List ℕ) (old new : EndKept) (a b : StationState) → ComesOne c.receives octets theirs old new → TakesFrame octets a b → MakesSome c (at a old) theirs (at b new) puts
    came_one octets old new a b (inl copy) takes =
        let f = copy.frame in (
          Receives (CopyOf f.life f.lane f.place) ∷ [],
          makes_copy c f.life f.lane f.place copy.life octets (at a old) theirs (at b new) puts copy.made.0 copy.made.1 copy.is (near_at f.lane (number_in f copy.life) a old copy.near)
              (last_on f.lane (number_in f copy.life) a b old new copy.last) takes,
        )
    came_one octets old new a b (inr (stray, same)) takes =
        (Receives (NoiseOf octets) ∷ [], makes_noise c octets (at a old) theirs (at b new) puts stray (ap (λ (k : EndKept). at b k) same) takes)

    asked_one : (came : Result (Option (List ℕ)) WireFault) (old new : EndKept) (a b : StationState) → TakesWhat Steps came a b → Comes c.receives (what_came came) theirs old new →
        MakesSome c (at a old) theirs (at b new) puts
    asked_one (Ok (Some frame)) old new a b takes (mid, one, same) = came_one frame old new a b (subst (λ (k : EndKept). ComesOne c.receives frame theirs old k) (sym same) one) takes
    asked_one (Ok None) old new a b takes same = none_made (at a old) (at b new) (ap₂ (λ (s : StationState) (k : EndKept). at s k) takes same)
    asked_one (Err fault) old new a b takes same = none_made (at a old) (at b new) (ap₂ (λ (s : StationState) (k : EndKept). at s k) takes same)

    heard_so : (count : ℕ) (p q : PortState W) (times : Times (AsksOn Steps) count p q) (old new : EndKept) → Comes c.receives (frames_came Steps count p q times) theirs old new →
        MakesSome c (at p.station old) theirs (at q.station new) puts
    heard_so zero p q same old new come = none_made (at p.station old) (at q.station new) (ap₂ (λ (x : PortState W) (k : EndKept). at x.station k) same come)
    heard_so (suc count) p q (mid, before, step) old new come =
        let parts = comes_apart c.receives (frames_came Steps count p mid before) (what_came step.0) theirs old new come in
        both_made (at p.station old) (at mid.station parts.0) (at q.station new) (heard_so count p mid before old parts.0 parts.1)
        (asked_one step.0 parts.0 new mid.station q.station step.2.takes parts.2)

    -- ---- turns
    ticked : (k : EndKept) (now : ℕ) (a b : StationState) → TellsTime now a b → MakesSome c (at a k) theirs (at b k) puts
    ticked k now a b tells = (Tells now ∷ [], makes_tick now (Ok tt) c (at a k) theirs (at b k) puts tells.ticked tells.table tt tells.link refl)

    some_sent : (k : EndKept) (p q : PortState W) (some : SendsSome Steps p q) → Stand q.station →
        MakesSome c (at p.station k) theirs (record k { station = q.station; latest = with_sent Steps some.count p some.last some.sent k.latest }) puts
    some_sent k p q some stand =
        let k_then : EndKept = record k { latest = with_sent Steps some.count p some.last some.sent k.latest } in
        elim (some.ends) [
          | inl none ↦
              let stood : Stand some.last.station = pull_stood 16 some.last.station q.station none.1.pulls stand in
              both_made (at p.station k) (at some.last.station k_then) (at q.station k_then) (left k some.count p some.last some.sent stood)
              (pulled 16 k_then some.last.station q.station none.1.pulls stand)
          | inr all ↦
              let same : q.station ≡ some.last.station = ap (λ (x : PortState W). x.station) all.1 in
              both_made (at p.station k) (at some.last.station k_then) (at q.station k_then)
              (left k some.count p some.last some.sent (subst (λ (s : StationState). Stand s) same stand))
              (none_made (at some.last.station k_then) (at q.station k_then) (ap (λ (s : StationState). at s k_then) same))
        ]

    pub turned : (old new : EndKept) → TakesTurn Steps c.receives theirs old new → MakesSome c old theirs new puts
    turned old new t =
        let turn = t.turn in
        let hears = turn.hears in
        let end : EndKept = record t.heard { station = t.last.station; latest = with_sent Steps turn.sends.count _ _ turn.sends.sent t.heard.latest } in
        subst (λ (k : EndKept). MakesSome c old theirs k puts) (sym t.kept)
        (both_made old (at hears.last.station t.heard) end (heard_so hears.count _ hears.last hears.heard old t.heard t.came)
        (both_made (at hears.last.station t.heard) (at turn.heard.station t.heard) end
        (none_made (at hears.last.station t.heard) (at turn.heard.station t.heard) (ap (λ (s : StationState). at s t.heard) (heard_end Steps _ turn.heard hears)))
        (both_made (at turn.heard.station t.heard) (at turn.told t.heard) end (ticked t.heard turn.now turn.heard.station turn.told turn.tells)
        (some_sent t.heard _ t.last turn.sends t.stand))))

    sent_in_part : (k : EndKept) (p q : PortState W) (some : SendsSomeInPart Steps p q) → Stand q.station →
        MakesSome c (at p.station k) theirs (record k { station = q.station; latest = with_sent Steps some.count p some.last some.sent k.latest }) puts
    sent_in_part k p q some stand =
        let k_then : EndKept = record k { latest = with_sent Steps some.count p some.last some.sent k.latest } in
        let stood : Stand some.last.station = moved_stood Frame some.part.count some.last.station q.station some.part.moved stand in
        both_made (at p.station k) (at some.last.station k_then) (at q.station k_then) (left k some.count p some.last some.sent stood)
        (moved Frame k_then some.part.count some.last.station q.station some.part.moved stand)

    then_sent : (mid : PortState W) (heard new : EndKept) → SendsThen Steps mid heard new → MakesSome c (at mid.station heard) theirs new puts
    then_sent mid heard new s =
        let end : EndKept = record heard { station = s.last.station; latest = with_sent Steps s.some.count _ _ s.some.sent heard.latest } in
        subst (λ (k : EndKept). MakesSome c (at mid.station heard) theirs k puts) (sym s.kept)
        (both_made (at mid.station heard) (at s.told heard) end (ticked heard s.now mid.station s.told s.tells) (sent_in_part heard _ s.last s.some s.stand))

    pub stopped : (old new : EndKept) → EndsEarly Steps c.receives theirs old new → MakesSome c old theirs new puts
    stopped old new t =
        both_made old (at t.mid.station t.heard) new (heard_so t.count _ t.mid t.hears old t.heard t.came)
        (elim (t.ends) [
          | inl same ↦ none_made (at t.mid.station t.heard) new same
          | inr more ↦ then_sent t.mid t.heard new more
        ])
