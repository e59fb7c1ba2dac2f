-- What was read of a file may differ from what it had: the PDU is as long, and has the same room.
use Rattle.std.specs.Prelude.{Bool, IsTrue}
use Rattle.std.proofs.Common.{◌≡◌, ◌<◌, ◌↔◌, true, false, Result, Ok, Err, IfOk, refl, sym, ap, subst, ◌∙◌, arith}
use Rattle.link_stack.specs.Downward.{DownState, lane_down, room}
use Rattle.cfdp_entity.specs.Entity.{Counted, EntityState, counted_lent, entity_lent}
use Rattle.cfdp_entity.specs.Polling.{turn, turn_data, turn_len}
use Rattle.cfdp_entity.specs.Sound.{SpellsTurn}
use Rattle.cfdp_entity.specs.Table.{ShowsIf}
use Rattle.cfdp_entity.proofs.Lent.{data-lent, turn-len-lent}
use Rattle.cfdp_station.specs.declared.polled.Polled.{Polled}
use Rattle.cfdp_station.specs.declared.polled.Polled.TheVariants.{Moved, Nothing, Full, SourceFailed}
use Rattle.cfdp_station.specs.Link.{lane_for}
use Rattle.cfdp_station.specs.Polling.{Moves, Polls, Shows, next_len, next_room}
use Rattle.cfdp_station.specs.Station.{StationState, station_lent}

pub room-lent : (old new : EntityState) (down : DownState) → next_room (entity_lent new old) down ≡ next_room old down
room-lent old new down = ap (λ b. room (lane_down (lane_for b) down)) (data-lent (turn old) new old)

-- only a PDU longer than its room finds the lane full
full-alone : (answer : Polled) (old new : Counted) (down down_now : DownState) → Moves answer (counted_lent new old) new down down_now → Shows answer old.state new.state →
    (answer ≡ Full) ↔ (next_room old.state down < next_len old.state)
full-alone Moved old new down down_now moves shows =
    let same = turn-len-lent (turn_data (turn old.state) old.state) old.state new.state shows in
    let space = room-lent old.state new.state down in
    (λ full. absurd (cc), λ short. absurd (omega (arith, short, same, space, moves.fits)))
full-alone Nothing old new down down_now moves shows =
    let none : next_len old.state ≡ 0 = ap (λ t. turn_len t old.state) moves.0 in
    (λ full. absurd (cc), λ short. absurd (omega (arith, short, none)))
full-alone Full old new down down_now moves shows =
    let same = turn-len-lent false old.state new.state shows in
    let space = room-lent old.state new.state down in
    (λ full. omega (arith, moves.0, same, space), λ short. refl)
full-alone SourceFailed old new down down_now moves shows =
    let same = turn-len-lent true old.state new.state shows in
    let space = room-lent old.state new.state down in
    (λ full. absurd (cc), λ short. absurd (omega (arith, short, same, space, moves.0.fits)))

pub full-by : {E : Type 0} (result : Result Polled E) (old new : Counted) (down down_now : DownState) → IfOk result (λ answer. Moves answer (counted_lent new old) new down down_now) →
    IfOk result (λ answer. Shows answer old.state new.state) → IfOk result (λ answer. (answer ≡ Full) ↔ (next_room old.state down < next_len old.state))
full-by (Ok answer) old new down down_now moves shows = full-alone answer old new down down_now moves shows
full-by (Err error) old new down down_now moves shows = tt

-- ---- if the files stand after a poll, it read what they had
again : (old new : StationState) → new.entity.state.table.stands ≡ old.entity.state.table.stands → new.entity.state.table.sources ≡ old.entity.state.table.sources → station_lent new old ≡ old
again old new stands sources = λ i. record old {
  entity = record old.entity { state = record old.entity.state { table = record old.entity.state.table { sources = sources i; stands = stands i } } };
}

pub lent-same : (reads : Bool) (old new : StationState) → ShowsIf reads old.entity.state.table new.entity.state.table → IsTrue new.entity.state.table.stands →
    IsTrue old.entity.state.table.stands × (station_lent new old ≡ old)
lent-same true old new shows stand =
    let stood = shows.stood stand in
    let same : new.entity.state.table.stands ≡ old.entity.state.table.stands = stand ∙ sym stood.0 in
    (stood.0, again old new same stood.1)
lent-same false old new shows stand = (sym shows.0 ∙ stand, again old new shows.0 shows.1)

pub shown-by : (answer : Polled) (old new : EntityState) → Shows answer old new → (reads : Bool) × ShowsIf reads old.table new.table
shown-by Moved old new shows = (turn_data (turn old) old, shows)
shown-by SourceFailed old new shows = (true, shows)
shown-by Nothing old new shows = (false, shows)
shown-by Full old new shows = (false, shows)

pub polls-stood : (answer : Polled) (old new : StationState) → Shows answer old.entity.state new.entity.state → IsTrue new.entity.state.table.stands →
    IsTrue old.entity.state.table.stands × (station_lent new old ≡ old)
polls-stood answer old new shows stand =
    let shown = shown-by answer old.entity.state new.entity.state shows in
    lent-same shown.0 old new shown.1 stand

-- ---- a poll of a station whose outbox's files stand after it
module _ {E : Type 0} (result : Result Polled E) (old new : StationState) (stand : IsTrue new.entity.state.table.stands) where
  pub polled-steady : IfOk result (λ answer. Polls answer (station_lent new old) new) → IfOk result (λ answer. Shows answer old.entity.state new.entity.state) →
      IfOk result (λ answer. Polls answer old new)
  polled-steady polled shows = by result polled shows
    where
      by : (r : Result Polled E) → IfOk r (λ answer. Polls answer (station_lent new old) new) → IfOk r (λ answer. Shows answer old.entity.state new.entity.state) → IfOk r (λ answer. Polls answer old new)
      by (Ok answer) p s = subst (λ (x : StationState). Polls answer x new) (polls-stood answer old new s stand).1 p
      by (Err error) p s = tt

  pub spelled-steady : IfOk result (λ answer. answer ≡ Moved → SpellsTurn (turn (entity_lent new.entity.state old.entity.state)) (entity_lent new.entity.state old.entity.state)) →
      IfOk result (λ answer. Shows answer old.entity.state new.entity.state) → IfOk result (λ answer. answer ≡ Moved → SpellsTurn (turn old.entity.state) old.entity.state)
  spelled-steady spells shows = by result spells shows
    where
      by : (r : Result Polled E) → IfOk r (λ answer. answer ≡ Moved → SpellsTurn (turn (entity_lent new.entity.state old.entity.state)) (entity_lent new.entity.state old.entity.state)) →
          IfOk r (λ answer. Shows answer old.entity.state new.entity.state) → IfOk r (λ answer. answer ≡ Moved → SpellsTurn (turn old.entity.state) old.entity.state)
      by (Ok answer) p s = λ moved. subst (λ (x : StationState). SpellsTurn (turn x.entity.state) x.entity.state) (polls-stood answer old new s stand).1 (p moved)
      by (Err error) p s = tt
