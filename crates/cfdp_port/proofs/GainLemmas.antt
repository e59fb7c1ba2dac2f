-- What a station indicated stays, and more comes after it, whatever a turn does.
use Rattle.std.proofs.Common.{◌≡◌, inl, inr, ℕ, zero, suc, List, [], ◌∷◌, ◌++◌, Option, Some, None, Result, Ok, Err, Bool, true, false, ap, subst, sym, ◌∙◌, ⊎_elim}
use Rattle.std.proofs.lemmas.List.{append-nil, append_assoc}
use Rattle.cfdp_directives.specs.Pdu.Faults.{pdu_fault}
use Rattle.cfdp_store.specs.declared.stored.Stored.{Stored}
use Rattle.cfdp_store.specs.declared.stored.Stored.TheVariants.{Done, Refused}
use Rattle.cfdp_entity.specs.declared.error.EntityDrop.{EntityDrop}
use Rattle.cfdp_entity.specs.Entity.{Counted, EntityState, with_table}
use Rattle.cfdp_entity.specs.Hearing.{DropsOctets, HearsOctets}
use Rattle.cfdp_entity.specs.Polling.{served, turn}
use Rattle.cfdp_entity.specs.Sound.{GoesOn}
use Rattle.cfdp_entity.specs.Table.{TableState, Ticks}
use Rattle.cfdp_station.specs.Station.{StationState, station_lent}
use Rattle.cfdp_station.proofs.Lent.{polls-stood}
use Rattle.cfdp_station.specs.Taking.{HearsAll as HearsPdus}
use Rattle.cfdp_station.specs.declared.polled.Polled.{Polled}
use Rattle.cfdp_station.specs.declared.polled.Polled.TheVariants.{Moved, Nothing, Full, SourceFailed}
use Rattle.cfdp_station.specs.declared.pumping.Until.{Until}
use Rattle.cfdp_station.specs.declared.pumping.Until.TheVariants.{Frame}
use Rattle.cfdp_station.specs.Transmitting.{EndsPolls, FillsUp, MovesMore, PollsOnce, Pulls, Times}
use Rattle.cfdp_port.specs.Asking.{LooksAt}
use Rattle.cfdp_port.specs.Calls.{WireCall}
use Rattle.cfdp_port.specs.Gains.{Gains}
use Rattle.cfdp_port.specs.PeerTurn.{SendsNext, SendsSome, SendsSomeInPart, TakesInPart, TakesOne}
use Rattle.cfdp_port.specs.Port.{PortState, table_of}
use Rattle.cfdp_port.specs.Turn.{Asks, AsksOn, HearsAll, TellsTime}
use Rattle.cfdp_port.specs.declared.wire.WireFault.{WireFault}

-- ---- what was indicated stays
pub gains-same : (a b : TableState) → b ≡ a → Gains a b
gains-same a b same = record {
  gained = [];
  told = ap (λ (t : TableState). t.told) same ∙ sym (append-nil a.told);
  gone = ap (λ (t : TableState). t.gone) same;
  stood = λ stand. sym (ap (λ (t : TableState). t.stands) same) ∙ stand;
}

pub gains-both : (a b c : TableState) → Gains a b → Gains b c → Gains a c
gains-both a b c one two = record {
  gained = one.gained ++ two.gained;
  told = two.told ∙ ap (λ xs. xs ++ two.gained) one.told ∙ append_assoc a.told one.gained two.gained;
  gone = two.gone ∙ one.gone;
  stood = λ stand. one.stood (two.stood stand);
}

-- what an entity indicated, over a step with which it goes on
pub goes : (a b : EntityState) → GoesOn a b → Gains a.table b.table
goes a b on = record { gained = on.gained; told = on.told; gone = on.gone; stood = λ stand. sym on.stands ∙ stand }

-- a station with the same entity indicated the same
pub same-entity : (a b : StationState) → b.entity ≡ a.entity → Gains (table_of a) (table_of b)
same-entity a b same = gains-same (table_of a) (table_of b) (ap (λ (e : Counted). e.state.table) same)

-- a step so many times
gains-times : {S : Type 0} (Step : S → S → Type 0) (of : S → TableState)
    → ((a b : S) → Step a b → Gains (of a) (of b)) → (count : ℕ) (a b : S) → Times Step count a b → Gains (of a) (of b)
gains-times Step of each zero a b same = gains-same (of a) (of b) (ap of same)
gains-times Step of each (suc count) a b (mid, before, step) =
    gains-both (of a) (of mid) (of b) (gains-times Step of each count a mid before) (each mid b step)

-- a file was looked for
pub look-gains : (source : List ℕ) (a b : StationState) → LooksAt source a b → Gains (table_of a) (table_of b)
look-gains source a b look = elim look.looks.looks [
  | inl sent ↦ gains-same (table_of a) (table_of b) sent.1
  | inr anew ↦ record {
    gained = [];
    told = ap (λ (t : TableState). t.told) anew.table ∙ sym (append-nil (table_of a).told);
    gone = ap (λ (t : TableState). t.gone) anew.table;
    stood = anew.looks.stood;
  }
]

-- the laws of an entity
pub record GoesOnLaws : Type 0 where
  pub ticked : (now : ℕ) (old new : EntityState) → Ticks now old.table new.table → new ≡ with_table old new.table → GoesOn old new
  pub heard : (pdu : List ℕ) (old new : Counted) → HearsOctets pdu old new → GoesOn old.state new.state
  pub dropped : (pdu : List ℕ) (by : EntityDrop) (old new : Counted) → DropsOctets (pdu_fault pdu) pdu by old new → GoesOn old.state new.state
  pub served : (stored : Stored) (e : EntityState) → GoesOn e (served stored (turn e) e)

module _ (laws : GoesOnLaws) where
  pub ticks-gains : (now : ℕ) (a b : StationState) → TellsTime now a b → Gains (table_of a) (table_of b)
  ticks-gains now a b tells = goes a.entity.state b.entity.state (laws.ticked now a.entity.state b.entity.state tells.ticked tells.table)

  serves-gains : (stored : Stored) (a b : EntityState) → b ≡ served stored (turn a) a → Gains a.table b.table
  serves-gains stored a b is = subst (λ (e : EntityState). Gains a.table e.table) (sym is) (goes a (served stored (turn a) a) (laws.served stored a))

  -- what was read says nothing of what was indicated
  lent-gains : (answer : Polled) (a b : StationState) → PollsOnce answer a b → Gains (table_of (station_lent b a)) (table_of b) → Gains (table_of a) (table_of b)
  lent-gains answer a b once g = record { gained = g.gained; told = g.told; gone = g.gone; stood = λ stand. (polls-stood answer a b once.shows stand).0 }

  pub poll-gains : (answer : Polled) (a b : StationState) → PollsOnce answer a b → Gains (table_of a) (table_of b)
  poll-gains Moved a b once = lent-gains Moved a b once (serves-gains Done (station_lent b a).entity.state b.entity.state once.polls.0.served)
  poll-gains SourceFailed a b once = lent-gains SourceFailed a b once (serves-gains Refused (station_lent b a).entity.state b.entity.state once.polls.0.0.served)
  poll-gains Nothing a b once = lent-gains Nothing a b once (same-entity (station_lent b a) b once.polls.0.1)
  poll-gains Full a b once = lent-gains Full a b once (same-entity (station_lent b a) b once.polls.0.1)

  moves-gains : (until : Until) (count : ℕ) (a b : StationState) → Times (MovesMore until) count a b → Gains (table_of a) (table_of b)
  moves-gains until = gains-times (MovesMore until) table_of (λ a b more. poll-gains more.1.0 a b more.1.2)

  fills-gains : (rests : Bool) (a b : StationState) → FillsUp rests a b → Gains (table_of a) (table_of b)
  fills-gains true a b fills = same-entity a b fills.1.0
  fills-gains false a b fills = same-entity a b fills.keeps.0

  ends-gains : (most : ℕ) (rests : Bool) (count : ℕ) (a b : StationState) → EndsPolls Frame most rests count a b → Gains (table_of a) (table_of b)
  ends-gains most true count a b ends = poll-gains ends.1.1.0 a b ends.1.1.2
  ends-gains most false count a b ends = gains-same (table_of a) (table_of b) (ap table_of ends.1)

  pulls-gains : (most : ℕ) (a b : StationState) → Pulls most a b → Gains (table_of a) (table_of b)
  pulls-gains most a b pulls =
      let polls = pulls.polls in
      let moved = moves-gains Frame polls.count a polls.last polls.moved in
      let polled = gains-both (table_of a) (table_of polls.last) (table_of pulls.polled) moved (ends-gains most pulls.rests polls.count polls.last pulls.polled polls.ends) in
      gains-both (table_of a) (table_of pulls.polled) (table_of b) polled (fills-gains pulls.rests pulls.polled b pulls.fills)

  pdus-gains : (pdus : List (List ℕ)) (a b : Counted) → HearsPdus pdus a b → Gains a.state.table b.state.table
  pdus-gains [] a b same = gains-same a.state.table b.state.table (ap (λ (e : Counted). e.state.table) same)
  pdus-gains (pdu ∷ pdus) a b (mid, here, behind) =
      gains-both a.state.table mid.state.table b.state.table
      (⊎_elim (λ hears. goes a.state mid.state (laws.heard pdu a mid hears)) (λ drops. goes a.state mid.state (laws.dropped pdu drops.0 a mid drops.1)) here)
      (pdus-gains pdus mid b behind)

  module _ {W : Type 0} (Steps : W → WireCall → W → Type 0) where
    next-gains : (a b : PortState W) → SendsNext Steps a b → Gains (table_of a.station) (table_of b.station)
    next-gains a b next =
        gains-both (table_of a.station) (table_of next.pulled) (table_of b.station) (pulls-gains 16 a.station next.pulled next.pulls) (same-entity next.pulled b.station next.sends.gives.rest.0)

    nexts-gains : (count : ℕ) (a b : PortState W) → Times (SendsNext Steps) count a b → Gains (table_of a.station) (table_of b.station)
    nexts-gains = gains-times (SendsNext Steps) (λ (s : PortState W). table_of s.station) next-gains

    some-gains : (a b : PortState W) → SendsSome Steps a b → Gains (table_of a.station) (table_of b.station)
    some-gains a b some =
        gains-both (table_of a.station) (table_of some.last.station) (table_of b.station) (nexts-gains some.count a some.last some.sent)
        (⊎_elim (λ none. pulls-gains 16 some.last.station b.station none.1.pulls)
        (λ same. gains-same (table_of some.last.station) (table_of b.station) (ap (λ (s : PortState W). table_of s.station) same.1)) some.ends)

    some_part-gains : (a b : PortState W) → SendsSomeInPart Steps a b → Gains (table_of a.station) (table_of b.station)
    some_part-gains a b some =
        gains-both (table_of a.station) (table_of some.last.station) (table_of b.station) (nexts-gains some.count a some.last some.sent)
        (moves-gains Frame some.part.count some.last.station b.station some.part.moved)

    asks-gains : (came : Result (Option (List ℕ)) WireFault) (a b : PortState W) → Asks Steps came a b → Gains (table_of a.station) (table_of b.station)
    asks-gains (Ok (Some frame)) a b asks = pdus-gains asks.takes.pdus a.station.entity b.station.entity asks.takes.heard
    asks-gains (Ok None) a b asks = gains-same (table_of a.station) (table_of b.station) (ap table_of asks.takes)
    asks-gains (Err fault) a b asks = gains-same (table_of a.station) (table_of b.station) (ap table_of asks.takes)

    pub hears-gains : (a b : PortState W) → HearsAll Steps a b → Gains (table_of a.station) (table_of b.station)
    hears-gains a b hears =
        gains-both (table_of a.station) (table_of hears.last.station) (table_of b.station)
        (gains-times (AsksOn Steps) (λ (e : PortState W). table_of e.station) (λ x y on. asks-gains on.0 x y on.2) hears.count a hears.last hears.heard)
        (⊎_elim (λ last. asks-gains (Ok None) hears.last b last.1) (λ same. gains-same (table_of hears.last.station) (table_of b.station) (ap (λ (e : PortState W). table_of e.station) same.1)) hears.ends)

    pub turn-gains : (a b : PortState W) → TakesOne Steps a b → Gains (table_of a.station) (table_of b.station)
    turn-gains a b turn =
        let heard = hears-gains a turn.heard turn.hears in
        let ticked = ticks-gains turn.now turn.heard.station turn.told turn.tells in
        let both = gains-both (table_of a.station) (table_of turn.heard.station) (table_of turn.told) heard ticked in
        gains-both (table_of a.station) (table_of turn.told) (table_of b.station) both (some-gains (record { station = turn.told; wire = turn.timed }) b turn.sends)

    pub part-gains : (a b : PortState W) → TakesInPart Steps a b → Gains (table_of a.station) (table_of b.station)
    part-gains a b part =
        gains-both (table_of a.station) (table_of part.heard.station) (table_of b.station) (hears-gains a part.heard part.hears)
        (⊎_elim (λ same. gains-same (table_of part.heard.station) (table_of b.station) (ap (λ (s : PortState W). table_of s.station) same))
        (λ more. gains-both (table_of part.heard.station) (table_of more.0) (table_of b.station) (ticks-gains part.now part.heard.station more.0 more.1)
        (some_part-gains (record { station = more.0; wire = part.timed }) b more.2)) part.ends)
