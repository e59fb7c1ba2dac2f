-- Wires that lose frames, or bring those of each lane in the order in which they were sent; and
-- what two stations are then that were joined by such wires.
use Rattle.std.specs.Prelude.{◌≡◌, ℕ, zero, suc, ◌+◌, ◌<◌, List, [], ◌∷◌, ◌++◌, length, slice_index_or}
use Rattle.aos_frame.specs.Counts.{frame_counts}
use Rattle.aos_frame.specs.declared.config.Lane.{Lane}
use Rattle.aos_frame.specs.declared.config.Lane.TheVariants.{Directives, Data}
use Rattle.cfdp_header.specs.Files.{FileMap}
use Rattle.cfdp_header.specs.declared.value.TransactionId.{TransactionId}
use Rattle.cfdp_station.specs.Station.{StationState}
use Rattle.link_sim.specs.declared.event.AcceptedPut.{AcceptedPut}
use Rattle.link_sim.specs.declared.event.Event.{Event}
use Rattle.station_pair.specs.declared.side.Side.TheVariants.{One, Two}
use Rattle.station_pair.specs.declared.world_config.WorldConfig.{WorldConfig}
use Rattle.link_sim.specs.Running.{Happens, KeepsPromises}
use Rattle.link_sim.specs.World.State.{WorldState, IsFirst, lane_from}
use Rattle.cfdp_port.specs.Calls.{WireCall}
use Rattle.cfdp_port.specs.Pair.{PairState, TakesTurn, Turns}
use Rattle.cfdp_port.specs.Passing.{frames_came, frames_left}

-- a number for each lane: this one for that lane
abbrev pub taken_to : Lane → ℕ → (Lane → ℕ) → Lane → ℕ
taken_to Directives count taken Directives = count
taken_to Directives count taken Data = taken Data
taken_to Data count taken Directives = taken Directives
taken_to Data count taken Data = count

-- Of the frames that were sent in each lane, `taken` were lost or came before. These came now, each
-- in the order of its lane; those of the lane between them are lost, which must be fewer in a row
-- than there are frame counts. `then_taken` of each lane were lost or came by then.
abbrev pub ComeInOrder : (sent : Lane → List (List ℕ)) → (taken : Lane → ℕ)
    → (came : List (List ℕ)) → (then_taken : Lane → ℕ) → Type 0
ComeInOrder sent taken [] then_taken = then_taken ≡ taken
ComeInOrder sent taken (frame ∷ came) then_taken =
    (lane : Lane) × (lost : ℕ) × (lost < frame_counts)
    × (taken lane + lost < length (sent lane))
    × (frame ≡ slice_index_or (sent lane) (taken lane + lost) [])
    × ComeInOrder sent (taken_to lane (taken lane + lost + 1) taken) came then_taken

-- What passed between two stations: all frames that left each of them in each lane, in order, and
-- how many of these were lost or came.
pub record Passage : Type 0 where
  pub from_one : Lane → List (List ℕ)
  pub from_two : Lane → List (List ℕ)
  pub taken_one : Lane → ℕ
  pub taken_two : Lane → ℕ

abbrev pub nothing_passed : Passage
nothing_passed = record {
  from_one = λ lane. [];
  from_two = λ lane. [];
  taken_one = λ lane. 0;
  taken_two = λ lane. 0;
}

module _ {W : Type 0} (Steps : W → WireCall → W → Type 0) where
  -- What passed in one turn, after what had passed before: what came to each station came in order
  -- of what had left the other one in its lane.
  pub record PassesInOrder (now : ℕ) (old new : PairState W)
      (turn : TakesTurn Steps now old new) (before after : Passage) : Type 0 where
    pub from_one : let sends = turn.one_sends.sends in (lane : Lane) → after.from_one lane
        ≡ before.from_one lane ++ frames_left Steps lane sends.count _ _ sends.sent
    pub from_two : let sends = turn.two_sends.sends in (lane : Lane) → after.from_two lane
        ≡ before.from_two lane ++ frames_left Steps lane sends.count _ _ sends.sent
    pub to_two : let hears = turn.two_hears in
        ComeInOrder after.from_one before.taken_one (frames_came Steps hears.count _ _ hears.heard)
        after.taken_one
    pub to_one : let hears = turn.one_hears in
        ComeInOrder after.from_two before.taken_two (frames_came Steps hears.count _ _ hears.heard)
        after.taken_two

  -- In each of so many turns what came did so in order, and this passed in all.
  abbrev pub PassInOrder : (id : TransactionId) → (count : ℕ) → (old new : PairState W)
      → Turns Steps id count old new → Passage → Type 0
  PassInOrder id zero old new same passed = passed ≡ nothing_passed
  PassInOrder id (suc count) old new (mid, before, unclosed, turn) passed =
      (earlier : Passage)
      × PassInOrder id count old mid before earlier
      × PassesInOrder (count + 1) mid new turn earlier passed

-- The two stations are those of a world of this configuration, which began with these files to
-- send and these published, and to which events led. In it this put alone was accepted, exactly
-- what passed in each lane has left the two stations, and as much of it is taken. So the promises
-- hold.
pub record AreOfWorld (c : WorldConfig) (outboxes inboxes : FileMap × FileMap) (put : AcceptedPut)
    (passed : Passage) (one two : StationState) : Type 0 where
  pub first : WorldState
  pub starts : IsFirst c outboxes inboxes first
  pub events : List Event
  pub now : WorldState
  pub happened : Happens events first now
  pub is_one : now.one ≡ one
  pub is_two : now.two ≡ two
  pub puts : now.puts ≡ put ∷ []
  pub from_one : (lane : Lane) → (lane_from One lane now).frames ≡ passed.from_one lane
  pub from_two : (lane : Lane) → (lane_from Two lane now).frames ≡ passed.from_two lane
  pub taken_one : (lane : Lane) → length (lane_from One lane now).marks ≡ passed.taken_one lane
  pub taken_two : (lane : Lane) → length (lane_from Two lane now).marks ≡ passed.taken_two lane
  pub promises : KeepsPromises inboxes now
