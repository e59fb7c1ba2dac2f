-- The frame that is given after the polls, or none.
use Rattle.std.proofs.Common.{◌≡◌, List, ℕ, Option, None, Some, IfSome, refl, sym}
use Rattle.aos_frame.specs.Frame.{other_lane}
use Rattle.aos_frame.specs.declared.config.Lane.{Lane}
use Rattle.link_stack.specs.Downward.{MakesFrame, frame_lane, lane_down}
use Rattle.cfdp_station.specs.Station.{StationState, KeepsRest}
use Rattle.cfdp_station.specs.Transmitting.{Gives}
use Rattle.cfdp_station.proofs.station.Station.transmit_into.Goals as goal

gives : (o : Option Lane) (frame : List ℕ) (old new : StationState) → o ≡ frame_lane old.down → (o ≡ None → new ≡ old)
    → IfSome o (λ lane. MakesFrame frame (lane_down lane old.down) (lane_down lane new.down))
    → IfSome o (λ lane. lane_down (other_lane lane) new.down ≡ lane_down (other_lane lane) old.down)
    → new.down.packet_count ≡ old.down.packet_count → KeepsRest old new → Gives o frame old new
gives None frame old new is kept made other count rest = (sym is, kept refl)
gives (Some lane) frame old new is kept made other count rest = record {
  is_next = sym is;
  made = made;
  other = other;
  packet_count = count;
  rest = rest;
}

pub returns-clause-sent : goal.returns-clause-sent
returns-clause-sent g c = record {
  pulled = c.pull.new.self;
  pulls = c.in_ok-pull.ensures.ok;
  gives = gives c.next_frame.result c.next_frame.new.out c.pull.new.self c.next_frame.new.self c.next_frame.ensures.lane (λ none. (c.next_frame.ensures.kept none).0)
      c.next_frame.ensures.made c.next_frame.ensures.other c.next_frame.ensures.packet_count c.next_frame.ensures.rest;
}
