use Rattle.std.proofs.Common.{sym, ◌∙◌}
use Rattle.cfdp_port.proofs.turn.send_one.Goals as goal

pub returns-clause-sent : goal.returns-clause-sent
returns-clause-sent g c _ = record {
  frame = c.next_frame.new.out;
  lane = c.in-Some.lane;
  gives = record {
    is_next = sym c.next_frame.ensures.lane ∙ c.in-Some.is;
    made = c.in-Some.ensures.made;
    other = c.in-Some.ensures.other;
    packet_count = c.next_frame.ensures.packet_count;
    rest = c.next_frame.ensures.rest;
  };
  answer = c.send.result;
  sent = c.send.ensures;
}

pub returns-clause-shown : goal.returns-clause-shown
returns-clause-shown g c _ = (c.in-Some.lane, sym c.next_frame.ensures.lane ∙ c.in-Some.is, (c.send.result, c.send.ensures, rw c.is_ok-is_sent.ensures.value at c.sees.ensures))
