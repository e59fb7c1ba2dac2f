use Rattle.std.proofs.Common.{◌∙◌, Bool, false, true, subst}
use Rattle.aos_frame.specs.declared.config.Lane.TheVariants.{Directives, Data}
use Rattle.cfdp_station.specs.Transmitting.{PollsUntil}
use Rattle.cfdp_station.specs.declared.pumping.Until.TheVariants.{Frame}
use Rattle.cfdp_station.proofs.station.Station.pull.Goals as goal

pub returns-then-branch-clause-ok : goal.returns-then-branch-clause-ok
returns-then-branch-clause-ok g c = record {
  rests = true;
  polled = c.poll_until.new.self;
  polls = subst (λ (rests : Bool). PollsUntil Frame c.args.most rests c.args.self.now c.poll_until.new.self) c.if-branch.true c.in_ok-poll_until.ensures.ok;
  fills = (c.flush.ensures.flushed, c.flush.ensures.rest);
}

pub returns-then-branch-clause-lanes : goal.returns-then-branch-clause-lanes
returns-then-branch-clause-lanes g c =
    let polled = c.poll_until.ensures.lanes in
    let one = (c.flush.ensures.flushed.lanes Directives).fixed in
    let two = (c.flush.ensures.flushed.lanes Data).fixed in
    (one.0 ∙ polled.0, one.1 ∙ polled.1, two.0 ∙ polled.2, two.1 ∙ polled.3)

pub returns-else-branch-clause-ok : goal.returns-else-branch-clause-ok
returns-else-branch-clause-ok g c = record {
  rests = false;
  polled = c.poll_until.new.self;
  polls = subst (λ (rests : Bool). PollsUntil Frame c.args.most rests c.args.self.now c.poll_until.new.self) c.if-branch.false c.in_ok-poll_until.ensures.ok;
  fills = record {
    fills = c.flush_lane.ensures.flushed;
    file_data = c.flush_lane.ensures.other;
    packet_count = c.flush_lane.ensures.packet_count;
    keeps = c.flush_lane.ensures.rest;
  };
}
