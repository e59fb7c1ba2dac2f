use Rattle.cfdp_station.proofs.pumping.poll_shown.Goals as goal

pub returns-clause-once : goal.returns-clause-once
returns-clause-once g c = record {
  polls = c.in_ok-answer.ensures.polled;
  shows = c.in_ok-answer.ensures.shows;
  spells = c.in_ok-answer.ensures.spells;
  outbox = c.in_ok-answer.ensures.counts;
  inbox = c.in_ok-answer.ensures.inbox;
}
