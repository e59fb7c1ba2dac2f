use Rattle.std.proofs.Common.{sym}
use Rattle.cfdp_station.proofs.Lent.{polled-steady, spelled-steady}
use Rattle.cfdp_c.proofs.frames.poll_memory.Goals as goal

pub returns : goal.returns
returns c = record {
  polls = record {
    told = c.poll-answer.result;
    code = c.of_poll.ensures;
    polled = polled-steady c.poll-answer.result c.args.station.now c.poll-answer.new.self (sym c.outbox.ensures.stands) c.poll-answer.ensures.polled c.poll-answer.ensures.shows;
    spells = spelled-steady c.poll-answer.result c.args.station.now c.poll-answer.new.self (sym c.outbox.ensures.stands) c.poll-answer.ensures.spells c.poll-answer.ensures.shows;
    shows = c.poll-answer.ensures.shows;
    full = c.poll-answer.ensures.full;
    lacks = c.poll-answer.ensures.lacks;
    err = c.poll-answer.ensures.err;
    ahead = c.poll-answer.ensures.ahead;
  };
}
