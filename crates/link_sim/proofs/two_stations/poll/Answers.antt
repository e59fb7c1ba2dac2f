use Rattle.std.proofs.Common.{sym, ◌∙◌}
use Rattle.cfdp_station.proofs.Lent.{polled-steady, spelled-steady}
use Rattle.link_sim.proofs.two_stations.poll.Goals as goal

pub returns-clause-polled : goal.returns-clause-polled
returns-clause-polled g c =
    polled-steady c.poll-answer.result c.args.station.now c.poll-answer.new.self (sym c.outbox.ensures.stands ∙ g.met.O.SteadyOutbox.steady c.outbox.result.now) c.poll-answer.ensures.polled c.poll-answer.ensures.shows

pub returns-clause-spells : goal.returns-clause-spells
returns-clause-spells g c =
    spelled-steady c.poll-answer.result c.args.station.now c.poll-answer.new.self (sym c.outbox.ensures.stands ∙ g.met.O.SteadyOutbox.steady c.outbox.result.now) c.poll-answer.ensures.spells c.poll-answer.ensures.shows
