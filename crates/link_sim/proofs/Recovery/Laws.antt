-- The laws of one transaction by which a recovery is followed.
use Rattle.link_sim.proofs.Course.All.{course-laws}
use Rattle.link_sim.proofs.Found.Exchanges.{has-exchange, exchange-true}
use Rattle.link_sim.proofs.Found.Ends.{arriving-among}
use Rattle.link_sim.proofs.Stages.Below.{settled-below}
use Rattle.link_sim.proofs.Stages.Keep.{done-runs}
use Rattle.link_sim.proofs.Stages.Rest.{over-runs, over-waits}
use Rattle.link_sim.proofs.Stages.Rounds.{sender-round}
use Rattle.link_sim.proofs.Stages.RoundsThere.{receiver-round}
use Rattle.link_sim.proofs.Recovery.First.{FirstLaws}
use Rattle.link_sim.proofs.Recovery.Round.{RoundLaws}

pub first-laws : FirstLaws
first-laws = record {
  settled_below = settled-below;
  over_runs = over-runs;
  arriving_among = arriving-among;
  has_exchange = λ w sound puts s put own. has-exchange s put w sound puts.course own;
  exchange_true = λ w sound puts s put e own has unspoiled. exchange-true s put w sound puts.course own course-laws unspoiled e has;
}

pub round-laws : RoundLaws
round-laws = record {
  sender_round = sender-round;
  receiver_round = λ here there policy n put a a1 b ks limits ignores own ids stands waited expires runs rests.
      receiver-round here there policy n put a a1 b ks limits ignores own stands ids waited expires runs rests;
  over_runs = over-runs;
  over_waits = over-waits;
  done_runs = done-runs;
}
