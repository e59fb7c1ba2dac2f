use Rattle.std.proofs.Common.{length, ap}
use Rattle.cfdp_receiver.specs.Asked.{with_metadata}
use Rattle.cfdp_receiver.proofs.AskedLemmas.{asked_full, asked_whole}
use Rattle.cfdp_receiver.proofs.asked.count_asked.Goals as goal

pub returns-then-count-eq-MOST_PAIRS-clause-count : goal.returns-then-count-eq-MOST_PAIRS-clause-count
returns-then-count-eq-MOST_PAIRS-clause-count c =
    asked_full (with_metadata c.args.metadata c.args.gaps) c.loop-gap.count (length c.loop-gap._gap-iterator) c.loop-gap.invariant.all c.if-count-eq-MOST_PAIRS.true

pub returns-clause-count : goal.returns-clause-count
returns-clause-count c =
    asked_whole (with_metadata c.args.metadata c.args.gaps) c.loop-gap.count (length c.loop-gap._gap-iterator) c.loop-gap.invariant.all (ap length c.in-None.ensures.steps.0) c.loop-gap.invariant.few
