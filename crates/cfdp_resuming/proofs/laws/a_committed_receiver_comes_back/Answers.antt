use Rattle.cfdp_resuming.proofs.Later.{KeptLaws, step-later, later-both, back-later}
use Rattle.cfdp_resuming.proofs.laws.a_committed_receiver_comes_back.Goals as goal

pub returns : goal.returns
returns c =
    let kept = c.what_comes_is_kept.ensures in
    let finished = c.a_transaction_is_finished_once.ensures in
    let laws : KeptLaws = record { same = finished.same; once = finished.once; octets = kept.octets; held = kept.held; unions = c.a_set_is_what_it_holds.ensures.union } in
    record { step = step-later laws; more = later-both; back = back-later }
