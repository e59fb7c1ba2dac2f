use Rattle.cfdp_sender.proofs.Truth.{ChecksumsGoOn, truth}
use Rattle.cfdp_sender.proofs.KeepsPut.{opened-of, step-of, partly-of}
use Rattle.cfdp_sender.proofs.laws.a_sender_says_what_is_so.Goals as goal

pub returns : goal.returns
returns c =
    let go_on = c.checksums_go_on.ensures in
    let law : ChecksumsGoOn = record { none = go_on.none; more = go_on.more; whole = go_on.whole } in
    record {
      truthful = truth law;
      opened = opened-of law;
      stays = λ put policy input x s of may. step-of law put policy input x s.sent of may;
      partly = partly-of;
    }
