use Rattle.cfdp_resuming.proofs.Entity.{MachineLaws, resumed-sound}
use Rattle.cfdp_resuming.proofs.laws.a_resumed_entity_is_sound.Goals as goal

pub returns : goal.returns
returns c =
    let laws : MachineLaws = record { receiver = c.a_restored_receiver_knows_the_truth.ensures; sender = c.a_restored_sender_sends_its_put.ensures } in
    resumed-sound laws
