use Rattle.cfdp_sender.proofs.Waiting.{armed-waits, others-keep}
use Rattle.cfdp_sender.proofs.laws.a_sender_waits_with_armed_timers.Goals as goal

pub returns : goal.returns
returns c = record {
  armed = armed-waits c.what_is_waited_for_is_armed.ensures;
  others = others-keep c.what_is_waited_for_is_armed.ensures;
}
