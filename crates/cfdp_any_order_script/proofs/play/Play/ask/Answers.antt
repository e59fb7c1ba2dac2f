use Rattle.std.proofs.Common.{refl}
use Rattle.cfdp_any_order_script.proofs.Playing.{only_calls}
use Rattle.cfdp_any_order_script.proofs.play.Play.ask.Goals as goal

pub returns : goal.returns
returns c = (c.request.result, c.request_answer.ensures, only_calls _ _ _ _ _ c.self.view_is c.request.ensures refl refl)
