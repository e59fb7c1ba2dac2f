use Rattle.std.proofs.Common.{refl}
use Rattle.cfdp_any_order_script.proofs.Playing.{only_calls}
use Rattle.cfdp_any_order_script.proofs.play.Play.put.Goals as goal

pub returns : goal.returns
returns c = (c.put.result, c.put_answer.ensures, only_calls _ _ _ _ _ c.self.view_is (rw (c.as_slice.ensures, c.as_slice-2.ensures) at c.put.ensures) refl refl)
