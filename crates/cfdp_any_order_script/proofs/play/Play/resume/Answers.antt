use Rattle.std.proofs.Common.{refl}
use Rattle.cfdp_any_order_script.proofs.Playing.{goes_on}
use Rattle.cfdp_any_order_script.proofs.play.Play.resume.Goals as goal

pub returns : goal.returns
returns c = goes_on c.args.side _ c.resume.result c.resume.ensures.0 c.resume.ensures.1 _ _ _ c.self.view_is c.resume_answer.ensures c.resume.ensures.2 c.resume.ensures.3 refl refl
