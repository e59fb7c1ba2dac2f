use Rattle.std.proofs.Common.{refl}
use Rattle.cfdp_any_order_script.proofs.Playing.{starts_anew}
use Rattle.cfdp_any_order_script.proofs.play.Play.restart.Goals as goal

pub returns : goal.returns
returns c =
    let h = c.restart.ensures.happened in
    starts_anew c.args.side _ c.restart.result h.0 h.1 _ _ _ c.self.view_is c.start_answer.ensures h.2 h.3 refl refl
