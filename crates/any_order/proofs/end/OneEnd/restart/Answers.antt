use Rattle.std.proofs.Common.{◌∙◌}
use Rattle.any_order.proofs.Keeping.{anew_same}
use Rattle.any_order.proofs.end.OneEnd.restart.Goals as goal

pub returns-in-Ok-clause-ok : goal.returns-in-Ok-clause-ok
returns-in-Ok-clause-ok g c =
    let k = c.in-Ok.ensures.ok in
    rw (← c.self.view_is) (anew_same _ _ _ _ _ _ _ _ c.replace-old.ensures.after k.0 (k.1 ∙ c.new.ensures) c.note_end.ensures)
