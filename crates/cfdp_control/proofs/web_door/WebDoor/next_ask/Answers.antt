use Rattle.std.proofs.Common.{inr, subst}
use Rattle.cfdp_console.specs.declared.guard.Guard.{Guard}
use Rattle.cfdp_console.specs.Serving.{AttendsInTurn, staying}
use Rattle.cfdp_control.proofs.web_door.WebDoor.next_ask.Goals as goal

pub returns : goal.returns
returns c =
    let before = c.accepts.new.self.visitors.all.items in
    inr (
      before,
      c.accepts.ensures.visitors,
      subst (λ (guard : Guard). AttendsInTurn guard
          (staying before) c.next_ask.new.self.all.items c.next_ask.result) c.accepts.ensures.guard
          c.next_ask.ensures,
    )
