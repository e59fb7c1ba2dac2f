use Rattle.std.proofs.Common.{ap, subst, sym}
use Rattle.std.specs.Prelude.{IfSome}
use Rattle.cfdp_operator.specs.Commanded.{Asks, HearsOn, octets_of}
use Rattle.cfdp_operator.specs.declared.said.Said.TheVariants.{Pressed}
use Rattle.cfdp_operator.proofs.Hearing.{heard_one, hears_nothing, obeys_said}
use Rattle.cfdp_operator.proofs.operator_console.OperatorConsole.serves_console.Goals as goal

pub returns-in-Command : goal.returns-in-Command
returns-in-Command g c =
    let said = Pressed c.in-Command.line in
    obeys_said c.args.self.now c.next_ask.new.self c.obeys.new.self said c.obeys.result
    (subst (HearsOn c.args.self.now) (sym c.next_ask.ensures) (hears_nothing c.args.self.now))
    (heard_one _ _ _ _ _ said _ c.self.view_is c.put.ensures c.obeys.ensures.same)
    (subst (λ names. IfSome c.obeys.result (λ it. Asks names (octets_of said) it))
    (ap (λ s. s.names) c.self.view_is) c.obeys.ensures.asked)
