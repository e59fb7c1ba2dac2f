use Rattle.std.proofs.lemmas.Result.{IfOk-weaker}
use Rattle.cfdp_command_line.specs.Request.{sim_app, top_app}
use Rattle.cfdp_command_line.proofs.CommandWords.{joined}
use Rattle.cfdp_command_line.proofs.arguments.script_grammar.Goals as goal

pub returns-in-Ok : goal.returns-in-Ok
returns-in-Ok c =
    IfOk-weaker c.subcommand.result _ _
    (λ all adds. joined c.in_ok-top.top c.in-Ok.sim all top_app sim_app c.in_ok-top.ensures c.in-Ok.ensures adds)
    c.subcommand.ensures
