use Rattle.std.proofs.lemmas.Result.{IfOk-weaker}
use Rattle.clap.specs.Simple.{with_subcommand}
use Rattle.cfdp_command_line.specs.Looping.{loop_app}
use Rattle.cfdp_command_line.specs.Request.{ask_app, dump_app, sim_app, top_app}
use Rattle.cfdp_command_line.specs.Station.{station_app}
use Rattle.cfdp_command_line.proofs.CommandWords.{joined}
use Rattle.cfdp_command_line.proofs.arguments.asking_grammar.Goals as goal

pub returns-in-Ok : goal.returns-in-Ok
returns-in-Ok c =
    IfOk-weaker c.subcommand.result _ _
    (λ all adds. joined c.in_ok-told.told c.in-Ok.ask all (with_subcommand (with_subcommand (with_subcommand (with_subcommand top_app sim_app.top) dump_app.top) loop_app.top) station_app.top) ask_app c.in_ok-told.ensures
    c.in-Ok.ensures adds)
    c.subcommand.ensures
