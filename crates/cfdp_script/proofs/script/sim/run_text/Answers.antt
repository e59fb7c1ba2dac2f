use Rattle.std.proofs.Common.{None, Some, ap, subst, sym, ◌∙◌}
use Rattle.station_pair.specs.Stations.{IsWorldConfig}
use Rattle.cfdp_report.specs.Settings.{world_of}
use Rattle.cfdp_script.proofs.Endings.{noted_of_text, read_commands_end}
use Rattle.cfdp_script.proofs.script.sim.run_text.Goals as goal

pub returns-in-Ok-config : goal.returns-in-Ok-config
returns-in-Ok-config g c =
    let good = noted_of_text c.args.text.now _ _ _ None c.in-Ok.ensures.misread c.in-Ok.ensures.last c.in-Ok.ensures.settings c.in-Ok-config.ensures.good in
    let valid = subst IsWorldConfig (sym c.in-Ok-config.ensures.same) c.in-Ok-config.ensures.good.1.1 in
    let both = read_commands_end c.args.text.now (g.W.Write.contents c.args.out.now) (g.W.Write.contents c.run_commands.new.out) c.run_commands.result.exit
    c.in-Ok-config.config c.as_slice-files.result.now c.as_slice-steps.result.now
    (record {
      keeps = λ outboxes inboxes first now. c.worlds_keep_the_promises.ensures.keeps c.in-Ok-config.config outboxes inboxes first now valid;
      completes = λ outboxes inboxes first now. c.worlds_keep_the_promises.ensures.completes c.in-Ok-config.config outboxes inboxes first now valid;
      config_stays = λ outboxes inboxes first now. c.worlds_keep_the_promises.ensures.config c.in-Ok-config.config outboxes inboxes first now valid;
    })
    (c.in-Ok-config.ensures.same ∙ ap world_of c.in-Ok.ensures.settings)
    (c.as_slice-files.ensures.value ∙ c.in-Ok.ensures.files) (c.as_slice-steps.ensures.value ∙ c.in-Ok.ensures.steps) good c.run_commands.ensures in
    record { script = both.0; silent = both.1 }

pub returns-clause-script : goal.returns-clause-script
returns-clause-script g c =
    rw c.unseen-in-Err.ensures
    (noted_of_text c.args.text.now _ _ _ (Some c.in-Err.bad.line) c.in-Ok.ensures.misread c.in-Ok.ensures.last c.in-Ok.ensures.settings c.in-Err.ensures.bad)
