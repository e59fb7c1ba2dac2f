use Rattle.cfdp_any_order_script.proofs.run.make_report.Goals as goal

pub returns-in-Ok-new-clause-ran : goal.returns-in-Ok-new-clause-ran
returns-in-Ok-new-clause-ran c =
    c.make_report_of.ensures.ran c.args.config c.args.files.now (record { world = c.in-Ok-new.ensures.world; one = c.in-Ok-new.ensures.one; two = c.in-Ok-new.ensures.two })

pub returns-in-Ok-new-clause-ends : goal.returns-in-Ok-new-clause-ends
returns-in-Ok-new-clause-ends c =
    c.make_report_of.ensures.ends c.args.config c.args.files.now (record { world = c.in-Ok-new.ensures.world; one = c.in-Ok-new.ensures.one; two = c.in-Ok-new.ensures.two })
