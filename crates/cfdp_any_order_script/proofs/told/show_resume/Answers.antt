use Rattle.cfdp_any_order_script.proofs.told.show_resume.Goals as goal

pub returns : goal.returns
returns c = λ side first number new h. c.a_resume_goes_on.ensures side first number _ new c.inbox.ensures.promised h
