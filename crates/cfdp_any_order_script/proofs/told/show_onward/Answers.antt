use Rattle.cfdp_any_order_script.proofs.told.show_onward.Goals as goal

pub returns : goal.returns
returns c = λ side all new h free.
    (c.lives_stay.ensures.calls side all _ new c.inbox.ensures.promised h free, c.the_files_to_send_stay.ensures side all _ new c.inbox.ensures.promised h)
