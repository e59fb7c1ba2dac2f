use Rattle.std.proofs.Common.{◌∷◌, []}
use Rattle.any_order.specs.Calls.{Restarts}
use Rattle.cfdp_any_order_script.proofs.told.show_start.Goals as goal

pub returns : goal.returns
returns c = λ side first number new h.
    let both = c.lives_stay.ensures.start side first number _ new c.inbox.ensures.promised h in
    (both.0, both.1, c.the_files_to_send_stay.ensures side (Restarts first number ∷ []) _ new c.inbox.ensures.promised h)
