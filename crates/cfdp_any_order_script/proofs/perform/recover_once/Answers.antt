use Rattle.std.proofs.Common.{inr}
use Rattle.std.proofs.lemmas.Result.{err_from_is_err_and}
use Rattle.cfdp_any_order_script.proofs.perform.recover_once.Goals as goal

pub returns-in_err-settle-in-None-clause-ends : goal.returns-in_err-settle-in-None-clause-ends
returns-in_err-settle-in-None-clause-ends c =
    let p = err_from_is_err_and c.from_residual.result c.from_residual.ensures.1 in
    rw (p.1, p.2) (c.in-Some.at, c.in-Some.now, c.in-Some.ensures, inr (c.once.new.self, c.in-None.ensures, c.in_err-settle-in-None.ensures))
