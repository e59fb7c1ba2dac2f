use Rattle.cfdp_console.proofs.Denials.{err_put}
use Rattle.cfdp_console.proofs.deed.put_line.Goals as goal

pub returns-clause-err : goal.returns-clause-err
returns-clause-err c = err_put c.args.body.now _ c.in_ok-wanted.ensures.ok.1 c.line_of.result
    c.line_of.ensures.err
