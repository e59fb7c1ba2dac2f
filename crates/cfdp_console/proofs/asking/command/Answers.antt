use Rattle.std.proofs.Common.{◌≡◌}
use Rattle.http.specs.Request.{body_of}
use Rattle.cfdp_console.specs.Asking.{path_in}
use Rattle.cfdp_console.proofs.Denials.{denied}
use Rattle.cfdp_console.proofs.asking.command.Goals as goal

pub returns-in-Err-clause-err : goal.returns-in-Err-clause-err
returns-in-Err-clause-err c =
    let path : c.as_bytes-path.result.now ≡ path_in c.args.request.now = cc in
    let body : c.as_slice.result.now ≡ body_of c.args.request.now = cc in
    denied c.args.guard.now c.args.request.now _ _ c.in-Err.why path body c.requires
    c.in-Err.ensures.err
