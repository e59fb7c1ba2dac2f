use Rattle.http_server.specs.Connection.{history}
use Rattle.cfdp_console.proofs.Takes.{Taking}
use Rattle.cfdp_console.proofs.caller.take.Given as goal

abbrev pub invariant-loop-part : goal.invariant-loop-part
invariant-loop-part l =
    Taking (history l.fn.connection) (history l.connection) l.octets l.left l._part
