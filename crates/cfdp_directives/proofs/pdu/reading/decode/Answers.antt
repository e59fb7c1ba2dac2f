use Rattle.cfdp_directives.proofs.Only.{only}
use Rattle.cfdp_directives.proofs.pdu.reading.decode.Goals as goal

pub returns-clause-only : goal.returns-clause-only
returns-clause-only c = only c.pdu.result c.args.bytes.now c.pdu.ensures.found c.pdu.ensures.refused
