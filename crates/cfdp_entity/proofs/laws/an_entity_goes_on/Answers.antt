use Rattle.cfdp_directives.specs.Pdu.Faults.{pdu_fault}
use Rattle.cfdp_entity.specs.Polling.{turn}
use Rattle.cfdp_entity.proofs.Growing.{put-goes, called-goes, ticked-goes, heard-goes, dropped-goes, served-goes}
use Rattle.cfdp_entity.proofs.laws.an_entity_goes_on.Goals as goal

pub returns-clause-put : goal.returns-clause-put
returns-clause-put c = put-goes

pub returns-clause-called : goal.returns-clause-called
returns-clause-called c = called-goes

pub returns-clause-ticked : goal.returns-clause-ticked
returns-clause-ticked c = ticked-goes

pub returns-clause-heard : goal.returns-clause-heard
returns-clause-heard c = heard-goes

pub returns-clause-dropped : goal.returns-clause-dropped
returns-clause-dropped c pdu by old new d = dropped-goes (pdu_fault pdu) pdu by old new d

pub returns-clause-served : goal.returns-clause-served
returns-clause-served c stored e = served-goes stored (turn e) e
