use Rattle.cfdp_directives.proofs.TypesOfSums.{goes_from_none, goes_on, whole_told}
use Rattle.cfdp_directives.proofs.pdu.sums.checksums_go_on.Goals as goal

pub returns-clause-none : goal.returns-clause-none
returns-clause-none c = goes_from_none c.a_file_check_goes_on.ensures.none

pub returns-clause-more : goal.returns-clause-more
returns-clause-more c = goes_on c.a_file_check_goes_on.ensures.more

pub returns-clause-whole : goal.returns-clause-whole
returns-clause-whole c = whole_told c.a_file_check_goes_on.ensures.whole
