use Rattle.cfdp_directives.proofs.TypesOfSums.{told, none_are, named_are, more_are}
use Rattle.cfdp_directives.proofs.pdu.sums.cut_file_has_its_checksum.Goals as goal

pub returns-clause-none : goal.returns-clause-none
returns-clause-none c = none_are

pub returns-clause-more : goal.returns-clause-more
returns-clause-more c = more_are

pub returns-clause-named : goal.returns-clause-named
returns-clause-named c = named_are

pub returns-clause-told : goal.returns-clause-told
returns-clause-told c = told c.cut_file_has_its_check.ensures
