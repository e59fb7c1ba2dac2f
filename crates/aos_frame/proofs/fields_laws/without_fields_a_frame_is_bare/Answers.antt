use Rattle.aos_frame.proofs.Bare.{sealed_bare, bare_taken}
use Rattle.aos_frame.proofs.fields_laws.without_fields_a_frame_is_bare.Goals as goal

pub returns-clause-sent : goal.returns-clause-sent
returns-clause-sent c = sealed_bare

pub returns-clause-taken : goal.returns-clause-taken
returns-clause-taken c = bare_taken
