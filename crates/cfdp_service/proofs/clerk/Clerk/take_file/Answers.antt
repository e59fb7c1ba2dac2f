use Rattle.std.proofs.Common.{subst}
use Rattle.std.specs.List.{Contains}
use Rattle.cfdp_service.specs.Clerk.{ClerkState}
use Rattle.cfdp_service.proofs.ClerkLemmas.{left-was}
use Rattle.cfdp_service.proofs.clerk.Clerk.take_file.Goals as goal

pub returns-clause-none : goal.returns-clause-none
returns-clause-none g c = λ file has.
    subst (λ (s : ClerkState _). Contains s.files file) c.self.view_is
    (left-was c.self.inside.files.items c.remove-file.new.self.items c.in_ok-place.place file c.remove-file.ensures.by_index.2 has)
