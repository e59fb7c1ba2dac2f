use Rattle.std.proofs.Common.{◌≡◌, ◌∙◌, [], List, Option, ap, refl, ℕ}
use Rattle.std.specs.Prelude.{unwrap_or}
use Rattle.cfdp_service.proofs.clerk.Clerk.next_file.Goals as goal

pub returns-in-Ok-clause-asked : goal.returns-in-Ok-clause-asked
returns-in-Ok-clause-asked g c = λ name is.
    let same : c.in-Ok.wished.source.items ≡ c.in-Ok.names.source.items = c.in-Ok.ensures.0 in
    let alike : c.in-Ok.wished.destination.items ≡ c.in-Ok.names.source.items = c.in-Ok.ensures.1 in
    let own : c.in-Ok.names.source.items ≡ name = ap (λ (o : Option (List ℕ)). unwrap_or o []) is in
    record { names = c.in-Ok.wished; is = refl; source = same ∙ own; destination = alike ∙ own }
