use Rattle.std.proofs.Common.{◌≡◌, Option, Some, None, refl, ◌∙◌}
use Rattle.std.specs.Option.{option_map}
use Rattle.std.proofs.lemmas.Iterator.Consumers.{nth_from_yields_List, YieldsList-from_first}
use Rattle.cfdp_entity.specs.Walking.{phases_of}
use Rattle.cfdp_c.proofs.Placed.{few}
use Rattle.cfdp_c.proofs.looking.transaction_in.Goals as goal

as_it_is : {A : Type 0} (r : Option A) → r ≡ option_map (λ x. x) r
as_it_is None = refl
as_it_is (Some x) = refl

pub returns-clause-at : goal.returns-clause-at
returns-clause-at g c =
    as_it_is c.nth.result
    ∙ nth_from_yields_List c.nth.result c.nth.new.self c.args.place c.nth.ensures.ran
    (YieldsList-from_first (λ x. x) (λ i. i) (phases_of c.args.station.now.entity.state.table) c.transactions.ensures)

pub returns-clause-few : goal.returns-clause-few
returns-clause-few g c = few c.nth.result c.args.station.now.entity.state.table c.args.place c.records_left.result (returns-clause-at g c) c.records_left.ensures
