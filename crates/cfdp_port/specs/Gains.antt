-- What a station indicated stays, and more comes after it.
use Rattle.std.specs.Prelude.{◌≡◌, List, ◌++◌, IsTrue}
use Rattle.cfdp_directives.specs.declared.user.indication.Indication.{Indication}
use Rattle.cfdp_entity.specs.Table.{TableState}

-- More was indicated, after what was, and none of it was discarded. If the files to send stand,
-- they stood before.
pub record Gains (old new : TableState) : Type 0 where
  pub gained : List Indication
  pub told : new.told ≡ old.told ++ gained
  pub gone : new.gone ≡ old.gone
  pub stood : IsTrue new.stands → IsTrue old.stands
