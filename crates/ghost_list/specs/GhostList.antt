-- What was put on a list that takes no memory.
use Rattle.std.specs.Prelude.{List, [], ◌∷◌, ◌++◌}
use Rattle.ghost_list.specs.declared.Latest.{Latest}
use Rattle.ghost_list.specs.declared.Latest.TheVariants.{Nothing, Put}

module _ {T : Type 0} where
  -- the latest value stands after those before it
  abbrev pub list_of : Latest T → List T
  list_of Nothing = []
  list_of (Put value before) = before.value ++ value.value ∷ []
