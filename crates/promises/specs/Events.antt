-- Events that did something.
use Rattle.std.specs.Prelude.{ℕ, ◌+◌, List, [], ◌∷◌}
use Rattle.link_sim.specs.declared.event.Event.{Event}
use Rattle.link_sim.specs.declared.event.Applied.{Applied}
use Rattle.link_sim.specs.declared.event.Applied.TheVariants as did

abbrev pub one_if_done : Applied → ℕ
one_if_done did.Applied = 1
one_if_done _ = 0

-- how many of these did
abbrev pub done_count : List (Event × Applied) → ℕ
done_count [] = 0
done_count (s ∷ steps) = one_if_done s.1 + done_count steps
