-- Frames were given, and each was kept.
use Rattle.std.specs.Prelude.{List}
use Rattle.any_order.specs.Kept.{GivesAll, MadeFrame}
use Rattle.any_order.proofs.life.LifeFrames.take_all.Given as goal

abbrev pub invariant-loop : goal.invariant-loop
invariant-loop g l = (made : List MadeFrame) × GivesAll made l.initial.station l.station l.initial.self l.self
