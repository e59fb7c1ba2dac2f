use Rattle.std.proofs.Common.{◌≡◌, ◌++◌}
use Rattle.cfdp_sender.specs.Steps as steps
use Rattle.cfdp_sender.proofs.sender.Sender.ask_all.Given as goal

abbrev pub invariant-loop-start : goal.invariant-loop-start
invariant-loop-start l =
    (l.self ≡ steps.asks_all l.yielded l.initial.self)
    × (l.pairs ≡ l.yielded ++ l.start-iterator)
    × (l.self.addressing ≡ l.initial.self.addressing)
