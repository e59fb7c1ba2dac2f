use Rattle.cfdp_any_order_script.proofs.Ending.{HasRecovered}
use Rattle.cfdp_any_order_script.proofs.perform.recover.Given as goal

-- so many rounds, after the first settling
abbrev pub invariant-loop-round : goal.invariant-loop-round
invariant-loop-round l = HasRecovered l._round l.fn.play l.play
