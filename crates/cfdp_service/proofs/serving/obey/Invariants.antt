use Rattle.std.proofs.Common.{◌≡◌, List, length}
use Rattle.std.specs.List.{flat_map}
use Rattle.cfdp_port.specs.Gains.{Gains}
use Rattle.cfdp_port.specs.Port.{table_of}
use Rattle.cfdp_service.specs.Calls.{Chain}
use Rattle.cfdp_service.specs.Serving.{DoesEach, wish_calls}
use Rattle.cfdp_service.specs.declared.wish.Reply.{Reply}
use Rattle.cfdp_service.specs.declared.wish.Wish.{Wish}
use Rattle.cfdp_service.proofs.serving.obey.Given as goal

-- so many wishes are done and answered
abbrev pub invariant-loop-wish : goal.invariant-loop-wish
invariant-loop-wish g l = ((done : List (Wish × Reply)) × DoesEach done l.initial.port.station l.port.station
    × Chain g.U.User.steps (flat_map wish_calls done) l.initial.user l.user
    × (length done ≡ l._wish))
    × Gains (table_of l.initial.port.station) (table_of l.port.station)
    × (l.port.wire ≡ l.initial.port.wire)
