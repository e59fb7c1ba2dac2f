use Rattle.std.proofs.Common.{inl, inr, refl, subst}
use Rattle.std.specs.Prelude.{Err}
use Rattle.cfdp_datagrams.specs.DatagramWire.{Receives}
use Rattle.cfdp_datagrams.specs.Paced.{PacedState}
use Rattle.cfdp_datagrams.proofs.DatagramLemmas.{looked}
use Rattle.cfdp_datagrams.proofs.datagram_wire.DatagramWire.look.Goals as goal

pub returns-then-has_enough-clause-looks : goal.returns-then-has_enough-clause-looks
returns-then-has_enough-clause-looks g c = record { asked = c.args.self.now; asks = inl refl; beacon = c.ends_turn.ensures }

pub returns-then-may_wait-clause-looks : goal.returns-then-may_wait-clause-looks
returns-then-may_wait-clause-looks g c = record { asked = c.args.self.now; asks = inl refl; waits = inr c.waits.ensures }

pub returns-in-Err-clause-looks : goal.returns-in-Err-clause-looks
returns-in-Err-clause-looks g c = looked g.T.Transport.steps c.receives_none.result c.receive.new.buffer c.args.self.now c.receive.new.self c.receives_none.new.self
    (c.in-Err.kind, subst (λ (s : PacedState g.row.T.Denot). Receives g.T.Transport.steps (Err c.in-Err.kind) s c.receive.new.self) c.self.view_is c.in-Err.ensures.receives)
    c.receives_none.ensures
