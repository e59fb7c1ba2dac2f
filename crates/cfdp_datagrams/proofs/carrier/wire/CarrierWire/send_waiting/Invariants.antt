use Rattle.std.proofs.Common.{◌≡◌, ℕ, ◌+◌}
use Rattle.cfdp_station.specs.Transmitting.{Times}
use Rattle.cfdp_datagrams.specs.CarrierWire.{SendsStep, waiting_of}
use Rattle.cfdp_datagrams.proofs.carrier.wire.CarrierWire.send_waiting.Given as goal

abbrev pub invariant-loop-datagram : goal.invariant-loop-datagram
invariant-loop-datagram g l = ((count : ℕ) × Times (SendsStep g.W.Wire.steps) count l.initial.self l.self)
    × (waiting_of l.self.conversion + l._datagram ≡ l._datagram-end)
