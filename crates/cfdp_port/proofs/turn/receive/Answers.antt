use Rattle.std.proofs.Common.{ap, arith, Err, inl, inr, Ok, refl, Some, subst, sym, take, ◌∙◌}
use Rattle.link_stack.specs.Downward.{DownState}
use Rattle.cfdp_station.specs.Station.{StationState}
use Rattle.cfdp_station.specs.Taking.{TakesFrame}
use Rattle.cfdp_port.proofs.TurnLemmas.{fault_came, heard_more, some_came}
use Rattle.cfdp_port.proofs.turn.receive.Goals as goal
use Rattle.cfdp_port.proofs.turn.receive.Goals.{in-Ok-Some, in-Err}

pub returns-in-Ok-None-clause-hears : goal.returns-in-Ok-None-clause-hears
returns-in-Ok-None-clause-hears g c =
    let asked = rw c.in-Ok-None.field-0-is at c.in-Ok-None.ensures.steps in
    record {
      count = c.loop-datagram._datagram;
      last = record { station = c.loop-datagram.station; wire = c.loop-datagram.wire };
      heard = c.loop-datagram.invariant.0;
      ends = inl (omega arith, record { asked = asked; takes = refl });
    }

pub loop-datagram-preserved : goal.loop-datagram-preserved
loop-datagram-preserved g c =
    elim c.match-receive.branch [
      | in-Ok-Some w ↦
          let frame = take w.in-Ok-Some.len c.receive.new.buffer in
          let asked = rw w.in-Ok-Some.field-0-is at w.in-Ok-Some.ensures.steps in
          let takes = subst (λ (s : StationState). TakesFrame frame c.loop-datagram.station s) (sym w.station-is) w.take.ensures.takes in (
            heard_more g.W.Wire.steps c.loop-datagram._datagram (record { station = c.args.station.now; wire = c.args.wire.now }) c.loop-datagram.station c.match-receive.station c.loop-datagram.wire
                c.receive.new.self
                (Ok (Some frame)) c.loop-datagram.invariant.0 (some_came _ frame refl) asked takes,
            (ap (λ (d : DownState). d.directives.link) takes.down ∙ c.loop-datagram.invariant.1.0, ap (λ (d : DownState). d.file_data.link) takes.down ∙ c.loop-datagram.invariant.1.1),
          )
      | in-Err w ↦ (
        heard_more g.W.Wire.steps c.loop-datagram._datagram (record { station = c.args.station.now; wire = c.args.wire.now }) c.loop-datagram.station c.match-receive.station c.loop-datagram.wire
            c.receive.new.self
            (Err w.in-Err.field-0) c.loop-datagram.invariant.0 (fault_came _ w.in-Err.field-0 refl) w.in-Err.ensures.steps w.station-is,
        (ap (λ (s : StationState). s.down.directives.link) w.station-is ∙ c.loop-datagram.invariant.1.0, ap (λ (s : StationState). s.down.file_data.link) w.station-is ∙ c.loop-datagram.invariant.1.1),
      )
    ]

pub returns-clause-hears : goal.returns-clause-hears
returns-clause-hears g c = record {
  count = c.loop-datagram._datagram;
  last = record { station = c.loop-datagram.station; wire = c.loop-datagram.wire };
  heard = c.loop-datagram.invariant.0;
  ends = inr (omega arith, refl);
}
