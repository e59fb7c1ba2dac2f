use Rattle.std.proofs.lemmas.Result.{err_from_is_err_and}
use Rattle.link_sim.specs.Parts.{SettlesPart}
use Rattle.link_sim.specs.Settling.{next_of}
use Rattle.link_sim.specs.declared.event.Event.TheVariants as event
use Rattle.station_pair.specs.declared.settle_error.SettleError.{SettleError}
use Rattle.link_sim.proofs.Clean.Parts.{err-as, first-fails, part-else, part-then, then-fails}
use Rattle.link_sim.proofs.world.World.send_all.Goals as goal

pub returns-in_err-polled-clause-part : goal.returns-in_err-polled-clause-part
returns-in_err-polled-clause-part g c =
    let p = err_from_is_err_and c.from_residual.result c.from_residual.ensures.1 in
    let e : SettleError = c.in_err-polled.field-0.0 in
    err-as c.from_residual.result (λ r. SettlesPart (event.Poll c.args.side) (next_of (event.Flush c.args.side)) r c.args.self.now c.repeat.new.self) p.0 e p.1 p.2
    (first-fails (event.Poll c.args.side) (next_of (event.Poll c.args.side)) (next_of (event.Flush c.args.side)) e c.args.self.now c.repeat.new.self c.in_err-polled.ensures.part)

pub returns-in_err-flushed-clause-part : goal.returns-in_err-flushed-clause-part
returns-in_err-flushed-clause-part g c =
    let p = err_from_is_err_and c.from_residual-in_err-flushed.result c.from_residual-in_err-flushed.ensures.1 in
    let e : SettleError = c.in_err-flushed.field-0.0 in
    err-as c.from_residual-in_err-flushed.result (λ r. SettlesPart (event.Poll c.args.side) (next_of (event.Flush c.args.side)) r c.args.self.now c.repeat-2.new.self) p.0 e p.1 p.2
    (then-fails (event.Poll c.args.side) (event.Flush c.args.side) (next_of (event.Flush c.args.side)) (next_of (event.Flush c.args.side)) c.in_ok-polled.polled e c.args.self.now c.repeat.new.self c.repeat-2.new.self c.in_ok-polled.ensures.part c.in_err-flushed.ensures.part)

pub returns-then-polled-clause-part : goal.returns-then-polled-clause-part
returns-then-polled-clause-part g c = part-then (event.Poll c.args.side) (event.Flush c.args.side) (next_of (event.Flush c.args.side)) c.in_ok-polled.polled c.in_ok-polled.polled c.in_ok-flushed.flushed
    c.args.self.now c.repeat.new.self c.repeat-2.new.self c.if-polled.true c.if-polled.true c.in_ok-polled.ensures.part c.in_ok-flushed.ensures.part

pub returns-else-polled-clause-part : goal.returns-else-polled-clause-part
returns-else-polled-clause-part g c = part-else (event.Poll c.args.side) (event.Flush c.args.side) (next_of (event.Flush c.args.side)) c.in_ok-polled.polled c.in_ok-flushed.flushed
    c.args.self.now c.repeat.new.self c.repeat-2.new.self c.if-polled.false c.in_ok-polled.ensures.part c.in_ok-flushed.ensures.part
