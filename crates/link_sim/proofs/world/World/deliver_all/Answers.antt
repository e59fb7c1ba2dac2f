use Rattle.aos_frame.specs.declared.config.Lane.TheVariants.{Directives, Data}
use Rattle.std.proofs.lemmas.Result.{err_from_is_err_and}
use Rattle.link_sim.specs.Parts.{SettlesPart}
use Rattle.link_sim.specs.Settling.{next_of}
use Rattle.link_sim.specs.declared.event.Event.TheVariants as event
use Rattle.station_pair.specs.declared.settle_error.SettleError.{SettleError}
use Rattle.link_sim.proofs.Clean.Causes.{none-waits}
use Rattle.link_sim.proofs.Clean.Parts.{err-as, first-fails, part-else, part-then, then-fails}
use Rattle.link_sim.proofs.world.World.deliver_all.Goals as goal

pub returns-in_err-directives-clause-part : goal.returns-in_err-directives-clause-part
returns-in_err-directives-clause-part g c =
    let p = err_from_is_err_and c.from_residual.result c.from_residual.ensures.1 in
    let e : SettleError = c.in_err-directives.field-0.0 in
    err-as c.from_residual.result (λ r. SettlesPart (event.Deliver c.args.side Directives) (next_of (event.Deliver c.args.side Data)) r c.args.self.now c.repeat.new.self) p.0 e p.1 p.2
    (first-fails (event.Deliver c.args.side Directives) (next_of (event.Deliver c.args.side Directives)) (next_of (event.Deliver c.args.side Data)) e c.args.self.now c.repeat.new.self c.in_err-directives.ensures.part)

pub returns-in_err-file_data-clause-part : goal.returns-in_err-file_data-clause-part
returns-in_err-file_data-clause-part g c =
    let p = err_from_is_err_and c.from_residual-in_err-file_data.result c.from_residual-in_err-file_data.ensures.1 in
    let e : SettleError = c.in_err-file_data.field-0.0 in
    err-as c.from_residual-in_err-file_data.result (λ r. SettlesPart (event.Deliver c.args.side Directives) (next_of (event.Deliver c.args.side Data)) r c.args.self.now c.repeat-2.new.self) p.0 e p.1 p.2
    (then-fails (event.Deliver c.args.side Directives) (event.Deliver c.args.side Data) (next_of (event.Deliver c.args.side Data)) (next_of (event.Deliver c.args.side Data)) c.in_ok-directives.directives e c.args.self.now c.repeat.new.self c.repeat-2.new.self c.in_ok-directives.ensures.part c.in_err-file_data.ensures.part)

pub returns-then-directives-clause-part : goal.returns-then-directives-clause-part
returns-then-directives-clause-part g c = part-then (event.Deliver c.args.side Directives) (event.Deliver c.args.side Data) (next_of (event.Deliver c.args.side Data)) c.in_ok-directives.directives c.in_ok-directives.directives c.in_ok-file_data.file_data
    c.args.self.now c.repeat.new.self c.repeat-2.new.self c.if-directives.true c.if-directives.true c.in_ok-directives.ensures.part c.in_ok-file_data.ensures.part

pub returns-else-directives-clause-part : goal.returns-else-directives-clause-part
returns-else-directives-clause-part g c = part-else (event.Deliver c.args.side Directives) (event.Deliver c.args.side Data) (next_of (event.Deliver c.args.side Data)) c.in_ok-directives.directives c.in_ok-file_data.file_data
    c.args.self.now c.repeat.new.self c.repeat-2.new.self c.if-directives.false c.in_ok-directives.ensures.part c.in_ok-file_data.ensures.part

pub returns-else-directives-clause-none_waits : goal.returns-else-directives-clause-none_waits
returns-else-directives-clause-none_waits g c none =
    none-waits c.args.side c.repeat.new.self c.repeat-2.new.self (c.in_ok-file_data.ensures.part.same none) c.in_ok-directives.ensures.idle c.in_ok-file_data.ensures.idle
